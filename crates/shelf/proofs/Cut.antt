-- Of a file the program reads at most a byte more than the longest that is accepted: the shelf of what is read so is the shelf of the files, for
-- any list of byte strings. Assumes nothing.
use Rattle.std.specs.Prelude.{List, [], length, ℕ, ◌≡◌}
use Rattle.std.proofs.Common.{T, ap, refl, sym}
use Rattle.std.proofs.Math.ListN.{get_or-map}
use Rattle.std.proofs.lemmas.List.{length-map}
use Rattle.std.proofs.Math.Path.{ap₂, ◌∙◌}
use Rattle.file_format.specs.declared.Edition.TheVariants.{Second}
use Rattle.file_format.specs.declared.Role.TheVariants.{Pattern}
use Rattle.file_format.specs.Layout.{in_edition}
use Rattle.file_format.specs.Refusals.{Verdict, accept, refuse, first, file_conditions}
use Rattle.file_format.specs.Cut.{cut}
use Rattle.file_format.proofs.Cut.{cut-verdict, accepted-whole}
use Rattle.order.specs.Order.{is_less}
use Rattle.order.specs.Sorting.{sort_below}
use Rattle.order.proofs.Sorting.{sort-same}
use Rattle.order.specs.Files.{compare_files}
use Rattle.call_shelf.specs.Text.{shelf_text}
use Rattle.call_shelf.specs.Shelf.{is_accepted, file_at, accepted_in, shelf_of}
use Rattle.shelf_files.specs.Reading.{cut_each}
use Rattle.shelf.specs.Printing.{shelf_text_of}

-- what reading a file as a second-edition pattern finds
abbrev verdict_for : List ℕ → Verdict
verdict_for file = first (file_conditions Pattern (in_edition Second file))

module _ (files : List (List ℕ)) where
  -- what is read of the file of a number
  read_at : (i : ℕ) → file_at (cut_each files) i ≡ cut Second Pattern (file_at files i)
  read_at i = get_or-map (cut Second Pattern) files i []

  same-verdict : (i : ℕ) → verdict_for (file_at (cut_each files) i) ≡ verdict_for (file_at files i)
  same-verdict i = ap verdict_for (read_at i) ∙ cut-verdict Second Pattern (file_at files i)

  -- the same files are accepted,
  same-accepted : (i : ℕ) → accepted_in (cut_each files) i ≡ accepted_in files i
  unfolding accepted_in
  same-accepted i = ap is_accepted (same-verdict i)

  -- and these are read whole
  same-file : (i : ℕ) → T (accepted_in (cut_each files) i) → file_at (cut_each files) i ≡ file_at files i
  unfolding accepted_in is_accepted
  same-file i t = go (verdict_for (file_at (cut_each files) i)) refl t
    where
      go : (v : Verdict) → verdict_for (file_at (cut_each files) i) ≡ v → T (is_accepted v) → file_at (cut_each files) i ≡ file_at files i
      go accept e t = read_at i ∙ accepted-whole Second Pattern (file_at files i) (sym (same-verdict i) ∙ e)
      go (refuse x) e t = absurd t

  -- The shelf of what is read of the files is theirs.
  pub cut-shelf : shelf_of (cut_each files) ≡ shelf_of files
  unfolding shelf_of
  cut-shelf =
      sort-same _ (accepted_in files) _ (λ i j. is_less (compare_files (file_at files i) (file_at files j))) (length (cut_each files)) (λ i h. same-accepted i)
      (λ i j h k s t. ap₂ (λ (a b : List ℕ). is_less (compare_files a b)) (same-file i s) (same-file j t))
      ∙ ap (sort_below (accepted_in files) (λ i j. is_less (compare_files (file_at files i) (file_at files j)))) (length-map files (cut Second Pattern))

  -- so its text is
  pub cut-text : shelf_text_of (cut_each files) ≡ shelf_text_of files
  unfolding shelf_text_of
  cut-text = ap shelf_text cut-shelf
