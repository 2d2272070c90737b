-- Laws of a line's two parts, and of text that stands in a buffer: it stays where later text is put after it, and what was put is found there again. Assumes
-- nothing.
use Rattle.std.specs.Prelude.{◌≡◌, ◌++◌, ◌≤◌, ◌<◌, ◌+◌}
use Rattle.base_lists.specs.Kit.{◌∙◌, sym, ap, refl, ap₂, List, ℕ, length, get_or, length-append, sets, arith, get_or-append-add}
use Rattle.base_lists.specs.List.{part}
use Rattle.base_lists.proofs.Tables.{is-tabulate, tabulate-same, get_d_sets_before, get_d_sets}
use Rattle.base_lists.proofs.Concat.{concat_below-same}
use Rattle.base_lists.proofs.Parts.{part-entries}
use Rattle.base_text.specs.Text.{bytes, Put}
use Rattle.base_text.proofs.Text.{put-length}
use Rattle.graph.specs.Search.{reached}
use Rattle.table.specs.Prepared.{Tables}
use Rattle.report_texts.specs.Texts.{node_text, nodes_text, start_text, links_text, head_text, body_text, line_text}

-- ---- a line's parts

pub line-split : (t : Tables) (dist sets : List ℕ) (c : ℕ) → line_text t dist sets c ≡ head_text c ++ body_text t dist sets
unfolding line_text
line-split t dist sets c = refl

-- the second depends on which nodes are reached, and not on how far they are
pub body_same : (t : Tables) (dist other sets : List ℕ) → length dist ≡ length other → ((v : ℕ) → v < length other → reached (get_or dist v 0) ≡ reached (get_or other v 0))
    → body_text t dist sets ≡ body_text t other sets
unfolding body_text nodes_text links_text node_text start_text
body_same t dist other sets e same =
    rw e
    (ap₂ (λ (a b : List ℕ). a ++ (bytes " /" ++ (b ++ bytes "\n")))
    (concat_below-same (length other) _ _ (λ v h. rw (same v h)))
    (concat_below-same (length other) _ _ (λ v h. rw (same v h))))

-- ---- text in a buffer

module _ {o after : List ℕ} {at past : ℕ} where
  -- what stands before it stays
  pub put-before : {xs : List ℕ} → Put o at xs after past → (from k : ℕ) → from + k ≤ at → from + k ≤ length o → part from k after ≡ part from k o
  put-before {xs} p from k h l =
      part-entries from k after (rw (put-length p) l)
      ∙ tabulate-same k _ _ (λ i b. ap (λ (r : List ℕ). get_or r (from + i) 0) p.table ∙ get_d_sets_before xs o at (from + i) (omega arith))
      ∙ sym (part-entries from k o l)

  -- the second of two texts that were put stands after the first
  pub put_second : (xs ys : List ℕ) → Put o at (xs ++ ys) after past → at + length (xs ++ ys) ≤ length o → part (at + length xs) (length ys) after ≡ ys
  put_second xs ys p room =
      let long : length (xs ++ ys) ≡ length xs + length ys = length-append xs ys in
      part-entries (at + length xs) (length ys) after (rw (put-length p) (omega arith))
      ∙ tabulate-same (length ys) _ (λ i. get_or ys i 0)
      (λ i b.
      ap (λ (r : List ℕ). get_or r ((at + length xs) + i) 0) p.table
      ∙ ap (λ (j : ℕ). get_or (sets o at (xs ++ ys)) j 0) (omega arith)
      ∙ get_d_sets (xs ++ ys) o at (length xs + i) (omega arith) room
      ∙ get_or-append-add xs ys i 0)
      ∙ sym (is-tabulate (length ys) (λ i. get_or ys i 0) ys refl (λ i _. refl))
