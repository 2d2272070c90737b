-- Of a file a program reads at most a byte more than the longest of its edition that its role accepts: what is read is refused as the whole file
-- is, and an accepted file is read whole. Assumes nothing.
use Rattle.std.specs.Prelude.{◌≡◌, ◌≤◌, ◌<◌, ◌+◌, ◌*◌}
use Rattle.base_lists.specs.Kit.{◌∙◌, sym, ap, refl, ap₂, Bool, false, true, List, ℕ, length, length-take-le, take_all, get_or-take, arith}
use native.Mathlib.Decide.{dec_lt}
use Rattle.base_lists.proofs.Tests.{true-T}
use Rattle.file_format.specs.declared.Edition.{Edition}
use Rattle.file_format.specs.declared.Edition.TheVariants.{First, Second}
use Rattle.file_format.specs.declared.Role.{Role}
use Rattle.file_format.specs.Layout.{CircuitFile, in_edition, field, nodes_of, links_of, length_of}
use Rattle.file_format.specs.Refusals.{accept, first, file_conditions, size_number, turned}
use Rattle.file_format.specs.Role.{in_range, max_nodes, max_links}
use Rattle.file_format.proofs.Refusals.{accepted, range-orders, size-2, size-3, verdict-turned}
use Rattle.file_format.specs.Cut.{most, cut}

-- a header is read whole
header_read : (e : Edition) (r : Role) → 4 < most e r
header_read First r = omega arith
header_read Second r = omega arith

-- a file of fewer nodes and links is not longer
not-longer : (e : Edition) (n n' m m' : ℕ) → n ≤ n' → m ≤ m' → length_of e n m ≤ length_of e n' m'
not-longer First n n' m m' h k = omega arith
not-longer Second n n' m m' h k = omega arith

module _ (e : Edition) (r : Role) (file : List ℕ) where
  abbrev whole : CircuitFile
  whole = in_edition e file

  abbrev prefix : CircuitFile
  prefix = in_edition e (cut e r file)

  same-field : (at : ℕ) → at + 1 < most e r → field file at ≡ field (cut e r file) at
  unfolding field
  same-field at h = sym (ap₂ (λ (a b : ℕ). a + 256 * b) (get_or-take (most e r) file at 0 (omega arith)) (get_or-take (most e r) file (at + 1) 0 h))

  -- two files that are refused for their size by the same number have one verdict
  by_size : (k : ℕ) → (k ≡ 0 → ⊥) → size_number r prefix ≡ k → size_number r whole ≡ k → first (file_conditions r prefix) ≡ first (file_conditions r whole)
  by_size k some a b =
      verdict-turned r prefix (λ z. some (sym a ∙ z)) ∙ ap (turned r) (a ∙ sym b) ∙ sym (verdict-turned r whole (λ z. some (sym b ∙ z)))

  -- so a file that is cut is refused by it, or by a length that is too long for it
  long-verdict : most e r < length file → first (file_conditions r prefix) ≡ first (file_conditions r whole)
  unfolding nodes_of links_of
  long-verdict h = go (in_range r (nodes_of whole) (links_of whole)) refl
    where
      size : length (cut e r file) ≡ most e r
      size = length-take-le (most e r) file (omega arith)

      nodes : nodes_of whole ≡ nodes_of prefix
      nodes = same-field 0 (omega (arith, header_read e r))

      links : links_of whole ≡ links_of prefix
      links = same-field 2 (omega (arith, header_read e r))

      go : (b : Bool) → in_range r (nodes_of whole) (links_of whole) ≡ b → first (file_conditions r prefix) ≡ first (file_conditions r whole)
      go false q =
          by_size 2 (λ z. omega arith) (size-2 r prefix _ _ nodes links (omega (arith, size, header_read e r)) q)
          (size-2 r whole _ _ refl refl (omega (arith, header_read e r)) q)
      go true q =
          let (_, fewNodes, fewLinks) = range-orders r (nodes_of whole) (links_of whole) (true-T q) in
          let short = not-longer e (nodes_of whole) (max_nodes r) (links_of whole) (max_links r) fewNodes fewLinks in
          by_size 3 (λ z. omega arith)
          (size-3 r prefix _ _ nodes links (omega (arith, size, header_read e r)) q (λ z. omega (arith, size, short)))
          (size-3 r whole _ _ refl refl (omega (arith, header_read e r)) q (λ z. omega (arith, short)))

  -- A file is refused as what is read of it is.
  pub cut-verdict : first (file_conditions r (in_edition e (cut e r file))) ≡ first (file_conditions r (in_edition e file))
  cut-verdict = go (dec_lt (most e r) (length file))
    where
      go : Dec (most e r < length file) → first (file_conditions r prefix) ≡ first (file_conditions r whole)
      go (yes h) = long-verdict h
      go (no h) = ap (λ (f : List ℕ). first (file_conditions r (in_edition e f))) (take_all (most e r) file (omega arith))

  -- An accepted one is read whole.
  pub accepted-whole : first (file_conditions r (in_edition e file)) ≡ accept → cut e r file ≡ file
  accepted-whole q =
      let a = accepted r whole q in
      let (_, fewNodes, fewLinks) = range-orders r (nodes_of whole) (links_of whole) a.range in
      take_all (most e r) file (omega (arith, a.size, not-longer e (nodes_of whole) (max_nodes r) (links_of whole) (max_links r) fewNodes fewLinks))
