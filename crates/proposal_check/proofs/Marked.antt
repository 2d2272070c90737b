-- What the tests come to, one after another. Assumes nothing.
use Rattle.std.specs.Prelude.{◌≡◌, ◌≤◌}
use Rattle.base_lists.specs.Kit.{◌∙◌, sym, ap, ap₂, false, true, List, ℕ, T, ltb, length, arith}
use Rattle.base_lists.specs.List.{all_below, all}
use Rattle.base_lists.proofs.Entries.{all-below, below_all}
use Rattle.graph.specs.Chosen.{picked, chosen}
use Rattle.graph.specs.Circuit.{Circuit, circuit}
use Rattle.graph.specs.Net.{NetOf}
use Rattle.graph.specs.Search.{ball, inside}
use Rattle.graph.proofs.Chosen.{length-picked, picked-parallel, picked-below}
use Rattle.file_format.specs.Circuit.{Drawn}
use Rattle.file_format.proofs.Accepted.{bounded-starts, bounded-ends}
use Rattle.table.specs.Prepared.{succ_of, Tables, Masked}
use Rattle.table.proofs.Prepare.{prepared}
use Rattle.place.specs.Bytes.{bytes_of_nodes, bytes_of_links}
use Rattle.place.specs.Find.{Tabled, Located}
use Rattle.place.specs.Match.{ball_of, found}
use Rattle.proposal.specs.Check.{marks_subgraph, in_row, fills, checks}

-- ---- the board is filled by its place

module _ (pattern board : Circuit) (w : ℕ) (nodes : List ℕ) where
  abbrev r : ℕ
  r = length board.labels

  pub found-not : found pattern board w r ≡ false → false ≡ fills pattern board w nodes
  unfolding fills
  found-not e = rw e

  module _ (f : found pattern board w r ≡ true) {t : Tables} {dist sets list : List ℕ} (l : Located pattern board t w r dist sets list) where
    pub row-not : in_row (bytes_of_nodes dist) nodes ≡ false → false ≡ fills pattern board w nodes
    unfolding fills
    row-not e = rw (f, ← l.bytes, e)

    pub row-left : in_row (bytes_of_nodes dist) nodes ≡ true →
        all_below (length board.starts) (inside (bytes_of_links board.starts board.ends (succ_of t.masks) dist sets)) ≡ fills pattern board w nodes
    unfolding fills
    row-left e = rw (f, ← l.bytes, e, l.links)

-- ---- the check

module _ (pattern board : Circuit) (w r : ℕ) (nodes links : List ℕ) where
  pub marks-not : marks_subgraph board w nodes links ≡ false → false ≡ checks pattern board w r nodes links
  unfolding checks
  marks-not e = rw e

  module _ (m : marks_subgraph board w nodes links ≡ true) {n : ℕ} (size : n ≡ length board.labels) where
    pub near-not : in_row (ball n board.starts board.ends w r) nodes ≡ false → false ≡ checks pattern board w r nodes links
    unfolding checks ball_of
    near-not e = rw (m, ← size, e)

    pub fills-left : in_row (ball n board.starts board.ends w r) nodes ≡ true →
        {starts ends : List ℕ} → starts ≡ picked links board.starts → ends ≡ picked links board.ends →
        fills pattern (circuit board.labels starts ends) w nodes ≡ checks pattern board w r nodes links
    unfolding checks ball_of chosen
    fills-left e s t =
        ap₂ (λ (ss es : List ℕ). fills pattern (circuit board.labels ss es) w nodes) s t
        ∙ rw (m, ap (λ (k : ℕ). in_row (ball k board.starts board.ends w r) nodes) (sym size) ∙ e)

-- ---- the links that are left

module _ {pattern board : Circuit} (d : Drawn pattern board) (links : List ℕ) {starts ends : List ℕ}
    (s : starts ≡ picked links board.starts) (e : ends ≡ picked links board.ends)
  where
    pub left-parallel : length starts ≡ length ends
    left-parallel = ap length s ∙ picked-parallel links board.starts board.ends d.nodes.parallel ∙ sym (ap length e)

    pub left-sizes : (length board.labels ≤ 512) × (length starts ≡ length ends) × (length starts ≤ 4096)
    left-sizes =
        let most : length board.starts ≤ 4096 = d.nodes.links in
        (d.nodes.nodes, left-parallel, omega (arith, ap length s, length-picked links board.starts))

    pub left-nodes : T (all (λ v. ltb v (length board.labels)) starts) × T (all (λ v. ltb v (length board.labels)) ends)
    left-nodes = (
      rw s (below_all _ _ (picked-below links _ board.starts (all-below _ _ (bounded-starts d.nodes)))),
      rw e (below_all _ _ (picked-below links _ board.ends (all-below _ _ (bounded-ends d.nodes)))),
    )

    -- they are tabled as a board of their own
    pub left-tabled : {t : Tables} → Masked pattern.starts pattern.ends t.masks → NetOf (length board.labels) starts ends t.offsets t.targets →
        Tabled pattern (circuit board.labels starts ends) t
    left-tabled m n =
        record {
          prepared = prepared d.parts m n;
          parallel = d.parts.parallel;
          starts = all-below _ _ left-nodes.0;
          ends = all-below _ _ left-nodes.1;
        }
