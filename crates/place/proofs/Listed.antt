-- What is marked from the list of the nodes that the search reached is what its entries say: a byte and a set for each node, and a byte for
-- each link of a board whose links come by their starts. Assumes nothing.
use Rattle.std.specs.Prelude.{◌≡◌, ◌&&◌, ◌<◌}
use Rattle.base_lists.specs.Kit.{◌∙◌, ap, refl, subst, Bool, false, true, cond, not, List, ℕ, suc, T, eqb, ltb, eqb→eq, leb, ltb→lt, lt→ltb, le→leb, leb→le, length, get_or, arith, eq-eqb, ne_eqb}
use Rattle.base_lists.specs.List.{any, Below}
use Rattle.base_lists.proofs.Tests.{same_test, true-T, both_true, both_left, both_right, any_at, at-any, cond-not}
use Rattle.base_lists.proofs.Tables.{tabulate-same}
use Rattle.base_bits.specs.Bits.{intersects}
use Rattle.graph.specs.Net.{forward_offsets, forward_targets, NetOf}
use Rattle.graph.specs.Search.{far}
use Rattle.graph.proofs.Sorted.{Sorted, sorted-at, link_at}
use Rattle.table.specs.Fill.{listed, marks_of, table_at}
use Rattle.table.specs.Prepared.{succ_of, Tables}
use Rattle.place.specs.Bytes.{bytes_of_nodes, node_sets, driven_by, link_byte, bytes_of_links, marks_link, link_marks}
use Rattle.place.specs.Spread.{Lists}

both-chosen : (far meets : Bool) → ◌≡◌ {A = ℕ} (cond (not far && meets) 1 0) (cond far 0 (cond meets 1 0))
both-chosen true meets = refl
both-chosen false meets = refl

-- an entry that is not `far`
near-test : (x : ℕ) → (x ≡ far → ⊥) → T (not (eqb x far))
near-test x f = true-T (ap not (ne_eqb x far f))

test-near : (x : ℕ) → T (not (eqb x far)) → x ≡ far → ⊥
test-near x t e = subst T (ap not (eq-eqb x far e)) t

module _ {nodes dist : List ℕ} (l : Lists nodes dist) where
  listed-reached : (v : ℕ) → v < length dist → listed nodes v ≡ not (eqb (get_or dist v 0) far)
  unfolding listed
  listed-reached v h =
      same_test
      (λ t. let (i, b, e) = any_at (λ w. eqb w v) nodes t in near-test _ (l.near v (i, b, eqb→eq _ _ e)))
      (λ t. let (i, b, e) = l.complete v h (test-near _ t) in at-any (λ w. eqb w v) nodes i b (true-T (eq-eqb _ _ e)))

  -- a byte for each node, and a set
  pub marks-bytes : marks_of (length dist) nodes ≡ bytes_of_nodes dist
  unfolding marks_of bytes_of_nodes
  marks-bytes = tabulate-same (length dist) _ _ (λ v h. ap (λ (b : Bool). cond b 1 0) (listed-reached v h) ∙ cond-not (eqb (get_or dist v 0) far) 1)

  pub table-sets : (sets : List ℕ) → table_at (length dist) (λ v. get_or sets v 0) nodes ≡ node_sets dist sets
  unfolding table_at node_sets
  table-sets sets =
      tabulate-same (length dist) _ _
      (λ v h. ap (λ (b : Bool). cond b (get_or sets v 0) 0) (listed-reached v h) ∙ cond-not (eqb (get_or dist v 0) far) (get_or sets v 0))

  -- a byte for each link
  module _ {starts ends : List ℕ} (sets : List ℕ) (t : Tables) (net : NetOf (length dist) starts ends t.offsets t.targets) (sorted : Sorted starts)
      (parallel : length starts ≡ length ends) (inside : Below (length dist) starts)
    where
      abbrev matching : ℕ → Bool
      matching i = intersects (driven_by (succ_of t.masks) sets (get_or starts i 0)) (get_or sets (get_or ends i 0) 0)

      -- a link is marked by its start, where that is listed and the link matches
      link-marked : (i : ℕ) → i < length starts → any (marks_link t sets i) nodes ≡ (not (eqb (get_or dist (get_or starts i 0) 0) far) && matching i)
      unfolding marks_link Below
      link-marked i h = same_test there back
        where
          fo : List ℕ
          fo = forward_offsets t.offsets

          fl : List ℕ
          fl = forward_targets t.targets

          -- the two offsets of a node bound its links
          bounds : (v : ℕ) → v < length dist → T (leb (get_or fo v 0) i && ltb i (get_or fo (suc v) 0)) → get_or starts i 0 ≡ v
          bounds v k b =
              let lo = leb→le _ _ (both_left (leb (get_or fo v 0) i) (ltb i (get_or fo (suc v) 0)) b) in
              let hi = ltb→lt _ _ (both_right (leb (get_or fo v 0) i) (ltb i (get_or fo (suc v) 0)) b) in
              (sorted-at starts sorted v i h).0 (rw (← net.begins v (omega arith)) lo, rw (← net.begins (suc v) k) hi)

          there : T (any (marks_link t sets i) nodes) → T (not (eqb (get_or dist (get_or starts i 0) 0) far) && matching i)
          there m =
              let (j, k, b) = any_at (marks_link t sets i) nodes m in
              let v = get_or nodes j 0 in
              let bounded = leb (get_or fo v 0) i && ltb i (get_or fo (suc v) 0) in
              let meets = intersects (driven_by (succ_of t.masks) sets v) (get_or sets (get_or fl i 0) 0) in
              let e : get_or starts i 0 ≡ v = bounds v (l.list.below j k) (both_left bounded meets b) in
              both_true (not (eqb (get_or dist (get_or starts i 0) 0) far)) (matching i)
              (near-test (get_or dist (get_or starts i 0) 0) (rw e (l.near v (j, k, refl))))
              (rw (e, ← link_at net sorted parallel inside i h) (both_right bounded meets b))

          back : T (not (eqb (get_or dist (get_or starts i 0) 0) far) && matching i) → T (any (marks_link t sets i) nodes)
          back b =
              let v = get_or starts i 0 in
              let k : v < length dist = inside i h in
              let (j, m, e) = l.complete v k (test-near (get_or dist v 0) (both_left (not (eqb (get_or dist v 0) far)) (matching i) b)) in
              let (lo, hi) = (sorted-at starts sorted v i h).1 refl in
              at-any (marks_link t sets i) nodes j m
              (rw (e, link_at net sorted parallel inside i h)
              (both_true (leb (get_or fo v 0) i && ltb i (get_or fo (suc v) 0)) (matching i)
              (both_true (leb (get_or fo v 0) i) (ltb i (get_or fo (suc v) 0)) (le→leb (get_or fo v 0) i (rw (net.begins v (omega arith)) lo)) (lt→ltb i (get_or fo (suc v) 0) (rw (net.begins (suc v) k) hi)))
              (both_right (not (eqb (get_or dist v 0) far)) (matching i) b)))

      pub links-bytes : link_marks (length starts) t sets nodes ≡ bytes_of_links starts ends (succ_of t.masks) dist sets
      unfolding link_marks bytes_of_links link_byte
      links-bytes =
          tabulate-same (length starts) _ _
          (λ i h. ap (λ (b : Bool). cond b 1 0) (link-marked i h) ∙ both-chosen (eqb (get_or dist (get_or starts i 0) 0) far) (matching i))
