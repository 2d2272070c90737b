-- The answer where every part has to occur: the largest set that is closed and in which every part occurs, unless it is empty; and its
-- counts. Assumes nothing.
use Rattle.std.specs.Prelude.{◌≡◌, ◌↔◌, ◌∷◌, ◌≤◌, ◌<◌, ◌+◌, ◌-◌}
use Rattle.base_lists.specs.Kit.{◌∙◌, sym, ap, refl, inl, inr, Bool, false, true, cond, List, [], map, ℕ, le_refl, lt_of_lt_of_le, T, arith}
use lib.Count.{ones}
use Rattle.base_lists.specs.List.{any_below, tabulate, sum}
use Rattle.base_lists.proofs.Tests.{T_true, all_below-at, at-all_below, any_below-at, at-any_below}
use Rattle.graph.specs.Graph.{Graph}
use Rattle.simulation.specs.Closed.{Relation, ◌⊆◌, Closed, Occurring}
use Rattle.simulation.specs.Perfect.{SameGraph}
use Rattle.simulation.specs.Simulation.{Candidate, Direction, forwards, backwards, Along, Largest, LargestGraphSimulation}
use Rattle.simulation.proofs.Closed.{closed-weaken}
use Rattle.simulation.proofs.Same.{same-symm}
use Rattle.simulation.proofs.Simulation.{along-wider, dual-closed, dual-occurring, closed-dual}
use Rattle.table_row.specs.Problem.{Problem, Way}
use Rattle.table_row.specs.Row.{in_table, pairs, started_of, last_of, kept_of, struck_of, rounds_of}
use Rattle.table_row.specs.Answer.{all_occur, all_or_none, answer_of, answer_kept, answer_struck}
use Rattle.table_row.specs.Reading.{InTable, TableOf, Reading, Chosen, LargestOccurring, Wider, Equivalent}
use Rattle.table_row.proofs.Sets.{fits-node, fits_word, same-pairs, none-fits, none_in, pairs-none, pairs-ones}
use Rattle.table_row.proofs.Counting.{kept-rounds}
use Rattle.table_row.proofs.Meaning.{last_fits, last-closed}
use Rattle.table_row.proofs.Wider.{last_wider, last-same}

module _ {D : Type 0} (p : Problem D) where
  -- what the test for every part says
  pub occur-iff : {t : List ℕ} → TableOf p t → T (all_occur p.nodes p.parts t) ↔ ((u : ℕ) → u < p.parts → (v : ℕ) × InTable t u v)
  unfolding all_occur
  occur-iff {t} f = (
    λ s u h. let (v, l, m) = any_below-at p.nodes (λ v. in_table t u v) (all_below-at p.parts _ s u h) in (v, m),
    λ g.
        at-all_below p.parts (λ u. any_below p.nodes (λ v. in_table t u v))
        (λ u h. let (v, m) = g u h in at-any_below p.nodes (λ v. in_table t u v) v (fits-node f u v m) m),
  )

  -- ---- the two cases

  pub answer-all : T (all_occur p.nodes p.parts (last_of p)) → answer_of p ≡ last_of p
  unfolding answer_of all_or_none
  answer-all s = ap (λ (b : Bool). cond b (last_of p) (tabulate p.nodes (λ v. 0))) (T_true {b = all_occur p.nodes p.parts (last_of p)} s)

  -- "If some part is left without a node, the table is all 0 .."
  pub answer-none : all_occur p.nodes p.parts (last_of p) ≡ false → answer_of p ≡ tabulate p.nodes (λ v. 0)
  unfolding answer_of all_or_none
  answer-none e = ap (λ (b : Bool). cond b (last_of p) (tabulate p.nodes (λ v. 0))) e

  pub answer-fits : TableOf p (answer_of p)
  unfolding answer_of all_or_none
  answer-fits = go (all_occur p.nodes p.parts (last_of p))
    where
      go : (b : Bool) → TableOf p (cond b (last_of p) (tabulate p.nodes (λ v. 0)))
      go true = last_fits p
      go false = none-fits p.nodes p.parts

  -- a pair of it says that every part occurs
  pub answer-pair : (u v : ℕ) → InTable (answer_of p) u v → T (all_occur p.nodes p.parts (last_of p))
  unfolding answer_of all_or_none
  answer-pair u v = go (all_occur p.nodes p.parts (last_of p))
    where
      go : (b : Bool) → InTable (cond b (last_of p) (tabulate p.nodes (λ v. 0))) u v → T b
      go true m = tt
      go false m = none_in p.nodes u v m

  pub answer-inside : InTable (answer_of p) ⊆ InTable (last_of p)
  answer-inside u v m = rw (answer-all (answer-pair u v m)) at m

  -- It is the last table wherever the parts of that all occur, or none does: so for connected patterns.
  pub answer-occurring : Occurring (λ u. u < p.parts) (InTable (last_of p)) → answer_of p ≡ last_of p
  answer-occurring o =
      same-pairs (answer_of p) (last_of p) (answer-fits.size ∙ sym (last_fits p).size) answer-inside
      (λ u v m. rw (answer-all ((occur-iff (last_fits p)).1 (λ x h. o.occurs u v m x h))) m)

-- ---- what it means

module _ {D : Type 0} (p : Problem D) (most : p.parts ≤ 32) {Agree : Relation} {Step Move : D → Relation} (r : Reading p Agree Step Move)
    {Part : ℕ → Type 0} (parts : (u : ℕ) → Part u ↔ (u < p.parts)) where
  pub answer-largest : LargestOccurring Part Agree Step Move (InTable (answer_of p))
  answer-largest =
      let last = last-closed p most r in
      let occur = occur-iff p (last_fits p) in
      record {
        closed =
            record {
              agree = λ u v m. last.closed.agree u v (answer-inside p u v m);
              partner =
                  λ d u v u' m l.
                  let (v', n, m') = last.closed.partner d u v u' (answer-inside p u v m) l in
                  (v', n, rw (answer-all p (answer-pair p u v m)) m');
            };
        occurring =
            record {
              occurs =
                  λ u v m x h.
                  let (y, m') = occur.0 (answer-pair p u v m) x ((parts x).0 h) in
                  (y, rw (answer-all p (answer-pair p u v m)) m');
            };
        contains =
            λ R c o u v s.
            let all : T (all_occur p.nodes p.parts (last_of p)) =
            occur.1 (λ x h. let (y, s') = o.occurs u v s x ((parts x).1 h) in (y, last.contains R c x y s')) in
            rw (answer-all p all) (last.contains R c u v s);
      }

-- ---- for directions of links

-- both directions count
two_ways : (d : Direction) → Way (forwards ∷ backwards ∷ []) d
unfolding Way
two_ways forwards = inl refl
two_ways backwards = inr (inl refl)

-- the direction that does not count
no_way : Way (forwards ∷ []) backwards → ⊥
unfolding Way
no_way (inl e) = let z : ◌≡◌ {A = ℕ} 0 1 = cc in omega arith
no_way (inr w) = w

module _ {P : Graph} {Agree : Relation} {H : Graph} {S : Relation} where
  -- For both directions of links that is the largest dual simulation, whether the pattern is connected or not.
  pub occurring-dual :
      LargestOccurring P.Node (Candidate P Agree H) (Chosen (forwards ∷ backwards ∷ []) (Along P.Link)) (Along H.Link) S → Largest P Agree H S
  occurring-dual l =
      let c = l.closed in
      record {
        holds = closed-dual (record { agree = c.agree; partner = λ d u v u' m k. c.partner d u v u' m (two_ways d, k) }) l.occurring;
        contains =
            λ R r.
            let s = dual-closed r in
            l.contains R (record { agree = s.agree; partner = λ d u v u' m k. s.partner d u v u' m k.1 }) (dual-occurring r);
      }

  -- For forward links alone it is the largest graph simulation.
  pub occurring-graph :
      LargestOccurring P.Node (Candidate P Agree H) (Chosen (forwards ∷ []) (Along P.Link)) (Along H.Link) S → LargestGraphSimulation P Agree H S
  unfolding Way Along
  occurring-graph l =
      let c = l.closed in
      record {
        holds =
            record {
              part = λ u v m. (c.agree u v m).part;
              node = λ u v m. (c.agree u v m).node;
              kinds = λ u v m. (c.agree u v m).kinds;
              forward = λ u v u' m k. c.partner forwards u v u' m (inl refl, k);
              occurs = l.occurring.occurs;
            };
        contains =
            λ R r.
            l.contains R
            (record {
              agree = λ u v m. record { part = r.part u v m; node = r.node u v m; kinds = r.kinds u v m };
              partner = elim [ forwards ↦ λ u v u' m k. r.forward u v u' m k.1 | backwards ↦ λ u v u' m k. absurd (no_way k.0) ];
            })
            (record { occurs = r.occurs });
      }

-- it depends on the graph alone
module _ {P : Graph} {Agree : Relation} {Step : Direction → Relation} where
  closed_on :
      {H H' : Graph} {R : Relation} → SameGraph H H' → Closed (Candidate P Agree H) Step (Along H.Link) R →
      Closed (Candidate P Agree H') Step (Along H'.Link) R
  closed_on same =
      closed-weaken (λ u v c. record { part = c.part; node = (same.nodes v).0 c.node; kinds = c.kinds })
      (λ d u u' p. (d, p, along-wider (λ x y. (same.links x y).0) d))

  pub occurring-same :
      {H H' : Graph} {S : Relation} → SameGraph H H' → LargestOccurring P.Node (Candidate P Agree H) Step (Along H.Link) S →
      LargestOccurring P.Node (Candidate P Agree H') Step (Along H'.Link) S
  occurring-same same l =
      record {
        closed = closed_on same l.closed;
        occurring = l.occurring;
        contains = λ R c o. l.contains R (closed_on (same-symm same) c) o;
      }

-- ---- its counts

module _ {D : Type 0} (p : Problem D) where
  -- ".. kept is 0, struck equals started .."
  pub none_kept : all_occur p.nodes p.parts (last_of p) ≡ false → answer_kept p ≡ 0
  unfolding answer_kept
  none_kept e = ap pairs (answer-none p e) ∙ pairs-none p.nodes

  pub none-struck : all_occur p.nodes p.parts (last_of p) ≡ false → answer_struck p ≡ started_of p
  unfolding answer_struck
  none-struck e = omega (arith, none_kept e)

  -- where the answer is the row's last set, the counts are the row's
  pub plain-kept : answer_of p ≡ last_of p → answer_kept p ≡ kept_of p
  unfolding answer_kept kept_of
  plain-kept e = ap pairs e

  pub plain-struck : answer_of p ≡ last_of p → answer_struck p ≡ struck_of p
  unfolding answer_struck struck_of
  plain-struck e = ap (λ (k : ℕ). started_of p - k) (plain-kept e)

  answer-kept : answer_kept p ≤ kept_of p
  unfolding answer_kept kept_of answer_of all_or_none
  answer-kept = go (all_occur p.nodes p.parts (last_of p))
    where
      go : (b : Bool) → pairs (cond b (last_of p) (tabulate p.nodes (λ v. 0))) ≤ pairs (last_of p)
      go true = le_refl _
      go false = omega (arith, pairs-none p.nodes)

module _ {D : Type 0} (p : Problem D) (most : p.parts ≤ 32) where
  -- "started = kept + struck, and rounds are at most struck"
  pub answer-sum : started_of p ≡ answer_kept p + answer_struck p
  unfolding answer_struck
  answer-sum = omega (arith, kept-rounds p most, answer-kept p)

  pub answer-rounds : rounds_of p ≤ answer_struck p
  unfolding answer_struck
  answer-rounds = omega (arith, kept-rounds p most, answer-kept p)

  pub answer-ones : answer_kept p ≡ sum (map ones (answer_of p))
  unfolding answer_kept
  answer-ones = pairs-ones (answer_of p) (fits_word most (answer-fits p))

-- ---- problems side by side

-- a problem that asks no more, of no more parts, has more pairs in its answer
pub answer-wider :
    {D E : Type 0} {p : Problem D} {q : Problem E} → Wider p q → p.parts ≤ 32 → q.parts ≤ p.parts →
    InTable (answer_of p) ⊆ InTable (answer_of q)
answer-wider {p = p} {q = q} w most fewer u v m =
    let more = last_wider w most (omega arith) in
    let all = (occur-iff p (last_fits p)).0 (answer-pair p u v m) in
    rw (answer-all q ((occur-iff q (last_fits q)).1 (λ x h. let (y, n) = all x (lt_of_lt_of_le h fewer) in (y, more x y n))))
    (more u v (answer-inside p u v m))

-- two that ask the same have the same
pub answer-same : {D E : Type 0} {p : Problem D} {q : Problem E} → Equivalent p q → answer_of p ≡ answer_of q
unfolding answer_of all_or_none all_occur
answer-same {p = p} {q = q} s = rw (last-same s, s.nodes, s.parts)
