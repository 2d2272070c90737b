-- What the exported call's promise means: a refusal is one of the conditions; else the table holds the largest bounded
-- simulation of the pattern in the board, and the counts are those of the row. All bounds 1 give what the second
-- edition gives. Assumes nothing.
use Rattle.std.specs.Prelude.{◌≡◌, ◌∷◌, ◌++◌, ◌≤◌, ◌+◌}
use Rattle.base_lists.specs.Kit.{◌∙◌, sym, refl, List, [], map, append_assoc, ℕ, length, take, drop, take_at, drop_at, arith, le-ltb}
use lib.Count.{ones}
use Rattle.base_lists.specs.List.{sum}
use Rattle.base_lists.proofs.Tests.{true-T}
use Rattle.graph.specs.Circuit.{Circuit, circuit_graph}
use Rattle.file_format.specs.declared.Refusal.{Refusal}
use Rattle.file_format.specs.declared.Role.TheVariants.{Board, AnyPattern}
use Rattle.file_format.specs.Circuit.{circuit_of}
use Rattle.file_format.specs.Layout.{CircuitFile, field, nodes_of}
use Rattle.file_format.specs.Reading.{filled}
use Rattle.file_format.specs.Refusals.{Verdict, accept, refuse, first, file_conditions, Accepted, short_table}
use Rattle.file_format.proofs.Accepted.{accepted-bounded}
use Rattle.file_format.proofs.Fields.{length-labels}
use Rattle.file_format.proofs.Refusals.{accepted-verdict, first-accept, first-parts, first-same}
use Rattle.file_pair.specs.Pair.{pair_conditions}
use Rattle.file_bounds.specs.Third.{bounded_length, before_bounds, bounds_of, third_conditions}
use Rattle.file_bounds.proofs.Fit.{at-fit}
use Rattle.file_bounds.proofs.Third.{third-accepted, prefix-verdicts}
use Rattle.bounded.specs.Simulation.{LargestBounded}
use Rattle.bounded.specs.Problem.{Bounds, bounded_graph, bounded_table, bounded_counts}
use Rattle.bounded.specs.Raised.{AllOne}
use Rattle.bounded.proofs.Meaning.{bounded-largest}
use Rattle.bounded.proofs.Run.{bounded-length, bounded-sum, bounded-rounds, bounded-ones}
use Rattle.bounded.proofs.Wider.{ones-table, ones-counts}
use Rattle.call_match.specs.Call.{match_conditions, matched_by, matching_by, matching}
use Rattle.table.specs.Answer.{answer_table, answer_counts}
use Rattle.table.specs.Host.{everything, KindsMatch}
use Rattle.table.specs.Reply.{no_counts, counts_reply}
use Rattle.table.specs.Row.{both_directions, InTable}
use Rattle.table.proofs.Reply.{replied-verdict}
use Rattle.call_bounded.specs.Call.{bounded_conditions, bounded_by, bounded_matching}
use Rattle.call_bounded.proofs.Matching.{third-bounds}

module _ (pattern : List ℕ) (board : CircuitFile) (table : List ℕ) where
  abbrev P : Circuit
  P = circuit_of (before_bounds pattern)

  abbrev B : Circuit
  B = circuit_of board

  pub verdict-is : (bounded_matching pattern board table).reply.verdict ≡ first (bounded_conditions pattern board (length table))
  unfolding bounded_matching
  verdict-is = replied-verdict _ _

  -- a refusal: "All lent tables keep their content; counts are 0"
  pub refused-keeps :
      (x : Refusal) → (bounded_matching pattern board table).reply.verdict ≡ refuse x →
      ((bounded_matching pattern board table).reply.counts ≡ no_counts) × ((bounded_matching pattern board table).table ≡ table)
  unfolding bounded_matching counts_reply filled
  refused-keeps x e =
      let v : first (bounded_conditions pattern board (length table)) ≡ refuse x = sym verdict-is ∙ e in
      (rw v, rw v)

  -- An accepted pattern and an accepted board, of either edition, and a table that is long enough are not refused.
  pub accepts :
      first (third_conditions pattern) ≡ accept → Accepted Board board → nodes_of board ≤ length table → (bounded_matching pattern board table).reply.verdict ≡ accept
  unfolding bounded_conditions first short_table
  accepts a b room =
      verdict-is
      ∙ rw
      (first-accept (third_conditions pattern) (file_conditions Board board ++ (short_table (nodes_of board) (length table) ∷ [])) a
      ∙ first-accept (file_conditions Board board) (short_table (nodes_of board) (length table) ∷ []) (accepted-verdict b))
      (simp (le-ltb _ _ room))

  module _ (accepts : (bounded_matching pattern board table).reply.verdict ≡ accept) where
    sound : first (bounded_conditions pattern board (length table)) ≡ accept
    sound = sym verdict-is ∙ accepts

    third : first (third_conditions pattern) ≡ accept
    unfolding bounded_conditions
    third = (first-parts (third_conditions pattern) _ sound).0

    pub pattern-accepted : Accepted AnyPattern (before_bounds pattern)
    pattern-accepted = (third-accepted pattern third).0

    pub bounds-each : Bounds P (bounds_of pattern)
    bounds-each = third-bounds pattern third

    pub parts-most : length P.labels ≤ 32
    parts-most = (accepted-bounded pattern-accepted).nodes

    length-answer : length (bounded_table P (bounds_of pattern) B) ≡ nodes_of board
    length-answer = bounded-length P (bounds_of pattern) B ∙ length-labels board

    table_is : (bounded_matching pattern board table).table ≡ bounded_table P (bounds_of pattern) B ++ drop (nodes_of board) table
    unfolding bounded_matching filled
    table_is = rw (sound, length-answer)

    pub counts-are : (bounded_matching pattern board table).reply.counts ≡ bounded_counts P (bounds_of pattern) B
    unfolding bounded_matching counts_reply
    counts-are = rw sound

    -- the first N entries are the answer, and the others stay
    pub prefix-is : take (nodes_of board) (bounded_matching pattern board table).table ≡ bounded_table P (bounds_of pattern) B
    prefix-is = rw table_is (take_at _ _ (nodes_of board) length-answer)

    pub rest-is : drop (nodes_of board) (bounded_matching pattern board table).table ≡ drop (nodes_of board) table
    rest-is = rw table_is (drop_at (bounded_table P (bounds_of pattern) B) _ (nodes_of board) length-answer)

    -- they are the largest bounded simulation of the pattern in the board
    pub prefix-largest :
        LargestBounded (bounded_graph P (bounds_of pattern)) (KindsMatch P B) (circuit_graph B) (InTable (take (nodes_of board) (bounded_matching pattern board table).table))
    prefix-largest = rw prefix-is (bounded-largest P (bounds_of pattern) B bounds-each parts-most)

    -- "So started = kept + struck, and rounds are at most struck."
    pub counts-sum :
        (bounded_matching pattern board table).reply.counts.started
        ≡ (bounded_matching pattern board table).reply.counts.kept + (bounded_matching pattern board table).reply.counts.struck
    counts-sum = rw counts-are (bounded-sum P (bounds_of pattern) B parts-most)

    pub counts-rounds : (bounded_matching pattern board table).reply.counts.rounds ≤ (bounded_matching pattern board table).reply.counts.struck
    counts-rounds = rw counts-are (bounded-rounds P (bounds_of pattern) B parts-most)

    -- "kept is the number of one bits in the whole table"
    pub counts-ones : (bounded_matching pattern board table).reply.counts.kept ≡ sum (map ones (take (nodes_of board) (bounded_matching pattern board table).table))
    counts-ones = rw (counts-are, prefix-is) (bounded-ones P (bounds_of pattern) B parts-most)

-- ---- all bounds 1

-- where the answer is that of the pattern without bounds, the outcome is
same_outcome :
    (v : Verdict) (p : Circuit) (bounds : List ℕ) (b : Circuit) (table : List ℕ) →
    (v ≡ accept → (bounded_table p bounds b ≡ answer_table p b (everything b)) × (bounded_counts p bounds b ≡ answer_counts p b (everything b))) →
    bounded_by v p bounds b table ≡ matched_by both_directions v p b table
unfolding counts_reply filled
same_outcome accept p bounds b table plain = let (t, c) = plain refl in rw (t, c)
same_outcome (refuse x) p bounds b table plain = refl

module _ (pattern : List ℕ) (board : CircuitFile) (table : List ℕ) (long : length pattern ≡ bounded_length (field pattern 0) (field pattern 2)) (one : AllOne (bounds_of pattern)) where
  -- a bound of 1 is from 1 to 4, so that what stands before the bounds is refused or accepted alike,
  ones-verdict : first (third_conditions pattern) ≡ first (file_conditions AnyPattern (before_bounds pattern))
  ones-verdict = prefix-verdicts pattern long (true-T (at-fit (bounds_of pattern) (λ i h. (omega (arith, one i h), omega (arith, one i h)))))

  conditions-same : first (bounded_conditions pattern board (length table)) ≡ first (match_conditions (before_bounds pattern) board (length table))
  unfolding bounded_conditions match_conditions pair_conditions
  conditions-same =
      rw (append_assoc (file_conditions AnyPattern (before_bounds pattern)) (file_conditions Board board) (short_table (nodes_of board) (length table) ∷ []))
      (first-same (third_conditions pattern) (file_conditions AnyPattern (before_bounds pattern)) (file_conditions Board board ++ (short_table (nodes_of board) (length table) ∷ [])) ones-verdict)

  drawn : first (bounded_conditions pattern board (length table)) ≡ accept → first (third_conditions pattern) ≡ accept
  unfolding bounded_conditions
  drawn e = (first-parts (third_conditions pattern) _ e).0

  -- "With all bounds 1 the table and counts are those of the second edition": the whole reply and the table, refusals
  -- too, for every byte string of the third edition's length
  pub ones-second : bounded_matching pattern board table ≡ matching (before_bounds pattern) board table
  unfolding bounded_matching matching_by
  ones-second =
      rw (sym conditions-same)
      (same_outcome (first (bounded_conditions pattern board (length table))) (circuit_of (before_bounds pattern)) (bounds_of pattern) (circuit_of board) table
      (λ e.
      let each = third-bounds pattern (drawn e) in
      (ones-table (circuit_of (before_bounds pattern)) (bounds_of pattern) (circuit_of board) each one, ones-counts (circuit_of (before_bounds pattern)) (bounds_of pattern) (circuit_of board) each one)))
