-- What the exported call's promise means: a refusal is one of the conditions; else the table holds the largest dual
-- simulation of the pattern in the board, and the counts are those of the row. Assumes nothing.
use Rattle.std.specs.Prelude.{◌≡◌, ◌↔◌, ◌++◌, ◌≤◌, ◌<◌, ◌+◌, ◌-◌, Result, Ok, Err}
use Rattle.base_lists.specs.Kit.{◌∙◌, sym, ap, refl, subst, ⊎_elim, Bool, false, true, cond, not, List, map, ℕ, T, eqb, ltb, length, get_or, take, drop, get_or-append, take_at, drop_at, get_or-take, get_or-append-add, arith, le-ltb}
use lib.Count.{ones}
use Rattle.base_lists.specs.List.{sum}
use Rattle.base_lists.proofs.Tests.{not-true-false, lt-or-le}
use Rattle.base_bits.specs.Bits.{bit}
use Rattle.graph.specs.Circuit.{Circuit, circuit_graph}
use Rattle.graph.specs.Graph.{Connected}
use Rattle.graph.specs.Search.{connected}
use Rattle.graph.proofs.Distance.{connected-iff}
use Rattle.simulation.specs.Closed.{Relation, ◌⊆◌}
use Rattle.simulation.specs.Simulation.{Direction, Candidate, Along, Largest}
use Rattle.simulation.proofs.Simulation.{largest-unique}
use Rattle.file_format.specs.declared.Refusal.{Refusal}
use Rattle.file_format.specs.declared.Role.TheVariants.{Pattern, Board, AnyPattern}
use Rattle.file_format.specs.Circuit.{circuit_of}
use Rattle.file_format.specs.Layout.{CircuitFile, nodes_of, links_of, length_of, starts_of, ends_of}
use Rattle.file_format.specs.Links.{links_below, rising}
use Rattle.file_format.specs.Reading.{filled}
use Rattle.file_format.specs.Refusals.{Verdict, accept, refuse, first, without, asks_connected, link_conditions, file_conditions, Accepted, short_table, turned}
use Rattle.file_format.specs.Role.{in_range}
use Rattle.file_format.proofs.Accepted.{accepted-bounded, accepted-below, accepted-within, accepted-connected}
use Rattle.file_format.proofs.Fields.{length-labels}
use Rattle.file_format.proofs.Refusals.{accepted, first-accept, first-refuse, first_holds, first-parts, turned-accept, first-same}
use Rattle.file_pair.specs.Pair.{pair_conditions}
use Rattle.file_pair.proofs.Both.{pair-accept, pair_parts}
use Rattle.table.specs.declared.Counts.{Counts}
use Rattle.call_match.specs.Call.{match_conditions, reply_of, matched_by, matching_by, matching, connected_conditions, row_outcome, connected_matching}
use Rattle.table.specs.Answer.{answer_by, answer_counts_by, AnsweredBy}
use Rattle.table.specs.Host.{everything, KindsMatch}
use Rattle.table.specs.Reply.{MatchReply, no_counts, counts_reply}
use Rattle.table.specs.Refine.{counts_of}
use Rattle.table.specs.Row.{in_table, both_directions, start_by, last_table, InTable, Chosen, LargestOccurring}
use Rattle.table.proofs.Answer.{answer-sum, answer-rounds, answer-ones, answer-started, answer-fewer, answer-connected, board-along, along-dual}
use Rattle.table.proofs.Host.{within-joins}
use Rattle.table.proofs.Reply.{replied-verdict}
use Rattle.call_match.proofs.Matching.{length-answer}

-- ---- the two cases of the answer, told apart by what document 01 says of them

pub reply-matched : (r : Result Counts Refusal) (counts : Counts) → reply_of r ≡ record { verdict = accept; counts = counts } → r ≡ Ok counts
unfolding reply_of
reply-matched (Ok k) counts e = ap (λ (p : MatchReply). Ok p.counts) e
reply-matched (Err x) counts e = let apart : refuse x ≡ accept = ap (λ (p : MatchReply). p.verdict) e in cc

pub reply-refused : (r : Result Counts Refusal) (x : Refusal) → (reply_of r).verdict ≡ refuse x → r ≡ Err x
unfolding reply_of
reply-refused (Ok k) x e = cc
reply-refused (Err y) x e = cc

-- the first n entries of a table hold what it holds at the nodes below n
in-prefix : (n : ℕ) (t : List ℕ) (u v : ℕ) → v < n → in_table (take n t) u v ≡ in_table t u v
unfolding in_table
in-prefix n t u v h = ap (λ (x : ℕ). bit x u) (get_or-take n t v 0 h)

module _ (ways : List Direction) (pattern board : CircuitFile) (table : List ℕ) where
  pub verdict-is : (matching_by ways pattern board table).reply.verdict ≡ first (match_conditions pattern board (length table))
  unfolding matching_by
  verdict-is = replied-verdict _ _

  -- ---- refusals

  -- and then "All lent tables keep their content; counts are 0".
  pub refused-keeps :
      (x : Refusal) → (matching_by ways pattern board table).reply.verdict ≡ refuse x →
      ((matching_by ways pattern board table).reply.counts ≡ no_counts) × ((matching_by ways pattern board table).table ≡ table)
  unfolding matching_by counts_reply filled
  refused-keeps x e =
      let v : first (match_conditions pattern board (length table)) ≡ refuse x = sym verdict-is ∙ e in
      (rw v, rw v)

  -- ---- an accepted call

  -- Two accepted files and a table that is long enough are not refused.
  pub accepts :
      Accepted AnyPattern pattern → Accepted Board board → nodes_of board ≤ length table → (matching_by ways pattern board table).reply.verdict ≡ accept
  unfolding match_conditions first short_table
  accepts a b room =
      verdict-is ∙ rw (first-accept _ _ (pair-accept AnyPattern pattern board a b)) (simp (le-ltb _ _ room))

  module _ (accepts : (matching_by ways pattern board table).reply.verdict ≡ accept) where
    sound : first (match_conditions pattern board (length table)) ≡ accept
    sound = sym verdict-is ∙ accepts

    files-sound : (first (file_conditions AnyPattern pattern) ≡ accept) × (first (file_conditions Board board) ≡ accept)
    unfolding match_conditions
    files-sound = pair_parts AnyPattern pattern board (first-parts (pair_conditions AnyPattern pattern board) _ sound).0

    pub pattern-accepted : Accepted AnyPattern pattern
    pattern-accepted = accepted AnyPattern pattern files-sound.0

    pub board-accepted : Accepted Board board
    board-accepted = accepted Board board files-sound.1

    table_is : (matching_by ways pattern board table).table
        ≡ answer_by ways (circuit_of pattern) (circuit_of board) (everything (circuit_of board)) ++ drop (nodes_of board) table
    unfolding matching_by filled
    table_is = rw (sound, length-answer)

    pub counts-are : (matching_by ways pattern board table).reply.counts ≡ answer_counts_by ways (circuit_of pattern) (circuit_of board) (everything (circuit_of board))
    unfolding matching_by counts_reply
    counts-are = rw sound

    -- the first N entries are the answer, and the others stay
    pub prefix-is : take (nodes_of board) (matching_by ways pattern board table).table ≡ answer_by ways (circuit_of pattern) (circuit_of board) (everything (circuit_of board))
    prefix-is = rw table_is (take_at _ _ (nodes_of board) (length-answer ways pattern board))

    pub rest-is : drop (nodes_of board) (matching_by ways pattern board table).table ≡ drop (nodes_of board) table
    rest-is =
        rw table_is
        (drop_at (answer_by ways (circuit_of pattern) (circuit_of board) (everything (circuit_of board))) _ (nodes_of board) (length-answer ways pattern board))

    most : length (circuit_of pattern).labels ≤ 32
    most = (accepted-bounded pattern-accepted).nodes

    -- "So started = kept + struck, and rounds are at most struck."
    pub counts-sum :
        (matching_by ways pattern board table).reply.counts.started
        ≡ (matching_by ways pattern board table).reply.counts.kept + (matching_by ways pattern board table).reply.counts.struck
    unfolding answer_counts_by
    counts-sum = rw counts-are (answer-sum ways (circuit_of pattern) (circuit_of board) (everything (circuit_of board)) most)

    pub counts-struck :
        (matching_by ways pattern board table).reply.counts.struck
        ≡ (matching_by ways pattern board table).reply.counts.started - (matching_by ways pattern board table).reply.counts.kept
    counts-struck = omega (arith, counts-sum)

    pub counts-rounds : (matching_by ways pattern board table).reply.counts.rounds ≤ (matching_by ways pattern board table).reply.counts.struck
    unfolding answer_counts_by
    counts-rounds = rw counts-are (answer-rounds ways (circuit_of pattern) (circuit_of board) (everything (circuit_of board)) most)

    -- "started, the pairs of R0", by one bits
    pub counts-started :
        (matching_by ways pattern board table).reply.counts.started
        ≡ sum (map ones (start_by ways (circuit_of pattern) (circuit_of board) (everything (circuit_of board))))
    unfolding answer_counts_by
    counts-started = rw counts-are (answer-started ways (circuit_of pattern) (circuit_of board) (everything (circuit_of board)) most)

    -- "kept is the number of one bits in the whole table"
    pub counts-ones : (matching_by ways pattern board table).reply.counts.kept ≡ sum (map ones (take (nodes_of board) (matching_by ways pattern board table).table))
    unfolding answer_counts_by
    counts-ones = rw (counts-are, prefix-is) (answer-ones ways (circuit_of pattern) (circuit_of board) (everything (circuit_of board)) most)

    -- The first N entries are the largest set that is closed along the directions chosen and in which each part occurs,
    -- unless it is empty.
    pub prefix-along :
        LargestOccurring (circuit_graph (circuit_of pattern)).Node
        (Candidate (circuit_graph (circuit_of pattern)) (KindsMatch (circuit_of pattern) (circuit_of board)) (circuit_graph (circuit_of board)))
        (Chosen ways (Along (circuit_graph (circuit_of pattern)).Link)) (Along (circuit_graph (circuit_of board)).Link)
        (InTable (take (nodes_of board) (matching_by ways pattern board table).table))
    prefix-along =
        rw prefix-is (board-along ways (circuit_of pattern) (circuit_of board) most (within-joins (circuit_of board) (accepted-within board-accepted)))

-- ---- both directions

module _ (pattern board : CircuitFile) (table : List ℕ) (ok : (matching pattern board table).reply.verdict ≡ accept) where
  -- along both directions that is the largest dual simulation of the pattern in the board, whether the pattern is
  -- connected or not:
  pub prefix-largest :
      Largest (circuit_graph (circuit_of pattern)) (KindsMatch (circuit_of pattern) (circuit_of board)) (circuit_graph (circuit_of board))
      (InTable (take (nodes_of board) (matching pattern board table).table))
  prefix-largest = along-dual (prefix-along both_directions pattern board table ok)

  -- bit u of entry v is set exactly when (u, v) is in it.
  pub entry-bit :
      {S : Relation} → Largest (circuit_graph (circuit_of pattern)) (KindsMatch (circuit_of pattern) (circuit_of board)) (circuit_graph (circuit_of board)) S →
      (u v : ℕ) → v < nodes_of board → InTable (matching pattern board table).table u v ↔ S u v
  entry-bit l u v h =
      let same = in-prefix (nodes_of board) (matching pattern board table).table u v h in (
        λ m. largest-unique prefix-largest l u v (subst T (sym same) m),
        λ s. subst T same (largest-unique l prefix-largest u v s),
      )

-- ---- one way

-- tables of the same length, one in the other, and the same entries after them
within_more :
    (xs ys zs : List ℕ) → length xs ≡ length ys → InTable xs ⊆ InTable ys → InTable (xs ++ zs) ⊆ InTable (ys ++ zs)
unfolding in_table
within_more xs ys zs same inside u v m = ⊎_elim prefix past (lt-or-le v (length xs))
  where
    prefix : v < length xs → T (bit (get_or (ys ++ zs) v 0) u)
    prefix h =
        rw (get_or-append ys zs 0 v (rw (← same) h)) (inside u v (rw (get_or-append xs zs 0 v h) at m))

    past : length xs ≤ v → T (bit (get_or (ys ++ zs) v 0) u)
    past h =
        let here : get_or (xs ++ zs) v 0 ≡ get_or zs (v - length xs) 0 =
        ap (λ (k : ℕ). get_or (xs ++ zs) k 0) (omega arith) ∙ get_or-append-add xs zs (v - length xs) 0 in
        let there : get_or (ys ++ zs) v 0 ≡ get_or zs (v - length xs) 0 =
        ap (λ (k : ℕ). get_or (ys ++ zs) k 0) (omega (arith, same)) ∙ get_or-append-add ys zs (v - length xs) 0 in
        subst (λ (k : ℕ). T (bit k u)) (here ∙ sym there) m

-- "Its table contains the two-way table for each pattern and board": all of it, for the same files and the same table
-- lent. Where the calls are refused, and past the entries that they fill, the two tables are the same.
pub contains-two-way :
    (ways : List Direction) (pattern board : CircuitFile) (table : List ℕ) →
    InTable (matching pattern board table).table ⊆ InTable (matching_by ways pattern board table).table
unfolding matching_by filled
contains-two-way ways pattern board table = go (first (match_conditions pattern board (length table))) refl
  where
    go :
        (w : Verdict) → first (match_conditions pattern board (length table)) ≡ w →
        InTable (filled w (answer_by both_directions (circuit_of pattern) (circuit_of board) (everything (circuit_of board))) table) ⊆
        InTable (filled w (answer_by ways (circuit_of pattern) (circuit_of board) (everything (circuit_of board))) table)
    go accept e u v m =
        let bounded = accepted-bounded (pattern-accepted ways pattern board table (verdict-is ways pattern board table ∙ e)) in
        rw (length-answer ways pattern board)
        (within_more (answer_by both_directions (circuit_of pattern) (circuit_of board) (everything (circuit_of board)))
        (answer_by ways (circuit_of pattern) (circuit_of board) (everything (circuit_of board))) (drop (nodes_of board) table)
        (length-answer both_directions pattern board ∙ sym (length-answer ways pattern board))
        (answer-fewer (circuit_of pattern) (circuit_of board) (everything (circuit_of board)) bounded.nodes ways) u v
        (rw (length-answer both_directions pattern board) at m))
    go (refuse x) e u v m = m

-- ---- connected patterns

-- the first five tests on a pattern, and what the others come to
abbrev asked : (a b c d e : Bool) → Verdict → Verdict
asked a b c d e last = cond a (turned Pattern 1) (cond b (turned Pattern 2) (cond c (turned Pattern 3) (cond d (turned Pattern 4) (cond e (turned Pattern 5) last))))

module _ (file : CircuitFile) where
  abbrev pub before : Verdict
  before = first (without 11 (file_conditions Pattern file))

  -- Any pattern is refused as a connected one was before 11 came in, where that was not refused with 6.
  pub any-before : (before ≡ turned Pattern 6 → ⊥) → first (file_conditions AnyPattern file) ≡ before
  unfolding first file_conditions link_conditions asks_connected without turned
  any-before =
      let n = nodes_of file in
      let starts = starts_of file in
      let ends = ends_of file in
      go (ltb (length file.bytes) 4) (not (in_range Pattern n (links_of file))) (not (eqb (length file.bytes) (length_of file.edition n (links_of file))))
      (not (links_below n starts ends)) (not (rising starts ends)) (not (connected n starts ends))
    where
      go : (a b c d e f : Bool) → (asked a b c d e (cond f (turned Pattern 6) accept) ≡ turned Pattern 6 → ⊥)
          → asked a b c d e accept ≡ asked a b c d e (cond f (turned Pattern 6) accept)
      go true b c d e f h = refl
      go false true c d e f h = refl
      go false false true d e f h = refl
      go false false false true e f h = refl
      go false false false false true f h = refl
      go false false false false false true h = absurd (h refl)
      go false false false false false false h = refl

  -- and one that was accepted is connected
  before-joined : before ≡ accept → T (connected (nodes_of file) (starts_of file) (ends_of file))
  unfolding file_conditions link_conditions asks_connected without
  before-joined e =
      let h1 = first_holds _ _ e in
      let h2 = first_holds _ _ h1.1 in
      let h3 = first_holds _ _ h2.1 in
      let h4 = first_holds _ _ h3.1 in
      let h5 = first_holds _ _ h4.1 in
      not-true-false (connected (nodes_of file) (starts_of file) (ends_of file)) (first_holds _ _ h5.1).0

  before-connected : Accepted AnyPattern file → before ≡ accept → Connected (circuit_graph (circuit_of file))
  unfolding circuit_graph
  before-connected a e = rw length-labels ((connected-iff (accepted-below a)).0 (before-joined e))

-- so the two calls' conditions come to the same, where the earlier one did not refuse with 6
same-verdict : (pattern board : CircuitFile) (lent : ℕ) → (first (connected_conditions pattern board lent) ≡ turned Pattern 6 → ⊥)
    → first (match_conditions pattern board lent) ≡ first (connected_conditions pattern board lent)
unfolding match_conditions connected_conditions pair_conditions turned
same-verdict pattern board lent other =
    let drawn = without 11 (file_conditions Pattern pattern) in
    first-same (file_conditions AnyPattern pattern ++ file_conditions Board board) (drawn ++ file_conditions Board board) _
    (first-same (file_conditions AnyPattern pattern) drawn (file_conditions Board board)
    (any-before pattern (λ e. other (first-refuse _ _ _ (first-refuse _ _ _ e)))))

-- where the answer is the row's, the outcome is
same_outcome : (v : Verdict) (p b : Circuit) (table : List ℕ)
    → (v ≡ accept → AnsweredBy both_directions p b (everything b) (last_table p b (everything b)) (counts_of p b (everything b))) → matched_by both_directions v p b table ≡ row_outcome v p b table
unfolding counts_reply filled
same_outcome accept p b table plain = let a = plain refl in rw (sym a.counted, sym a.last)
same_outcome (refuse x) p b table plain = refl

-- "Connected patterns get the table and counts they always got": the whole reply and the table are those of the call
-- that document 01 has, wherever that does not give 6.
pub as_before :
    (pattern board : CircuitFile) (table : List ℕ) → ((connected_matching pattern board table).reply.verdict ≡ turned Pattern 6 → ⊥) →
    matching pattern board table ≡ connected_matching pattern board table
unfolding matching_by connected_matching connected_conditions
as_before pattern board table other =
    let same = same-verdict pattern board (length table) (λ e. other (replied-verdict _ _ ∙ e)) in
    rw same
    (same_outcome _ (circuit_of pattern) (circuit_of board) table
    (λ e.
    let drawn = (first-parts _ _ (first-parts _ _ e).0).0 in
    let read = accepted AnyPattern pattern (any-before pattern (λ six. turned-accept Pattern 6 _ six drawn) ∙ drawn) in
    answer-connected (circuit_of pattern) (circuit_of board) (everything (circuit_of board)) (accepted-bounded read).nodes (before-connected pattern read drawn)))

-- So the first N entries are the last set of the row,
pub prefix-connected :
    (pattern board : CircuitFile) (table : List ℕ) → Accepted Pattern pattern → (matching pattern board table).reply.verdict ≡ accept →
    take (nodes_of board) (matching pattern board table).table ≡ last_table (circuit_of pattern) (circuit_of board) (everything (circuit_of board))
prefix-connected pattern board table drawn ok =
    prefix-is both_directions pattern board table ok
    ∙ sym
    (answer-connected (circuit_of pattern) (circuit_of board) (everything (circuit_of board)) (accepted-bounded drawn).nodes (accepted-connected drawn)).last
