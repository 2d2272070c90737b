-- The three demands, each quoted over what is proved of it: `Demand1`, `Demand2`, `Demand3`. proofs/Demands proves
-- them, and docs/PROMISES.md lists the definitions that they speak in.
--
-- A call's contract is an equation that asks nothing of its inputs: its reply and each lent table at exit are those of
-- a definition applied to the inputs alone (`reading`, `writing`, `radius_call`, `ball_call`, `matching`, `place_at`,
-- `merging`, `reporting`). That a call ends, and with a fixed reply, is that contract, proved of the code. The demands
-- here are about the replies and tables themselves.
use Rattle.std.specs.Prelude.{◌≡◌, ◌↔◌, ◌&&◌, ◌∷◌, ◌++◌, ◌≤◌, ◌<◌, ◌-◌}
use Rattle.base_lists.specs.Kit.{not, List, [], map, ℕ, suc, T, ltb, length, get_or, take, drop, replicate}
use Rattle.std.specs.Int.Count.{ones}
use Rattle.base_lists.specs.List.{Below, sum}
use Rattle.graph.specs.Circuit.{graph_of, circuit_graph}
use Rattle.graph.specs.Graph.{Graph, Ball, Connected, Radius}
use Rattle.graph.specs.Rising.{LinksRise}
use Rattle.graph.specs.Search.{connected, radius}
use Rattle.simulation.specs.Closed.{Relation, ◌⊆◌, Row}
use Rattle.simulation.specs.Simulation.{Candidate, Direction, Along, Largest}
use Rattle.simulation.specs.Perfect.{SameGraph, Perfect, Place}
use Rattle.simulation.specs.Quotient.{Mutual, QuotientGraph}
use Rattle.file_format.specs.declared.Edition.{Edition}
use Rattle.file_format.specs.declared.File.TheVariants.{Neither}
use Rattle.file_format.specs.declared.Refusal.{Refusal}
use Rattle.file_format.specs.declared.Role.{Role}
use Rattle.file_format.specs.declared.Role.TheVariants.{Pattern, Board, AnyPattern}
use Rattle.file_format.specs.Circuit.{circuit_of}
use Rattle.file_format.specs.Layout.{CircuitFile, in_edition, package_count, nodes_of, links_of, labels_of}
use Rattle.file_format.specs.Links.{links_below, rising}
use Rattle.file_format.specs.Reading.{ReadOutcome, read_conditions, reading}
use Rattle.file_format.specs.Refusals.{Condition, Verdict, accept, refuse, NoneHolds, FirstHolding, file_conditions, Accepted, short_table, link_gone}
use Rattle.file_format.specs.Reply.{Reply}
use Rattle.table.specs.declared.Counts.{Counts}
use Rattle.table.specs.Fill.{listed}
use Rattle.table.specs.Host.{KindsMatch}
use Rattle.table.specs.Reply.{no_counts, MatchReply}
use Rattle.table.specs.Row.{InTable}
use Rattle.place.specs.Match.{radius_of, found, marked_graph}
use Rattle.place.specs.Outcome.{PlaceOutcome}
use Rattle.file_write.specs.Writing.{write_conditions, writing}
use Rattle.call_convert.specs.Call.{convert_conditions, converting}
use Rattle.call_distance.specs.Calls.{radius_call, ball_conditions, ball_call}
use Rattle.call_match.specs.Call.{TableOutcome, match_conditions, matching_by, matching}
use Rattle.call_place.specs.Call.{input_conditions, place_at}
use Rattle.call_merge.specs.Call.{MergeOutcome, merge_conditions, merging}
use Rattle.call_merge.specs.Classes.{class_byte, Smallest}
use Rattle.report_answer.specs.Call.{reporting, need_for, files_verdict}
use Rattle.call_test_board.specs.Call.{test_board_conditions, making_test_board}
use Rattle.call_bounded.specs.Call.{bounded_conditions, bounded_matching}
use Rattle.call_check.specs.Call.{check_conditions, check_call}
use Rattle.call_barring.specs.Call.{bar_inputs, bar_call}
use Rattle.order.specs.Files.{second_edition}
use Rattle.call_shelf.specs.Compare.{comparing, compare_reply}
use Rattle.call_shelf.specs.Strings.{cut_into}
use Rattle.call_shelf.specs.Shelf.{shelf_of, most_files, shelving}
use Rattle.session.specs.State.{State}
use Rattle.session.specs.Session.{CutPromise, ReadPromise, Cuts}
use Rattle.call_session.specs.Call.{open_conditions, OpenPromise}
use Rattle.demands.specs.Numbers.{EachNumbered}

-- ---- the words of all three

-- the graph of the circuit that a file holds
abbrev pub graph : CircuitFile → Graph
graph file = circuit_graph (circuit_of file)

-- a part of the pattern and a node of the board have equal kinds, as Ask 1 reads it, and the same package
abbrev pub equal : CircuitFile → CircuitFile → Relation
equal pattern board = KindsMatch (circuit_of pattern) (circuit_of board)

-- the four tables that are lent to a place call: a byte per node, a byte per link, a set of parts per node, a distance
-- per node
pub record Lent : Type 0 where
  pub nodes : List ℕ
  pub links : List ℕ
  pub table : List ℕ
  pub distances : List ℕ

-- they are long enough for a board
pub record Room (board : CircuitFile) (lent : Lent) : Type 0 where
  pub nodes : nodes_of board ≤ length lent.nodes
  pub links : links_of board ≤ length lent.links
  pub table : nodes_of board ≤ length lent.table
  pub distances : nodes_of board ≤ length lent.distances

-- the place call with a radius given, and the one at the pattern's radius
unfoldable pub placed : CircuitFile → CircuitFile → ℕ → ℕ → Lent → PlaceOutcome
placed pattern board w r lent = place_at pattern board w r lent.nodes lent.links lent.table lent.distances

unfoldable pub placed_own : CircuitFile → CircuitFile → ℕ → Lent → PlaceOutcome
placed_own pattern board w lent = placed pattern board w (radius_of (circuit_of pattern)) lent

-- "every accepted pattern, board and centre, with tables long enough"
pub record Ready (pattern board : CircuitFile) (w : ℕ) (lent : Lent) : Type 0 where
  pub drawn : Accepted Pattern pattern
  pub given : Accepted Board board
  pub centre : w < nodes_of board
  pub room : Room board lent

-- ---- Demand 1

-- "From the file readers to the last report line, every call ends with a fixed reply for every byte string, centre and
-- table size. It refuses under the numbered conditions of document 01 and no other; a refusal returns its number and
-- the file concerned, and changes no lent table."

-- A call that numbered conditions decide: each of them is one of the fifteen (specs/Numbers); the call is refused by a
-- number and a file exactly when they are those of the first condition that holds, it is accepted exactly when none
-- holds, and a refusal leaves what is `Kept`.
pub record Decided (conditions : List Condition) (verdict : Verdict) (Kept : Type 0) : Type 0 where
  pub numbered : EachNumbered conditions
  pub refused : (x : Refusal) → (verdict ≡ refuse x) ↔ FirstHolding conditions x
  pub accepted : (verdict ≡ accept) ↔ NoneHolds conditions
  pub kept : (x : Refusal) → verdict ≡ refuse x → Kept

-- a call that replies with values, or with counts: a refusal has none of them, and "counts are 0"
abbrev pub Replies : List Condition → Reply → Type 0 → Type 0
Replies conditions answer Kept = Decided conditions answer.verdict ((answer.values ≡ []) × Kept)

abbrev pub Counting : List Condition → MatchReply → Type 0 → Type 0
Counting conditions answer Kept = Decided conditions answer.verdict ((answer.counts ≡ no_counts) × Kept)

-- number 9, of neither file
unfoldable pub nine : Refusal
nine = record { number = 9; file = Neither }

-- the conditions of the place calls: those of the inputs, and 9 "no place around the centre" (demand 3 says what that
-- is)
unfoldable pub placed_conditions : CircuitFile → CircuitFile → ℕ → ℕ → Lent → List Condition
placed_conditions pattern board w r lent =
    input_conditions pattern board w (length lent.nodes) (length lent.links) (length lent.table) (length lent.distances)
    ++ (record { number = 9; file = Neither; holds = not (found (circuit_of pattern) (circuit_of board) w r) } ∷ [])

-- a call has left the tables as they were lent; "counts are 0, except that 9 carries the ball's counts"
unfoldable pub Untouched : Lent → PlaceOutcome → Type 0
Untouched lent result =
    (result.nodes ≡ lent.nodes) × (result.links ≡ lent.links) × (result.table ≡ lent.table) × (result.distances ≡ lent.distances)
    × ((result.reply.verdict ≡ refuse nine → ⊥) → result.reply.counts ≡ no_counts)

unfoldable pub Unread : List ℕ → List ℕ → List ℕ → List ℕ → ReadOutcome → Type 0
Unread kinds packages starts ends result = (result.kinds ≡ kinds) × (result.packages ≡ packages) × (result.starts ≡ starts) × (result.ends ≡ ends)

-- "A pattern or a board is accepted when its file, read in that role with tables long enough, is not refused."
unfoldable pub ReadsAs : Role → CircuitFile → Type 0
ReadsAs role file =
    (kinds packages starts ends : List ℕ) → nodes_of file ≤ length kinds → package_count file.edition (nodes_of file) ≤ length packages →
    links_of file ≤ length starts → links_of file ≤ length ends → (reading role file kinds packages starts ends).reply.verdict ≡ accept

-- a session that was opened on two files, and in which links were then cut, by the calls' promises: the places cut, one
-- after another, and the tables after it
unfoldable pub Running : CircuitFile → CircuitFile → List ℕ → State → Type 0
Running pattern board places after =
    (before : State) × (opened : State) × (said : List Verdict) × OpenPromise pattern board before accept opened × Cuts opened places said after

-- Each call, on every input. The neighbour lookup refuses nothing; in C, where its stretch is copied out, it is refused
-- by 8 (heronditch/specs/Host `host_neighbours`).
pub record Demand1 : Type 0 where
  pub reads : (role : Role) (file : CircuitFile) (kinds packages starts ends : List ℕ) → let result = reading role file kinds packages starts ends in
      Replies (read_conditions role file (length kinds) (length packages) (length starts) (length ends)) result.reply (Unread kinds packages starts ends result)
  pub writes : (role : Role) (e : Edition) (kinds packages starts ends out : List ℕ) → let result = writing role e kinds packages starts ends out in
      Replies (write_conditions role e kinds packages starts ends (length out)) result.reply (result.out ≡ out)
  pub converts : (role : Role) (to : Edition) (file : CircuitFile) (out : List ℕ) → let result = converting role to file out in
      Replies (convert_conditions role to file (length out)) result.reply (result.out ≡ out)
  pub loads : (seed n m k : ℕ) (out : List ℕ) → let result = making_test_board seed n m k out in
      Replies (test_board_conditions n m k (length out)) result.reply (result.out ≡ out)
  pub measures : (file : CircuitFile) → Replies (file_conditions Pattern file) (radius_call file) (Unit {0})
  pub balls : (file : CircuitFile) (w r : ℕ) (out : List ℕ) → let result = ball_call file w r out in
      Replies (ball_conditions file w (length out)) result.reply (result.out ≡ out)
  -- both whole-board calls, which are told apart by the directions that count; and on a pattern of the third edition
  pub matches : (ways : List Direction) (pattern board : CircuitFile) (table : List ℕ) → let result = matching_by ways pattern board table in
      Counting (match_conditions pattern board (length table)) result.reply (result.table ≡ table)
  pub bounds : (pattern : List ℕ) (board : CircuitFile) (table : List ℕ) → let result = bounded_matching pattern board table in
      Counting (bounded_conditions pattern board (length table)) result.reply (result.table ≡ table)
  -- both place calls, which are told apart by the radius
  pub places : (pattern board : CircuitFile) (w r : ℕ) (lent : Lent) → let result = placed pattern board w r lent in
      Decided (placed_conditions pattern board w r lent) result.reply.verdict (Untouched lent result)
  pub checks : (pattern board : CircuitFile) (w : ℕ) (nodes links : List ℕ) →
      Replies (check_conditions pattern board w (length nodes) (length links)) (check_call pattern board w nodes links) (Unit {0})
  pub bars : (pattern board : CircuitFile) (w : ℕ) (out : List ℕ) → let result = bar_call pattern board w out in
      Replies (bar_inputs pattern board w (length out)) result.reply (result.out ≡ out)
  pub merges : (pattern : CircuitFile) (classes out : List ℕ) → let result = merging pattern classes out in
      Replies (merge_conditions pattern (length classes) (length out)) result.reply ((result.classes ≡ classes) × (result.out ≡ out))
  pub compares : (a b : List ℕ) → let result = compare_reply (comparing a b) in
      Decided (file_conditions Pattern (second_edition a) ++ file_conditions Pattern (second_edition b)) result.verdict (result.order ≡ 0)
  pub shelves : (bytes lengths order : List ℕ) → let result = shelving bytes lengths order in
      Replies (short_table (length (shelf_of (cut_into bytes (take most_files lengths)))) (length order) ∷ []) result.reply (result.order ≡ order)
  pub reports : (pattern board : CircuitFile) (from before : ℕ) (out : List ℕ) → let result = reporting pattern board from before out in
      Replies (short_table (need_for (files_verdict pattern board)) (length out) ∷ []) result.reply (result.out ≡ out)
  -- opening, cutting and reading out
  pub opens : (pattern board : CircuitFile) (before after : State) (said : Verdict) → OpenPromise pattern board before said after →
      Decided (open_conditions pattern board) said (after ≡ before)
  pub cuts : (pattern board : CircuitFile) (places : List ℕ) (before after : State) (place : ℕ) (said : Verdict) →
      Running pattern board places before → CutPromise before place said after →
      Decided (link_gone (ltb place (links_of board) && not (listed places place)) ∷ []) said (after ≡ before)
  pub tables : (pattern board : CircuitFile) (places : List ℕ) (s : State) (lent later : List ℕ) (answer : Reply) →
      Running pattern board places s → ReadPromise s lent answer later → Replies (short_table (nodes_of board) (length lent) ∷ []) answer (later ≡ lent)
  -- what the other demands mean by accepted, and what the conditions 4, 5, 6 and 11 test
  pub accepts : (role : Role) (file : CircuitFile) → Accepted role file ↔ ReadsAs role file
  pub below : (n : ℕ) (starts ends : List ℕ) → T (links_below n starts ends) ↔ (Below n starts × Below n ends)
  pub rises : (starts ends : List ℕ) → T (rising starts ends) ↔ LinksRise starts ends
  pub joins : (n : ℕ) (starts ends : List ℕ) → T (links_below n starts ends) → T (connected n starts ends) ↔ Connected (graph_of n starts ends)
  pub spans : (n : ℕ) (starts ends : List ℕ) → 0 < n → T (links_below n starts ends) → T (connected n starts ends) →
      Radius (graph_of n starts ends) (radius n starts ends)

-- ---- Demand 2

-- "The match table is the largest dual simulation, pair by pair as 01 reads it: each of its pairs holds, and every dual
-- simulation lies inside it. Counts and rounds are those of 01's row of sets. A circuit written reads back as itself;
-- an accepted file writes back to its own bytes."

-- The row: "R0 is the set of pairs with equal kinds. Each further set keeps those pairs of the last whose links have
-- partners in the last."
abbrev pub Sets : Graph → Relation → Graph → ℕ → Relation
Sets P Agree H = Row (Along P.Link) (Along H.Link) (Candidate P Agree H)

-- "started, the pairs of R0; .. rounds, how many sets differ from the one before": each set before `rounds` has a pair
-- that the next one has not, and no later one has. Pairs are counted as one bits of tables that hold the sets.
pub record RowRun (sets : ℕ → Relation) (begun rounds : ℕ) : Type 0 where
  pub table : ℕ → List ℕ
  pub holds : (k u v : ℕ) → InTable (table k) u v ↔ sets k u v
  pub started : begun ≡ sum (map ones (table 0))
  pub differ : (k : ℕ) → k < rounds → sets k ⊆ sets (suc k) → ⊥
  pub rest : (k : ℕ) → rounds ≤ k → sets k ⊆ sets (suc k)

-- "four counts: started ..; kept, the pairs left; struck, started minus kept; rounds .."
pub record RowCounts (sets : ℕ → Relation) (counts : Counts) : Type 0 where
  pub run : RowRun sets counts.started counts.rounds
  pub kept : counts.kept ≡ sum (map ones (run.table counts.rounds))
  pub struck : counts.struck ≡ counts.started - counts.kept

-- What a whole-board call comes to, by its row of sets and by what is the largest: the row is run to its end; its last
-- set is the table, and "If some part is left without a node, the table is all 0, kept is 0, struck equals started, and
-- rounds count as before." Entries past N stay.
pub record Matched (sets : ℕ → Relation) (Best : Relation → Type 1) (parts n : ℕ) (lent : List ℕ) (result : TableOutcome) : Type 1 where
  pub accepted : result.reply.verdict ≡ accept
  pub largest : Best (InTable (take n result.table))
  pub run : RowRun sets result.reply.counts.started result.reply.counts.rounds
  -- "kept is the number of one bits in the whole table"
  pub kept : result.reply.counts.kept ≡ sum (map ones (take n result.table))
  pub struck : result.reply.counts.struck ≡ result.reply.counts.started - result.reply.counts.kept
  pub found : let last = run.table result.reply.counts.rounds in ((u : ℕ) → u < parts → (v : ℕ) × InTable last u v) → take n result.table ≡ last
  pub missing : let last = run.table result.reply.counts.rounds in
      (u : ℕ) → u < parts → ((v : ℕ) → InTable last u v → ⊥) → take n result.table ≡ replicate n 0
  pub rest : drop n result.table ≡ drop n lent

-- a circuit stands at the front of the tables that a reading call was lent, with the packages that the edition has
pub record ReadBack (e : Edition) (kinds packages starts ends : List ℕ) (result : ReadOutcome) : Type 0 where
  pub accepted : result.reply.verdict ≡ accept
  pub values : result.reply.values ≡ length kinds ∷ length starts ∷ []
  pub kinds_are : take (length kinds) result.kinds ≡ kinds
  pub packages_are : take (package_count e (length kinds)) result.packages ≡ take (package_count e (length kinds)) packages
  pub starts_are : take (length starts) result.starts ≡ starts
  pub ends_are : take (length ends) result.ends ≡ ends

pub record Demand2 : Type 1 where
  -- of any pattern: the whole-board call applies neither 6 nor 11
  pub table : (pattern board : CircuitFile) (table : List ℕ) → Accepted AnyPattern pattern → Accepted Board board → nodes_of board ≤ length table →
      Matched (Sets (graph pattern) (equal pattern board) (graph board)) (Largest (graph pattern) (equal pattern board) (graph board)) (nodes_of pattern) (nodes_of board) table
      (matching pattern board table)
  -- "Connected patterns get the table and counts they always got.": those of the row
  pub connected : (pattern board : CircuitFile) (table : List ℕ) → Accepted Pattern pattern → Accepted Board board → nodes_of board ≤ length table →
      let result = matching pattern board table in
      (counts : RowCounts (Sets (graph pattern) (equal pattern board) (graph board)) result.reply.counts)
      × (take (nodes_of board) result.table ≡ counts.run.table result.reply.counts.rounds)
  -- the place calls' counts are those of the row in the ball, whether there is a place or not
  pub ball : (pattern board : CircuitFile) (w r : ℕ) (lent : Lent) → Ready pattern board w lent →
      RowCounts (Sets (graph pattern) (equal pattern board) (Ball (graph board) w r)) (placed pattern board w r lent).reply.counts
  pub reads : (role : Role) (e : Edition) (kinds packages starts ends out ks ps ss es : List ℕ) → (writing role e kinds packages starts ends out).reply.verdict ≡ accept →
      length kinds ≤ length ks → package_count e (length kinds) ≤ length ps → length starts ≤ length ss → length ends ≤ length es →
      ReadBack e kinds packages starts ends
      (reading role (in_edition e (take (get_or (writing role e kinds packages starts ends out).reply.values 0 0) (writing role e kinds packages starts ends out).out)) ks ps ss es)
  pub writes : (role : Role) (file : CircuitFile) (ks ps ss es out : List ℕ) → Below 256 file.bytes → (reading role file ks ps ss es).reply.verdict ≡ accept →
      length file.bytes ≤ length out →
      take (length file.bytes)
      (writing role file.edition (take (nodes_of file) (reading role file ks ps ss es).kinds)
      (take (package_count file.edition (nodes_of file)) (reading role file ks ps ss es).packages) (take (links_of file) (reading role file ks ps ss es).starts)
      (take (links_of file) (reading role file ks ps ss es).ends) out).out
      ≡ file.bytes

-- ---- Demand 3

-- "For every accepted pattern, board and centre, with tables long enough, 9 is given exactly when there is no perfect
-- subgraph around the centre at the radius; else what is marked is one, and contains every other. The merged pattern,
-- run at the first pattern's radius, is refused with 9 exactly when the first is, and else marks the same nodes and
-- links."

-- the subgraph of the board that the first N node bytes and the first M link bytes mark
abbrev pub marked : CircuitFile → PlaceOutcome → Graph
marked board result = marked_graph (circuit_of board) (take (nodes_of board) result.nodes) (take (links_of board) result.links)

-- What a place call comes to at a radius.
pub record FoundAt (pattern board : CircuitFile) (w r : ℕ) (result : PlaceOutcome) : Type 1 where
  pub none : (result.reply.verdict ≡ refuse nine) ↔ ((G : Graph) → Perfect (graph pattern) (equal pattern board) (graph board) w r G → ⊥)
  pub accepted : (result.reply.verdict ≡ refuse nine → ⊥) → result.reply.verdict ≡ accept
  pub place : result.reply.verdict ≡ accept → Place (graph pattern) (equal pattern board) (graph board) w r (marked board result)
  -- "(1 in the place, else 0)"
  pub bytes : result.reply.verdict ≡ accept → Below 2 (take (nodes_of board) result.nodes) × Below 2 (take (links_of board) result.links)

-- the merging call is lent N class bytes and as many bytes as the pattern's file has
pub record Enough (pattern : CircuitFile) (classes out : List ℕ) : Type 0 where
  pub bytes : nodes_of pattern ≤ length classes
  pub file : length pattern.bytes ≤ length out

-- the merged file: the front of the lent bytes, of the length replied; "the merged file has the pattern's edition"
unfoldable pub merged_file : CircuitFile → MergeOutcome → CircuitFile
merged_file pattern m = in_edition pattern.edition (take (get_or m.reply.values 1 0) m.out)

-- "The merged pattern has a part per class, of the same kind, and a link from class a to class b, b equal to a
-- included, where some member of a has a link to some member of b.", and "The merged part takes its class's package": a
-- file so made of the parts' classes, or of any groups. It is accepted.
pub record Made (pattern : CircuitFile) (group : ℕ → ℕ) (file : CircuitFile) : Type 0 where
  pub accepted : Accepted Pattern file
  pub quotient : SameGraph (graph file) (QuotientGraph (graph pattern) group)
  pub kinds : (u : ℕ) → u < nodes_of pattern → get_or (labels_of file) (group u) 0 ≡ get_or (labels_of pattern) u 0

-- "It compares whether 9 is given and, where it is not, the first N node bytes and the first M link bytes, N and M
-- being the board's; counts and match tables may differ.": the verdicts are the same.
pub record SameFound (n m : ℕ) (a b : PlaceOutcome) : Type 0 where
  pub verdict : a.reply.verdict ≡ b.reply.verdict
  pub nodes : (a.reply.verdict ≡ refuse nine → ⊥) → take n a.nodes ≡ take n b.nodes
  pub links : (a.reply.verdict ≡ refuse nine → ⊥) → take m a.links ≡ take m b.links

pub record Demand3 : Type 1 where
  -- an accepted pattern has a radius, which is a 16-bit number
  pub radius : (pattern : CircuitFile) → Accepted Pattern pattern → (r : ℕ) × Radius (graph pattern) r × (r < 65536)
  -- the call at the pattern's radius, and the one with a radius given
  pub own : (pattern board : CircuitFile) (w : ℕ) (lent : Lent) → Ready pattern board w lent → (r : ℕ) → Radius (graph pattern) r →
      FoundAt pattern board w r (placed_own pattern board w lent)
  pub given : (pattern board : CircuitFile) (w r : ℕ) (lent : Lent) → Ready pattern board w lent →
      FoundAt pattern board w r (placed pattern board w r lent)
  -- "Two parts share a class exactly when each matches the other in the pattern's table on itself.
  pub classes : (pattern : CircuitFile) (classes out table : List ℕ) → Accepted Pattern pattern → Enough pattern classes out → nodes_of pattern ≤ length table →
      (u v : ℕ) → u < nodes_of pattern → v < nodes_of pattern →
      (class_byte pattern classes out u ≡ class_byte pattern classes out v) ↔ Mutual (InTable (matching pattern pattern table).table) u v
  -- Classes are numbered by their smallest part, rising."
  pub numbered : (pattern : CircuitFile) (classes out : List ℕ) → Accepted Pattern pattern → Enough pattern classes out → (u v s t : ℕ) →
      u < nodes_of pattern → v < nodes_of pattern → Smallest pattern classes out u s → Smallest pattern classes out v t →
      (class_byte pattern classes out u < class_byte pattern classes out v) ↔ (s < t)
  -- The merged file is the pattern made of the classes.
  pub made : (pattern : CircuitFile) (classes out : List ℕ) → Accepted Pattern pattern → Enough pattern classes out →
      Made pattern (class_byte pattern classes out) (merged_file pattern (merging pattern classes out))
  -- It is handed to the call with a radius given, the first pattern's.
  pub merged : (pattern : CircuitFile) (classes out : List ℕ) (board : CircuitFile) (w : ℕ) (lent again : Lent) → Ready pattern board w lent → Room board again →
      Enough pattern classes out → (r : ℕ) → Radius (graph pattern) r →
      SameFound (nodes_of board) (links_of board) (placed (merged_file pattern (merging pattern classes out)) board w r again) (placed_own pattern board w lent)
