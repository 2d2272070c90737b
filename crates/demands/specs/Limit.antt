-- Ask 5 of document 02, radius twelve, of what the calls reply: `Limit`. proofs/Limit proves it. "Twelve becomes the
-- limit. Users keep every guarantee about places and merging for patterns up to it; a merged pattern never has the
-- larger radius. Turned away: 11, pattern radius above 12, checked in every call that checks 6, after it and before the
-- board's 1."
use Rattle.std.specs.Prelude.{◌≡◌, ◌↔◌, ◌∷◌, ◌≤◌, ◌<◌}
use Rattle.base_lists.specs.Kit.{List, [], ℕ, length}
use Rattle.base_text.specs.Text.{bytes}
use Rattle.graph.specs.Circuit.{graph_of}
use Rattle.graph.specs.Graph.{Radius}
use Rattle.graph.specs.Search.{radius}
use Rattle.file_format.specs.declared.Edition.{Edition}
use Rattle.file_format.specs.declared.Role.{Role}
use Rattle.file_format.specs.declared.Role.TheVariants.{Pattern}
use Rattle.file_format.specs.Circuit.{circuit_of}
use Rattle.file_format.specs.Layout.{CircuitFile, nodes_of, links_of, kinds_of, packages_of, starts_of, ends_of}
use Rattle.file_format.specs.Reading.{read_conditions, read_answer, filled, ReadOutcome, reading}
use Rattle.file_format.specs.Refusals.{Condition, Verdict, accept, refuse, first, eleven, without, file_conditions, Accepted}
use Rattle.file_format.specs.Reply.{Reply, reply}
use Rattle.file_pair.specs.Pair.{pair_conditions}
use Rattle.file_write.specs.Writing.{circuit_conditions, writing}
use Rattle.place.specs.Outcome.{PlaceOutcome, place_around}
use Rattle.report.specs.Report.{report_for, report_of}
use Rattle.merge.specs.Merged.{class_count, classes}
use Rattle.call_convert.specs.Call.{converting}
use Rattle.call_distance.specs.Calls.{radius_call}
use Rattle.call_place.specs.Call.{input_conditions, decided}
use Rattle.call_check.specs.Call.{check_call}
use Rattle.call_barring.specs.Call.{bar_call}
use Rattle.call_merge.specs.Call.{merged_bytes, merge_conditions, MergeOutcome, merging}
use Rattle.demands.specs.Demands.{graph, Lent, placed, merged_file}

-- ---- the calls as they were before the limit: the same of the verdict that their conditions without 11 give

abbrev pub before : List Condition → Verdict
before conditions = first (without 11 conditions)

unfoldable pub reading_before : Role → CircuitFile → List ℕ → List ℕ → List ℕ → List ℕ → ReadOutcome
reading_before role file kinds packages starts ends =
    let verdict = before (read_conditions role file (length kinds) (length packages) (length starts) (length ends)) in
    record {
      answer = read_answer verdict (nodes_of file) (links_of file);
      reply = reply verdict (nodes_of file ∷ links_of file ∷ []);
      kinds = filled verdict (kinds_of file) kinds;
      packages = filled verdict (packages_of file) packages;
      starts = filled verdict (starts_of file) starts;
      ends = filled verdict (ends_of file) ends;
    }

unfoldable pub radius_before : CircuitFile → Reply
radius_before file = reply (before (file_conditions Pattern file)) (radius (nodes_of file) (starts_of file) (ends_of file) ∷ [])

unfoldable pub placed_before : CircuitFile → CircuitFile → ℕ → ℕ → Lent → PlaceOutcome
placed_before pattern board w r lent =
    decided (before (input_conditions pattern board w (length lent.nodes) (length lent.links) (length lent.table) (length lent.distances))) lent.nodes
    lent.links lent.table lent.distances
    (place_around (circuit_of pattern) (circuit_of board) w r lent.nodes lent.links lent.table lent.distances)

unfoldable pub merging_before : CircuitFile → List ℕ → List ℕ → MergeOutcome
merging_before file lent out =
    let verdict = before (merge_conditions file (length lent) (length out)) in
    let p = circuit_of file in
    record {
      reply = reply verdict (class_count p ∷ length (merged_bytes file.edition p) ∷ []);
      classes = filled verdict (classes p) lent;
      out = filled verdict (merged_bytes file.edition p) out;
    }

unfoldable pub report_before : CircuitFile → CircuitFile → List ℕ
report_before pattern board = report_for (before (pair_conditions Pattern pattern board)) (circuit_of pattern) (circuit_of board)

-- ---- the request

-- A pattern that is turned away with 11 is so by every call that checks 6, whatever the board, the centre, the radius
-- given and the tables. (Comparing and the shelf ask the same of each file: specs/Demands `compares`, specs/Shelf
-- `refused_first`, `refused_second`, `accepts`. Writing: `written` below.)
pub record TurnedAway (pattern : CircuitFile) : Type 0 where
  pub reads : (kinds packages starts ends : List ℕ) → (reading Pattern pattern kinds packages starts ends).reply.verdict ≡ refuse eleven
  pub measures : (radius_call pattern).verdict ≡ refuse eleven
  pub places : (board : CircuitFile) (w r : ℕ) (lent : Lent) → (placed pattern board w r lent).reply.verdict ≡ refuse eleven
  pub merges : (lent out : List ℕ) → (merging pattern lent out).reply.verdict ≡ refuse eleven
  pub converts : (to : Edition) (out : List ℕ) → (converting Pattern to pattern out).reply.verdict ≡ refuse eleven
  pub checks : (board : CircuitFile) (w : ℕ) (nodes links : List ℕ) → (check_call pattern board w nodes links).verdict ≡ refuse eleven
  pub bars : (board : CircuitFile) (w : ℕ) (out : List ℕ) → (bar_call pattern board w out).reply.verdict ≡ refuse eleven
  pub reports : (board : CircuitFile) → report_of pattern board ≡ bytes "refused 11 pattern\n"

-- an accepted pattern's replies, tables, counts and lines are those of before the limit
pub record AsBefore (pattern : CircuitFile) : Type 0 where
  pub reads : (kinds packages starts ends : List ℕ) → reading Pattern pattern kinds packages starts ends ≡ reading_before Pattern pattern kinds packages starts ends
  pub measures : radius_call pattern ≡ radius_before pattern
  pub places : (board : CircuitFile) (w r : ℕ) (lent : Lent) → placed pattern board w r lent ≡ placed_before pattern board w r lent
  pub merges : (lent out : List ℕ) → merging pattern lent out ≡ merging_before pattern lent out
  pub reports : (board : CircuitFile) → report_of pattern board ≡ report_before pattern board

pub record Limit : Type 1 where
  -- "11, pattern radius above 12 .., after it": exactly the patterns of which 1 to 6 do not hold, and whose radius is
  -- above 12
  pub wide : (file : CircuitFile) →
      (first (file_conditions Pattern file) ≡ refuse eleven) ↔ ((before (file_conditions Pattern file) ≡ accept) × ((r : ℕ) × Radius (graph file) r × (12 < r)))
  -- "Twelve becomes the limit."
  pub narrow : (file : CircuitFile) →
      Accepted Pattern file ↔ ((before (file_conditions Pattern file) ≡ accept) × ((r : ℕ) → Radius (graph file) r → r ≤ 12))
  -- the same of a circuit that is to be written as a pattern: after 2 to 6
  pub written : (e : Edition) (kinds packages starts ends out : List ℕ) →
      ((writing Pattern e kinds packages starts ends out).reply.verdict ≡ refuse eleven) ↔
      ((before (circuit_conditions Pattern e kinds packages starts ends) ≡ accept) × ((r : ℕ) × Radius (graph_of (length kinds) starts ends) r × (12 < r)))
  -- "checked in every call that checks 6, .. before the board's 1"
  pub turned : (pattern : CircuitFile) → first (file_conditions Pattern pattern) ≡ refuse eleven → TurnedAway pattern
  -- "Users keep every guarantee about places and merging for patterns up to it"
  pub same : (pattern : CircuitFile) → Accepted Pattern pattern → AsBefore pattern
  -- "a merged pattern never has the larger radius", and so is never turned away
  pub merged : (pattern : CircuitFile) (lent out : List ℕ) → (merging pattern lent out).reply.verdict ≡ accept → (r s : ℕ) → Radius (graph pattern) r →
      Radius (graph (merged_file pattern (merging pattern lent out))) s → s ≤ r
  pub accepts : (pattern : CircuitFile) (lent out : List ℕ) → (merging pattern lent out).reply.verdict ≡ accept → Accepted Pattern (merged_file pattern (merging pattern lent out))
