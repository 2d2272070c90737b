-- What the call comes to, by cases: a refused file, a short table, or the match. Assumes nothing.
use Rattle.std.specs.Prelude.{◌≡◌, ◌∷◌, ◌++◌, ◌≤◌, ◌<◌, Ok, Err}
use Rattle.base_lists.specs.Kit.{◌∙◌, sym, ap, ap₂, List, [], ℕ, length, take, drop, le-ltb, lt-ltb}
use Rattle.graph.specs.Circuit.{Circuit}
use Rattle.file_format.specs.declared.Role.{Role}
use Rattle.file_format.specs.declared.Role.TheVariants.{AnyPattern}
use Rattle.file_format.specs.declared.File.TheVariants.{Neither}
use Rattle.file_format.specs.declared.Refusal.{Refusal}
use Rattle.file_format.specs.Circuit.{circuit_of}
use Rattle.file_format.specs.Layout.{CircuitFile, nodes_of}
use Rattle.file_format.specs.Reading.{filled}
use Rattle.file_format.specs.Refusals.{Verdict, accept, refuse, first, short_table}
use Rattle.file_format.proofs.Fields.{length-labels}
use Rattle.file_format.proofs.Refusals.{first-accept, first-refuse}
use Rattle.file_pair.specs.Pair.{pair_conditions}
use Rattle.file_pair.specs.declared.Pair.{Pair}
use Rattle.table.specs.declared.Counts.{Counts}
use Rattle.call_match.specs.Call.{TableOutcome, match_conditions, reply_of, match_on, EveryMatch, matching_by}
use Rattle.simulation.specs.Simulation.{Direction}
use Rattle.table.specs.Host.{everything}
use Rattle.table.specs.Answer.{answer_by, answer_counts_by, AnsweredOn}
use Rattle.table.specs.Prepared.{Tables}
use Rattle.table.specs.Reply.{MatchReply, counts_reply}
use Rattle.table.proofs.Answer.{answer-fits}
use Rattle.table_whole.specs.Kinds.{SomeLinks}
use Rattle.call_prepare.specs.Read.{BothPrepared}
use Rattle.call_prepare.proofs.Ready.{ready-prepared}

-- the table has an entry for each node
pub length-answer : (ways : List Direction) (pattern board : CircuitFile)
    → length (answer_by ways (circuit_of pattern) (circuit_of board) (everything (circuit_of board))) ≡ nodes_of board
length-answer ways pattern board = (answer-fits ways (circuit_of pattern) (circuit_of board) (everything (circuit_of board))).size ∙ length-labels board

-- ---- two circuits

module _ (ways : List Direction) (p b : Circuit) (table : List ℕ) where
  pub on-short : length table < length b.labels
      → record { reply = reply_of (Err (record { number = 8; file = Neither })); table = table } ≡ match_on ways p b table
  unfolding match_on first short_table counts_reply reply_of filled
  on-short h = rw (lt-ltb _ _ h)

  -- the table is long enough: the call is accepted
  fits-verdict : length b.labels ≤ length table → first (short_table (length b.labels) (length table) ∷ []) ≡ accept
  unfolding first short_table
  fits-verdict h = rw (le-ltb _ _ h)

  -- the counts are replied with,
  fits-reply : length b.labels ≤ length table → {counts : Counts} → counts ≡ answer_counts_by ways p b (everything b)
      → reply_of (Ok counts) ≡ (match_on ways p b table).reply
  unfolding match_on counts_reply reply_of
  fits-reply h e = rw e (ap (λ (v : Verdict). counts_reply v (answer_counts_by ways p b (everything b))) (sym (fits-verdict h)))

  -- and the answer stands at the table's front, before the entries that stay
  fits-table : length b.labels ≤ length table → {last : List ℕ} → last ≡ answer_by ways p b (everything b)
      → last ++ drop (length b.labels) table ≡ (match_on ways p b table).table
  unfolding match_on filled
  fits-table h {last} e =
      let prefix : last ++ drop (length b.labels) table ≡ filled accept (answer_by ways p b (everything b)) table = rw (e, (answer-fits ways p b (everything b)).size) in
      prefix ∙ ap (λ (v : Verdict). filled v (answer_by ways p b (everything b)) table) (sym (fits-verdict h))

  pub on-matched : length b.labels ≤ length table → {counts : Counts} {last : List ℕ} → AnsweredOn ways p b last counts
      → record { reply = reply_of (Ok counts); table = last ++ drop (length b.labels) table } ≡ match_on ways p b table
  on-matched h m = ap₂ (λ (r : MatchReply) (t : List ℕ). record { reply = r; table = t }) (fits-reply h m.counted) (fits-table h m.last)

-- ---- two files

module _ (ways : List Direction) (pattern board : CircuitFile) (table : List ℕ) where
  -- what the table is too short for comes after what is wrong with the files
  files-first : {x : Refusal} → first (pair_conditions AnyPattern pattern board) ≡ refuse x → first (match_conditions pattern board (length table)) ≡ refuse x
  unfolding match_conditions
  files-first e = first-refuse (pair_conditions AnyPattern pattern board) _ _ e

  then-table : first (pair_conditions AnyPattern pattern board) ≡ accept
      → first (match_conditions pattern board (length table)) ≡ first (short_table (nodes_of board) (length table) ∷ [])
  unfolding match_conditions
  then-table e = first-accept (pair_conditions AnyPattern pattern board) _ e

  pub matching-refused : {x : Refusal} → first (pair_conditions AnyPattern pattern board) ≡ refuse x
      → record { reply = reply_of (Err x); table = table } ≡ matching_by ways pattern board table
  unfolding matching_by counts_reply reply_of filled
  matching-refused e = rw (files-first e)

  matching-accepted : first (pair_conditions AnyPattern pattern board) ≡ accept
      → match_on ways (circuit_of pattern) (circuit_of board) table ≡ matching_by ways pattern board table
  unfolding match_on matching_by
  matching-accepted e = rw (then-table e, length-labels board)

  pub matching-read : {read : Pair} {part_labels nodeLabels : List ℕ} {t : Tables} → first (pair_conditions AnyPattern pattern board) ≡ accept
      → BothPrepared AnyPattern ways pattern board read part_labels nodeLabels t → {o : TableOutcome}
      → EveryMatch (take read.parts part_labels) (take read.nodes nodeLabels) t table o → o ≡ matching_by ways pattern board table
  matching-read ok b every = (rw (b.parts.content, b.nodes.content) at (every _ _ _ _ _ (ready-prepared b))) ∙ matching-accepted ok

-- what matching starts from
pub ready_links : {r : Role} {ways : List Direction} {pattern board : CircuitFile} {read : Pair} {part_labels nodeLabels : List ℕ} {t : Tables}
    → BothPrepared r ways pattern board read part_labels nodeLabels t → SomeLinks (take read.parts part_labels) (take read.nodes nodeLabels) t
ready_links b = record { ways = _; part_starts = _; part_ends = _; node_starts = _; node_ends = _; prepared = ready-prepared b }
