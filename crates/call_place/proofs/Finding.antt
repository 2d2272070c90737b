-- What the call comes to, by cases: a refused file, a centre outside, a short table, or what is found. Assumes nothing.
use Rattle.std.specs.Prelude.{Option, ◌≡◌, Result, Ok, Err}
use Rattle.base_lists.specs.Kit.{◌∙◌, sym, ap, List, ℕ, length, take}
use Rattle.graph.specs.Circuit.{Circuit}
use Rattle.file_format.specs.declared.Role.TheVariants.{Pattern}
use Rattle.file_format.specs.declared.Refusal.{Refusal}
use Rattle.file_format.specs.Circuit.{circuit_of}
use Rattle.file_format.specs.Layout.{CircuitFile, nodes_of, links_of, starts_of, ends_of}
use Rattle.file_format.specs.Refusals.{Verdict, accept, refuse, first}
use Rattle.file_format.specs.Reply.{verdict_of}
use Rattle.file_format.proofs.Fields.{length-labels, length-starts}
use Rattle.file_format.proofs.Refusals.{first-accept, first-refuse}
use Rattle.file_pair.specs.declared.Pair.{Pair}
use Rattle.file_pair.specs.Pair.{pair_conditions}
use Rattle.table.specs.Prepared.{Tables}
use Rattle.table.specs.Row.{both_directions}
use Rattle.table.specs.Reply.{no_counts}
use Rattle.place.specs.Match.{radius_of}
use Rattle.place.specs.Outcome.{PlaceOutcome, place_reply, place_around}
use Rattle.place_circuits.specs.Drawn.{SomeDrawn, EveryDrawn}
use Rattle.call_decide.specs.Decide.{place_conditions, radius_for}
use Rattle.call_place.specs.Call.{input_conditions, decided, place_at, place_on}
use Rattle.call_prepare.specs.Read.{BothPrepared}
use Rattle.call_prepare.proofs.Ready.{ready-prepared, ready-radius}

-- a call that is turned away leaves the four tables as they were
abbrev pub untouched : Refusal → List ℕ → List ℕ → List ℕ → List ℕ → PlaceOutcome
untouched x nodes links table distances =
    record { reply = place_reply (Err (record { refusal = x; counts = no_counts })); nodes = nodes; links = links; table = table; distances = distances }

-- ---- two circuits

module _ (r : ℕ) (p b : Circuit) (w : ℕ) (nodes links table distances : List ℕ) where
  abbrev result : PlaceOutcome
  result = place_on r p b w nodes links table distances

  abbrev own : Verdict
  own = first (place_conditions (length b.labels) (length b.starts) w (length nodes) (length links) (length table) (length distances))

  refused : {x : Refusal} → own ≡ refuse x → untouched x nodes links table distances ≡ result
  unfolding place_on decided place_reply
  refused e = rw e

  searched : {o : PlaceOutcome} → own ≡ accept → o ≡ place_around p b w r nodes links table distances → o ≡ result
  unfolding place_on decided
  searched e q = q ∙ rw e

  -- the verdict on the centre and the tables' lengths, for a board of m links
  module _ {m : ℕ} (last : m ≡ length b.starts) where
    abbrev told : Verdict
    told = first (place_conditions (length b.labels) m w (length nodes) (length links) (length table) (length distances))

    pub on-refused : {A : Type 0} {v : Result A Refusal} {x : Refusal} → verdict_of v ≡ told → v ≡ Err x → untouched x nodes links table distances ≡ result
    unfolding verdict_of
    on-refused says e = refused (rw last at (sym says ∙ ap verdict_of e))

    pub on-placed : {A : Type 0} {v : Result A Refusal} {a : A} → verdict_of v ≡ told → v ≡ Ok a → {o : PlaceOutcome}
        → o ≡ place_around p b w r nodes links table distances → o ≡ result
    unfolding verdict_of
    on-placed says e = searched (rw last at (sym says ∙ ap verdict_of e))

-- ---- two files that were read

-- what the search starts from
pub ready-drawn : {pattern board : CircuitFile} {read : Pair} {part_labels nodeLabels : List ℕ} {t : Tables} → BothPrepared Pattern both_directions pattern board read part_labels nodeLabels t
    → SomeDrawn (take read.parts part_labels) (take read.nodes nodeLabels) t
ready-drawn {pattern} {board} b =
    record {
      part_starts = starts_of pattern;
      part_ends = ends_of pattern;
      node_starts = starts_of board;
      node_ends = ends_of board;
      drawn = rw (b.parts.content, b.nodes.content) b.drawn;
      prepared = ready-prepared b;
    }

module _ (reach : Option ℕ) (pattern board : CircuitFile) (w : ℕ) (nodes links table distances : List ℕ) where
  -- what the call comes to
  abbrev outcome : PlaceOutcome
  outcome = place_at pattern board w (radius_for reach (radius_of (circuit_of pattern))) nodes links table distances

  abbrev inputs : Verdict
  inputs = first (input_conditions pattern board w (length nodes) (length links) (length table) (length distances))

  -- the files' conditions come before the others: theirs is the first to hold,
  inputs-refused : {x : Refusal} → first (pair_conditions Pattern pattern board) ≡ refuse x → inputs ≡ refuse x
  unfolding input_conditions
  inputs-refused {x} e = first-refuse (pair_conditions Pattern pattern board) _ x e

  -- or none of theirs holds
  inputs-go-on : first (pair_conditions Pattern pattern board) ≡ accept
      → inputs ≡ first (place_conditions (nodes_of board) (links_of board) w (length nodes) (length links) (length table) (length distances))
  unfolding input_conditions
  inputs-go-on e = first-accept (pair_conditions Pattern pattern board) _ e

  pub find-refused : {x : Refusal} → first (pair_conditions Pattern pattern board) ≡ refuse x → untouched x nodes links table distances ≡ outcome
  unfolding place_at decided place_reply
  find-refused e = rw (inputs-refused e)

  find-accepted : first (pair_conditions Pattern pattern board) ≡ accept
      → place_on (radius_for reach (radius_of (circuit_of pattern))) (circuit_of pattern) (circuit_of board) w nodes links table distances ≡ outcome
  unfolding place_on place_at
  find-accepted e = rw (inputs-go-on e, length-labels board, length-starts board)

  pub find-read : {p : Pair} {part_labels nodeLabels : List ℕ} {t : Tables} {r : ℕ} → first (pair_conditions Pattern pattern board) ≡ accept
      → BothPrepared Pattern both_directions pattern board p part_labels nodeLabels t → r ≡ radius_for reach p.radius → {o : PlaceOutcome}
      → EveryDrawn (take p.parts part_labels) (take p.nodes nodeLabels) t o (λ pattern board. place_on r pattern board w nodes links table distances)
      → o ≡ outcome
  unfolding ready-drawn radius_of
  find-read {r = r} ok both reached {o} every =
      let measured = ready-radius both in
      let some = ready-drawn both in
      let e : o ≡ place_on r (circuit_of pattern) (circuit_of board) w nodes links table distances =
      rw (both.parts.content, both.nodes.content) at (every (starts_of pattern) (ends_of pattern) (starts_of board) (ends_of board) some.drawn some.prepared) in
      (rw (reached ∙ ap (radius_for reach) measured) at e) ∙ find-accepted ok
