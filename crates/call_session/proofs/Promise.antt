-- What the calls of a session promise together, for every list of cuts from a fresh one. Assumes nothing.
use Rattle.std.specs.Prelude.{◌≡◌, ◌∷◌, ◌++◌, ◌≤◌}
use Rattle.base_lists.specs.Kit.{refl, List, [], ℕ, length, drop, le-ltb}
use Rattle.file_format.specs.Circuit.{circuit_of}
use Rattle.file_format.specs.Layout.{CircuitFile}
use Rattle.file_format.specs.Reading.{filled}
use Rattle.file_format.specs.Refusals.{Verdict, accept, first, short_table}
use Rattle.file_format.specs.Reply.{Reply, reply}
use Rattle.graph.specs.Circuit.{circuit_graph}
use Rattle.simulation.specs.Simulation.{Largest}
use Rattle.table.specs.Host.{KindsMatch}
use Rattle.table.specs.Row.{InTable}
use Rattle.session.specs.Machine.{Machine, fresh, replies, machine_after, board_left, machine_table}
use Rattle.session.specs.Session.{Cuts, ReadPromise}
use Rattle.session.specs.State.{State, Holds}
use Rattle.session.proofs.Run.{run_holds, machine-largest}
use Rattle.call_session.specs.Call.{OpenPromise}

module _ {pattern board : CircuitFile} {before opened : State} (begun : OpenPromise pattern board before accept opened)
    (linkIndices : List ℕ) (rs : List Verdict) (after : State) (cuts : Cuts opened linkIndices rs after) where
  -- the machine after the list
  abbrev machine : Machine
  machine = machine_after (fresh (circuit_of pattern) (circuit_of board)) linkIndices

  -- "For every list of cuts from a fresh session, after it .. each reply in the list is the machine's": and the tables
  -- hold the machine.
  pub session-run : (rs ≡ replies (fresh (circuit_of pattern) (circuit_of board)) linkIndices) × Holds machine after
  session-run = run_holds linkIndices rs (fresh (circuit_of pattern) (circuit_of board)) (begun.opened refl) cuts

  -- Reading out a table with an entry for each node replies with N and leaves the machine's table at its front,
  pub session-table :
      {lent later : List ℕ} {answer : Reply} → ReadPromise after lent answer later → length machine.board.labels ≤ length lent →
      (answer ≡ reply accept (length machine.board.labels ∷ [])) × (later ≡ machine_table machine ++ drop (length (machine_table machine)) lent)
  unfolding first short_table filled
  session-table {lent} read room =
      let said = read.machine machine session-run.1 in
      let fits = le-ltb (length lent) (length machine.board.labels) room in
      (rw fits at said.0, rw fits at said.1)

  -- which is "the largest dual simulation of the pattern in the nodes with the machine's links".
  pub session-largest :
      Largest (circuit_graph machine.pattern) (KindsMatch machine.pattern (board_left machine)) (circuit_graph (board_left machine))
      (InTable (machine_table machine))
  session-largest = machine-largest machine session-run.1.pattern session-run.1.board
