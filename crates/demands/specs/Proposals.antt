-- Ask 9, "Check a place from elsewhere", quoted over what is proved of it: `Ask9`. proofs/Proposals proves it. The
-- contract of the call equates its reply with `check_call` of the inputs alone.
use Rattle.std.specs.Prelude.{◌≡◌, ◌↔◌, ◌⊎◌, ◌∷◌, ◌<◌}
use Rattle.base_lists.specs.Kit.{List, [], ℕ, length, take}
use Rattle.graph.specs.Graph.{Contains, Radius}
use Rattle.file_format.specs.declared.Role.TheVariants.{Pattern, Board}
use Rattle.file_format.specs.Circuit.{circuit_of}
use Rattle.file_format.specs.Layout.{CircuitFile, nodes_of, links_of}
use Rattle.file_format.specs.Refusals.{accept, Accepted}
use Rattle.file_format.specs.Reply.{Reply}
use Rattle.place.specs.Match.{marked_graph}
use Rattle.proposal.specs.Meaning.{PerfectMarks}
use Rattle.call_check.specs.Call.{check_call}
use Rattle.demands.specs.Demands.{graph, Lent, Ready, placed_own, marked}

-- the two answers
abbrev pub says-yes : Reply
says-yes = record { verdict = accept; values = 1 ∷ [] }

abbrev pub says-no : Reply
says-no = record { verdict = accept; values = 0 ∷ [] }

-- "Given a pattern, a board, a centre, a byte per node and a byte per link": both files accepted, the centre on the
-- board, as many bytes as nodes and links
pub record Offered (pattern board : CircuitFile) (w : ℕ) (nodes links : List ℕ) : Type 0 where
  pub drawn : Accepted Pattern pattern
  pub given : Accepted Board board
  pub centre : w < nodes_of board
  pub bytes_of_nodes : length nodes ≡ nodes_of board
  pub bytes_of_links : length links ≡ links_of board

pub record Ask9 : Type 1 where
  -- ("Node or link bytes of another length than N and M are 3 with neither file named, checked after 7.": specs/Demands
  -- `checks`.) Else yes or no:
  pub answers : (pattern board : CircuitFile) (w : ℕ) (nodes links : List ℕ) → Offered pattern board w nodes links →
      (check_call pattern board w nodes links ≡ says-yes) ⊎ (check_call pattern board w nodes links ≡ says-no)
  -- "say yes exactly when these are a perfect subgraph around the centre at the pattern's radius, largest or not. Bytes
  -- other than 0 and 1, or a link whose ends are not both marked, give no. Whoever proposed it, a yes means the same"
  pub exactly : (pattern board : CircuitFile) (w : ℕ) (nodes links : List ℕ) → Offered pattern board w nodes links → (r : ℕ) → Radius (graph pattern) r →
      (check_call pattern board w nodes links ≡ says-yes) ↔ PerfectMarks (circuit_of pattern) (circuit_of board) w r nodes links
  -- "and every place the finder returns at that radius gets a yes."
  pub places : (pattern board : CircuitFile) (w : ℕ) (lent : Lent) → Ready pattern board w lent → (placed_own pattern board w lent).reply.verdict ≡ accept →
      check_call pattern board w (take (nodes_of board) (placed_own pattern board w lent).nodes) (take (links_of board) (placed_own pattern board w lent).links) ≡ says-yes
  -- And a yes means that the finder returns a place there, which contains all that was proposed.
  pub contained : (pattern board : CircuitFile) (w : ℕ) (nodes links : List ℕ) → Offered pattern board w nodes links →
      check_call pattern board w nodes links ≡ says-yes → (lent : Lent) → Ready pattern board w lent →
      ((placed_own pattern board w lent).reply.verdict ≡ accept)
      × Contains (marked board (placed_own pattern board w lent)) (marked_graph (circuit_of board) nodes links)
