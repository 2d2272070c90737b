-- Ask 13, "Cutting tracks while searching", quoted over what is proved of it: `Ask13`. proofs/Cutting proves it. What
-- the calls promise of the lent tables is OpenPromise, CutPromise and ReadPromise; here a list of cuts is spoken of
-- without the machine: by the places that it names.
use Rattle.std.specs.Prelude.{◌≡◌, ◌&&◌, ◌∷◌, ◌++◌, ◌≤◌}
use Rattle.base_lists.specs.Kit.{false, cond, not, List, [], ℕ, ltb, length, take, drop}
use Rattle.graph.specs.Circuit.{LinkAt}
use Rattle.graph.specs.Graph.{Graph}
use Rattle.simulation.specs.Simulation.{Largest}
use Rattle.file_format.specs.declared.File.TheVariants.{Neither}
use Rattle.file_format.specs.declared.Refusal.{Refusal}
use Rattle.file_format.specs.Layout.{CircuitFile, nodes_of, links_of, starts_of, ends_of}
use Rattle.file_format.specs.Refusals.{Verdict, accept, refuse, short_table}
use Rattle.file_format.specs.Reply.{Reply, reply}
use Rattle.table.specs.Fill.{listed}
use Rattle.table.specs.Row.{InTable}
use Rattle.call_match.specs.Call.{match_conditions}
use Rattle.call_session.specs.Call.{open_conditions, OpenPromise}
use Rattle.session.specs.Session.{ReadPromise, Cuts}
use Rattle.session.specs.State.{State}
use Rattle.demands.specs.Demands.{graph, equal}

-- number 14, of neither file
abbrev pub fourteen : Refusal
fourteen = record { number = 14; file = Neither }

-- The replies to a list of cuts on a board of m links, some of which were cut earlier: 'cut' (acceptance) where the
-- place is below m and was not named before, and else 14.
unfoldable pub cut_replies : ℕ → List ℕ → List ℕ → List Verdict
cut_replies m earlier [] = []
cut_replies m earlier (linkIndex ∷ linkIndices) =
    cond (ltb linkIndex m && not (listed earlier linkIndex)) accept (refuse fourteen) ∷ cut_replies m (linkIndex ∷ earlier) linkIndices

-- the board's nodes, with those of its links whose places are not in a list
unfoldable pub left_of : CircuitFile → List ℕ → Graph
left_of board linkIndices =
    record {
      Node = (graph board).Node;
      Link = λ v w. (i : ℕ) × LinkAt (starts_of board) (ends_of board) v w i × (listed linkIndices i ≡ false);
    }

pub record Ask13 : Type 1 where
  -- "opening refuses as Ask 7's call does but for 8" (that it is so decided, and leaves the tables on a refusal:
  -- specs/Demands `opens`)
  pub conditions : (pattern board : CircuitFile) (lent : ℕ) →
      match_conditions pattern board lent ≡ open_conditions pattern board ++ (short_table (nodes_of board) lent ∷ [])
  -- "For every list of cuts from a fresh session, .. each reply in the list is the machine's": 'cut' for a link that is
  -- left, and "A cut of a link already out, or of a place not below M, changes nothing and its reply is 14."
  pub replies : (pattern board : CircuitFile) (before opened after : State) (linkIndices : List ℕ) (said : List Verdict) →
      OpenPromise pattern board before accept opened → Cuts opened linkIndices said after → said ≡ cut_replies (links_of board) [] linkIndices
  -- "after it the table is the largest dual simulation of the pattern in the nodes with the machine's links": those
  -- whose places are not in the list. Reading it out replies with N, and leaves entries past N.
  pub table : (pattern board : CircuitFile) (before opened after : State) (linkIndices : List ℕ) (said : List Verdict) →
      OpenPromise pattern board before accept opened → Cuts opened linkIndices said after →
      (lent later : List ℕ) (answer : Reply) → ReadPromise after lent answer later → nodes_of board ≤ length lent →
      (answer ≡ reply accept (nodes_of board ∷ []))
      × Largest (graph pattern) (equal pattern board) (left_of board linkIndices) (InTable (take (nodes_of board) later))
      × (drop (nodes_of board) later ≡ drop (nodes_of board) lent)
