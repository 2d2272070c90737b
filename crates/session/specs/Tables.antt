-- What a cut and reading out come to on tables of any content, by equations on what they hold: a cut takes the link out and strikes on node by node
-- (session_strike/specs/Moves: `settled`), and reading out copies the sets and applies the all-0 rule. What this is where the tables hold a machine is
-- proved (proofs/Tables).
use Rattle.std.specs.Prelude.{◌≡◌, ◌∷◌, ◌++◌, ◌+◌}
use Rattle.base_lists.specs.Kit.{Bool, cond, List, [], ℕ, eqb, leb, length, get_or, take, drop, replicate}
use Rattle.base_bits.specs.Bits.{size_of}
use Rattle.file_format.specs.Reading.{filled}
use Rattle.file_format.specs.Refusals.{Verdict, first, link_gone, short_table}
use Rattle.file_format.specs.Reply.{Reply, reply}
use Rattle.graph.specs.Search.{far}
use Rattle.session_strike.specs.Moves.{moves_in, settled_from}
use Rattle.table.specs.Union.{union_all}
use Rattle.session.specs.State.{State, takes, ends_without, link_out}

-- A number of the tables that says how many there are of something: 0 where it is above what there is room for, as in tables that hold no machine.
unfoldable pub bounded : ℕ → ℕ → ℕ
bounded most x = cond (leb x most) x 0

-- how many nodes, and how many parts
abbrev pub nodes_in : List ℕ → ℕ
nodes_in fixed = bounded 512 (get_or fixed 65 0)

abbrev pub parts_in : List ℕ → ℕ
parts_in fixed = bounded 32 (get_or fixed 64 0)

-- ---- a cut

-- the tables have a link at the place
abbrev pub named : State → ℕ → Bool
named s linkIndex = takes s.ends (nodes_in s.fixed) linkIndex

-- the reply: 14 where they have none
unfoldable pub cut_answered : State → ℕ → Verdict
cut_answered s linkIndex = first (link_gone (named s linkIndex) ∷ [])

-- the sets without that link: those of the first N nodes, struck on from its two ends, before those past N
unfoldable pub cut_sets : State → ℕ → List ℕ
cut_sets s linkIndex =
    let n = nodes_in s.fixed in
    let moves = moves_in s.offsets s.numbers (ends_without s.ends linkIndex) in
    settled_from (take 64 s.fixed) moves (take n s.sets) (get_or s.ends (4096 + linkIndex) far) (get_or s.ends linkIndex far) ++ drop n s.sets

-- the tables after it: the link's two entries are no node's; all stay where there is no link
unfoldable pub cut_tables : State → ℕ → State
cut_tables s linkIndex = cond (named s linkIndex) (link_out s linkIndex (cut_sets s linkIndex)) s

-- what a cut makes
pub record CutMade (before : State) (linkIndex : ℕ) (reply : Verdict) (after : State) : Type 0 where
  pub replied : reply ≡ cut_answered before linkIndex
  pub tables : after ≡ cut_tables before linkIndex

-- ---- a list of cuts

unfoldable pub cuts_answered : State → List ℕ → List Verdict
cuts_answered s [] = []
cuts_answered s (linkIndex ∷ linkIndices) = cut_answered s linkIndex ∷ cuts_answered (cut_tables s linkIndex) linkIndices

unfoldable pub cuts_tables : State → List ℕ → State
cuts_tables s [] = s
cuts_tables s (linkIndex ∷ linkIndices) = cuts_tables (cut_tables s linkIndex) linkIndices

-- ---- reading out

-- the sets, where as many parts occur in them as there are; else all 0
unfoldable pub occur_or_none : ℕ → List ℕ → List ℕ
occur_or_none parts sets = cond (eqb (size_of (union_all sets)) parts) sets (replicate (length sets) 0)

-- the table: a set for each of the first N nodes
abbrev pub table_in : List ℕ → List ℕ → List ℕ
table_in fixed sets = occur_or_none (parts_in fixed) (take (nodes_in fixed) sets)

-- "8 a lent output table too short"
abbrev pub read_verdict : List ℕ → List ℕ → Verdict
read_verdict fixed lent = first (short_table (nodes_in fixed) (length lent) ∷ [])

-- what reading out makes: the reply, with N, and the lent table, with the session's at its front; entries past N stay
pub record ReadMade (fixed sets before : List ℕ) (answer : Reply) (after : List ℕ) : Type 0 where
  pub replied : answer ≡ reply (read_verdict fixed before) (nodes_in fixed ∷ [])
  pub table : after ≡ filled (read_verdict fixed before) (table_in fixed sets) before
