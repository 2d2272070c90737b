-- Ask 11 of document 02, quoted over what is proved of it: "Users of the merged pattern want to know that nothing more
-- could be joined." proofs/Groupings proves `NothingMore`, proofs/GroupingExamples the two examples at the end. Of
-- `grouped` only what `makes` says of it has to be known: one definition, of which the merged pattern is the instance
-- for the classes (merge/specs/Merged).
use Rattle.std.specs.Prelude.{◌≡◌, ◌∷◌, ◌≤◌}
use Rattle.base_lists.specs.Kit.{List, [], ℕ, length, get_or}
use Rattle.simulation.specs.Grouping.{Grouping, AsEachMember}
use Rattle.file_format.specs.declared.Role.TheVariants.{Pattern, Board}
use Rattle.file_format.specs.Circuit.{circuit_of}
use Rattle.file_format.specs.Examples.{file_t}
use Rattle.file_format.specs.Layout.{CircuitFile, in_edition, first_edition, nodes_of}
use Rattle.file_format.specs.Refusals.{Accepted}
use Rattle.file_write.specs.Bytes.{circuit_bytes}
use Rattle.table.specs.Row.{InTable}
use Rattle.merge.specs.Merged.{SameKind, grouped}
use Rattle.call_match.specs.Call.{matching}
use Rattle.call_merge.specs.Call.{merging}
use Rattle.call_merge.specs.Classes.{class_byte}
use Rattle.demands.specs.Demands.{graph, Enough, merged_file, Made}

-- "take every other grouping of the parts, members of a group having the same kind and package number"
abbrev pub Groups : CircuitFile → (ℕ → ℕ) → ℕ → Type 0
Groups pattern group k = Grouping (graph pattern) (SameKind (circuit_of pattern)) group k

-- ".., made into a pattern as merging does": its file, of the pattern's edition
unfoldable pub grouped_file : CircuitFile → (ℕ → ℕ) → ℕ → CircuitFile
grouped_file pattern group k = in_edition pattern.edition (circuit_bytes pattern.edition (grouped (circuit_of pattern) group k))

-- node v of a board matches part u: so says the table that the call leaves, whatever table is lent that is long enough
unfoldable pub Matches : CircuitFile → CircuitFile → ℕ → ℕ → Type 0
Matches pattern board u v = (lent : List ℕ) → nodes_of board ≤ length lent → InTable (matching pattern board lent).table u v

-- "Suppose that, for each group, each single member of it and every accepted board, a node matches the group exactly
-- when it matches that member in the first pattern's table."
pub record Supposed (pattern : CircuitFile) (group : ℕ → ℕ) (k : ℕ) : Type 0 where
  pub on : (board : CircuitFile) → Accepted Board board →
      AsEachMember (graph pattern) group (graph board) (Matches pattern board) (Matches (grouped_file pattern group k) board)

-- "ours": the class bytes that the merging call leaves, and the number of classes that it replies with
unfoldable pub replied : CircuitFile → List ℕ → List ℕ → ℕ
replied pattern classes out = get_or (merging pattern classes out).reply.values 0 0

-- "ours is itself such a grouping"
pub record Such (pattern : CircuitFile) (classes out : List ℕ) : Type 0 where
  pub groups : Groups pattern (class_byte pattern classes out) (replied pattern classes out)
  pub file : grouped_file pattern (class_byte pattern classes out) (replied pattern classes out) ≡ merged_file pattern (merging pattern classes out)
  pub supposed : Supposed pattern (class_byte pattern classes out) (replied pattern classes out)

pub record NothingMore : Type 0 where
  -- "made into a pattern as merging does" (specs/Demands `Made`)
  pub makes : (pattern : CircuitFile) → Accepted Pattern pattern → (group : ℕ → ℕ) (k : ℕ) → Groups pattern group k →
      Made pattern group (grouped_file pattern group k)
  -- "Then that grouping has at least as many groups as ours,"
  pub least : (pattern : CircuitFile) (classes out : List ℕ) → Accepted Pattern pattern → Enough pattern classes out → (group : ℕ → ℕ) (k : ℕ) →
      Groups pattern group k → Supposed pattern group k → replied pattern classes out ≤ k
  -- "and ours is itself such a grouping."
  pub ours : (pattern : CircuitFile) (classes out : List ℕ) → Accepted Pattern pattern → Enough pattern classes out → Such pattern classes out

-- ---- two groupings

-- Y of E6: "0:10, 1:20, 2:20, links 0-1, 0-2"
unfoldable pub file_y : CircuitFile
file_y = first_edition (3 ∷ 0 ∷ 2 ∷ 0 ∷ 10 ∷ 0 ∷ 20 ∷ 0 ∷ 20 ∷ 0 ∷ 0 ∷ 0 ∷ 0 ∷ 0 ∷ 1 ∷ 0 ∷ 2 ∷ 0 ∷ [])

-- The finest grouping of Y, each part a group, is such a grouping; it has three groups where merging has two.
pub record FinestY : Type 0 where
  pub accepted : Accepted Pattern file_y
  pub groups : Groups file_y (λ u. u) 3
  pub supposed : Supposed file_y (λ u. u) 3
  pub ours : (classes out : List ℕ) → Enough file_y classes out → replied file_y classes out ≡ 2

-- E8: "0:10, 1:20, 2:20, 3:30, links 0-1, 0-2, 2-3"
unfoldable pub file_e8 : CircuitFile
file_e8 =
    first_edition (4 ∷ 0 ∷ 3 ∷ 0 ∷ 10 ∷ 0 ∷ 20 ∷ 0 ∷ 20 ∷ 0 ∷ 30 ∷ 0 ∷ 0 ∷ 0 ∷ 0 ∷ 0 ∷ 2 ∷ 0 ∷ 1 ∷ 0 ∷ 2 ∷ 0 ∷ 3 ∷ 0 ∷ [])

-- its parts 1 and 2, of one kind, in one group
unfoldable pub joined : ℕ → ℕ
joined u = get_or (0 ∷ 1 ∷ 1 ∷ 2 ∷ []) u 0

-- They do not match each other: part 2 drives part 3, part 1 drives nothing. The pattern that this grouping makes is T,
-- and on E8 itself, as a board, node 1 matches part 1, and not the group.
pub record JoinedE8 : Type 0 where
  pub accepted : Accepted Pattern file_e8
  pub groups : Groups file_e8 joined 3
  pub makes : grouped_file file_e8 joined 3 ≡ first_edition file_t
  pub board : Accepted Board file_e8
  pub member : Matches file_e8 file_e8 1 1
  pub group : Matches (grouped_file file_e8 joined 3) file_e8 1 1 → ⊥
  pub fails : Supposed file_e8 joined 3 → ⊥
