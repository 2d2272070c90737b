-- Tests over what a node drives, and the set of pairs that a table holds. Assumes nothing.
use Rattle.std.specs.Prelude.{◌↔◌}
use Rattle.base_lists.specs.Kit.{Bool, List, ℕ, T}
use Rattle.base_lists.specs.List.{any}
use Rattle.base_lists.proofs.Entries.{any-occurs}
use Rattle.graph.specs.Circuit.{HasLink}
use Rattle.graph.specs.Neighbours.{select}
use Rattle.graph.proofs.Groups.{select-mem}
pub use Rattle.table_row.specs.Reading.{InTable}

-- a test passes at some node to which v has a link
pub any-select : (p : ℕ → Bool) (keys values : List ℕ) (v : ℕ) → T (any p (select keys values v)) ↔ ((x : ℕ) × HasLink keys values v x × T (p x))
any-select p keys values v = (
  λ t. let (x, m, q) = (any-occurs p (select keys values v)).0 t in (x, (select-mem keys values v x).0 m, q),
  λ (x, l, q). (any-occurs p (select keys values v)).1 (x, (select-mem keys values v x).1 l, q),
)
