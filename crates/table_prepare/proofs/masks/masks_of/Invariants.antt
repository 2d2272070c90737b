-- `table_prepare::masks::masks_of` meets its contract. The loop's invariant: the links that are left, added to the sets so far, make the masks.
-- Assumes nothing.
use Rattle.std.specs.Prelude.{◌≡◌}
use Rattle.std.specs.Iterator.Adapters.{zip_first, zip_second}
use Rattle.std.specs.Slice.Iter.{iter_rest}
use Rattle.base_lists.specs.Kit.{List, ℕ, length}
use Rattle.base_lists.specs.List.{Below}
use Rattle.table.specs.Prepared.{masks_of}
use Rattle.table.proofs.Masks.{add_links}
use Rattle.table_prepare.proofs.masks.masks_of.Given as goal

-- the links that are left, and the sets so far
pub record Adding (keys values left right before out : List ℕ) : Type 0 where
  pub keys_below : Below (length out) left
  pub values_below : Below 32 right
  pub long : length out ≡ length before
  pub made : add_links left right out ≡ masks_of (length before) keys values

abbrev pub invariant-loop-key : goal.invariant-loop-key
invariant-loop-key l = Adding l.keys l.values (iter_rest (zip_first l.key-iterator)) (iter_rest (zip_second l.key-iterator)) l.initial.out l.out
