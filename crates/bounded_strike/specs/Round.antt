-- One round of striking as the program does it, over neighbour tables and masks: what the contracts of the inner functions cite. proofs/Row
-- ties it to the row of sets.
use Rattle.std.specs.Prelude.{◌≡◌, ◌≤◌, ◌*◌}
use Rattle.base_lists.specs.Kit.{List, ℕ, suc, zero, length}
use Rattle.base_lists.specs.List.{part}
use Rattle.base_bits.specs.Bits.{Words}
use Rattle.graph.specs.Net.{Net}
use Rattle.graph_neighbours.specs.Lookup.{neighbours_in}
use Rattle.graph_neighbours.specs.declared.neighbours.Direction.TheVariants.{Forward, Backward}
use Rattle.table.specs.Prepared.{Tables}
use Rattle.table_row.specs.Row.{Falls}
use Rattle.table.specs.Row.{pairs}
use Rattle.bounded_layer.specs.Pass.{pass_table, next_layer}

-- ---- layers

-- at each node the parts that occur within h links
unfoldable pub layer_of : (ℕ → List ℕ) → List ℕ → ℕ → List ℕ
layer_of near old zero = old
layer_of near old (suc h) = next_layer near old (layer_of near old h)

-- ---- one round

-- the passes of one direction for the bounds 1 to h, each with its 32 masks: for the bound h over the layer of h - 1 links
unfoldable pub passes : (ℕ → List ℕ) → List ℕ → List ℕ → ℕ → List ℕ → List ℕ
passes near masks old zero new = new
passes near masks old (suc h) new = pass_table near (part (32 * h) 32 masks) (layer_of near old h) (passes near masks old h new)

-- both directions, for the bounds 1 to `top`
unfoldable pub round_table : Tables → ℕ → List ℕ → List ℕ
round_table t top old =
    let forth = passes (neighbours_in Forward t.offsets t.targets) (part 0 128 t.masks) old top old in
    passes (neighbours_in Backward t.offsets t.targets) (part 128 128 t.masks) old top forth

-- k rounds
unfoldable pub round_times : Tables → ℕ → List ℕ → ℕ → List ℕ
round_times t top old zero = old
round_times t top old (suc k) = round_table t top (round_times t top old k)

-- What a table of sets needs: 256 masks, neighbour tables over the nodes of the table of sets, and sets of 32 bits.
pub record BoundedReady (t : Tables) (top : ℕ) (old : List ℕ) : Type 0 where
  pub masks : length t.masks ≡ 256
  pub net : Net (length old) t.offsets t.targets
  pub small : Words old
  pub some : 1 ≤ top
  pub most : top ≤ 4
  pub short : length old ≤ 512

-- Where the loop stands: `old` is the table after some rounds, each of which struck a pair.
pub record Turn (t : Tables) (top : ℕ) (start old : List ℕ) (kept rounds : ℕ) : Type 0 where
  pub table : old ≡ round_times t top start rounds
  pub falls : Falls pairs (round_times t top start) rounds
  pub count : kept ≡ pairs old
  pub ready : BoundedReady t top old

-- What striking round after round from a table comes to: the table after as many rounds as struck a pair, which one more would not change.
pub record BoundedSettled (t : Tables) (top : ℕ) (start last : List ℕ) (kept rounds : ℕ) : Type 0 where
  pub table : last ≡ round_times t top start rounds
  pub stops : round_table t top last ≡ last
  pub falls : Falls pairs (round_times t top start) rounds
  pub count : kept ≡ pairs last
