-- What striking with bounds looks up: when masks and neighbour tables are those of a pattern, its bounds and a board. One list has 256 masks:
-- for each bound from 1 to 4, for each of 32 parts, the parts that it drives by a link of that bound; and then for each those that drive it so.
use Rattle.std.specs.Prelude.{◌≡◌, ◌≤◌, ◌<◌, ◌+◌, ◌-◌, ◌*◌}
use Rattle.base_lists.specs.Kit.{List, ℕ, length, get_or}
use Rattle.base_lists.specs.List.{tabulate, part, Below}
use Rattle.graph.specs.Circuit.{Circuit}
use Rattle.graph.specs.Net.{NetOf}
use Rattle.table.specs.Prepared.{masks_of, Tables}
use Rattle.bounded.specs.Problem.{Bounds}

-- a bound and a part as one number
abbrev pub key_at : ℕ → ℕ → ℕ
key_at bound part = 32 * (bound - 1) + part

-- the same for each link
unfoldable pub keyed : List ℕ → List ℕ → List ℕ
keyed bounds keys = tabulate (length keys) (λ i. key_at (get_or bounds i 0) (get_or keys i 0))

-- the list of masks is made of these links and bounds
pub record BoundMasked (bounds starts ends masks : List ℕ) : Type 0 where
  pub room : length masks ≡ 256
  pub succ : part 0 128 masks ≡ masks_of 128 (keyed bounds starts) ends
  pub pred : part 128 128 masks ≡ masks_of 128 (keyed bounds ends) starts

-- no bound is larger than `top`
pub record Top (bounds : List ℕ) (top : ℕ) : Type 0 where
  pub some : 1 ≤ top
  pub most : top ≤ 4
  pub each : (i : ℕ) → i < length bounds → get_or bounds i 0 ≤ top

pub record BoundPrepared (pattern : Circuit) (bounds : List ℕ) (board : Circuit) (t : Tables) (top : ℕ) : Type 0 where
  pub parts : length pattern.labels ≤ 32
  pub parallel : length pattern.starts ≡ length pattern.ends
  pub starts : Below (length pattern.labels) pattern.starts
  pub ends : Below (length pattern.labels) pattern.ends
  pub bounded : Bounds pattern bounds
  pub upto : Top bounds top
  pub masked : BoundMasked bounds pattern.starts pattern.ends t.masks
  pub net : NetOf (length board.labels) board.starts board.ends t.offsets t.targets
