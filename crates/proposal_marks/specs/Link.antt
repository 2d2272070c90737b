-- One link of a place, as it is tested.
use Rattle.std.specs.Prelude.{◌&&◌}
use Rattle.base_lists.specs.Kit.{Bool, List, ℕ, get_or}
use Rattle.base_bits.specs.Bits.{intersects}
use Rattle.graph.specs.Search.{reached}
use Rattle.place.specs.Bytes.{driven_by}

-- the link from v to w is in the place: v was reached, and what its parts drive has a part of w's set
unfoldable pub link_placed : List ℕ → List ℕ → List ℕ → ℕ → ℕ → Bool
link_placed succ dist sets v w = reached (get_or dist v 0) && intersects (driven_by succ sets v) (get_or sets w 0)
