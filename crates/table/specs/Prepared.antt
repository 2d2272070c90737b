-- What matching looks up: masks of the pattern and neighbour tables of the circuit, and when they are those of a pattern and a circuit. The
-- calls above prepare them; how pairs are struck is not said here. One list has 64 masks: for each of 32 parts the parts that it drives, and
-- then for each those that drive it. The neighbour tables are two lists, as graph/specs/Net has them.
use Rattle.std.specs.Prelude.{◌≡◌, ◌≤◌}
use Rattle.base_lists.specs.Kit.{cond, List, [], ℕ, length}
use Rattle.base_lists.specs.List.{tabulate, part, Below}
use Rattle.base_bits.specs.Bits.{number_of, Words}
use Rattle.graph.specs.Circuit.{Circuit}
use Rattle.graph.specs.Neighbours.{select}
use Rattle.graph.specs.Net.{Net, NetOf}
use Rattle.simulation.specs.Simulation.{Direction, forwards, backwards}
use Rattle.table.specs.Fill.{listed}
use Rattle.table.specs.Row.{both_directions, among}

-- For each of n parts the set of the values that stand beside it as a key: the parts that it drives (keys the starts), or those that
-- drive it (keys the ends).
unfoldable pub masks_of : ℕ → List ℕ → List ℕ → List ℕ
masks_of n keys values = tabulate n (λ u. number_of 32 (listed (select keys values u)))

-- for each part the parts that it drives
abbrev pub succ_of : List ℕ → List ℕ
succ_of masks = part 0 32 masks

-- for each part the parts that drive it
abbrev pub pred_of : List ℕ → List ℕ
pred_of masks = part 32 32 masks

-- of a list of link starts or ends, what counts in a direction: all of it, or nothing where that direction is not among the ways
unfoldable pub counting : List Direction → Direction → List ℕ → List ℕ
counting ways d xs = cond (among ways d) xs []

-- the list of masks is made of these links, for the directions chosen: one that is not among them has no links
pub record MaskedBy (ways : List Direction) (starts ends masks : List ℕ) : Type 0 where
  pub room : length masks ≡ 64
  pub succ : succ_of masks ≡ masks_of 32 (counting ways forwards starts) (counting ways forwards ends)
  pub pred : pred_of masks ≡ masks_of 32 (counting ways backwards ends) (counting ways backwards starts)

abbrev pub Masked : List ℕ → List ℕ → List ℕ → Type 0
Masked starts ends masks = MaskedBy both_directions starts ends masks

-- what matching looks up
pub record Tables : Type 0 where
  pub masks : List ℕ
  pub offsets : List ℕ
  pub targets : List ℕ

abbrev pub tables : List ℕ → List ℕ → List ℕ → Tables
tables masks offsets targets = record { masks = masks; offsets = offsets; targets = targets }

-- What a table of sets needs: 64 masks, neighbour tables over the nodes of the table of sets, and sets of 32 bits.
pub record Ready (t : Tables) (old : List ℕ) : Type 0 where
  pub masks : length t.masks ≡ 64
  pub net : Net (length old) t.offsets t.targets
  pub small : Words old

-- The tables are those of a pattern and of a graph: the masks are made of the pattern's links, and a node's two stretches are what it
-- drives and what drives it.
pub record PreparedBy (ways : List Direction) (pattern host : Circuit) (t : Tables) : Type 0 where
  pub parts : length pattern.labels ≤ 32
  pub starts : Below (length pattern.labels) pattern.starts
  pub ends : Below (length pattern.labels) pattern.ends
  pub masked : MaskedBy ways pattern.starts pattern.ends t.masks
  pub net : NetOf (length host.labels) host.starts host.ends t.offsets t.targets

abbrev pub Prepared : Circuit → Circuit → Tables → Type 0
Prepared pattern host t = PreparedBy both_directions pattern host t
