-- Over a board's neighbour tables the search lists the ball. Assumes nothing.
use Rattle.std.specs.Prelude.{◌≡◌, ◌≤◌, ◌<◌}
use Rattle.base_lists.specs.Kit.{List, ℕ, length, take}
use Rattle.base_lists.specs.List.{Below}
use Rattle.base_lists.proofs.Entries.{all-below}
use Rattle.graph.specs.Bfs.{bfs, adjacent, Found}
use Rattle.graph.specs.Circuit.{Circuit}
use Rattle.graph.specs.Net.{Net, NetOf}
use Rattle.graph.proofs.Ball.{Within, within}
use Rattle.graph.proofs.Net.{net-of}
use Rattle.file_format.specs.declared.Role.TheVariants as role
use Rattle.file_format.specs.Circuit.{Bounded}
use Rattle.file_format.proofs.Accepted.{bounded-starts, bounded-ends}
use Rattle.table.specs.Fill.{marks_of, NodeList}
use Rattle.place.specs.Match.{ball_of}
use Rattle.place.proofs.Matched.{found-short, found-list, found-marks}
use Rattle.barring_find.specs.Ball.{Netted}

-- the tables of a board that was read
pub bounded-netted : {board : Circuit} {offsets targets : List ℕ} → Bounded role.Board board → NetOf (length board.labels) board.starts board.ends offsets targets → Netted board offsets targets
bounded-netted b net = record { net = net; starts = all-below _ _ (bounded-starts b); ends = all-below _ _ (bounded-ends b) }

module _ {board : Circuit} {offsets targets : List ℕ} (d : Netted board offsets targets) where
  abbrev size : ℕ
  size = length board.labels

  joins : Within size board.starts board.ends
  unfolding Below
  joins = within size board.starts board.ends d.starts d.ends

  pub netted-net : Net size offsets targets
  netted-net = net-of d.net

  module _ (w r : ℕ) (h : w < size) {k : ℕ} {dist queue : List ℕ} (f : Found k dist queue (bfs (adjacent offsets targets) size w r)) where
    pub netted-short : k ≤ size
    netted-short = found-short board d.net joins w r h k dist queue f

    pub netted-list : NodeList size (take k queue)
    netted-list = found-list board d.net joins w r h k dist queue f

    pub netted-ball : marks_of size (take k queue) ≡ ball_of board w r
    netted-ball = found-marks board d.net joins w r h k dist queue f
