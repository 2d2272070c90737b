-- Two accepted files, of a pattern and of a board, are admissible; and an accepted pattern's radius is the one computed. Assumes nothing.
use Rattle.graph.specs.Circuit.{circuit_graph}
use Rattle.graph.specs.Graph.{Radius}
use Rattle.graph.proofs.Distance.{radius-is}
use Rattle.file_format.specs.declared.Role.TheVariants.{Pattern, Board}
use Rattle.file_format.specs.Circuit.{circuit_of}
use Rattle.file_format.specs.Layout.{CircuitFile, nodes_of, links_of}
use Rattle.file_format.specs.Refusals.{asks_connected, Accepted}
use Rattle.file_format.proofs.Fields.{length-labels}
use Rattle.file_format.proofs.Accepted.{accepted-bounded, accepted-below, accepted-within, accepted-connected}
use Rattle.file_format.proofs.Refusals.{range-orders}
use Rattle.place.specs.Match.{radius_of}
use Rattle.place.proofs.Ball.{Admissible}

pub accepted-admissible : {pattern board : CircuitFile} → Accepted Pattern pattern → Accepted Board board → Admissible (circuit_of pattern) (circuit_of board)
accepted-admissible {pattern} {board} a b =
    record {
      most = (accepted-bounded a).nodes;
      parallel = (accepted-bounded a).parallel;
      connected = accepted-connected a;
      links = accepted-within b;
    }

-- "A pattern's radius is the largest distance between two of its parts."
pub accepted-radius : {pattern : CircuitFile} → Accepted Pattern pattern → Radius (circuit_graph (circuit_of pattern)) (radius_of (circuit_of pattern))
unfolding circuit_graph radius_of asks_connected
accepted-radius {pattern} a =
    rw length-labels (radius-is (accepted-below a) (range-orders Pattern (nodes_of pattern) (links_of pattern) a.range).0 (a.joined tt))
