-- A circuit that can be the content of a pattern file. Assumes nothing.
use Rattle.std.specs.Prelude.{◌≡◌, ◌≤◌, ◌<◌}
use Rattle.base_lists.specs.Kit.{◌∙◌, sym, le_trans, T, ltb, lit≤, length}
use Rattle.base_lists.specs.List.{all}
use Rattle.base_lists.proofs.Tests.{both_left, both_right}
use Rattle.graph.specs.Circuit.{Circuit, circuit_graph}
use Rattle.graph.specs.Graph.{Connected, Radius}
use Rattle.graph.specs.Search.{connected, radius}
use Rattle.graph.proofs.Ball.{Within, within_all}
use Rattle.graph.proofs.Distance.{connected-iff, radius-is}
use Rattle.file_format.specs.declared.Role.TheVariants.{Pattern, Board}
use Rattle.file_format.specs.Layout.{CircuitFile}
use Rattle.file_format.specs.Links.{links_below, rising}
use Rattle.file_format.specs.Role.{in_range}
use Rattle.file_format.specs.Refusals.{asks_connected, widest, Accepted}
use Rattle.file_format.proofs.Refusals.{range-orders}
use Rattle.place.specs.Match.{radius_of}
use Rattle.place.proofs.Ball.{Admissible}
use Rattle.file_format.specs.Circuit.{circuit_of, Bounded}
use Rattle.file_format.proofs.Fields.{length-labels, length-starts, length-ends}

-- Every condition on a pattern that is not about the bytes of a file: numbers 2, 4, 5, 6 and 11, and "as many starts as ends".
pub record PatternContent (p : Circuit) : Type 0 where
  pub range : T (in_range Pattern (length p.labels) (length p.starts))
  pub parallel : length p.starts ≡ length p.ends
  pub below : T (links_below (length p.labels) p.starts p.ends)
  pub rises : T (rising p.starts p.ends)
  pub joined : T (connected (length p.labels) p.starts p.ends)
  pub narrow : radius (length p.labels) p.starts p.ends ≤ widest

-- an accepted pattern file holds such a circuit
pub accepted-content : {file : CircuitFile} → Accepted Pattern file → PatternContent (circuit_of file)
unfolding asks_connected
accepted-content {file} a =
    record {
      range = rw (length-labels, length-starts) a.range;
      parallel = length-starts file ∙ sym (length-ends file);
      below = rw length-labels a.below;
      rises = a.rises;
      joined = rw length-labels (a.joined tt);
      narrow = rw length-labels (a.narrow tt);
    }

-- ---- what follows

module _ {p : Circuit} (c : PatternContent p) where
  sizes : (0 < length p.labels) × (length p.labels ≤ 32) × (length p.starts ≤ 256)
  sizes = range-orders Pattern (length p.labels) (length p.starts) c.range

  pub some-parts : 0 < length p.labels
  some-parts = sizes.0

  pub most-parts : length p.labels ≤ 32
  most-parts = sizes.1

  pub most-links : length p.starts ≤ 256
  most-links = sizes.2

  -- it is within the maxima of a pattern, and so within those of a board
  pub content-bounded : Bounded Pattern p
  content-bounded = record { nodes = most-parts; links = most-links; parallel = c.parallel; below = c.below }

  pub content-board : Bounded Board p
  content-board =
      record { nodes = le_trans most-parts (lit≤ tt); links = le_trans most-links (lit≤ tt); parallel = c.parallel; below = c.below }

  pub content-within : Within (length p.labels) p.starts p.ends
  unfolding links_below
  content-within =
      let starts = all (λ v. ltb v (length p.labels)) p.starts in
      let ends = all (λ v. ltb v (length p.labels)) p.ends in
      within_all (length p.labels) p.starts p.ends (both_left starts ends c.below) (both_right starts ends c.below)

  pub content-connected : Connected (circuit_graph p)
  unfolding circuit_graph
  content-connected = (connected-iff content-within).0 c.joined

  pub content-radius : Radius (circuit_graph p) (radius_of p)
  unfolding circuit_graph radius_of
  content-radius = radius-is content-within some-parts c.joined

  -- it is admissible as a pattern on every board whose links join its nodes
  pub content-admissible : {board : Circuit} → Within (length board.labels) board.starts board.ends → Admissible p board
  content-admissible links = record { most = most-parts; parallel = c.parallel; connected = content-connected; links = links }
