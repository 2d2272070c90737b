-- The circuit that a file holds, and what an accepted file says of it.
use Rattle.std.specs.Prelude.{◌≡◌, ◌≤◌}
use Rattle.base_lists.specs.Kit.{T, length}
use Rattle.graph.specs.Circuit.{Circuit}
use Rattle.graph.specs.Rising.{LinksRise}
use Rattle.file_format.specs.declared.Role.{Role}
use Rattle.file_format.specs.declared.Role.TheVariants as role
use Rattle.file_format.specs.Layout.{CircuitFile, labels_of, starts_of, ends_of}
use Rattle.file_format.specs.Links.{links_below}
use Rattle.file_format.specs.Role.{max_nodes, max_links}

-- the circuit that a file holds
abbrev pub circuit_of : CircuitFile → Circuit
circuit_of file = record { labels = labels_of file; starts = starts_of file; ends = ends_of file }

-- A circuit within a role's maxima that has as many starts as ends, each of them a node. The circuit of an accepted file is one.
pub record Bounded (role : Role) (c : Circuit) : Type 0 where
  pub nodes : length c.labels ≤ max_nodes role
  pub links : length c.starts ≤ max_links role
  pub parallel : length c.starts ≡ length c.ends
  pub below : T (links_below (length c.labels) c.starts c.ends)

-- two circuits that were read: each within its role's maxima, and the board's links in the file's order
pub record Drawn (pattern board : Circuit) : Type 0 where
  pub parts : Bounded role.Pattern pattern
  pub nodes : Bounded role.Board board
  pub rise : LinksRise board.starts board.ends
