-- A board of which proposals are checked by computation, and what is opened there.
use Rattle.std.specs.Prelude.{◌∷◌}
use Rattle.base_lists.specs.Kit.{[]}
use Rattle.base_lists.specs.List.{all_below, any_below}
use Rattle.base_lists.specs.Below.{keep_from}
use Rattle.graph.specs.Chosen.{picked, chosen}
use Rattle.graph.specs.Circuit.{Circuit}
use Rattle.graph.specs.Search.{beside, ball}
use Rattle.table.specs.Examples.{row_computed}
use Rattle.place.specs.Match.{ball_of, ball_table, found, matches, link_matches, match_starts, match_ends, component, place_nodes, place_links}
use Rattle.proposal.specs.Check.{bits, ends_marked, marks_subgraph, in_row, fills, checks}

-- `unfolding check_computed` opens the check
unfoldable pub check_computed : Unit {0}
unfolding row_computed any_below all_below keep_from picked chosen beside ball ball_of ball_table found matches link_matches match_starts match_ends component place_nodes place_links bits ends_marked marks_subgraph in_row fills checks
check_computed = tt

-- two copies of the link 10 to 20, joined by links that match nothing: 0:10, 1:20, 2:10, 3:20, links 0-1, 0-2, 2-3, 3-0
unfoldable pub joined_copies : Circuit
joined_copies = record { labels = 10 ∷ 20 ∷ 10 ∷ 20 ∷ []; starts = 0 ∷ 0 ∷ 2 ∷ 3 ∷ []; ends = 1 ∷ 2 ∷ 3 ∷ 0 ∷ [] }
