-- Examples of the least that still says none, by computation. Assumes nothing.
use Rattle.std.specs.Prelude.{◌≡◌, ◌∷◌}
use Rattle.base_lists.specs.Kit.{refl, List, [], ℕ}
use Rattle.base_lists.specs.List.{maximum}
use Rattle.base_lists.specs.Below.{keep_from}
use Rattle.graph.specs.Chosen.{picked, chosen}
use Rattle.graph.specs.Circuit.{Circuit}
use Rattle.graph.specs.Search.{beside, ball, misses, distances, radius}
use Rattle.table.specs.Examples.{row_computed, answer_computed, circuit_t, circuit_b}
use Rattle.place.specs.Examples.{circuit_one_link}
use Rattle.place.specs.Match.{radius_of, ball_of, ball_table, found}
use Rattle.barring.specs.Least.{bars, drop_from, least, kept_count}

-- all that is opened where the kept links are computed, and the rule that every part has to occur, by which they would be others
opened : Unit {0}
unfolding row_computed answer_computed maximum beside ball misses distances radius radius_of ball_of ball_table found keep_from picked chosen bars drop_from least kept_count
opened = tt

-- around w, at the pattern's radius, these links are kept, so many
abbrev pub Keeps : Circuit → Circuit → ℕ → List ℕ → ℕ → Type 0
Keeps pattern board w marks k = (least pattern board w (radius_of pattern) ≡ marks) × (kept_count (least pattern board w (radius_of pattern)) ≡ k)

-- T on B around 3, which gives 9 (E4): node 3 has no driver, so that the link 0-1 bars by itself, and 1-2 is dropped.
pub T-B-3 : Keeps circuit_t circuit_b 3 (1 ∷ 0 ∷ []) 1
unfolding opened circuit_t circuit_b
T-B-3 = (refl, refl)

-- T on the board 0:10, 1:20, link 0-1, around 0: the walk breaks off at its second link, and each link of the pattern is needed to say so.
pub every-link : Keeps circuit_t circuit_one_link 0 (1 ∷ 1 ∷ []) 2
unfolding opened circuit_t circuit_one_link
every-link = (refl, refl)

-- a board of one node, of kind 40
unfoldable pub stranger : Circuit
stranger = record { labels = 40 ∷ []; starts = []; ends = [] }

-- T around a centre whose kind no part has: the empty set bars, nothing is kept, and the reply is 0.
pub no-link : Keeps circuit_t stranger 0 (0 ∷ 0 ∷ []) 0
unfolding opened circuit_t stranger
no-link = (refl, refl)

-- a board of one node, of kind 20
unfoldable pub one_node : Circuit
one_node = record { labels = 20 ∷ []; starts = []; ends = [] }

-- T around it: either link bars by itself, and of the two the one that comes first in the file is dropped.
pub either-link : Keeps circuit_t one_node 0 (0 ∷ 1 ∷ []) 1
unfolding opened circuit_t one_node
either-link = (refl, refl)

-- a ring of three parts of one kind, whose radius is 1, and a board on which the centre 1 has at its end a node that drives itself
unfoldable pub ring : Circuit
ring = record { labels = 10 ∷ 10 ∷ 10 ∷ []; starts = 0 ∷ 1 ∷ 2 ∷ []; ends = 1 ∷ 2 ∷ 0 ∷ [] }

unfoldable pub branch : Circuit
branch = record { labels = 10 ∷ 10 ∷ 10 ∷ 10 ∷ []; starts = 2 ∷ 2 ∷ 3 ∷ []; ends = 2 ∷ 3 ∷ 1 ∷ [] }

-- In the ball at the ring's radius, the nodes 1 and 3, two of its links bar. Without the first link the radius would be 2, and the ball would have the
-- node that drives itself: it is the full pattern's radius that counts.
pub own-radius : Keeps ring branch 1 (0 ∷ 1 ∷ 1 ∷ []) 2
unfolding opened ring branch
own-radius = (refl, refl)
