-- Document 01's examples of places, by computation. Assumes nothing.
use Rattle.std.specs.Prelude.{◌≡◌, ◌∷◌, ◌<◌}
use Rattle.base_lists.specs.Kit.{refl, List, [], ℕ, suc, zero, T, arith}
use Rattle.base_lists.specs.List.{any_below, maximum}
use Rattle.base_lists.specs.Below.{keep_from}
use Rattle.graph.specs.Circuit.{Circuit}
use Rattle.graph.specs.Search.{beside, ball, misses, distances, radius}
use Rattle.table.specs.Row.{started, kept, rounds}
use Rattle.table.specs.Examples.{row_computed, circuit_t, circuit_b, two_way, ring, any_to20}
use Rattle.place.specs.Match.{radius_of, ball_of, distances_of, ball_table, found, matches, link_matches, match_starts, match_ends, component, place_nodes, place_links}
use Rattle.place.specs.Examples.{circuit_y, circuit_one_link, any_part}

-- all that is opened where a place is computed
opened : Unit {0}
unfolding row_computed any_below maximum beside ball misses distances radius radius_of ball_of ball_table found matches keep_from link_matches match_starts match_ends component place_nodes place_links
opened = tt

-- there is a place around w at radius r, with these bytes for its nodes and its links
abbrev pub Shows : Circuit → Circuit → ℕ → ℕ → List ℕ → List ℕ → Type 0
Shows pattern board w r nodes links = T (found pattern board w r) × (place_nodes pattern board w r ≡ nodes) × (place_links pattern board w r ≡ links)

-- ---- the radii of the patterns

pub radius-T : radius_of circuit_t ≡ 2
unfolding opened circuit_t
radius-T = refl

pub radius-two_way : radius_of two_way ≡ 1
unfolding opened two_way
radius-two_way = refl

pub radius-Y : radius_of circuit_y ≡ 2
unfolding opened circuit_y
radius-Y = refl

pub radius-one_link : radius_of circuit_one_link ≡ 1
unfolding opened circuit_one_link
radius-one_link = refl

-- ---- "E3 T on B at 0, 1 and 2: nodes 0, 1, 2 and both their links."

pub E3-0 : Shows circuit_t circuit_b 0 2 (1 ∷ 1 ∷ 1 ∷ 0 ∷ 0 ∷ 0 ∷ []) (1 ∷ 1 ∷ 0 ∷ [])
unfolding opened circuit_t circuit_b
E3-0 = (tt, refl, refl)

pub E3-1 : Shows circuit_t circuit_b 1 2 (1 ∷ 1 ∷ 1 ∷ 0 ∷ 0 ∷ 0 ∷ []) (1 ∷ 1 ∷ 0 ∷ [])
unfolding opened circuit_t circuit_b
E3-1 = (tt, refl, refl)

pub E3-2 : Shows circuit_t circuit_b 2 2 (1 ∷ 1 ∷ 1 ∷ 0 ∷ 0 ∷ 0 ∷ []) (1 ∷ 1 ∷ 0 ∷ [])
unfolding opened circuit_t circuit_b
E3-2 = (tt, refl, refl)

-- ---- "E4 T on B at 3: 9, started 2, kept 0, rounds 2."

pub E4-none : T (found circuit_t circuit_b 3 2) → ⊥
unfolding opened circuit_t circuit_b
E4-none t = t

pub E4-started : started circuit_t circuit_b (ball_of circuit_b 3 2) ≡ 2
unfolding opened circuit_t circuit_b
E4-started = refl

pub E4-kept : kept circuit_t circuit_b (ball_of circuit_b 3 2) ≡ 0
unfolding opened circuit_t circuit_b
E4-kept = refl

pub E4-rounds : rounds circuit_t circuit_b (ball_of circuit_b 3 2) ≡ 2
unfolding opened circuit_t circuit_b
E4-rounds = refl

-- ---- "E5 Pattern 0:10, 1:20, links 0-1, 1-0, on the ring ..: table 1, 2, 1, 2, yet 9 at each centre."

pub E5-0 : T (found two_way ring 0 1) → ⊥
unfolding opened two_way ring
E5-0 t = t

pub E5-1 : T (found two_way ring 1 1) → ⊥
unfolding opened two_way ring
E5-1 t = t

pub E5-2 : T (found two_way ring 2 1) → ⊥
unfolding opened two_way ring
E5-2 t = t

pub E5-3 : T (found two_way ring 3 1) → ⊥
unfolding opened two_way ring
E5-3 t = t

-- ---- "E7 Y on itself at 1, radius 2: nodes 0, 1, 2. The merged pattern at radius 1 would give 0, 1."

pub E7-Y : Shows circuit_y circuit_y 1 2 (1 ∷ 1 ∷ 1 ∷ []) (1 ∷ 1 ∷ [])
unfolding opened circuit_y
E7-Y = (tt, refl, refl)

pub E7-merged : Shows circuit_one_link circuit_y 1 1 (1 ∷ 1 ∷ 0 ∷ []) (1 ∷ 0 ∷ [])
unfolding opened circuit_one_link circuit_y
E7-merged = (tt, refl, refl)

-- at Y's radius it gives what Y gives
pub E7-given : Shows circuit_one_link circuit_y 1 2 (1 ∷ 1 ∷ 1 ∷ []) (1 ∷ 1 ∷ [])
unfolding opened circuit_one_link circuit_y
E7-given = (tt, refl, refl)

-- ---- "E9 Pattern 0:10, 1:20, link 0-1, on a board that also has 1-0: nodes 0, 1, link 0-1 only."

pub E9-0 : Shows circuit_one_link two_way 0 1 (1 ∷ 1 ∷ []) (1 ∷ 0 ∷ [])
unfolding opened circuit_one_link two_way
E9-0 = (tt, refl, refl)

pub E9-1 : Shows circuit_one_link two_way 1 1 (1 ∷ 1 ∷ []) (1 ∷ 0 ∷ [])
unfolding opened circuit_one_link two_way
E9-1 = (tt, refl, refl)

-- ---- kind 0

pub radius-any_to20 : radius_of any_to20 ≡ 1
unfolding opened any_to20
radius-any_to20 = refl

pub radius-any_part : radius_of any_part ≡ 0
unfolding opened any_part
radius-any_part = refl

-- a node of kind 0 is matched by a part of kind 0,
pub zero-taken : Shows any_to20 any_to20 0 1 (1 ∷ 1 ∷ []) (1 ∷ [])
unfolding opened any_to20
zero-taken = (tt, refl, refl)

-- and by no part of another kind
pub zero-left-0 : T (found circuit_one_link any_to20 0 1) → ⊥
unfolding opened circuit_one_link any_to20
zero-left-0 t = t

pub zero-left-1 : T (found circuit_one_link any_to20 1 1) → ⊥
unfolding opened circuit_one_link any_to20
zero-left-1 t = t

-- one part of kind 0 has a place around every node
pub any-around : (w : ℕ) → w < 6 → T (found any_part circuit_b w 0)
unfolding opened any_part circuit_b
any-around zero h = tt
any-around (suc zero) h = tt
any-around (suc (suc zero)) h = tt
any-around (suc (suc (suc zero))) h = tt
any-around (suc (suc (suc (suc zero)))) h = tt
any-around (suc (suc (suc (suc (suc zero))))) h = tt
any-around (suc (suc (suc (suc (suc (suc w)))))) h = let none : ⊥ = omega arith in absurd none

-- ---- distances in a ball: node 2 of B is in the ball around 0 at radius 2, and not in the place

pub probed-place : place_nodes circuit_one_link circuit_b 0 2 ≡ 1 ∷ 1 ∷ 0 ∷ 0 ∷ 0 ∷ 0 ∷ []
unfolding opened circuit_one_link circuit_b
probed-place = refl

pub probed-near : distances_of circuit_b 0 2 ≡ 0 ∷ 1 ∷ 2 ∷ 65535 ∷ 65535 ∷ 65535 ∷ []
unfolding opened distances_of circuit_b
probed-near = refl

pub probed-nearer : distances_of circuit_b 0 1 ≡ 0 ∷ 1 ∷ 65535 ∷ 65535 ∷ 65535 ∷ 65535 ∷ []
unfolding opened distances_of circuit_b
probed-nearer = refl
