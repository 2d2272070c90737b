-- Proposals near the truth, by computation: each at the pattern's radius, unless another is named. Assumes nothing.
use Rattle.std.specs.Prelude.{◌∷◌}
use Rattle.base_lists.specs.Kit.{List, [], ℕ, T}
use Rattle.graph.specs.Circuit.{Circuit}
use Rattle.table.specs.Examples.{circuit_t, circuit_b, two_way, ring}
use Rattle.place.specs.Examples.{circuit_y, circuit_one_link}
use Rattle.proposal.specs.Check.{checks}
use Rattle.proposal.specs.Examples.{check_computed, joined_copies}

abbrev pub Yes : Circuit → Circuit → ℕ → ℕ → List ℕ → List ℕ → Type 0
Yes pattern board w r nodes links = T (checks pattern board w r nodes links)

abbrev pub No : Circuit → Circuit → ℕ → ℕ → List ℕ → List ℕ → Type 0
No pattern board w r nodes links = T (checks pattern board w r nodes links) → ⊥

-- ---- two copies of the pattern that share the centre: the link 10 to 20 on Y, around 0

pub first-copy : Yes circuit_one_link circuit_y 0 1 (1 ∷ 1 ∷ 0 ∷ []) (1 ∷ 0 ∷ [])
unfolding check_computed circuit_one_link circuit_y
first-copy = tt

pub second-copy : Yes circuit_one_link circuit_y 0 1 (1 ∷ 0 ∷ 1 ∷ []) (0 ∷ 1 ∷ [])
unfolding check_computed circuit_one_link circuit_y
second-copy = tt

pub both-copies : Yes circuit_one_link circuit_y 0 1 (1 ∷ 1 ∷ 1 ∷ []) (1 ∷ 1 ∷ [])
unfolding check_computed circuit_one_link circuit_y
both-copies = tt

-- ---- bytes

-- a byte other than 0 and 1
pub byte-2 : No circuit_one_link circuit_y 0 1 (2 ∷ 1 ∷ 0 ∷ []) (1 ∷ 0 ∷ [])
unfolding check_computed circuit_one_link circuit_y
byte-2 t = t

pub unused-2 : No circuit_one_link circuit_y 0 1 (1 ∷ 1 ∷ 2 ∷ []) (1 ∷ 0 ∷ [])
unfolding check_computed circuit_one_link circuit_y
unused-2 t = t

pub link-2 : No circuit_one_link circuit_y 0 1 (1 ∷ 1 ∷ 0 ∷ []) (1 ∷ 2 ∷ [])
unfolding check_computed circuit_one_link circuit_y
link-2 t = t

-- a link whose ends are not both marked
pub open-link : No circuit_one_link circuit_y 0 1 (1 ∷ 1 ∷ 0 ∷ []) (1 ∷ 1 ∷ [])
unfolding check_computed circuit_one_link circuit_y
open-link t = t

-- nothing marked
pub nothing : No circuit_one_link circuit_y 0 1 (0 ∷ 0 ∷ 0 ∷ []) (0 ∷ 0 ∷ [])
unfolding check_computed circuit_one_link circuit_y
nothing t = t

-- ---- links

-- one left out
pub link-missing : No circuit_one_link circuit_y 0 1 (1 ∷ 1 ∷ 1 ∷ []) (1 ∷ 0 ∷ [])
unfolding check_computed circuit_one_link circuit_y
link-missing t = t

-- one too many: on E9's board the link 1-0 matches nothing
pub link-alone : Yes circuit_one_link two_way 0 1 (1 ∷ 1 ∷ []) (1 ∷ 0 ∷ [])
unfolding check_computed circuit_one_link two_way
link-alone = tt

pub link-unmatched : No circuit_one_link two_way 0 1 (1 ∷ 1 ∷ []) (1 ∷ 1 ∷ [])
unfolding check_computed circuit_one_link two_way
link-unmatched t = t

-- ---- the centre: T on B, whose place is around 0, 1 and 2

pub T-at-2 : Yes circuit_t circuit_b 2 2 (1 ∷ 1 ∷ 1 ∷ 0 ∷ 0 ∷ 0 ∷ []) (1 ∷ 1 ∷ 0 ∷ [])
unfolding check_computed circuit_t circuit_b
T-at-2 = tt

pub T-at-3 : No circuit_t circuit_b 3 2 (1 ∷ 1 ∷ 1 ∷ 0 ∷ 0 ∷ 0 ∷ []) (1 ∷ 1 ∷ 0 ∷ [])
unfolding check_computed circuit_t circuit_b
T-at-3 t = t

-- ---- connected by its own links, and not by the board's

pub one_of_two : Yes circuit_one_link joined_copies 0 1 (1 ∷ 1 ∷ 0 ∷ 0 ∷ []) (1 ∷ 0 ∷ 0 ∷ 0 ∷ [])
unfolding check_computed circuit_one_link joined_copies
one_of_two = tt

pub two-apart : No circuit_one_link joined_copies 0 1 (1 ∷ 1 ∷ 1 ∷ 1 ∷ []) (1 ∷ 0 ∷ 1 ∷ 0 ∷ [])
unfolding check_computed circuit_one_link joined_copies
two-apart t = t

-- ---- E5's ring: it is perfect as it stands, and no ball of the pattern's radius has it whole

pub ring-at-1 : No two_way ring 0 1 (1 ∷ 1 ∷ 1 ∷ 1 ∷ []) (1 ∷ 1 ∷ 1 ∷ 1 ∷ [])
unfolding check_computed two_way ring
ring-at-1 t = t

pub ring-at-2 : Yes two_way ring 0 2 (1 ∷ 1 ∷ 1 ∷ 1 ∷ []) (1 ∷ 1 ∷ 1 ∷ 1 ∷ [])
unfolding check_computed two_way ring
ring-at-2 = tt

-- what the ball has of it is not perfect, though the whole board's table has all its pairs
pub ring_cut : No two_way ring 0 1 (1 ∷ 1 ∷ 0 ∷ 1 ∷ []) (1 ∷ 0 ∷ 0 ∷ 1 ∷ [])
unfolding check_computed two_way ring
ring_cut t = t
