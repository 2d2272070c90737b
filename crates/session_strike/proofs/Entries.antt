-- Laws of entries read with a default, of unions over them and of lists of nodes that are marked. Assumes nothing.
use Rattle.std.specs.Prelude.{◌≡◌, ◌∷◌, ◌≤◌, ◌<◌, ◌+◌}
use Rattle.base_lists.specs.Kit.{◌∙◌, sym, ap, refl, List, [], ℕ, add-one, length, get_or, drop, drop_of_length-le, drop-cons}
use lib.Bits.{bit_or, or_zero_r}
use Rattle.base_bits.specs.Bits.{union_at}
use Rattle.base_bits.proofs.Tests.{bit_or-assoc}
use Rattle.graph.specs.Net.{forward_offsets, backward_offsets, forward_targets, backward_targets, driven, driving}
use Rattle.graph.specs.Search.{far}
use Rattle.graph_neighbours.specs.Lookup.{neighbours_of, neighbours_in}
use Rattle.graph_neighbours.specs.declared.neighbours.Direction.{Direction}
use Rattle.graph_neighbours.specs.declared.neighbours.Direction.TheVariants.{Forward, Backward}
use Rattle.session_strike.specs.Moves.{beyond, mark_one, mark_all}

-- the stretches of the halves of two lists are those of the lists
pub halves-neighbours : (direction : Direction) (offsets links : List ℕ) (v : ℕ)
    → neighbours_of direction (forward_offsets offsets) (forward_targets links) (backward_offsets offsets) (backward_targets links) v ≡ neighbours_in direction offsets links v
unfolding neighbours_in driven driving
halves-neighbours Forward offsets links v = refl
halves-neighbours Backward offsets links v = refl

-- ---- one turn of the loops over the links of a node

pub beyond-next : (ends numbers : List ℕ) (j : ℕ) → j < length numbers
    → beyond ends (drop j numbers) ≡ get_or ends (get_or numbers j 0) far ∷ beyond ends (drop (j + 1) numbers)
unfolding beyond
beyond-next ends numbers j h = rw (add-one, drop-cons numbers j 0)

pub beyond-end : (ends numbers : List ℕ) (j : ℕ) → length numbers ≤ j → beyond ends (drop j numbers) ≡ []
unfolding beyond
beyond-end ends numbers j h = rw (drop_of_length-le numbers h)

pub union-next : (sets ends numbers : List ℕ) (union j : ℕ) → j < length numbers
    → bit_or (bit_or union (get_or sets (get_or ends (get_or numbers j 0) far) 0)) (union_at sets (beyond ends (drop (j + 1) numbers)))
    ≡ bit_or union (union_at sets (beyond ends (drop j numbers)))
unfolding union_at
union-next sets ends numbers union j h =
    bit_or-assoc union (get_or sets (get_or ends (get_or numbers j 0) far) 0) (union_at sets (beyond ends (drop (j + 1) numbers)))
    ∙ ap (λ (l : List ℕ). bit_or union (union_at sets l)) (sym (beyond-next ends numbers j h))

pub union-end : (sets ends numbers : List ℕ) (union j : ℕ) → length numbers ≤ j → bit_or union (union_at sets (beyond ends (drop j numbers))) ≡ union
unfolding union_at
union-end sets ends numbers union j h = rw (beyond-end ends numbers j h) (or_zero_r union)

pub marks-next : (n : ℕ) (ends numbers marks : List ℕ) (j : ℕ) → j < length numbers
    → mark_all n (mark_one n marks (get_or ends (get_or numbers j 0) far)) (beyond ends (drop (j + 1) numbers)) ≡ mark_all n marks (beyond ends (drop j numbers))
unfolding mark_all
marks-next n ends numbers marks j h = ap (mark_all n marks) (sym (beyond-next ends numbers j h))

pub marks-end : (n : ℕ) (ends numbers marks : List ℕ) (j : ℕ) → length numbers ≤ j → mark_all n marks (beyond ends (drop j numbers)) ≡ marks
unfolding mark_all
marks-end n ends numbers marks j h = rw (beyond-end ends numbers j h)
