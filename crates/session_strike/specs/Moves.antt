-- The links of a board as a session keeps them, so that one can be taken out: by their numbers. One list has for each node the numbers of the
-- links that start there, and then for each those of the links that end there, with offsets as neighbour tables have them (graph/specs/Net);
-- another has each link's end, and then each one's start. A link that is out has neither: its two entries are no node's number.
use Rattle.std.specs.Prelude.{◌≡◌, ◌∷◌, ◌+◌, ◌*◌, ◌^◌, ◌/◌, ◌%◌}
use Rattle.base_lists.specs.Kit.{Bool, cond, not, List, [], ℕ, suc, zero, eqb, ltb, length, get_or, set, replicate}
use Rattle.std.specs.Int.Bits.{bit_or}
use Rattle.base_lists.specs.Below.{least_below}
use Rattle.base_bits.specs.Bits.{bit, first_of, without_first, union_at}
use Rattle.graph.specs.Net.{forward_targets, backward_targets, driven, driving}
use Rattle.graph.specs.Search.{far}
use Rattle.simulation.specs.Simulation.{Direction, forwards, backwards}
use Rattle.table.specs.Prepared.{succ_of, pred_of}
use Rattle.table.specs.Row.{pairs}
use Rattle.table_strike.specs.Strike.{survivors}

-- the lists have their room
pub record MovesRoom (masks offsets numbers ends : List ℕ) : Type 0 where
  pub in_masks : length masks ≡ 64
  pub in_offsets : length offsets ≡ 1026
  pub in_numbers : length numbers ≡ 8192
  pub in_ends : length ends ≡ 8192

-- the other ends of the links of these numbers
unfoldable pub beyond : List ℕ → List ℕ → List ℕ
beyond ends [] = []
beyond ends (i ∷ is) = get_or ends i far ∷ beyond ends is

-- what node v drives, and what drives it
unfoldable pub moves_in : List ℕ → List ℕ → List ℕ → Direction → ℕ → List ℕ
moves_in offsets numbers ends forwards v = beyond (forward_targets ends) (driven offsets numbers v)
moves_in offsets numbers ends backwards v = beyond (backward_targets ends) (driving offsets numbers v)

-- ---- one node

-- the next set of node v: those of its parts whose links all have partners
unfoldable pub next_set_at : List ℕ → (Direction → ℕ → List ℕ) → List ℕ → ℕ → ℕ
next_set_at masks moves old v =
    survivors (succ_of masks) (pred_of masks) (union_at old (moves forwards v)) (union_at old (moves backwards v)) (get_or old v 0)

-- ---- marks: a bit per node, 32 to a number

unfoldable pub node_marked : List ℕ → ℕ → Bool
node_marked marks v = bit (get_or marks (v / 32) 0) (v % 32)

-- the marks with node v's
unfoldable pub mark : List ℕ → ℕ → List ℕ
mark marks v = set marks (v / 32) (bit_or (get_or marks (v / 32) 0) (2 ^ (v % 32)))

-- where it is one of n nodes,
unfoldable pub mark_one : ℕ → List ℕ → ℕ → List ℕ
mark_one n marks w = cond (ltb w n) (mark marks w) marks

-- and with those of the nodes of a list
unfoldable pub mark_all : ℕ → List ℕ → List ℕ → List ℕ
mark_all n marks [] = marks
mark_all n marks (w ∷ ws) = mark_all n (mark_one n marks w) ws

-- and with those of the nodes beside node v
unfoldable pub mark_beside : ℕ → (Direction → ℕ → List ℕ) → List ℕ → ℕ → List ℕ
mark_beside n moves marks v = mark_all n (mark_all n marks (moves forwards v)) (moves backwards v)

-- two of n nodes marked, and no other
unfoldable pub mark_both : ℕ → ℕ → ℕ → List ℕ
mark_both n x y = mark_one n (mark_one n (replicate 16 0) x) y

-- the first node that word j marks, and the marks without it
unfoldable pub node_at : List ℕ → ℕ → ℕ
node_at marks j = 32 * j + first_of (get_or marks j 0)

unfoldable pub unmark : List ℕ → ℕ → List ℕ
unmark marks j = set marks j (without_first (get_or marks j 0))

-- ---- a look at one node: its next set is written, and where that is another set, the nodes beside it are marked

unfoldable pub look_sets : List ℕ → (Direction → ℕ → List ℕ) → List ℕ → ℕ → List ℕ
look_sets masks moves old v = set old v (next_set_at masks moves old v)

unfoldable pub look_marks : List ℕ → (Direction → ℕ → List ℕ) → List ℕ → List ℕ → ℕ → List ℕ
look_marks masks moves old marks v =
    cond (eqb (next_set_at masks moves old v) (get_or old v 0)) marks (mark_beside (length old) moves marks v)

-- ---- going on until no node is marked

-- the first word that marks a node, or how many words there are
abbrev pub first_word : List ℕ → ℕ
first_word marks = least_below (length marks) (λ j. not (eqb (get_or marks j 0) 0))

-- So many looks at most, each at the first node that is marked, whose mark is taken away: the sets after them.
unfoldable pub look_on : List ℕ → (Direction → ℕ → List ℕ) → ℕ → List ℕ → List ℕ → List ℕ
look_on masks moves zero sets marks = sets
look_on masks moves (suc k) sets marks =
    let j = first_word marks in
    let v = node_at marks j in
    cond (ltb j 16) (look_on masks moves k (look_sets masks moves sets v) (look_marks masks moves sets (unmark marks j) v)) sets

-- More looks than this are never needed: a look takes a mark away, and it may mark up to 512 nodes where it takes a part away.
abbrev pub left : List ℕ → List ℕ → ℕ
left sets marks = pairs sets * 513 + pairs marks

-- the sets when no node is marked any more
unfoldable pub settled : List ℕ → (Direction → ℕ → List ℕ) → List ℕ → List ℕ → List ℕ
settled masks moves sets marks = look_on masks moves (left sets marks) sets marks

-- and where none but the nodes x and y are marked at first
unfoldable pub settled_from : List ℕ → (Direction → ℕ → List ℕ) → List ℕ → ℕ → ℕ → List ℕ
settled_from masks moves sets x y = settled masks moves sets (mark_both (length sets) x y)
