-- Document 01's examples of the match table, by computation. Assumes nothing.
use Rattle.std.specs.Prelude.{◌≡◌, ◌∷◌}
use Rattle.base_lists.specs.Kit.{refl, []}
use Rattle.table.specs.Answer.{answer_by, answer_counts_by, answer_table, answer_counts}
use Rattle.table.specs.Host.{everything}
use Rattle.table.specs.Row.{one_way, last_by, started, last_table, kept, struck, rounds}
use Rattle.table.specs.Examples.{row_computed, answer_computed, circuit_t, circuit_b, two_way, ring, any_to20, two_t, both_bits, one_bit, lone_t, tail_t}

-- "E2 T on all of B: table 1, 2, 4, 0, 0, 0; started 6, kept 3, struck 3, rounds 2."
pub E2-table : last_table circuit_t circuit_b (everything circuit_b) ≡ 1 ∷ 2 ∷ 4 ∷ 0 ∷ 0 ∷ 0 ∷ []
unfolding row_computed circuit_t circuit_b
E2-table = refl

pub E2-started : started circuit_t circuit_b (everything circuit_b) ≡ 6
unfolding row_computed circuit_t circuit_b
E2-started = refl

pub E2-kept : kept circuit_t circuit_b (everything circuit_b) ≡ 3
unfolding row_computed circuit_t circuit_b
E2-kept = refl

pub E2-struck : struck circuit_t circuit_b (everything circuit_b) ≡ 3
unfolding row_computed circuit_t circuit_b
E2-struck = refl

pub E2-rounds : rounds circuit_t circuit_b (everything circuit_b) ≡ 2
unfolding row_computed circuit_t circuit_b
E2-rounds = refl

-- "E4 T on B at 3: .. started 2, kept 0, rounds 2." The ball around 3 holds the nodes 3 and 4.
pub E4-started : started circuit_t circuit_b (0 ∷ 0 ∷ 0 ∷ 1 ∷ 1 ∷ 0 ∷ []) ≡ 2
unfolding row_computed circuit_t circuit_b
E4-started = refl

pub E4-kept : kept circuit_t circuit_b (0 ∷ 0 ∷ 0 ∷ 1 ∷ 1 ∷ 0 ∷ []) ≡ 0
unfolding row_computed circuit_t circuit_b
E4-kept = refl

pub E4-rounds : rounds circuit_t circuit_b (0 ∷ 0 ∷ 0 ∷ 1 ∷ 1 ∷ 0 ∷ []) ≡ 2
unfolding row_computed circuit_t circuit_b
E4-rounds = refl

-- "E5 Pattern 0:10, 1:20, links 0-1, 1-0, on the ring ..: table 1, 2, 1, 2"
pub E5-table : last_table two_way ring (everything ring) ≡ 1 ∷ 2 ∷ 1 ∷ 2 ∷ []
unfolding row_computed two_way ring
E5-table = refl

-- a part of kind 0 on B: every node is a pair of it at first
pub any-table : last_table any_to20 circuit_b (everything circuit_b) ≡ 1 ∷ 2 ∷ 0 ∷ 0 ∷ 0 ∷ 0 ∷ []
unfolding row_computed any_to20 circuit_b
any-table = refl

pub any-started : started any_to20 circuit_b (everything circuit_b) ≡ 8
unfolding row_computed any_to20 circuit_b
any-started = refl

pub any-kept : kept any_to20 circuit_b (everything circuit_b) ≡ 2
unfolding row_computed any_to20 circuit_b
any-kept = refl

pub any-rounds : rounds any_to20 circuit_b (everything circuit_b) ≡ 1
unfolding row_computed any_to20 circuit_b
any-rounds = refl

-- ---- patterns in several bits

-- on a board that has both bits the table is as for each alone
pub both-bits-table : answer_table two_t both_bits (everything both_bits) ≡ 1 ∷ 2 ∷ 4 ∷ 0 ∷ 0 ∷ 0 ∷ 8 ∷ 16 ∷ 32 ∷ []
unfolding row_computed answer_computed two_t both_bits
both-bits-table = refl

pub both-bits-counts : answer_counts two_t both_bits (everything both_bits) ≡ record { started = 9; kept = 6; struck = 3; rounds = 2 }
unfolding row_computed answer_computed two_t both_bits
both-bits-counts = refl

-- on one that has the first only the row leaves that bit, and the table is all 0: "kept is 0, struck equals started, and rounds count as before"
pub one-bit-row : last_table two_t one_bit (everything one_bit) ≡ 1 ∷ 2 ∷ 4 ∷ 0 ∷ 0 ∷ 0 ∷ 0 ∷ 0 ∷ []
unfolding row_computed two_t one_bit
one-bit-row = refl

pub one-bit-table : answer_table two_t one_bit (everything one_bit) ≡ 0 ∷ 0 ∷ 0 ∷ 0 ∷ 0 ∷ 0 ∷ 0 ∷ 0 ∷ []
unfolding row_computed answer_computed two_t one_bit
one-bit-table = refl

pub one-bit-counts : answer_counts two_t one_bit (everything one_bit) ≡ record { started = 8; kept = 0; struck = 8; rounds = 2 }
unfolding row_computed answer_computed two_t one_bit
one-bit-counts = refl

-- a part without links, of a kind that no node has, is left without a node too
pub lone-table : answer_table lone_t circuit_b (everything circuit_b) ≡ 0 ∷ 0 ∷ 0 ∷ 0 ∷ 0 ∷ 0 ∷ []
unfolding row_computed answer_computed lone_t circuit_b
lone-table = refl

pub lone-counts : answer_counts lone_t circuit_b (everything circuit_b) ≡ record { started = 6; kept = 0; struck = 6; rounds = 2 }
unfolding row_computed answer_computed lone_t circuit_b
lone-counts = refl

-- ---- one way

-- T on B: nodes 3 and 4 stay, where nothing drives node 3; node 5 goes, which drives nothing. The two-way table is E2's.
pub one-way-table : answer_by one_way circuit_t circuit_b (everything circuit_b) ≡ 1 ∷ 2 ∷ 4 ∷ 2 ∷ 4 ∷ 0 ∷ []
unfolding row_computed answer_computed circuit_t circuit_b
one-way-table = refl

pub one-way-counts : answer_counts_by one_way circuit_t circuit_b (everything circuit_b) ≡ record { started = 6; kept = 5; struck = 1; rounds = 1 }
unfolding row_computed answer_computed circuit_t circuit_b
one-way-counts = refl

-- T, which is connected, where its first part has no node: one way the row leaves the others their nodes, and the table is all 0
pub tail-row : last_by one_way circuit_t tail_t (everything tail_t) ≡ 2 ∷ 4 ∷ []
unfolding row_computed circuit_t tail_t
tail-row = refl

pub tail-table : answer_by one_way circuit_t tail_t (everything tail_t) ≡ 0 ∷ 0 ∷ []
unfolding row_computed answer_computed circuit_t tail_t
tail-table = refl

pub tail-counts : answer_counts_by one_way circuit_t tail_t (everything tail_t) ≡ record { started = 2; kept = 0; struck = 2; rounds = 0 }
unfolding row_computed answer_computed circuit_t tail_t
tail-counts = refl
