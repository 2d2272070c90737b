-- `base_bits::union_at` meets its contract. The loop's invariant: the union so far, with the sets of the numbers that are left, is the whole
-- union. Assumes nothing.
use Rattle.std.specs.Prelude.{◌≡◌, ◌<◌, ◌≤◌, ◌+◌}
use Rattle.base_lists.specs.Kit.{◌∙◌, sym, List, ℕ, add-one, length, get_or, drop, drop_of_length-le, drop-cons, arith}
use lib.Bits.{bit_or, or_zero_l, or_zero_r}
use Rattle.base_bits.specs.Bits.{union_at}
use Rattle.base_bits.proofs.Tests.{bit_or-assoc}
use Rattle.base_lists.specs.List.{Below}
use Rattle.base_bits.proofs.union_at.Goals as goal

union-next : (sets numbers : List ℕ) (union i : ℕ) → i < length numbers
    → bit_or (bit_or union (get_or sets (get_or numbers i 0) 0)) (union_at sets (drop (i + 1) numbers)) ≡ bit_or union (union_at sets (drop i numbers))
unfolding union_at
union-next sets numbers union i h =
    bit_or-assoc union (get_or sets (get_or numbers i 0) 0) (union_at sets (drop (i + 1) numbers)) ∙ rw (add-one, drop-cons numbers i 0)

union-end : (sets numbers : List ℕ) (union i : ℕ) → length numbers ≤ i → bit_or union (union_at sets (drop i numbers)) ≡ union
unfolding union_at
union-end sets numbers union i h = rw (drop_of_length-le numbers h) (or_zero_r union)

pub loop-w-init : goal.loop-w-init
loop-w-init c = or_zero_l (union_at c.args.sets.now c.args.numbers.now)

pub bounds-sets-w : goal.bounds-sets-w
unfolding Below
bounds-sets-w c = c.requires c.loop-w.w-index (omega arith)

pub loop-w-preserved : goal.loop-w-preserved
loop-w-preserved c =
    union-next c.args.sets.now c.args.numbers.now c.loop-w.union c.loop-w.w-index (omega arith) ∙ c.loop-w.invariant

pub returns : goal.returns
returns c = sym (union-end c.args.sets.now c.args.numbers.now c.loop-w.union c.loop-w.w-index (omega arith)) ∙ c.loop-w.invariant
