-- `base_bits::union_of` meets its contract. The loop's invariant: the union so far, with the masks of the parts that are left, is the whole union,
-- and what is left is at most the set. The measure is what is left, as a number. Assumes nothing.
use Rattle.std.specs.Prelude.{◌≡◌}
use Rattle.base_lists.specs.Kit.{◌∙◌, sym, ap, refl, length, arith}
use lib.Bits.{bit_or, or_zero_r}
use Rattle.base_bits.specs.Bits.{union_over}
use Rattle.base_bits.proofs.Members.{trailing_lt, trailing_below, and-pred-lt}
use Rattle.base_bits.proofs.Unions.{union_over-none, union_over-turn}
use Rattle.base_bits.proofs.union_of.Goals as goal

pub loop-left-init : goal.loop-left-init
loop-left-init c = (omega arith, refl)

pub overflow_cast-union : goal.overflow_cast-union
overflow_cast-union c = omega (arith, trailing_lt 32 c.loop-left.left (omega arith) (omega arith))

pub offset_bounds-masks-left : goal.offset_bounds-masks-left
offset_bounds-masks-left c = omega (arith, trailing_lt 32 c.loop-left.left (omega arith) (omega arith))

pub bounds-masks-left : goal.bounds-masks-left
bounds-masks-left c =
    trailing_below 32 c.loop-left.left (omega arith) (omega arith) (length c.args.masks.now) (omega arith)

pub overflow_sub-left : goal.overflow_sub-left
overflow_sub-left c = omega arith

pub loop-left-smaller : goal.loop-left-smaller
loop-left-smaller c = and-pred-lt c.loop-left.left (omega arith)

pub loop-left-preserved : goal.loop-left-preserved
loop-left-preserved c = (
  omega (arith, and-pred-lt c.loop-left.left (omega arith)),
  union_over-turn c.args.masks.now c.loop-left.union c.loop-left.left (omega arith) (omega arith)
      ∙ c.loop-left.invariant.1,
)

pub returns : goal.returns
returns c =
    let none : c.loop-left.left ≡ 0 = omega arith in
    sym (or_zero_r c.loop-left.union) ∙ ap (bit_or c.loop-left.union) (sym (ap (union_over c.args.masks.now) none ∙ union_over-none c.args.masks.now)) ∙ c.loop-left.invariant.1
