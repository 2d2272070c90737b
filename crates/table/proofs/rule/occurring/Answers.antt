-- `table::rule::occurring` meets its contract: the union so far, with the sets that are left, is the whole union. Assumes nothing.
use Rattle.std.specs.Prelude.{◌≡◌, ◌≤◌, ◌<◌, ◌+◌}
use Rattle.base_lists.specs.Kit.{◌∙◌, sym, List, ℕ, add-one, length, get_or, drop, drop_of_length-le, drop-cons}
use lib.Bits.{bit_or, or_zero_r}
use Rattle.base_bits.proofs.Tests.{bit_or-assoc}
use Rattle.table.specs.Union.{union_all}
use Rattle.table.proofs.rule.occurring.Goals as goal

union-next : (t : List ℕ) (union v : ℕ) → v < length t
    → bit_or (bit_or union (get_or t v 0)) (union_all (drop (v + 1) t)) ≡ bit_or union (union_all (drop v t))
unfolding union_all
union-next t union v h = bit_or-assoc union (get_or t v 0) (union_all (drop (v + 1) t)) ∙ rw (add-one, drop-cons t v 0)

union-end : (t : List ℕ) (union v : ℕ) → length t ≤ v → bit_or union (union_all (drop v t)) ≡ union
unfolding union_all
union-end t union v h = rw (drop_of_length-le t h) (or_zero_r union)

pub loop-set-preserved : goal.loop-set-preserved
loop-set-preserved c = union-next c.args.table.now c.loop-set.union c.loop-set.set-index c.loop-set-test.true ∙ c.loop-set.invariant

pub returns : goal.returns
returns c = sym (union-end c.args.table.now c.loop-set.union c.loop-set.set-index c.loop-set-test.false) ∙ c.loop-set.invariant
