-- `merge_classes::leader` meets its contract. The loop's invariant: the leader is the least of the parts that are left whose own set has
-- u. The measure is what is left, as a number. Assumes nothing.
use Rattle.std.specs.Prelude.{◌≡◌, ◌<◌, ◌^◌}
use Rattle.base_lists.specs.Kit.{◌∙◌, sym, ap, ℕ, zero, lt_of_le_of_lt, length, get_or, arith}
use Rattle.base_lists.proofs.Tests.{true-T}
use Rattle.base_bits.specs.Bits.{bit, first_of}
use Rattle.base_bits.proofs.Digits.{bit_below}
use Rattle.base_bits.proofs.Members.{first_bit, without-lt}
use Rattle.merge_classes.proofs.Leaders.{leader_among, among-all, among_none, among-found, among_next}
use Rattle.merge_classes.proofs.leader.Goals as goal
use Rattle.merge_classes.proofs.leader.Goals.{After-first-v, After-has, At-loop-left}

pub loop-left-init : goal.loop-left-init
loop-left-init c = (omega arith, among-all _ _)

-- what is left is a set of 32 bits
word : (c : At-loop-left) → c.loop-left.left < 2 ^ 32
word c = omega (arith, c.type_inv.table c.args.u)

-- a part that is left has a set of its own
first_fits : (c : After-first-v) → c.first-v.result < length c.args.table.now
first_fits c =
    rw c.first-v.ensures
    (bit_below (length c.args.table.now) c.loop-left.left (first_of c.loop-left.left) (lt_of_le_of_lt c.loop-left.invariant.0 (c.requires.self_table.small c.args.u))
    (first_bit c.loop-left.left (omega arith) ((let fact : c.loop-left.left < 2 ^ 32 = omega (arith, c.type_inv.table c.args.u) in fact))))

pub bounds-table-v : goal.bounds-table-v
bounds-table-v c = omega (arith, first_fits (goal.at.bounds-table-v c).After-first-v)

pub overflow_cast-u : goal.overflow_cast-u
overflow_cast-u c = omega (arith, first_fits (goal.at.overflow_cast-u c).After-first-v)

pub has-requires : goal.has-requires
has-requires c = omega (arith, first_fits (goal.at.has-requires c).After-first-v)

-- whether its set has u is what was asked
asked :
    (c : After-has) →
    bit (get_or c.args.table.now (first_of c.loop-left.left) 0) c.args.u ≡ c.has.result
asked c =
    ap (λ (v : ℕ). bit (get_or c.args.table.now v 0) c.args.u) (sym c.first-v.ensures)
    ∙ sym c.has.ensures

pub returns-then-has : goal.returns-then-has
returns-then-has c =
    let e : c.first-v.result ≡ first_of c.loop-left.left = c.first-v.ensures in
    e
    ∙ sym (among-found c.args.table.now c.args.u c.loop-left.left (omega arith) (word (goal.at.returns-then-has c).At-loop-left) (rw (← e) (first_fits (goal.at.returns-then-has c).After-first-v)) (true-T (asked (goal.at.returns-then-has c).After-has ∙ c.if-has.true)))
    ∙ c.loop-left.invariant.1

pub loop-left-smaller : goal.loop-left-smaller
loop-left-smaller c =
    omega (arith, c.without_first-left.ensures, without-lt c.loop-left.left (omega arith) (word (goal.at.loop-left-smaller c).At-loop-left))

pub loop-left-preserved : goal.loop-left-preserved
loop-left-preserved c = (
  omega (arith, c.without_first-left.ensures, without-lt c.loop-left.left (omega arith) (word (goal.at.loop-left-preserved c).At-loop-left)),
  ap (leader_among c.args.table.now c.args.u) c.without_first-left.ensures
      ∙ sym (among_next c.args.table.now c.args.u c.loop-left.left (omega arith) (word (goal.at.loop-left-preserved c).At-loop-left) (asked (goal.at.loop-left-preserved c).After-has ∙ c.if-has.false))
      ∙ c.loop-left.invariant.1,
)

pub returns : goal.returns
returns c =
    let none : c.loop-left.left ≡ zero = omega arith in
    sym (ap (leader_among c.args.table.now c.args.u) none ∙ among_none c.args.table.now c.args.u) ∙ c.loop-left.invariant.1
