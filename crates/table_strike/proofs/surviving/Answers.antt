-- `table_strike::surviving` meets its contract. The loop's invariant: what is kept so far, with the survivors of the parts that are left,
-- is the survivors of the set. The measure is what is left, as a number. Assumes nothing.
use Rattle.std.specs.Prelude.{◌≡◌, ◌<◌, ◌^◌}
use Rattle.base_lists.specs.Kit.{◌∙◌, sym, ap, ℕ, zero, length, get_or, arith}
use lib.Bits.{bit_or, or_zero_l, or_zero_r}
use Rattle.base_bits.specs.Bits.{first_of, without_first, subset_of}
use Rattle.base_bits.proofs.Members.{first-lt, first_below, without-lt}
use Rattle.table_strike.specs.Strike.{survivors}
use Rattle.table_strike.proofs.Survivors.{survivors-none, turn-stays, turn-first, turn-second}
use Rattle.table_strike.proofs.surviving.Goals as goal
use Rattle.table_strike.proofs.surviving.Goals.{After-first-u, Joined-subset, then-subset+then-subset-2, else-subset, else-subset-via-then-subset+else-subset-2, else-subset-via-else-subset}

pub loop-left-init : goal.loop-left-init
loop-left-init c = (omega arith, or_zero_l _)

-- the first part that is left has its two masks
first_fits : (c : After-first-u)
    → (c.first-u.result < 32)
    × (c.first-u.result < length c.args.succ.now)
    × (c.first-u.result < length c.args.pred.now)
first_fits c =
    let e : c.first-u.result ≡ first_of c.loop-left.left = c.first-u.ensures in (
      rw e (first-lt c.loop-left.left (omega arith) (omega arith)),
      rw e (first_below c.loop-left.left (omega arith) (omega arith) (length c.args.succ.now) (omega arith)),
      rw e (first_below c.loop-left.left (omega arith) (omega arith) (length c.args.pred.now) (omega arith)),
    )

pub overflow_cast-i : goal.overflow_cast-i
overflow_cast-i c = omega (arith, first_fits (goal.at.overflow_cast-i c).After-first-u)

pub offset_bounds-succ-i : goal.offset_bounds-succ-i
offset_bounds-succ-i c = omega (arith, first_fits (goal.at.offset_bounds-succ-i c).After-first-u)

pub bounds-succ-i : goal.bounds-succ-i
bounds-succ-i c = (first_fits (goal.at.bounds-succ-i c).After-first-u).1

pub offset_bounds-pred-i : goal.offset_bounds-pred-i
offset_bounds-pred-i c = omega (arith, first_fits (goal.at.offset_bounds-pred-i c).After-first-u)

pub bounds-pred-i : goal.bounds-pred-i
bounds-pred-i c = (first_fits (goal.at.bounds-pred-i c).After-first-u).2

pub single-kept-requires : goal.single-kept-requires
single-kept-requires c = (first_fits (goal.at.single-kept-requires c).After-first-u).0

pub without_first-left-requires : goal.without_first-left-requires
without_first-left-requires c = omega arith

pub loop-left-smaller : goal.loop-left-smaller
loop-left-smaller c =
    omega (arith, c.without_first-left.ensures, without-lt c.loop-left.left (omega arith) (omega arith))

-- whether the part stays or not, what is kept then with the survivors of the rest is the survivors of the set
joined : (c : Joined-subset) →
    bit_or c.if-subset.kept (survivors c.args.succ.now c.args.pred.now c.args.f c.args.b (without_first c.loop-left.left))
    ≡ survivors c.args.succ.now c.args.pred.now c.args.f c.args.b c.args.set
joined c =
    let rest = survivors c.args.succ.now c.args.pred.now c.args.f c.args.b (without_first c.loop-left.left) in
    let p : zero < c.loop-left.left = omega arith in
    let h : c.loop-left.left < 2 ^ 32 = omega arith in
    let u : c.first-u.result ≡ first_of c.loop-left.left = c.first-u.ensures in
    let first = ap (λ (x : ℕ). subset_of (get_or c.args.succ.now x 0) c.args.f) (sym u) ∙ sym c.subset.ensures in
    elim c.if-subset.branch [
      | then-subset+then-subset-2 w ↦
          ap (λ (k : ℕ). bit_or k rest) (w.kept-is ∙ ap (bit_or c.loop-left.kept) (w.single-kept.ensures ∙ ap (λ (x : ℕ). 2 ^ x) u))
          ∙ turn-stays c.args.succ.now c.args.pred.now c.args.f c.args.b c.loop-left.left p h c.loop-left.kept (first ∙ w.if-subset.true)
          (ap (λ (x : ℕ). subset_of (get_or c.args.pred.now x 0) c.args.b) (sym u) ∙ sym w.subset-then-subset.ensures ∙ w.if-subset-2.true)
          ∙ c.loop-left.invariant.1
      | else-subset w ↦
          ap (λ (k : ℕ). bit_or k rest) w.kept-is
          ∙ elim w.else-subset.branch [
            | else-subset-via-then-subset+else-subset-2 w' ↦
                turn-second c.args.succ.now c.args.pred.now c.args.f c.args.b c.loop-left.left p h c.loop-left.kept
                (ap (λ (x : ℕ). subset_of (get_or c.args.pred.now x 0) c.args.b) (sym u) ∙ sym w'.subset-then-subset.ensures ∙ w'.if-subset-2.false)
            | else-subset-via-else-subset w' ↦
                turn-first c.args.succ.now c.args.pred.now c.args.f c.args.b c.loop-left.left p h c.loop-left.kept (first ∙ w'.if-subset.false)
          ]
          ∙ c.loop-left.invariant.1
    ]

pub loop-left-preserved : goal.loop-left-preserved
loop-left-preserved c = (
  omega (arith, c.without_first-left.ensures, without-lt c.loop-left.left (omega arith) (omega arith)),
  ap (λ (x : ℕ). bit_or c.if-subset.kept (survivors c.args.succ.now c.args.pred.now c.args.f c.args.b x)) c.without_first-left.ensures
      ∙ joined (goal.at.loop-left-preserved c).Joined-subset,
)

pub returns : goal.returns
returns c =
    let none : c.loop-left.left ≡ zero = omega arith in
    sym (or_zero_r c.loop-left.kept)
    ∙ ap (bit_or c.loop-left.kept)
    (sym
    (ap (survivors c.args.succ.now c.args.pred.now c.args.f c.args.b) none ∙ survivors-none c.args.succ.now c.args.pred.now c.args.f c.args.b))
    ∙ c.loop-left.invariant.1
