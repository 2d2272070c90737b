-- `bounded_layer::pass::covered` meets its contract. The loop's invariant: what is kept so far, with what is kept of the parts that are left,
-- is what is kept of the set. The measure is what is left, as a number. Assumes nothing.
use Rattle.std.specs.Prelude.{◌≡◌, ◌<◌, ◌^◌}
use Rattle.base_lists.specs.Kit.{◌∙◌, sym, ap, ℕ, zero, length, get_or, arith}
use lib.Bits.{bit_or, or_zero_l, or_zero_r}
use Rattle.base_bits.specs.Bits.{first_of, without_first, subset_of}
use Rattle.base_bits.proofs.Digits.{bit_below}
use Rattle.base_bits.proofs.Members.{without-lt, first-lt, first_bit}
use Rattle.bounded_layer.specs.Pass.{kept_within}
use Rattle.bounded_layer.proofs.Sets.{kept-none, turn-stays, turn-goes}
use Rattle.bounded_layer.proofs.pass.covered.Goals as goal
use Rattle.bounded_layer.proofs.pass.covered.Goals.{After-first-u, Joined-subset, else-subset, then-subset}

pub loop-left-init : goal.loop-left-init
loop-left-init c = (omega arith, or_zero_l _)

-- the first part that is left has its mask
first_fits : (c : After-first-u)
    → (c.first-u.result < 32) × (c.first-u.result < length c.args.masks.now)
first_fits c =
    let e : c.first-u.result ≡ first_of c.loop-left.left = c.first-u.ensures in (
      rw e (first-lt c.loop-left.left (omega arith) (omega arith)),
      rw e (bit_below (length c.args.masks.now) c.loop-left.left (first_of c.loop-left.left) (omega arith) (first_bit c.loop-left.left (omega arith) (omega arith))),
    )

pub overflow_cast-u : goal.overflow_cast-u
overflow_cast-u c = omega (arith, first_fits (goal.at.overflow_cast-u c).After-first-u)

pub offset_bounds-masks-u : goal.offset_bounds-masks-u
offset_bounds-masks-u c = omega (arith, first_fits (goal.at.offset_bounds-masks-u c).After-first-u)

pub bounds-masks-u : goal.bounds-masks-u
bounds-masks-u c = (first_fits (goal.at.bounds-masks-u c).After-first-u).1

pub single-kept-requires : goal.single-kept-requires
single-kept-requires c = (first_fits (goal.at.single-kept-requires c).After-first-u).0

pub without_first-left-requires : goal.without_first-left-requires
without_first-left-requires c = omega arith

pub loop-left-smaller : goal.loop-left-smaller
loop-left-smaller c =
    omega (arith, c.without_first-left.ensures, without-lt c.loop-left.left (omega arith) (omega arith))

-- whether the part stays or not, what is kept then with what is kept of the rest is what is kept of the set
joined : (c : Joined-subset) →
    bit_or c.if-subset.kept (kept_within c.args.masks.now c.args.f (without_first c.loop-left.left)) ≡ kept_within c.args.masks.now c.args.f c.args.set
joined c =
    let rest = kept_within c.args.masks.now c.args.f (without_first c.loop-left.left) in
    let p : zero < c.loop-left.left = omega arith in
    let h : c.loop-left.left < 2 ^ 32 = omega arith in
    let u : c.first-u.result ≡ first_of c.loop-left.left = c.first-u.ensures in
    let first = ap (λ (x : ℕ). subset_of (get_or c.args.masks.now x 0) c.args.f) (sym u) ∙ sym c.subset.ensures in
    elim c.if-subset.branch [
      | then-subset w ↦ ap (λ (k : ℕ). bit_or k rest) (w.kept-is ∙ ap (bit_or c.loop-left.kept) (w.single-kept.ensures ∙ ap (λ (x : ℕ). 2 ^ x) u))
          ∙ turn-stays c.args.masks.now c.args.f c.loop-left.left p h c.loop-left.kept (first ∙ w.if-subset.true)
          ∙ c.loop-left.invariant.1
      | else-subset w ↦ ap (λ (k : ℕ). bit_or k rest) w.kept-is ∙ turn-goes c.args.masks.now c.args.f c.loop-left.left p h c.loop-left.kept (first ∙ w.if-subset.false) ∙ c.loop-left.invariant.1
    ]

pub loop-left-preserved : goal.loop-left-preserved
loop-left-preserved c = (
  omega (arith, c.without_first-left.ensures, without-lt c.loop-left.left (omega arith) (omega arith)),
  ap (λ (x : ℕ). bit_or c.if-subset.kept (kept_within c.args.masks.now c.args.f x)) c.without_first-left.ensures ∙ joined (goal.at.loop-left-preserved c).Joined-subset,
)

pub returns : goal.returns
returns c =
    let none : c.loop-left.left ≡ zero = omega arith in
    sym (or_zero_r c.loop-left.kept)
    ∙ ap (bit_or c.loop-left.kept) (sym (ap (kept_within c.args.masks.now c.args.f) none ∙ kept-none c.args.masks.now c.args.f))
    ∙ c.loop-left.invariant.1
