-- `bounded_prepare::keys_of` meets its contract. The loop's invariant: the first i numbers are made, and the others as they were. Assumes nothing.
use Rattle.std.specs.Prelude.{◌≤◌, ◌<◌}
use Rattle.base_lists.specs.Kit.{◌∙◌, ap, refl, ℕ, length, get_or, arith}
use Rattle.base_lists.specs.List.{tabulate, Below}
use Rattle.base_lists.proofs.Tables.{filled_none, filled-all, filled_next}
use Rattle.bounded_strike.specs.Prepared.{keyed}
use Rattle.bounded_prepare.proofs.keys_of.Invariants.{key}
use Rattle.bounded_prepare.proofs.keys_of.Goals as goal
use Rattle.bounded_prepare.proofs.keys_of.Goals.{In-loop-i}

pub loop-i-init : goal.loop-i-init
loop-i-init c = filled_none _ _

-- the bound and the part of the next link
known : (c : In-loop-i) →
    (c.loop-i.i < length c.args.bounds.now) × (1 ≤ get_or c.args.bounds.now c.loop-i.i 0) × (get_or c.args.bounds.now c.loop-i.i 0 ≤ 4) × (get_or c.args.parts.now c.loop-i.i 0 < 32)
unfolding Below
known c =
    let h : c.loop-i.i < length c.args.bounds.now = omega (arith, c.requires.bounds_len.0, c.requires.bounds_len.1) in
    (h, c.requires.in_bounds.0.some c.loop-i.i h, c.requires.in_bounds.0.most c.loop-i.i h, c.requires.in_bounds.1 c.loop-i.i (omega (arith, h, c.requires.bounds_len.0)))

pub overflow_sub-keys : goal.overflow_sub-keys
overflow_sub-keys c = omega (arith, known (goal.at.overflow_sub-keys c).In-loop-i)

pub overflow_mul-keys : goal.overflow_mul-keys
overflow_mul-keys c = omega (arith, known (goal.at.overflow_mul-keys c).In-loop-i)

pub overflow_add-keys : goal.overflow_add-keys
overflow_add-keys c = omega (arith, known (goal.at.overflow_add-keys c).In-loop-i)

pub loop-i-preserved : goal.loop-i-preserved
unfolding key
loop-i-preserved c =
    filled_next (key c.args.bounds.now c.args.parts.now) c.args.keys.now c.loop-i.keys c.loop-i.i _ (omega arith) c.loop-i.invariant refl

pub returns : goal.returns
unfolding keyed key
returns c =
    let rule : ℕ → ℕ = key c.args.bounds.now c.args.parts.now in
    c.loop-i.invariant ∙ filled-all c.loop-i.i rule c.args.keys.now (omega arith) ∙ ap (λ (n : ℕ). tabulate n rule) c.requires.bounds_len.1
