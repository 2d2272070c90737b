-- `session_open::store_ends` meets its contract. Assumes nothing.
use Rattle.base_lists.specs.Kit.{◌∙◌, sym, ap, ℕ, length-take-le, arith}
use Rattle.session_open.specs.Open.{padded}
use Rattle.session_open.proofs.Filling.{ended, second-half}
use Rattle.session_open.proofs.store_ends.Goals as goal

pub slice_bounds-store_values-end-2 : goal.slice_bounds-store_values-end-2
slice_bounds-store_values-end-2 c =
    sym (length-take-le 4096 c.args.out.now (omega (arith, c.requires.2)))

pub store_values-requires : goal.store_values-requires
store_values-requires c =
    rw (length-take-le 4096 c.args.out.now (omega (arith, c.requires.2))) (omega (arith, c.requires.0, c.requires.1))

pub returns : goal.returns
returns c =
    let half = length-take-le 4096 c.args.out.now (omega (arith, c.requires.2)) in
    ended c.args.starts.now c.args.ends.now c.args.out.now c.requires.0 c.requires.1 c.requires.2
    (c.store_values.ensures ∙ ap (λ (k : ℕ). padded k c.args.ends.now) half)
    (c.store_values-2.ensures ∙ ap (λ (k : ℕ). padded k c.args.starts.now) (second-half c.store_values.new.out c.args.out.now (c.store_values.auto.out ∙ half) c.requires.2))
