-- `graph_radius::grow` meets its contract. The loop's invariant: the sets before u are the new ones, and the others as they were. Assumes nothing.
use Rattle.std.specs.Prelude.{◌≡◌, ◌<◌, ◌^◌}
use Rattle.base_lists.specs.Kit.{◌∙◌, sym, subst, ℕ, length, get_or, arith}
use Rattle.base_lists.specs.List.{Below}
use Rattle.base_lists.proofs.Tables.{filled_none, filled_more, stored-whole}
use Rattle.graph_radius.specs.Balls.{grown}
use Rattle.graph_radius.proofs.grow.Goals as goal

pub loop-u-init : goal.loop-u-init
loop-u-init c = filled_none _ _

pub union_of-requires : goal.union_of-requires
unfolding Below
union_of-requires c =
    subst (λ (k : ℕ). get_or c.args.near.now c.loop-u.u 0 < 2 ^ k) (sym c.requires.len.0) (c.requires.below c.loop-u.u (omega arith))

pub loop-u-preserved : goal.loop-u-preserved
loop-u-preserved c = rw (c.loop-u.invariant, c.union_of.ensures) (filled_more _ _ _ (omega arith))

pub returns : goal.returns
unfolding grown
returns c =
    let e : c.loop-u.u ≡ length c.args.near.now = omega arith in
    let same : length c.args.new.now ≡ length c.args.near.now = omega arith in
    c.loop-u.invariant ∙ rw e (stored-whole _ _ _ same)
