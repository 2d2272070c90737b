-- `place_mark::mark_ends` meets its contract. Assumes nothing.
use Rattle.std.specs.Prelude.{◌≡◌, ◌++◌, ◌<◌}
use Rattle.base_lists.specs.Kit.{◌∙◌, subst, ℕ, length, get_or, drop, arith}
use Rattle.base_lists.specs.List.{tabulate, Below}
use Rattle.base_lists.proofs.Tables.{filled_none, filled_more, stored-whole, filled-rest}
use Rattle.place.specs.Bytes.{marked_ends}
use Rattle.place_mark.proofs.mark_ends.Invariants.{byte}
use Rattle.place_mark.proofs.mark_ends.Goals as goal
use Rattle.place_mark.proofs.mark_ends.Goals.{In-loop-k}

pub loop-k-init : goal.loop-k-init
loop-k-init c = filled_none _ _

-- the link's end is a node
known : (c : In-loop-k) → get_or c.args.ends.now c.loop-k.k 0 < length c.args.sets.now
unfolding Below
known c = c.requires.below c.loop-k.k (omega arith)

pub bounds-sets-w : goal.bounds-sets-w
bounds-sets-w c = known (goal.at.bounds-sets-w c).In-loop-k

pub loop-k-preserved : goal.loop-k-preserved
loop-k-preserved c =
    let h : c.loop-k.k < length c.args.bytes.now = omega (arith, c.requires.ends_len) in
    let old = filled-rest c.loop-k.k (byte c.args.ends.now c.args.driven c.args.sets.now c.args.bytes.now) c.loop-k.bytes c.args.bytes.now c.loop-k.invariant in
    rw (c.link_byte.ensures, old, c.loop-k.invariant) (filled_more c.loop-k.k (byte c.args.ends.now c.args.driven c.args.sets.now c.args.bytes.now) c.args.bytes.now h)

pub returns : goal.returns
unfolding marked_ends
returns c =
    let e : c.loop-k.k ≡ length c.args.ends.now = omega arith in
    subst (λ (k : ℕ). c.loop-k.bytes ≡ tabulate k (byte c.args.ends.now c.args.driven c.args.sets.now c.args.bytes.now) ++ drop k c.args.bytes.now) e c.loop-k.invariant
    ∙ stored-whole _ c.args.bytes.now (length c.args.ends.now) (omega arith)
