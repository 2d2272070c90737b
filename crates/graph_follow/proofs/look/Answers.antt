-- `graph_follow::look` meets its contract, by the laws of a look. Assumes nothing.
use Rattle.base_lists.specs.Kit.{◌∙◌, sym}
use Rattle.base_lists.proofs.Tests.{true-T}
use Rattle.graph.specs.Bfs.{state_of}
use Rattle.graph_follow.proofs.Following.{look-taken, look-left}
use Rattle.graph_follow.proofs.look.Goals as goal

pub returns-then-meets : goal.returns-then-meets
returns-then-meets c =
    let s = state_of c.args.dist.now c.args.queue.now c.args.tail in
    rw (look-taken c.args.set c.args.sets.now c.args.d s c.args.v (true-T (sym c.meets.ensures ∙ c.if-meets.true))) c.visit.ensures

pub returns : goal.returns
returns c =
    let s = state_of c.args.dist.now c.args.queue.now c.args.tail in
    record { state = sym (look-left c.args.set c.args.sets.now c.args.d s c.args.v (sym c.meets.ensures ∙ c.if-meets.false)); kept = c.requires.searching }
