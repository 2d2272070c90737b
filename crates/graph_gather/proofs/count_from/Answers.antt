-- `graph_gather::count_from` meets its contract. The loop's invariant: so many of the first i nodes have the number.
-- Assumes nothing.
use Rattle.std.specs.Prelude.{◌≡◌, ◌≤◌, ◌<◌}
use Rattle.base_lists.specs.Kit.{◌∙◌, ap, List, ℕ, length, get_or, take, length-take-le, take-length, arith}
use Rattle.base_lists.specs.List.{Below}
use Rattle.graph_gather.specs.Having.{having, numbered}
use Rattle.graph_gather.proofs.Having.{having-short, having-count}
use Rattle.graph_gather.proofs.count_from.Goals as goal
use Rattle.graph_gather.proofs.count_from.Goals.{In-loop-i}

pub loop-i-init : goal.loop-i-init
loop-i-init c = c.requires.count_value

-- the next node has a number
node : (c : In-loop-i) → get_or c.args.nodes.now c.loop-i.i 0 < length c.args.numbers.now
unfolding Below
node c = c.requires.from_in_bounds.2 c.loop-i.i c.loop-i-test.true

-- no more are counted than looked at
few : (c : In-loop-i) → c.loop-i.found ≤ c.loop-i.i
few c =
    omega (arith, c.loop-i.invariant, having-short (numbered c.args.numbers.now c.args.x) (take c.loop-i.i c.args.nodes.now), length-take-le c.loop-i.i c.args.nodes.now (omega arith))

pub count_equal-found-requires : goal.count_equal-found-requires
count_equal-found-requires c = omega (arith, few (goal.at.count_equal-found-requires c).In-loop-i, c.loop-i-test.true, c.requires.from_in_bounds.1)

pub loop-i-preserved : goal.loop-i-preserved
loop-i-preserved c =
    let e = having-count (numbered c.args.numbers.now c.args.x) c.args.nodes.now c.loop-i.i c.loop-i-test.true in
    omega (arith, c.count_equal-found.ensures, c.loop-i.invariant, e)

pub returns : goal.returns
returns c =
    let end : c.loop-i.i ≡ length c.args.nodes.now = omega (arith, c.loop-i-test.false) in
    c.loop-i.invariant ∙ ap (λ (ns : List ℕ). length (having (numbered c.args.numbers.now c.args.x) ns)) (ap (λ (m : ℕ). take m c.args.nodes.now) end ∙ take-length c.args.nodes.now)

pub bounds-numbers-nodes : goal.bounds-numbers-nodes
bounds-numbers-nodes c = node (goal.at.bounds-numbers-nodes c).In-loop-i
