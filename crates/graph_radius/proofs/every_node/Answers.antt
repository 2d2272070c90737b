-- `graph_radius::every_node` meets its contract. Assumes nothing.
use Rattle.std.specs.Prelude.{◌≤◌}
use Rattle.base_lists.specs.Kit.{arith}
use lib.Pow.{pow_pos, pow_mono}
use Rattle.base_bits.proofs.Digits.{one_shl}
use Rattle.graph_radius.proofs.Spanning.{every-node}
use Rattle.graph_radius.proofs.every_node.Goals as goal

pub overflow_sub-result : goal.overflow_sub-result
overflow_sub-result c =
    omega (arith, one_shl 64 c.args.n (omega arith), pow_pos c.args.n)

pub overflow_cast-result : goal.overflow_cast-result
overflow_cast-result c =
    let h : c.args.n ≤ 32 = c.requires in
    omega (arith, one_shl 64 c.args.n (omega arith), pow_pos c.args.n, pow_mono h)

pub returns : goal.returns
returns c =
    omega (arith, one_shl 64 c.args.n (omega arith), every-node c.args.n)
