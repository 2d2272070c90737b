-- `session_cut::read_out` meets its contract. Assumes nothing.
use Rattle.std.specs.Prelude.{◌≤◌}
use Rattle.base_lists.specs.Kit.{sym, length, get_or, length-take-le, arith}
use Rattle.session.proofs.Tables.{bounded-le}
use Rattle.session_cut.proofs.Out.{short-made, copied-made}
use Rattle.session_cut.proofs.read_out.Goals as goal
use Rattle.session_cut.proofs.read_out.Goals.{After-at_most-n}

-- there are no more nodes than sets
few : (c : After-at_most-n) → c.at_most-n.result ≤ length c.args.sets.now
few c = omega (arith, c.at_most-n.ensures, bounded-le 512 (get_or c.args.fixed.now 65 0), c.requires.1)

pub overflow_cast-fixed : goal.overflow_cast-fixed
overflow_cast-fixed c = omega (arith, c.type_inv.fixed 65)

pub returns-then-table-n : goal.returns-then-table-n
returns-then-table-n c = short-made _ _ _ (rw c.at_most-n.ensures at c.if-table-n.true)

pub slice_bounds-copy-end : goal.slice_bounds-copy-end
slice_bounds-copy-end c = sym (length-take-le _ _ (few (goal.at.slice_bounds-copy-end c).After-at_most-n))

pub copy-requires : goal.copy-requires
copy-requires c =
    let long = length-take-le c.at_most-n.result c.args.sets.now (few (goal.at.copy-requires c).After-at_most-n) in
    omega (arith, c.if-table-n.false)

pub overflow_cast-fixed-2 : goal.overflow_cast-fixed-2
overflow_cast-fixed-2 c = omega (arith, c.type_inv.fixed 64)

pub slice_bounds-all_or_none-end-2 : goal.slice_bounds-all_or_none-end-2
slice_bounds-all_or_none-end-2 c =
    sym (length-take-le _ _ (omega (arith, c.copy.auto.out, c.if-table-n.false)))

pub returns : goal.returns
returns c =
    copied-made _ _ _ c.at_most-n.ensures c.at_most-parts.ensures c.if-table-n.false (few (goal.at.returns c).After-at_most-n) c.copy.ensures c.all_or_none.ensures
