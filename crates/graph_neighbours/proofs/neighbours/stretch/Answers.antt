-- `graph_neighbours::neighbours::stretch` meets its contract: each test that fails leaves the stretch empty, and past them all the offsets are
-- sound. Assumes nothing.
use Rattle.std.specs.Prelude.{◌+◌}
use Rattle.base_lists.specs.Kit.{sym, arith}
use Rattle.graph.proofs.Lookup.{stretch-part, stretch-none}
use Rattle.graph_neighbours.proofs.Lookup.{next-is}
use Rattle.graph_neighbours.proofs.neighbours.stretch.Goals as goal

pub returns-then-v-offsets : goal.returns-then-v-offsets
returns-then-v-offsets c =
    let e = next-is c.args.offsets.now c.args.v in
    sym (stretch-none _ _ _ (λ s. omega arith))

pub returns-then-next-offsets : goal.returns-then-next-offsets
returns-then-next-offsets c =
    let e = next-is c.args.offsets.now c.args.v in
    sym (stretch-none _ _ _ (λ s. omega arith))

pub overflow_cast-from : goal.overflow_cast-from
overflow_cast-from c = omega (arith, c.type_inv.offsets c.args.v)

pub overflow_cast-to : goal.overflow_cast-to
overflow_cast-to c = omega (arith, c.type_inv.offsets (c.args.v + 1))

pub returns-then-to-from : goal.returns-then-to-from
returns-then-to-from c =
    let e = next-is c.args.offsets.now c.args.v in
    sym (stretch-none _ _ _ (λ s. omega arith))

pub returns-then-table-to : goal.returns-then-table-to
returns-then-table-to c =
    let e = next-is c.args.offsets.now c.args.v in
    sym (stretch-none _ _ _ (λ s. omega arith))

pub returns : goal.returns
returns c =
    let e = next-is c.args.offsets.now c.args.v in
    rw e (sym (stretch-part _ _ _ (omega arith)))
