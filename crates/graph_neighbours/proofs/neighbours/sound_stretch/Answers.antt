-- `graph_neighbours::neighbours::sound_stretch` meets its contract: of sound offsets the stretch is what lies between them. Assumes nothing.
use Rattle.base_lists.specs.Kit.{sym, arith}
use Rattle.graph.proofs.Lookup.{stretch-part}
use Rattle.graph_neighbours.proofs.Lookup.{next-is}
use Rattle.graph_neighbours.proofs.neighbours.sound_stretch.Goals as goal

pub overflow_cast-to : goal.overflow_cast-to
overflow_cast-to c = omega (arith, next-is c.args.offsets.now c.args.v)

pub slice_bounds-result-count : goal.slice_bounds-result-count
slice_bounds-result-count c = omega (arith, next-is c.args.offsets.now c.args.v)

pub slice_bounds-result-start : goal.slice_bounds-result-start
slice_bounds-result-start c = omega (arith, next-is c.args.offsets.now c.args.v)

pub slice_bounds-result-end : goal.slice_bounds-result-end
slice_bounds-result-end c = omega (arith, next-is c.args.offsets.now c.args.v)

pub returns : goal.returns
returns c =
    rw (next-is c.args.offsets.now c.args.v) (sym (stretch-part _ _ _ c.requires))
