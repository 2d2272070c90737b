-- `table_strike::parts_left` meets its contract: the two halves of the masks. Assumes nothing.
use Rattle.std.specs.Prelude.{◌<◌, ◌^◌}
use Rattle.base_lists.specs.Kit.{sym, drop, length-drop, length-take-le, arith}
use Rattle.base_lists.specs.List.{part}
use Rattle.table_strike.proofs.parts_left.Goals as goal

pub slice_bounds-surviving-end : goal.slice_bounds-surviving-end
slice_bounds-surviving-end c = sym (length-take-le 32 c.args.masks.now (omega arith))

pub surviving-requires : goal.surviving-requires
surviving-requires c =
    let small : c.args.set < 2 ^ 32 = omega arith in
    record {
      set_bound = rw (length-take-le 32 c.args.masks.now (omega arith)) small;
      set_bound_2 = rw (length-take-le 32 (drop 32 c.args.masks.now) (omega (arith, length-drop 32 c.args.masks.now))) small;
    }

pub returns : goal.returns
unfolding part
returns c = c.surviving.ensures
