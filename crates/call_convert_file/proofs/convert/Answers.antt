-- `call_convert_file::convert` meets its contract: its tables have room for the circuit of every file. Assumes nothing.
use Rattle.base_lists.specs.Kit.{lit≤}
use Rattle.base_lists.proofs.Entries.{below-zeros}
use Rattle.call_convert_file.proofs.convert.Goals as goal

pub convert_through-requires : goal.convert_through-requires
convert_through-requires c = record {
  in_bounds = (lit≤ tt, lit≤ tt, lit≤ tt, lit≤ tt);
  below = below-zeros 512;
}
