-- `base_text::put_three` meets its contract: one or two digits, or those of a tenth and then the last. Assumes nothing.
use Rattle.std.specs.Prelude.{◌/◌}
use Rattle.base_lists.specs.Kit.{sym, arith}
use Rattle.base_text.specs.Text.{decimal}
use Rattle.base_text.proofs.Text.{put_then, put_same, fits-same, fits-first, fits-then, decimal-more}
use Rattle.base_text.proofs.put_three.Goals as goal

pub put_two-next-requires : goal.put_two-next-requires
put_two-next-requires c =
    record {
      x_bound = omega (arith, c.requires.x_bound);
      fits = fits-first (decimal (c.args.x / 10)) _ (fits-same (decimal-more c.args.x (omega arith)) c.requires.fits);
    }

pub put_digit-requires : goal.put_digit-requires
put_digit-requires c =
    record {
      x_bound = omega arith;
      fits = fits-then c.put_two-next.ensures (fits-same (decimal-more c.args.x (omega arith)) c.requires.fits);
    }

pub returns : goal.returns
returns c =
    put_same (sym (decimal-more c.args.x (omega arith)))
    (put_then c.put_two-next.ensures c.put_digit.ensures)
