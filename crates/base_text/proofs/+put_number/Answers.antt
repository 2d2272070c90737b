-- `base_text::put_number` meets its contract: at most three digits at once; else a tenth, and then the last digit. Assumes nothing.
use Rattle.std.specs.Prelude.{◌/◌}
use Rattle.base_lists.specs.Kit.{sym, arith}
use Rattle.base_text.specs.Text.{decimal}
use Rattle.base_text.proofs.Text.{put_then, put_same, fits-same, fits-first, fits-then, decimal-more}
use Rattle.base_text.proofs.+put_number.Goals as goal

pub put_number-next-requires : goal.put_number-next-requires
put_number-next-requires t c =
    (omega arith, fits-first (decimal (c.args.x / 10)) _ (fits-same (decimal-more c.args.x (omega arith)) c.requires))

pub put_digit-requires : goal.put_digit-requires
put_digit-requires t c =
    record {
      x_bound = omega arith;
      fits = fits-then c.put_number-next.ensures (fits-same (decimal-more c.args.x (omega arith)) c.requires);
    }

pub returns : goal.returns
returns t c =
    put_same (sym (decimal-more c.args.x (omega arith)))
    (put_then c.put_number-next.ensures c.put_digit.ensures)
