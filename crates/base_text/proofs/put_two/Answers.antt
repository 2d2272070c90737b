-- `base_text::put_two` meets its contract: one digit, or two one after the other. Assumes nothing.
use Rattle.base_lists.specs.Kit.{sym, arith}
use Rattle.base_text.proofs.Text.{put_then, put_same, fits-same, fits-first, fits-then, decimal_digit, decimal-two}
use Rattle.base_text.proofs.put_two.Goals as goal

pub put_digit-requires : goal.put_digit-requires
put_digit-requires c =
    record {
      x_bound = omega arith;
      fits = fits-same (decimal_digit c.args.x (omega arith)) c.requires.fits;
    }

pub returns-then-x-lt10 : goal.returns-then-x-lt10
returns-then-x-lt10 c =
    put_same (sym (decimal_digit c.args.x (omega arith))) c.put_digit.ensures

pub put_digit-next-requires : goal.put_digit-next-requires
put_digit-next-requires c =
    record {
      x_bound = omega (arith, c.requires.x_bound);
      fits = fits-first _ _ (fits-same (decimal-two c.args.x (omega arith) c.requires.x_bound) c.requires.fits);
    }

pub put_digit-requires-2 : goal.put_digit-requires-2
put_digit-requires-2 c =
    record {
      x_bound = omega arith;
      fits = fits-then c.put_digit-next.ensures (fits-same (decimal-two c.args.x (omega arith) c.requires.x_bound) c.requires.fits);
    }

pub returns : goal.returns
returns c =
    put_same (sym (decimal-two c.args.x (omega arith) c.requires.x_bound))
    (put_then c.put_digit-next.ensures c.put_digit-2.ensures)
