-- `report_pieces::put_last` meets its contract: nothing where the centres are not done or there is no room, else the last line. Assumes
-- nothing.
use Rattle.base_lists.specs.Kit.{◌∙◌, sym, arith}
use Rattle.report_pieces.proofs.Pieces.{last-elsewhere, last-full, last-put, last-room}
use Rattle.report_pieces.proofs.put_last.Goals as goal

pub returns-then-part-n : goal.returns-then-part-n
returns-then-part-n c = last-elsewhere _ _ _ c.if-part-n.true

pub returns-then-not-roomy : goal.returns-then-not-roomy
returns-then-not-roomy c = last-full _ _ _ (sym c.roomy.ensures ∙ c.if-not-roomy.true)

pub put_end-end-requires : goal.put_end-end-requires
put_end-end-requires c =
    record {
      k_bound = (omega arith, omega arith);
      longest_line_in_bounds = last-room c.args.out.now c.args.part c.args.n (sym c.roomy.ensures ∙ c.if-not-roomy.false);
    }

pub returns : goal.returns
returns c =
    last-put _ _ _ c.if-part-n.false (sym c.roomy.ensures ∙ c.if-not-roomy.false) c.put_end-end.ensures
