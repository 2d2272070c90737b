-- `call_match::match_files` meets its contract: a file is refused, or the two circuits that were read and prepared are
-- matched. Assumes nothing.
use Rattle.std.proofs.Common.{◌≡◌, Err, arith}
use Rattle.std.proofs.lemmas.Grind.{common_steps}
use Rattle.base_lists.specs.Kit.{sym, refl, length-take-le}
use Rattle.file_format.specs.declared.Role.TheVariants.{AnyPattern}
use Rattle.file_format.specs.Layout.{in_edition}
use Rattle.table.specs.Prepared.{tables}
use Rattle.table.specs.Row.{ways_of}
use Rattle.call_prepare.specs.Read.{BothPrepared}
use Rattle.call_prepare.proofs.Ready.{turned_pair, ready-verdict}
use Rattle.call_match.proofs.Matching.{matching-refused, matching-read, ready_links}
use Rattle.call_match.proofs.match_files.Goals as goal
use Rattle.call_match.proofs.match_files.Goals.{In_ok-read}

-- ---- the two files
pub read_prepared-requires : goal.read_prepared-requires
read_prepared-requires c =
    record {
      as_pattern = record { nodes = refl; links = refl };
      pk_len = (refl, refl);
      masks_len = (refl, record { in_offsets = refl; in_targets = refl });
    }

pub returns-in_err-read : goal.returns-in_err-read
returns-in_err-read c =
    let e : c.from_residual.result ≡ Err c.in_err-read.field-0.0 = grind (arith, common_steps) in
    rw e (matching-refused _ _ _ _ (turned_pair c.read_prepared.ensures c.in_err-read.was))

ready : (c : In_ok-read) →
    BothPrepared AnyPattern (ways_of c.args.ways) (in_edition c.args.editions.pattern c.args.pattern.now) (in_edition c.args.editions.board c.args.board.now) c.in_ok-read.read c.read_prepared.new.pk c.read_prepared.new.nk
    (tables c.read_prepared.new.masks c.read_prepared.new.offsets c.read_prepared.new.targets)
ready c = c.read_prepared.ensures.both _ c.in_ok-read.was

-- ---- the match
pub slice_bounds-pk-end : goal.slice_bounds-pk-end
slice_bounds-pk-end c = (ready (goal.at.slice_bounds-pk-end c).In_ok-read).parts.room

pub slice_bounds-match_on-end : goal.slice_bounds-match_on-end
slice_bounds-match_on-end c = sym (length-take-le _ _ (ready (goal.at.slice_bounds-match_on-end c).In_ok-read).parts.room)

pub slice_bounds-nk-end : goal.slice_bounds-nk-end
slice_bounds-nk-end c = (ready (goal.at.slice_bounds-nk-end c).In_ok-read).nodes.room

pub slice_bounds-match_on-end-2 : goal.slice_bounds-match_on-end-2
slice_bounds-match_on-end-2 c = sym (length-take-le _ _ (ready (goal.at.slice_bounds-match_on-end-2 c).In_ok-read).nodes.room)

pub match_on-requires : goal.match_on-requires
match_on-requires c = ready_links (ready (goal.at.match_on-requires c).In_ok-read)

pub returns : goal.returns
returns c =
    matching-read _ _ _ _ (ready-verdict c.read_prepared.ensures c.in_ok-read.was) (ready (goal.at.returns c).In_ok-read) c.match_on.ensures
