-- `call_place::place` meets its contract: a file is refused, or the place is sought on the two circuits that were read
-- and prepared. Assumes nothing.
use mathlib.Core.Path.{◌≡◌, sym, refl}
use Rattle.std.proofs.Common.{Err, arith}
use Rattle.std.proofs.lemmas.Grind.{common_steps}
use Rattle.base_lists.specs.Kit.{length-take-le}
use Rattle.file_format.specs.declared.Role.TheVariants.{Pattern}
use Rattle.file_format.specs.Layout.{in_edition}
use Rattle.table.specs.Prepared.{tables}
use Rattle.table.specs.Reply.{no_counts}
use Rattle.table.specs.Row.{both_directions}
use Rattle.place.specs.Outcome.{place_reply}
use Rattle.call_prepare.specs.Read.{BothPrepared}
use Rattle.call_prepare.proofs.Ready.{turned_pair, ready-verdict}
use Rattle.call_place.proofs.Finding.{ready-drawn, find-refused, find-read}
use Rattle.call_place.proofs.place.Goals as goal
use Rattle.call_place.proofs.place.Goals.{In_ok-read}

pub read_prepared-requires : goal.read_prepared-requires
read_prepared-requires c = record {
  as_pattern = record { nodes = refl; links = refl };
  pk_len = (refl, refl);
  masks_len = (refl, record { in_offsets = refl; in_targets = refl });
}

pub returns-in_err-read : goal.returns-in_err-read
unfolding place_reply
returns-in_err-read c =
    let e : c.from_residual.result ≡ Err (record { refusal = c.in_err-read.field-0.0; counts = no_counts }) = grind (arith, common_steps) in
    rw e (find-refused _ _ _ _ _ _ _ _ (turned_pair c.read_prepared.ensures c.in_err-read.was))

-- both were read and prepared
ready : (c : In_ok-read) →
    BothPrepared Pattern both_directions (in_edition c.args.question.editions.pattern c.args.pattern.now) (in_edition c.args.question.editions.board c.args.board.now) c.in_ok-read.read c.read_prepared.new.pk c.read_prepared.new.nk (tables c.read_prepared.new.masks c.read_prepared.new.offsets c.read_prepared.new.targets)
ready c = c.read_prepared.ensures.both _ c.in_ok-read.was

pub slice_bounds-pk-end : goal.slice_bounds-pk-end
slice_bounds-pk-end c = (ready (goal.at.slice_bounds-pk-end c).In_ok-read).parts.room

pub slice_bounds-find_on-end : goal.slice_bounds-find_on-end
slice_bounds-find_on-end c = sym (length-take-le _ _ (ready (goal.at.slice_bounds-find_on-end c).In_ok-read).parts.room)

pub slice_bounds-nk-end : goal.slice_bounds-nk-end
slice_bounds-nk-end c = (ready (goal.at.slice_bounds-nk-end c).In_ok-read).nodes.room

pub slice_bounds-find_on-end-2 : goal.slice_bounds-find_on-end-2
slice_bounds-find_on-end-2 c = sym (length-take-le _ _ (ready (goal.at.slice_bounds-find_on-end-2 c).In_ok-read).nodes.room)

pub find_on-requires : goal.find_on-requires
find_on-requires c = ready-drawn (ready (goal.at.find_on-requires c).In_ok-read)

pub returns : goal.returns
returns c =
    find-read _ _ _ _ _ _ _ _ (ready-verdict c.read_prepared.ensures c.in_ok-read.was) (ready (goal.at.returns c).In_ok-read)
    c.radius_for.ensures c.find_on.ensures
