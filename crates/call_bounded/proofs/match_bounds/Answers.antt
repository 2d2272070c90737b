-- `call_bounded::match_bounds` meets its contract: a file is refused, or the two circuits that were read are matched.
-- Assumes nothing.
use Rattle.std.specs.Prelude.{◌≡◌}
use Rattle.std.proofs.Common.{Err, arith}
use Rattle.std.proofs.lemmas.Grind.{common_steps}
use Rattle.base_lists.specs.Kit.{sym}
use Rattle.file_format.specs.declared.Role.TheVariants.{Board}
use Rattle.file_format.specs.Layout.{in_edition}
use Rattle.file_format.specs.Reading.{Stands}
use Rattle.file_format.specs.Refusals.{accept, first, file_conditions}
use Rattle.file_format.proofs.Reading.{loaded-accepted, loaded-refused, stands-bounded, stands-room, stands-size}
use Rattle.file_bounds.specs.Third.{third_conditions, BoundsHeld}
use Rattle.file_bounds.proofs.Third.{third-read, third-refused}
use Rattle.call_bounded.proofs.Matching.{held-bounded, held-bounds, held-length, held-room, pattern-refused, board-refused, both_read}
use Rattle.call_bounded.proofs.match_bounds.Goals as goal
use Rattle.call_bounded.proofs.match_bounds.Goals.{In_ok-drawn, In_ok-given}

third : (c : In_ok-drawn) → first (third_conditions c.args.pattern.now) ≡ accept
third c = third-read c.load_bounded.ensures c.in_ok-drawn.was

held : (c : In_ok-drawn) → BoundsHeld c.args.pattern.now c.in_ok-drawn.drawn (record { labels = c.load_bounded.new.labels; starts = c.load_bounded.new.starts; ends = c.load_bounded.new.ends }) c.load_bounded.new.bounds
held c = c.load_bounded.ensures.held _ c.in_ok-drawn.was

given : (c : In_ok-given) → first (file_conditions Board (in_edition c.args.edition c.args.board.now)) ≡ accept
given c = loaded-accepted c.load.ensures c.in_ok-given.was

stands : (c : In_ok-given) → Stands (in_edition c.args.edition c.args.board.now) c.in_ok-given.given.nodes c.in_ok-given.given.links (record { labels = c.load.new.labels; starts = c.load.new.starts; ends = c.load.new.ends })
stands c = (c.load.ensures.held _ c.in_ok-given.was).stands

pub returns-in_err-drawn : goal.returns-in_err-drawn
returns-in_err-drawn c =
    let e : c.from_residual.result ≡ Err c.in_err-drawn.field-0.0 = grind (arith, common_steps) in
    rw e (pattern-refused _ _ _ (third-refused c.load_bounded.ensures c.in_err-drawn.was))

pub returns-in_err-given : goal.returns-in_err-given
returns-in_err-given c =
    let e : c.from_residual-in_err-given.result ≡ Err c.in_err-given.field-0.0 = grind (arith, common_steps) in
    rw e (board-refused _ _ _ (third (goal.at.returns-in_err-given c).In_ok-drawn) (loaded-refused c.load.ensures c.in_err-given.was))

pub slice_bounds-pk-end : goal.slice_bounds-pk-end
slice_bounds-pk-end c = (stands-room (held (goal.at.slice_bounds-pk-end c).In_ok-drawn).stands).0

pub slice_bounds-match_on-end : goal.slice_bounds-match_on-end
slice_bounds-match_on-end c = sym (stands-size (held (goal.at.slice_bounds-match_on-end c).In_ok-drawn).stands).0

pub slice_bounds-ps-end : goal.slice_bounds-ps-end
slice_bounds-ps-end c = (stands-room (held (goal.at.slice_bounds-ps-end c).In_ok-drawn).stands).1

pub slice_bounds-match_on-end-2 : goal.slice_bounds-match_on-end-2
slice_bounds-match_on-end-2 c = sym (stands-size (held (goal.at.slice_bounds-match_on-end-2 c).In_ok-drawn).stands).1

pub slice_bounds-pe-end : goal.slice_bounds-pe-end
slice_bounds-pe-end c = (stands-room (held (goal.at.slice_bounds-pe-end c).In_ok-drawn).stands).2

pub slice_bounds-match_on-end-3 : goal.slice_bounds-match_on-end-3
slice_bounds-match_on-end-3 c = sym (stands-size (held (goal.at.slice_bounds-match_on-end-3 c).In_ok-drawn).stands).2

pub slice_bounds-pb-end : goal.slice_bounds-pb-end
slice_bounds-pb-end c = held-room _ (third (goal.at.slice_bounds-pb-end c).In_ok-drawn) (held (goal.at.slice_bounds-pb-end c).In_ok-drawn)

pub slice_bounds-match_on-end-4 : goal.slice_bounds-match_on-end-4
slice_bounds-match_on-end-4 c = sym (held-length _ (third (goal.at.slice_bounds-match_on-end-4 c).In_ok-drawn) (held (goal.at.slice_bounds-match_on-end-4 c).In_ok-drawn))

pub slice_bounds-nk-end : goal.slice_bounds-nk-end
slice_bounds-nk-end c = (stands-room (stands (goal.at.slice_bounds-nk-end c).In_ok-given)).0

pub slice_bounds-match_on-end-5 : goal.slice_bounds-match_on-end-5
slice_bounds-match_on-end-5 c = sym (stands-size (stands (goal.at.slice_bounds-match_on-end-5 c).In_ok-given)).0

pub slice_bounds-ns-end : goal.slice_bounds-ns-end
slice_bounds-ns-end c = (stands-room (stands (goal.at.slice_bounds-ns-end c).In_ok-given)).1

pub slice_bounds-match_on-end-6 : goal.slice_bounds-match_on-end-6
slice_bounds-match_on-end-6 c = sym (stands-size (stands (goal.at.slice_bounds-match_on-end-6 c).In_ok-given)).1

pub slice_bounds-ne-end : goal.slice_bounds-ne-end
slice_bounds-ne-end c = (stands-room (stands (goal.at.slice_bounds-ne-end c).In_ok-given)).2

pub slice_bounds-match_on-end-7 : goal.slice_bounds-match_on-end-7
slice_bounds-match_on-end-7 c = sym (stands-size (stands (goal.at.slice_bounds-match_on-end-7 c).In_ok-given)).2

pub match_on-requires : goal.match_on-requires
match_on-requires c =
    record {
      bounded = held-bounded _ (third (goal.at.match_on-requires c).In_ok-drawn) (held (goal.at.match_on-requires c).In_ok-drawn);
      bounds = held-bounds _ (third (goal.at.match_on-requires c).In_ok-drawn) (held (goal.at.match_on-requires c).In_ok-drawn);
      bounded_2 = stands-bounded (stands (goal.at.match_on-requires c).In_ok-given) Board (given (goal.at.match_on-requires c).In_ok-given);
    }

pub returns : goal.returns
returns c =
    both_read _ _ _ (third (goal.at.returns c).In_ok-drawn) (given (goal.at.returns c).In_ok-given) (held (goal.at.returns c).In_ok-drawn) (stands (goal.at.returns c).In_ok-given) c.match_on.ensures
