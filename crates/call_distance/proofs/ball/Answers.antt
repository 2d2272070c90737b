-- `call_distance::ball` meets its contract: the file is refused, or the centre is, or the table, or the ball is filled
-- in. Assumes nothing.
use mathlib.Core.Path.{◌≡◌}
use Rattle.std.specs.Prelude.{◌≤◌, ◌<◌}
use Rattle.std.proofs.Common.{Err, arith}
use Rattle.std.proofs.lemmas.Grind.{common_steps}
use Rattle.base_lists.specs.Kit.{sym, length}
use Rattle.graph.specs.Circuit.{circuit}
use Rattle.file_format.specs.declared.Role.TheVariants.{Board}
use Rattle.file_format.specs.Layout.{in_edition}
use Rattle.file_format.specs.Reading.{Stands}
use Rattle.file_format.specs.Refusals.{accept, first, file_conditions}
use Rattle.file_format.specs.Reply.{number_reply}
use Rattle.file_format.proofs.Reading.{loaded-accepted, loaded-refused, stands-size, stands-room, stands-bounded, stands-range}
use Rattle.call_decide.proofs.Rooms.{ball-holds, ball-refuses}
use Rattle.call_distance.proofs.Cases.{ball-refused, ball-turned, ball-read}
use Rattle.call_distance.proofs.ball.Goals as goal
use Rattle.call_distance.proofs.ball.Goals.{In_ok-read, In_ok-ball_verdict}

pub returns-in_err-read : goal.returns-in_err-read
unfolding number_reply
returns-in_err-read c =
    let e : c.from_residual.result ≡ Err c.in_err-read.field-0.0 = grind (arith, common_steps) in
    rw e (sym (ball-refused _ _ _ _ _ (loaded-refused c.load.ensures c.in_err-read.was)))

-- it was accepted
sound : (c : In_ok-read) → first (file_conditions Board ((in_edition c.args.edition c.args.file.now))) ≡ accept
sound c = loaded-accepted c.load.ensures c.in_ok-read.was

held : (c : In_ok-read) → Stands ((in_edition c.args.edition c.args.file.now)) c.in_ok-read.read.nodes c.in_ok-read.read.links ((circuit c.load.new.labels c.load.new.starts c.load.new.ends))
held c = (c.load.ensures.held _ c.in_ok-read.was).stands

pub returns-in_err-ball_verdict : goal.returns-in_err-ball_verdict
unfolding number_reply
returns-in_err-ball_verdict c =
    let e : c.from_residual-in_err-ball_verdict.result ≡ Err c.in_err-ball_verdict.field-0.0 = grind (arith, common_steps) in
    let k = (goal.at.returns-in_err-ball_verdict c).In_ok-read in
    rw e (sym (ball-turned _ _ _ _ (sound k) (rw (held k).nodes at (ball-refuses _ _ _ c.ball_verdict.ensures c.in_err-ball_verdict.was))))

decided : (c : In_ok-ball_verdict) → (c.args.centre < c.in_ok-read.read.nodes) × (c.in_ok-read.read.nodes ≤ length c.args.out.now)
decided c = ball-holds _ _ _ c.ball_verdict.ensures c.in_ok-ball_verdict.was

pub slice_bounds-nk-end : goal.slice_bounds-nk-end
slice_bounds-nk-end c = (stands-room (held (goal.at.slice_bounds-nk-end c).In_ok-read)).0

pub slice_bounds-fill_ball-end : goal.slice_bounds-fill_ball-end
slice_bounds-fill_ball-end c = sym (stands-size (held (goal.at.slice_bounds-fill_ball-end c).In_ok-read)).0

pub slice_bounds-ns-end : goal.slice_bounds-ns-end
slice_bounds-ns-end c = (stands-room (held (goal.at.slice_bounds-ns-end c).In_ok-read)).1

pub slice_bounds-fill_ball-end-2 : goal.slice_bounds-fill_ball-end-2
slice_bounds-fill_ball-end-2 c = sym (stands-size (held (goal.at.slice_bounds-fill_ball-end-2 c).In_ok-read)).1

pub slice_bounds-ne-end : goal.slice_bounds-ne-end
slice_bounds-ne-end c = (stands-room (held (goal.at.slice_bounds-ne-end c).In_ok-read)).2

pub slice_bounds-fill_ball-end-3 : goal.slice_bounds-fill_ball-end-3
slice_bounds-fill_ball-end-3 c = sym (stands-size (held (goal.at.slice_bounds-fill_ball-end-3 c).In_ok-read)).2

pub overflow_cast-centre : goal.overflow_cast-centre
overflow_cast-centre c =
    let (_, few, _) = stands-range (held (goal.at.overflow_cast-centre c).In_ok-read) Board (sound (goal.at.overflow_cast-centre c).In_ok-read) in
    omega (arith, few, (decided (goal.at.overflow_cast-centre c).In_ok-ball_verdict).0)

pub fill_ball-requires : goal.fill_ball-requires
fill_ball-requires c =
    let l = held (goal.at.fill_ball-requires c).In_ok-read in
    record {
      bounded = stands-bounded l Board (sound (goal.at.fill_ball-requires c).In_ok-read);
      c_in_bounds = (rw (stands-size l).0 (decided (goal.at.fill_ball-requires c).In_ok-ball_verdict).0, rw (stands-size l).0 (decided (goal.at.fill_ball-requires c).In_ok-ball_verdict).1);
    }

pub returns : goal.returns
unfolding number_reply
returns c =
    ball-read _ _ _ _ (sound (goal.at.returns c).In_ok-read) (held (goal.at.returns c).In_ok-read) (decided (goal.at.returns c).In_ok-ball_verdict).0 (decided (goal.at.returns c).In_ok-ball_verdict).1 c.fill_ball.ensures
