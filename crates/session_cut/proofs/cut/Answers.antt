-- `session_cut::cut` meets its contract: no link is left at the place, or it is taken out and striking goes on. Assumes nothing.
use Rattle.std.specs.Prelude.{◌≡◌, ◌++◌, ◌≤◌, Ok}
use Rattle.base_lists.specs.Kit.{◌∙◌, sym, subst, ℕ, length, get_or, take, drop, length-take-le, arith}
use Rattle.file_format.specs.Reply.{verdict_of}
use Rattle.session.specs.State.{state}
use Rattle.session.specs.Tables.{nodes_in, CutMade}
use Rattle.session.proofs.Tables.{bounded-le}
use Rattle.session_strike.specs.Moves.{moves_in, settled_from}
use Rattle.session_cut.specs.Cut.{TakenOut}
use Rattle.session_cut.proofs.Cuts.{gone-made, link-made}
use Rattle.session_cut.proofs.cut.Goals as goal
use Rattle.session_cut.proofs.cut.Goals.{After-take_out}

number : (c : After-take_out) → c.at_most-n.result ≡ nodes_in c.args.fixed.now
number c = c.at_most-n.ensures

few : (c : After-take_out) → c.at_most-n.result ≤ 512
few c = omega (arith, number c, bounded-le 512 (get_or c.args.fixed.now 65 0))

taking : (c : After-take_out) → TakenOut c.args.ends.now (nodes_in c.args.fixed.now) c.args.link_index c.take_out.result c.take_out.new.ends
taking c = subst (λ (n : ℕ). TakenOut c.args.ends.now n c.args.link_index c.take_out.result c.take_out.new.ends) (number c) c.take_out.ensures

pub overflow_cast-fixed : goal.overflow_cast-fixed
overflow_cast-fixed c = omega (arith, c.type_inv.fixed 65)

pub returns-in_default : goal.returns-in_default
returns-in_default c =
    gone-made c.args.fixed.now c.args.offsets.now c.args.numbers.now c.args.ends.now c.args.sets.now (taking (goal.at.returns-in_default c).After-take_out) c.in_default.is

pub slice_bounds-strike_from-end : goal.slice_bounds-strike_from-end
slice_bounds-strike_from-end c =
    sym (length-take-le 64 c.args.fixed.now (omega (arith, c.requires.in_fixed)))

pub slice_bounds-strike_from-end-2 : goal.slice_bounds-strike_from-end-2
slice_bounds-strike_from-end-2 c =
    omega (arith, few (goal.at.slice_bounds-strike_from-end-2 c).After-take_out, c.requires.in_sets)

pub slice_bounds-strike_from-end-3 : goal.slice_bounds-strike_from-end-3
slice_bounds-strike_from-end-3 c =
    sym (length-take-le _ c.args.sets.now (omega (arith, few (goal.at.slice_bounds-strike_from-end-3 c).After-take_out, c.requires.in_sets)))

pub strike_from-requires : goal.strike_from-requires
strike_from-requires c =
    let room : c.at_most-n.result ≤ length c.args.sets.now = omega (arith, few (goal.at.strike_from-requires c).After-take_out, c.requires.in_sets) in record {
      moves_room = record {
        in_masks = length-take-le 64 c.args.fixed.now (omega (arith, c.requires.in_fixed));
        in_offsets = c.requires.in_offsets;
        in_numbers = c.requires.in_numbers;
        in_ends = c.take_out.auto.ends ∙ c.requires.in_ends;
      };
      sets_len_bound = omega (arith, few (goal.at.strike_from-requires c).After-take_out, length-take-le c.at_most-n.result c.args.sets.now room);
    }

pub returns : goal.returns
returns c =
    subst (λ (n : ℕ). CutMade (state c.args.fixed.now c.args.offsets.now c.args.numbers.now c.args.ends.now c.args.sets.now) c.args.link_index (verdict_of {A = Unit {0}} (Ok tt)) (state c.args.fixed.now c.args.offsets.now c.args.numbers.now c.take_out.new.ends (c.strike_from.new.sets ++ drop n c.args.sets.now)))
    (sym (number (goal.at.returns c).After-take_out))
    (link-made c.args.fixed.now c.args.offsets.now c.args.numbers.now c.args.ends.now c.args.sets.now (taking (goal.at.returns c).After-take_out) _ _ c.in-Some.is
    (subst (λ (n : ℕ). c.strike_from.new.sets ≡ settled_from (take 64 c.args.fixed.now) (moves_in c.args.offsets.now c.args.numbers.now c.take_out.new.ends) (take n c.args.sets.now) c.in-Some.start c.in-Some.end) (number (goal.at.returns c).After-take_out) c.strike_from.ensures))
