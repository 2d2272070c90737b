-- `session_strike::strike_marked` meets its contract. The loop's invariant is `Going`; the measure falls with a set that gets smaller, or with a mark that is taken
-- away. Assumes nothing.
use Rattle.std.specs.Prelude.{◌<◌}
use Rattle.base_lists.specs.Kit.{◌∙◌, arith}
use Rattle.session_strike.proofs.Going.{going_start, going-word, going_next, going_less, going_end}
use Rattle.session_strike.proofs.strike_marked.Goals as goal
use Rattle.session_strike.proofs.strike_marked.Goals.{In-Some}

pub loop-j-init : goal.loop-j-init
loop-j-init c = going_start _ _ c.requires.sets_len_bound.1 (λ i. omega (arith, c.type_inv.sets i)) (λ i. omega (arith, c.type_inv.marks i))

-- the word that is found
found : (c : In-Some) → c.in-Some.j < 16
found c = omega (arith, c.loop-j.invariant.stands.room, c.in-Some.ensures.1)

pub unmark-v-requires : goal.unmark-v-requires
unmark-v-requires c =
    let h = found (goal.at.unmark-v-requires c).In-Some in
    (c.loop-j.invariant.stands.room, h, going-word _ _ c.loop-j.invariant c.in-Some.ensures.0 h)

pub look-requires : goal.look-requires
look-requires c =
    record {
      moves_room = c.requires.moves_room;
      sets_len_bound = (omega (arith, c.loop-j.invariant.long, c.requires.sets_len_bound.0), c.unmark-v.auto.marks ∙ c.loop-j.invariant.stands.room);
    }

pub loop-j-smaller : goal.loop-j-smaller
loop-j-smaller c =
    going_less _ _ c.loop-j.invariant c.in-Some.ensures.0 (found (goal.at.loop-j-smaller c).In-Some) c.unmark-v.ensures (c.look.ensures.sets_after, c.look.ensures.marks_after)

pub loop-j-preserved : goal.loop-j-preserved
loop-j-preserved c =
    going_next _ _ c.loop-j.invariant c.in-Some.ensures.0 (found (goal.at.loop-j-preserved c).In-Some) c.unmark-v.ensures (c.look.ensures.sets_after, c.look.ensures.marks_after)

pub returns : goal.returns
returns c = going_end _ _ c.loop-j.invariant c.in_default.ensures
