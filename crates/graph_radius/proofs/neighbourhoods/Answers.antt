-- `graph_radius::neighbourhoods` meets its contract. The loop's invariant: the sets are the balls at radius 1 along the links passed. Assumes nothing.
use Rattle.std.specs.Prelude.{◌≡◌, ◌≤◌, ◌<◌}
use Rattle.base_lists.specs.Kit.{◌∙◌, length, get_or, take_all, arith}
use Rattle.base_lists.proofs.Entries.{all-below-at}
use Rattle.graph_radius.proofs.Balls.{balls-begin, balls-more}
use Rattle.graph_radius.proofs.neighbourhoods.Goals as goal
use Rattle.graph_radius.proofs.neighbourhoods.Goals.{At-loop-i}

-- as many sets as were lent
size : (l : At-loop-i) → length l.singles.new.sets ≡ length l.args.near.now
size l = l.singles.auto.sets

-- the nodes of the link at hand
start-below : (l : At-loop-i) → l.loop-i.i < length l.args.starts.now → get_or l.args.starts.now l.loop-i.i 0 < length l.args.near.now
start-below l h = all-below-at _ l.args.starts.now l.loop-i.i l.requires.t.0 h

end_below : (l : At-loop-i) → l.loop-i.i < length l.args.starts.now → get_or l.args.ends.now l.loop-i.i 0 < length l.args.near.now
end_below l h = all-below-at _ l.args.ends.now l.loop-i.i l.requires.t.1 (omega (arith, l.requires.starts_len.0))

pub loop-i-init : goal.loop-i-init
loop-i-init c =
    c.singles.ensures ∙ rw c.singles.auto.sets (balls-begin (length c.args.near.now) c.args.starts.now c.args.ends.now)

pub join-requires : goal.join-requires
join-requires c =
    let few : length c.args.near.now ≤ 32 = c.requires.starts_len.1 in
    let a = start-below (goal.at.join-requires c).At-loop-i (omega arith) in
    let b = end_below (goal.at.join-requires c).At-loop-i (omega arith) in
    (omega (arith, a, c.loop-i.auto.near, size (goal.at.join-requires c).At-loop-i), omega (arith, b, few))

pub join-requires-in-loop-i : goal.join-requires-in-loop-i
join-requires-in-loop-i c =
    let few : length c.args.near.now ≤ 32 = c.requires.starts_len.1 in
    let a = start-below (goal.at.join-requires-in-loop-i c).At-loop-i (omega arith) in
    let b = end_below (goal.at.join-requires-in-loop-i c).At-loop-i (omega arith) in
    (omega (arith, b, c.loop-i.auto.near, size (goal.at.join-requires-in-loop-i c).At-loop-i, c.join.auto.sets), omega (arith, a, few))

pub loop-i-preserved : goal.loop-i-preserved
loop-i-preserved c =
    let h : c.loop-i.i < length c.args.starts.now = omega (arith, c.loop-i) in
    let same : length c.singles.new.sets ≡ length c.args.near.now = size (goal.at.loop-i-preserved c).At-loop-i in
    c.join-in-loop-i.ensures
    ∙ rw (c.join.ensures, c.loop-i.invariant)
    (balls-more _ c.args.starts.now c.args.ends.now c.loop-i.i h (omega (arith, c.requires.starts_len.0)) (rw same (start-below (goal.at.loop-i-preserved c).At-loop-i h)) (rw same (end_below (goal.at.loop-i-preserved c).At-loop-i h)))

pub returns : goal.returns
returns c =
    let h : length c.args.starts.now ≤ c.loop-i.i = omega arith in
    c.loop-i.invariant ∙ rw (size (goal.at.returns c).At-loop-i, take_all c.loop-i.i c.args.starts.now h, take_all c.loop-i.i c.args.ends.now (omega (arith, c.requires.starts_len.0)))
