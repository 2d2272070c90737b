-- `graph_radius::first_spanning` meets its contract. The loop's invariant: the first table has the balls at radius k, and at no smaller
-- radius has every ball every node. The measure is how many radii are left. Assumes nothing.
use Rattle.std.specs.Prelude.{◌≡◌, ◌≤◌, ◌+◌}
use Rattle.base_lists.specs.Kit.{◌∙◌, sym, ap, refl, subst, Bool, List, ℕ, length, arith}
use Rattle.graph_radius.specs.Balls.{every_node, spanning, grown}
use Rattle.graph_radius.proofs.Spanning.{Reached, reached-first, reached-next, reached-found, reached-far}
use Rattle.graph_radius.proofs.first_spanning.Goals as goal
use Rattle.graph_radius.proofs.first_spanning.Goals.{At-loop-k, Else-all_full, Start}

few : (l : At-loop-k) → length ((l.args.near.now)) ≤ 32
few l = l.requires.near_len_bound.0

-- the answer to the test of a table
judged : (l : At-loop-k) (sets : List ℕ) (full : ℕ) (r b : Bool) → full ≡ every_node (length ((l.args.near.now))) → r ≡ spanning full sets → r ≡ b → spanning (every_node (length ((l.args.near.now)))) sets ≡ b
judged l sets full r b e q t = ap (λ (x : ℕ). spanning x sets) (sym e) ∙ sym q ∙ t

-- after the first round of a turn, and after the second
once : (c : Else-all_full) → Reached ((c.args.near.now)) ((c.args.old.now)) (grown ((c.args.near.now)) c.loop-k.old) (c.loop-k.k + 1)
once c =
    reached-next ((c.args.near.now)) ((c.args.old.now)) ((let fact : length ((c.args.near.now)) ≤ 32 = c.requires.near_len_bound.0 in fact)) c.loop-k.old c.loop-k.k c.loop-k.invariant.4
    ((let fact : (sets : List ℕ) (full : ℕ) (r b : Bool) → full ≡ every_node (length ((c.args.near.now))) → r ≡ spanning full sets → r ≡ b → spanning (every_node (length ((c.args.near.now)))) sets ≡ b = λ sets full r b e q t. ap (λ (x : ℕ). spanning x sets) (sym e) ∙ sym q ∙ t in fact) c.loop-k.old _ _ _ c.loop-k.invariant.3 c.all_full.ensures c.if-all_full.false)

pub every_node-full-requires : goal.every_node-full-requires
every_node-full-requires c = omega arith

pub loop-k-init : goal.loop-k-init
loop-k-init c = (omega arith, refl, refl, c.every_node-full.ensures, reached-first _ _)

pub overflow_cast-k : goal.overflow_cast-k
overflow_cast-k c = omega arith

pub all_full-requires : goal.all_full-requires
all_full-requires c = tt

pub shape_of-old-then-all_full : goal.shape_of-old-then-all_full
shape_of-old-then-all_full c = c.loop-k.invariant.1

pub shape_of-new-then-all_full : goal.shape_of-new-then-all_full
shape_of-new-then-all_full c = c.loop-k.invariant.2

pub returns-then-all_full : goal.returns-then-all_full
returns-then-all_full c =
    reached-found ((c.args.near.now)) ((c.args.old.now)) (few (goal.at.returns-then-all_full c).At-loop-k) c.loop-k.old c.loop-k.k c.loop-k.invariant.4
    (judged (goal.at.returns-then-all_full c).At-loop-k c.loop-k.old _ _ _ c.loop-k.invariant.3 c.all_full.ensures c.if-all_full.true)

pub grow-requires : goal.grow-requires
grow-requires c =
    record {
      len = (c.loop-k.invariant.1 ∙ c.requires.len.0, c.loop-k.invariant.2 ∙ c.requires.len.1);
      below = c.requires.near_len_bound.1;
    }

pub all_full-requires-in-loop-k : goal.all_full-requires-in-loop-k
all_full-requires-in-loop-k c = tt

pub overflow_add-result : goal.overflow_add-result
overflow_add-result c = omega arith

pub shape_of-old-then-all_full-2 : goal.shape_of-old-then-all_full-2
shape_of-old-then-all_full-2 c = c.loop-k.invariant.1

pub shape_of-new-then-all_full-2 : goal.shape_of-new-then-all_full-2
shape_of-new-then-all_full-2 c = c.grow.auto.new ∙ c.loop-k.invariant.2

pub returns-then-all_full-2 : goal.returns-then-all_full-2
returns-then-all_full-2 c =
    reached-found ((c.args.near.now)) ((c.args.old.now)) (few (goal.at.returns-then-all_full-2 c).At-loop-k) c.grow.new.new (c.loop-k.k + 1)
    (subst (λ (x : List ℕ). Reached ((c.args.near.now)) ((c.args.old.now)) x (c.loop-k.k + 1)) (sym c.grow.ensures) (once (goal.at.returns-then-all_full-2 c).Else-all_full))
    (judged (goal.at.returns-then-all_full-2 c).At-loop-k c.grow.new.new _ _ _ c.loop-k.invariant.3 c.all_full-in-loop-k.ensures c.if-all_full-2.true)

pub grow-requires-in-loop-k : goal.grow-requires-in-loop-k
grow-requires-in-loop-k c =
    record {
      len = (c.grow.auto.new ∙ c.loop-k.invariant.2 ∙ c.requires.len.1, c.loop-k.invariant.1 ∙ c.requires.len.0);
      below = c.requires.near_len_bound.1;
    }

pub overflow_add-k : goal.overflow_add-k
overflow_add-k c = omega arith

pub loop-k-smaller : goal.loop-k-smaller
loop-k-smaller c = omega arith

pub loop-k-preserved : goal.loop-k-preserved
loop-k-preserved c =
    let there = subst (λ (x : List ℕ). Reached ((c.args.near.now)) ((c.args.old.now)) x (c.loop-k.k + 1)) (sym c.grow.ensures) (once (goal.at.loop-k-preserved c).Else-all_full) in
    let not_yet = judged (goal.at.loop-k-preserved c).At-loop-k c.grow.new.new _ _ _ c.loop-k.invariant.3 c.all_full-in-loop-k.ensures c.if-all_full-2.false in
    let again : c.loop-k.k + 1 + 1 ≡ c.loop-k.k + 2 = omega arith in (
      omega (arith, (goal.at.loop-k-preserved c).Start),
      c.grow-in-loop-k.auto.new ∙ c.loop-k.invariant.1,
      c.grow.auto.new ∙ c.loop-k.invariant.2,
      c.loop-k.invariant.3,
      subst (Reached ((c.args.near.now)) ((c.args.old.now)) c.grow-in-loop-k.new.new) again
          (subst (λ (x : List ℕ). Reached ((c.args.near.now)) ((c.args.old.now)) x (c.loop-k.k + 1 + 1)) (sym c.grow-in-loop-k.ensures)
          (reached-next ((c.args.near.now)) ((c.args.old.now)) (few (goal.at.loop-k-preserved c).At-loop-k) c.grow.new.new (c.loop-k.k + 1) there not_yet)),
    )

pub shape_of-old : goal.shape_of-old
shape_of-old c = c.loop-k.invariant.1

pub shape_of-new : goal.shape_of-new
shape_of-new c = c.loop-k.invariant.2

pub returns : goal.returns
returns c =
    reached-far ((c.args.near.now)) ((c.args.old.now)) (few (goal.at.returns c).At-loop-k) c.loop-k.old c.loop-k.k c.loop-k.invariant.4 (omega arith)
