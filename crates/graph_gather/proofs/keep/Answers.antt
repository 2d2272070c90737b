-- `graph_gather::keep` meets its contract. The loop's invariant: of the first i nodes those with the number stand in front, and the nodes from the
-- i-th on stand where they stood. Assumes nothing.
use Rattle.std.specs.Prelude.{◌≡◌, ◌∷◌, ◌++◌, ◌<◌, ◌+◌}
use Rattle.base_lists.specs.Kit.{◌∙◌, sym, ap, refl, subst, Bool, false, true, cond, List, [], append-nil, ℕ, le_refl, add-zero, add-one, length, get_or, take, set, length-take-le, get_or-set_other, get_or-take, take-suc, take-suc-set, take-set-le, arith}
use Rattle.base_lists.specs.List.{Below}
use Rattle.base_lists.proofs.Tests.{cond-le}
use Rattle.graph_gather.specs.Having.{having, numbered}
use Rattle.graph_gather.proofs.Having.{having-more}
use Rattle.graph_gather.proofs.keep.Goals as goal
use Rattle.graph_gather.proofs.keep.Goals.{In-loop-i}

-- one node more
keep-next : (p : ℕ → Bool) (queue queue₀ : List ℕ) (kept i v : ℕ) → i < length queue₀ → kept < length queue → v ≡ get_or queue₀ i 0
    → take kept queue ≡ having p (take i queue₀) → take (kept + cond (p v) 1 0) (set queue kept v) ≡ having p (take (i + 1) queue₀)
keep-next p queue queue₀ kept i v h k e q = go (p v) ∙ sym more
  where
    more : having p (take (i + 1) queue₀) ≡ take kept queue ++ cond (p v) (v ∷ []) []
    more =
        rw (add-one i)
        (ap (having p) (take-suc queue₀ i 0 h ∙ ap (λ (y : ℕ). take i queue₀ ++ (y ∷ [])) (sym e)) ∙ having-more p (take i queue₀) v
        ∙ ap (λ (l : List ℕ). l ++ cond (p v) (v ∷ []) []) (sym q))

    go : (b : Bool) → take (kept + cond b 1 0) (set queue kept v) ≡ take kept queue ++ cond b (v ∷ []) []
    go true = rw (add-one kept) (take-suc-set queue kept v k)
    go false = rw add-zero (take-set-le kept queue kept v (le_refl kept) ∙ sym (append-nil (take kept queue)))

pub loop-i-init : goal.loop-i-init
unfolding having
loop-i-init c = (omega arith, refl, λ j h. refl)

-- there is room for the next node
room : (c : In-loop-i) → (c.loop-i.i < length c.loop-i.queue) × (c.loop-i.kept < length c.loop-i.queue) × (c.loop-i.i < 65536)
room c =
    (omega (arith, c.loop-i.auto.queue, c.requires.0), omega (arith, c.loop-i.invariant.0, c.loop-i.auto.queue, c.requires.0), omega (arith, c.requires.0, c.requires.1))

-- it has a number
node : (c : In-loop-i) → get_or c.loop-i.queue c.loop-i.i 0 < length c.args.numbers.now
unfolding Below
node c =
    subst (λ (v : ℕ). v < length c.args.numbers.now) (get_or-take c.args.k c.args.queue.now c.loop-i.i 0 c.loop-i-test.true ∙ sym (c.loop-i.invariant.2 c.loop-i.i (le_refl _)))
    (c.requires.2 c.loop-i.i (rw (length-take-le c.args.k c.args.queue.now c.requires.0) c.loop-i-test.true))

pub loop-i-preserved : goal.loop-i-preserved
loop-i-preserved c =
    let r = room (goal.at.loop-i-preserved c).In-loop-i in
    let v = get_or c.loop-i.queue c.loop-i.i 0 in
    let p : ℕ → Bool = numbered c.args.numbers.now c.args.x in (
      omega (arith, c.count_equal-kept.ensures, cond-le (p v), c.loop-i.invariant.0),
      rw c.count_equal-kept.ensures (keep-next p c.loop-i.queue c.args.queue.now c.loop-i.kept c.loop-i.i v (omega (arith, c.loop-i.auto.queue)) r.1 (c.loop-i.invariant.2 c.loop-i.i (le_refl _)) c.loop-i.invariant.1),
      λ j h. get_or-set_other c.loop-i.queue c.loop-i.kept j v 0 (λ e. omega (arith, c.loop-i.invariant.0)) ∙ c.loop-i.invariant.2 j (omega arith),
    )

pub returns : goal.returns
returns c =
    let e : c.loop-i.i ≡ c.args.k = omega (arith, c.loop-i-test.false) in
    record {
      upper_bound = omega (arith, c.loop-i.invariant.0, c.loop-i.auto.queue, c.requires.0);
      queue_after = c.loop-i.invariant.1 ∙ ap (λ (m : ℕ). having (numbered c.args.numbers.now c.args.x) (take m c.args.queue.now)) e;
    }

pub bounds-queue-kept : goal.bounds-queue-kept
bounds-queue-kept c = omega (arith, room (goal.at.bounds-queue-kept c).In-loop-i)

pub bounds-numbers-v : goal.bounds-numbers-v
bounds-numbers-v c = node (goal.at.bounds-numbers-v c).In-loop-i

pub count_equal-kept-requires : goal.count_equal-kept-requires
count_equal-kept-requires c = omega (arith, room (goal.at.count_equal-kept-requires c).In-loop-i, c.loop-i.invariant.0)
