-- `table_prepare::masks::masks_of` meets its contract: the links that are left, added to the sets so far, make the masks. Assumes nothing.
use Rattle.std.specs.Prelude.{◌≡◌, ◌∷◌, ◌<◌, ◌^◌, ◌⊎◌}
use Rattle.std.specs.Iterator.Adapters.{zip_first, zip_second}
use Rattle.std.specs.Slice.Iter.{iter_rest}
use Rattle.base_lists.specs.Kit.{◌∙◌, sym, ap, refl, inl, inr, ⊎_map, List, [], ℕ, suc, zero-lt-suc, suc-le-suc, length, get_or, set, length-set, arith, rules}
use lib.Bits.{bit_or}
use Rattle.base_lists.specs.List.{Below}
use Rattle.table.specs.Prepared.{masks_of}
use Rattle.table.proofs.Masks.{add_links, add-masks}
use Rattle.table_prepare.proofs.masks.masks_of.Invariants.{Adding}
use Rattle.table_prepare.proofs.masks.masks_of.Goals as goal

module _ {keys values left right before out : List ℕ} (g : Adding keys values left right before out) where
  module _ {k x : ℕ} {ks xs : List ℕ} (e : left ≡ k ∷ ks) (q : right ≡ x ∷ xs) where
    -- the next key has a set, and the value beside it is a part
    key-known : k < length out
    unfolding Below
    key-known = (rw e at g.keys_below) 0 (zero-lt-suc _)

    value-known : x < 32
    unfolding Below
    value-known = (rw q at g.values_below) 0 (zero-lt-suc _)

    next : {s : ℕ} → s ≡ 2 ^ x → Adding keys values ks xs before (set out k (bit_or (get_or out k 0) s))
    unfolding Below add_links
    next d = record {
      keys_below = λ i h. rw length-set ((rw e at g.keys_below) (suc i) (suc-le-suc h));
      values_below = λ i h. (rw q at g.values_below) (suc i) (suc-le-suc h);
      long = length-set _ _ _ ∙ g.long;
      made = rw d (rw (e, q) at g.made);
    }

pub loop-key-init : goal.loop-key-init
loop-key-init c =
    let first : iter_rest (zip_first c.into_iter-key-iterator.result) ≡ c.args.keys.now = search rules in
    let second : iter_rest (zip_second c.into_iter-key-iterator.result) ≡ c.args.values.now = search rules in
    record {
      keys_below = rw (first, c.fill.auto.s) c.requires.below;
      values_below = rw second c.requires.below_2;
      long = refl;
      made = rw (first, second) (add-masks (length c.args.out.now) c.args.keys.now c.args.values.now _ c.requires.below_2 c.fill.ensures);
    }

pub single-requires : goal.single-requires
single-requires c = value-known c.loop-key.invariant c.in-Some.ensures.steps.0 c.in-Some.ensures.steps.1

pub bounds-out-key : goal.bounds-out-key
bounds-out-key c = key-known c.loop-key.invariant c.in-Some.ensures.steps.0 c.in-Some.ensures.steps.1

pub bounds-out-key-in-loop-key : goal.bounds-out-key-in-loop-key
bounds-out-key-in-loop-key c = key-known c.loop-key.invariant c.in-Some.ensures.steps.0 c.in-Some.ensures.steps.1

pub loop-key-preserved : goal.loop-key-preserved
loop-key-preserved c = next c.loop-key.invariant c.in-Some.ensures.steps.0 c.in-Some.ensures.steps.1 c.single.ensures

-- past the last link nothing is added
ended : (keys values out : List ℕ) → (length keys ≡ 0) ⊎ (length values ≡ 0) → add_links keys values out ≡ out
unfolding add_links
ended [] values out h = refl
ended (k ∷ ks) [] out h = refl
ended (k ∷ ks) (x ∷ xs) out (inl h) = absurd (omega arith)
ended (k ∷ ks) (x ∷ xs) out (inr h) = absurd (omega arith)

pub returns : goal.returns
returns c =
    let none : (length (iter_rest (zip_first c.loop-key.key-iterator)) ≡ 0) ⊎ (length (iter_rest (zip_second c.loop-key.key-iterator)) ≡ 0) =
    ⊎_map (λ h. h.1.0) (λ h. h.1.0) c.in-None.ensures.steps in
    sym (ended _ _ _ none) ∙ c.loop-key.invariant.made ∙ ap (λ (n : ℕ). masks_of n c.args.keys.now c.args.values.now) c.fill.auto.s
