-- `session_strike::find` meets its contract: the first word that is not 0. Assumes nothing.
use Rattle.std.specs.Prelude.{◌≡◌, ◌<◌, ◌≤◌, ◌+◌, ◌∷◌, Option, Some, None, MatchOption}
use Rattle.std.specs.List.{position_or_len}
use Rattle.base_lists.specs.Kit.{◌∙◌, ap, refl, one-add, Bool, false, true, cond, not, List, [], ℕ, suc, eqb, ltb, length, get_or, arith, rules, ltb-true, ltb-false}
use Rattle.base_lists.specs.Below.{least_below}
use Rattle.base_lists.proofs.Below.{least_below-le}
use Rattle.std.proofs.lemmas.Iterator.{YieldsList-from_slice}
use Rattle.std.proofs.lemmas.Iterator.Search.{position_from_yields_List}
use borrow.Author.Tests.{tests}
use Rattle.session_strike.proofs.find.Goals as goal

position-least : (p : ℕ → Bool) (xs : List ℕ) → position_or_len p xs ≡ least_below (length xs) (λ j. p (get_or xs j 0))
unfolding least_below
position-least p [] = refl
position-least p (x ∷ xs) = go (p x) (position-least p xs)
  where
    go : (b : Bool) {k : ℕ} → position_or_len p xs ≡ k → cond (not b) (1 + position_or_len p xs) 0 ≡ cond b 0 (suc k)
    go true e = refl
    go false e = one-add _ ∙ ap suc e

found : (r : Option ℕ) (f n : ℕ) → f ≤ n → r ≡ cond (ltb f n) (Some f) None → MatchOption r (f ≡ n) (λ j. (j ≡ f) × (j < n))
found r f n le e = rw e (go (ltb f n) refl)
  where
    go : (b : Bool) → ltb f n ≡ b → MatchOption (cond b (Some f) None) (f ≡ n) (λ j. (j ≡ f) × (j < n))
    go true l = (refl, ltb-true f n l)
    go false l = omega (arith, ltb-false f n l)

pub returns : goal.returns
returns c =
    let p = (λ (m : ℕ). not (eqb m 0)) in
    let marks = c.args.marks.now in
    let first : position_or_len p marks ≡ least_below (length marks) (λ j. p (get_or marks j 0)) = position-least p marks in
    found c.position.result _ (length marks) (least_below-le (length marks) (λ j. p (get_or marks j 0)))
    (rw first at (position_from_yields_List p _ _ c.position.result c.position.ensures.ran (YieldsList-from_slice marks cc) (λ x b q k. search (rules, tests))))
