-- One pass over the parts numbers the classes, and one collects the kinds of their smallest parts. Assumes nothing.
use Rattle.std.specs.Prelude.{◌≡◌, ◌∷◌, ◌++◌, ◌<◌, ◌+◌}
use Rattle.base_lists.specs.Kit.{◌∙◌, sym, ap, refl, Bool, false, true, List, [], append-nil, ℕ, add-zero, add-one, length, get_or, drop, set, get_or-append, sets, arith, eq-eqb, ne_eqb}
use Rattle.base_lists.specs.Below.{count_below, collect}
use Rattle.base_lists.specs.List.{tabulate}
use Rattle.base_lists.proofs.Below.{count_below-suc, collect-suc, length-collect}
use Rattle.base_lists.proofs.Tables.{length-tabulate, get_d_tabulate, filled_more, stored-whole, sets-append}
use Rattle.merge.specs.Merged.{leader, is_leader, class_in}
use Rattle.merge.specs.Steps.{Led}
use Rattle.merge.proofs.Steps.{class-leader, class-follower}
use Rattle.merge_classes.specs.Passes.{class_numbers, leader_count, leader_labels}

module _ (t : List ℕ) where
  -- the parts that lead their class
  abbrev leads : ℕ → Bool
  leads = is_leader (length t) t

  -- a part leads its class when it is the leader that was looked for
  pub leads-itself : (u v : ℕ) → v ≡ leader (length t) t u → v ≡ u → leads u ≡ true
  unfolding is_leader
  leads-itself u v e d = eq-eqb (leader (length t) t u) u (sym e ∙ d)

  pub follows : (u v : ℕ) → v ≡ leader (length t) t u → (v ≡ u → ⊥) → leads u ≡ false
  unfolding is_leader
  follows u v e d = ne_eqb (leader (length t) t u) u (λ q. d (e ∙ q))

  -- ---- how many classes

  pub count-leader : (u : ℕ) → leads u ≡ true → count_below u leads + 1 ≡ count_below (u + 1) leads
  count-leader u e = rw (add-one u, count_below-suc u leads, e)

  pub count-follower : (u : ℕ) → leads u ≡ false → count_below u leads ≡ count_below (u + 1) leads
  count-follower u e = rw (add-one u, count_below-suc u leads, e) (sym (add-zero (count_below u leads)))

  pub count-all : (u : ℕ) → u ≡ length t → count_below u leads ≡ leader_count t
  unfolding leader_count
  count-all u e = ap (λ (n : ℕ). count_below n leads) e

  -- ---- the classes, part by part

  -- the classes of the first u parts, before what a table has behind them
  unfoldable pub numbered : ℕ → List ℕ → List ℕ
  numbered u old = tabulate u (class_in (length t) t) ++ drop u old

  pub numbered-none : (old : List ℕ) → old ≡ numbered 0 old
  unfolding numbered tabulate
  numbered-none old = refl

  pub numbered-leader :
      (old : List ℕ) (u : ℕ) → u < length old → leads u ≡ true → set (numbered u old) u (count_below u leads) ≡ numbered (u + 1) old
  unfolding numbered
  numbered-leader old u h e = rw (← class-leader (length t) t u e) (filled_more u (class_in (length t) t) old h)

  pub numbered-follower :
      Led (length t) t → (old : List ℕ) (u : ℕ) → u < length t → u < length old → leads u ≡ false →
      set (numbered u old) u (get_or (numbered u old) (leader (length t) t u) 0) ≡ numbered (u + 1) old
  unfolding numbered
  numbered-follower led old u below h e =
      let (before, same) = class-follower (length t) t led u below e in
      let class = class_in (length t) t in
      let at : get_or (tabulate u class ++ drop u old) (leader (length t) t u) 0 ≡ class u =
      get_or-append (tabulate u class) (drop u old) 0 (leader (length t) t u) (rw (length-tabulate u class) before)
      ∙ get_d_tabulate u class (leader (length t) t u) 0 before
      ∙ sym same in
      rw at (filled_more u class old h)

  pub numbered-all : (old : List ℕ) (u : ℕ) → u ≡ length t → length old ≡ length t → numbered u old ≡ class_numbers t
  unfolding numbered class_numbers
  numbered-all old u e l = rw e (stored-whole _ old (length t) l)

  -- ---- the kinds of those that lead, class by class

  module _ (kinds : List ℕ) where
    -- of the first u parts
    unfoldable pub kinds_before : ℕ → List ℕ
    kinds_before u = collect u leads (λ v. get_or kinds v 0)

    pub kinds-none : (old : List ℕ) → old ≡ sets old 0 (kinds_before 0)
    unfolding kinds_before collect
    kinds-none old = refl

    pub kinds-leader :
        (old : List ℕ) (u : ℕ) → leads u ≡ true →
        set (sets old 0 (kinds_before u)) (count_below u leads) (get_or kinds u 0) ≡ sets old 0 (kinds_before (u + 1))
    unfolding kinds_before
    kinds-leader old u e =
        let size : count_below u leads ≡ 0 + length (collect u leads (λ v. get_or kinds v 0)) = omega (arith, length-collect u leads (λ v. get_or kinds v 0)) in
        ap (λ (k : ℕ). set (sets old 0 (collect u leads (λ v. get_or kinds v 0))) k (get_or kinds u 0)) size
        ∙ sets-append old 0 (collect u leads (λ v. get_or kinds v 0)) (get_or kinds u 0 ∷ [])
        ∙ rw (add-one u, collect-suc u leads (λ v. get_or kinds v 0), e)

    pub kinds-follower : (u : ℕ) → leads u ≡ false → kinds_before u ≡ kinds_before (u + 1)
    unfolding kinds_before
    kinds-follower u e = rw (add-one u, collect-suc u leads (λ v. get_or kinds v 0), e) (sym (append-nil _))

    pub kinds-all : (u : ℕ) → u ≡ length t → kinds_before u ≡ leader_labels t kinds
    unfolding kinds_before leader_labels
    kinds-all u e = rw e
