-- Dropping one after another, by a test that more links pass if fewer do: what is left passes, and without any one of what is left it would
-- not. Assumes nothing.
use Rattle.std.specs.Prelude.{◌≡◌, ◌⊎◌, ◌≤◌, ◌<◌, ◌+◌}
use Rattle.base_lists.specs.Kit.{◌∙◌, sym, ap, refl, subst, inl, inr, Bool, false, true, cond, List, ℕ, suc, zero, eq-or-lt_of_le, T, eqb, length, get_or, set, length-set, get_or-eq_default, get_or-set_other, get_or-set_same, arith, ne_eqb}
use native.Mathlib.Decide.{dec_lt, ℕ_discrete}
use Rattle.base_lists.proofs.Tests.{false-T, true-T}
use Rattle.graph.specs.Search.{inside}
use Rattle.barring.specs.Least.{drop_from}

-- what a marks, b marks
abbrev pub Fewer : List ℕ → List ℕ → Type 0
Fewer a b = (j : ℕ) → T (inside a j) → T (inside b j)

-- with more links marked the test still passes
abbrev pub Upward : (List ℕ → Bool) → Type 0
Upward test = (a b : List ℕ) → Fewer a b → T (test a) → T (test b)

-- ---- one mark taken away

unmarked : (a : List ℕ) (i : ℕ) → get_or (set a i 0) i 0 ≡ 0
unmarked a i = go (dec_lt i (length a))
  where
    go : Dec (i < length a) → get_or (set a i 0) i 0 ≡ 0
    go (yes h) = get_or-set_same a i 0 0 h
    go (no h) = get_or-eq_default (set a i 0) 0 (omega (arith, length-set a i 0))

-- its byte is not 1, and the others are as they were
pub without-it : (a : List ℕ) (i : ℕ) → T (inside (set a i 0) i) → ⊥
unfolding inside
without-it a i = false-T (ne_eqb (get_or (set a i 0) i 0) 1 (λ e. absurd (omega (arith, e, unmarked a i))))

pub without_other : (a : List ℕ) (i j : ℕ) → (j ≡ i → ⊥) → inside (set a i 0) j ≡ inside a j
unfolding inside
without_other a i j f = ap (λ (x : ℕ). eqb x 1) (get_or-set_other a i j 0 0 f)

pub fewer-without : (a : List ℕ) (i : ℕ) → Fewer (set a i 0) a
fewer-without a i j t = go (ℕ_discrete j i)
  where
    go : Dec (j ≡ i) → T (inside a j)
    go (yes e) = absurd (without-it a i (subst (λ (x : ℕ). T (inside (set a i 0) x)) e t))
    go (no f) = subst T (without_other a i j f) t

pub without_fewer : (a b : List ℕ) (i : ℕ) → Fewer a b → Fewer (set a i 0) (set b i 0)
without_fewer a b i few j t = go (ℕ_discrete j i)
  where
    go : Dec (j ≡ i) → T (inside (set b i 0) j)
    go (yes e) = absurd (without-it a i (subst (λ (x : ℕ). T (inside (set a i 0) x)) e t))
    go (no f) = subst T (sym (without_other b i j f)) (few j (subst T (without_other a i j f) t))

-- ---- one after another

pub length-drop : (test : List ℕ → Bool) (i k : ℕ) (marks : List ℕ) → length (drop_from test i k marks) ≡ length marks
unfolding drop_from
length-drop test i zero marks = refl
length-drop test i (suc k) marks = length-drop test (suc i) k _ ∙ go (test (set marks i 0))
  where
    go : (b : Bool) → length (cond b (set marks i 0) marks) ≡ length marks
    go true = length-set marks i 0
    go false = refl

-- nothing is marked that was not
pub drop-fewer : (test : List ℕ → Bool) (i k : ℕ) (marks : List ℕ) → Fewer (drop_from test i k marks) marks
unfolding drop_from
drop-fewer test i zero marks j t = t
drop-fewer test i (suc k) marks j t = go (test (set marks i 0)) (drop-fewer test (suc i) k (cond (test (set marks i 0)) (set marks i 0) marks) j t)
  where
    go : (b : Bool) → T (inside (cond b (set marks i 0) marks) j) → T (inside marks j)
    go true t = fewer-without marks i j t
    go false t = t

-- what is left passes
pub drop-passes : (test : List ℕ → Bool) (i k : ℕ) (marks : List ℕ) → T (test marks) → T (test (drop_from test i k marks))
unfolding drop_from
drop-passes test i zero marks t = t
drop-passes test i (suc k) marks t = drop-passes test (suc i) k _ (go (test (set marks i 0)) refl)
  where
    go : (b : Bool) → test (set marks i 0) ≡ b → T (test (cond b (set marks i 0) marks))
    go true e = true-T e
    go false e = t

-- and each that is left, of those gone through, is needed
pub drop-needed :
    (test : List ℕ → Bool) → Upward test → (i k : ℕ) (marks : List ℕ) (j : ℕ) → i ≤ j → j < i + k →
    T (inside (drop_from test i k marks) j) → T (test (set (drop_from test i k marks) j 0)) → ⊥
unfolding drop_from
drop-needed test up i zero marks j low high t p = absurd (omega arith)
drop-needed test up i (suc k) marks j low high t p =
    go (eq-or-lt_of_le low) (λ l h. drop-needed test up (suc i) k (cond (test (set marks i 0)) (set marks i 0) marks) j l h t p)
  where
    next : Bool → List ℕ
    next b = cond b (set marks i 0) marks

    here : (b : Bool) → test (set marks i 0) ≡ b → (final : List ℕ) → Fewer final (next b) → T (inside final i) → T (test (set final i 0)) → ⊥
    here true e final few t p = without-it marks i (few i t)
    here false e final few t p = false-T e (up (set final i 0) (set marks i 0) (without_fewer final marks i few) p)

    final : List ℕ
    final = drop_from test (suc i) k (next (test (set marks i 0)))

    go : (i ≡ j) ⊎ (i < j) → (suc i ≤ j → j < suc i + k → ⊥) → ⊥
    go (inl e) later =
        here (test (set marks i 0)) refl final (drop-fewer test (suc i) k (next (test (set marks i 0))))
        (subst (λ (x : ℕ). T (inside final x)) (sym e) t) (subst (λ (x : ℕ). T (test (set final x 0))) (sym e) p)
    go (inr l) later = later l (omega arith)
