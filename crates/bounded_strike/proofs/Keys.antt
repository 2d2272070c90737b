-- Masks by bound and part as one number are the masks of the links of each bound. Assumes nothing.
use Rattle.std.specs.Prelude.{◌≡◌, ◌∷◌, ◌≤◌, ◌<◌, ◌+◌, ◌*◌}
use Rattle.base_lists.specs.Kit.{◌∙◌, sym, ap, refl, Bool, false, true, cond, List, [], ℕ, suc, zero, suc-le-suc, zero-lt-suc, eqb, length, get_or, arith, eq-eqb, ne_eqb, eqb-true, eqb-false}
use Rattle.base_lists.specs.List.{tabulate, Below}
use Rattle.base_lists.specs.Below.{keep_from}
use Rattle.graph.specs.Neighbours.{select}
use Rattle.bounded_strike.specs.Prepared.{key_at, keyed}

select-none : (keys : List ℕ) (v : ℕ) → select keys [] v ≡ []
unfolding select
select-none [] v = refl
select-none (k ∷ ks) v = refl

-- one key: it is that of bound h + 1 and part u when both are
key-same : (b k h u : ℕ) → 1 ≤ b → k < 32 → u < 32 → eqb b (suc h) ≡ true → eqb (key_at b k) (32 * h + u) ≡ eqb k u
key-same b k h u some l m e = go (eqb k u) refl
  where
    go : (t : Bool) → eqb k u ≡ t → eqb (key_at b k) (32 * h + u) ≡ t
    go true q = eq-eqb (key_at b k) (32 * h + u) (omega (arith, eqb-true b (suc h) e, eqb-true k u q))
    go false q = ne_eqb (key_at b k) (32 * h + u) (λ r. eqb-false k u q (omega (arith, eqb-true b (suc h) e)))

key-other : (b k h u : ℕ) → 1 ≤ b → k < 32 → u < 32 → eqb b (suc h) ≡ false → eqb (key_at b k) (32 * h + u) ≡ false
key-other b k h u some l m e = ne_eqb (key_at b k) (32 * h + u) (λ r. eqb-false b (suc h) e (omega arith))

select-keyed :
    (h u : ℕ) → u < 32 → (i : ℕ) (p : ℕ → Bool) (bs ks xs : List ℕ) → length bs ≡ length ks → ((j : ℕ) → j < length bs → 1 ≤ get_or bs j 0) →
    Below 32 ks → ((j : ℕ) → j < length bs → p (j + i) ≡ eqb (get_or bs j 0) (suc h)) →
    select (keyed bs ks) xs (32 * h + u) ≡ select (keep_from i p ks) (keep_from i p xs) u
unfolding keyed tabulate keep_from select Below
select-keyed h u m i p bs [] xs e some l q = refl
select-keyed h u m i p [] (k ∷ ks) xs e some l q = absurd (omega (arith, e))
select-keyed h u m i p (b ∷ bs) (k ∷ ks) [] e some l q = sym (select-none (cond (p i) (k ∷ keep_from (suc i) p ks) (keep_from (suc i) p ks)) u)
select-keyed h u m i p (b ∷ bs) (k ∷ ks) (x ∷ xs) e some l q =
    go (eqb b (suc h)) refl
    (select-keyed h u m (suc i) p bs ks xs (omega (arith, e)) (λ j r. some (suc j) (suc-le-suc r)) (λ j r. l (suc j) (suc-le-suc r))
    (λ j r. ap p (omega arith) ∙ q (suc j) (suc-le-suc r)))
  where
    first : p i ≡ eqb b (suc h)
    first = ap p (omega arith) ∙ q zero (zero-lt-suc _)

    go :
        (t : Bool) → eqb b (suc h) ≡ t → select (keyed bs ks) xs (32 * h + u) ≡ select (keep_from (suc i) p ks) (keep_from (suc i) p xs) u →
        cond (eqb (key_at b k) (32 * h + u)) (x ∷ select (keyed bs ks) xs (32 * h + u)) (select (keyed bs ks) xs (32 * h + u))
        ≡ select (cond (p i) (k ∷ keep_from (suc i) p ks) (keep_from (suc i) p ks)) (cond (p i) (x ∷ keep_from (suc i) p xs) (keep_from (suc i) p xs)) u
    go true t rest = rw (first, t, key-same b k h u (some zero (zero-lt-suc _)) (l zero (zero-lt-suc _)) m t, rest)
    go false t rest = rw (first, t, key-other b k h u (some zero (zero-lt-suc _)) (l zero (zero-lt-suc _)) m t, rest)

-- the links of bound h + 1
pub select-bound :
    (bounds keys values : List ℕ) (h u : ℕ) → u < 32 → length bounds ≡ length keys → ((j : ℕ) → j < length bounds → 1 ≤ get_or bounds j 0) →
    Below 32 keys →
    select (keyed bounds keys) values (32 * h + u)
    ≡ select (keep_from zero (λ i. eqb (get_or bounds i 0) (suc h)) keys) (keep_from zero (λ i. eqb (get_or bounds i 0) (suc h)) values) u
select-bound bounds keys values h u m e some l =
    select-keyed h u m zero (λ i. eqb (get_or bounds i 0) (suc h)) bounds keys values e some l
    (λ j r. ap (λ (x : ℕ). eqb (get_or bounds x 0) (suc h)) (omega arith))
