-- Laws of the masks: the sets of the parts that a part drives, or that drive it, built link by link. Assumes nothing.
use Rattle.std.specs.Prelude.{◌≡◌, ◌||◌, ◌∷◌, ◌<◌, ◌^◌}
use Rattle.base_lists.specs.Kit.{◌∙◌, sym, ap, refl, subst, Bool, false, true, cond, or-false, or_assoc, List, [], ℕ, not-le_of_lt, eqb, length, get_or, set, length-set, replicate, length-replicate, get_or-replicate, get_or-set_other, get_or-set_same, eqb-true, eqb-false}
use lib.Bits.{bit_or}
use Rattle.base_lists.specs.List.{any, Below}
use Rattle.base_lists.proofs.Tests.{T_false, eqb-sym}
use Rattle.base_lists.proofs.Tables.{is-tabulate}
use Rattle.simulation.specs.Simulation.{Direction, forwards, backwards}
use Rattle.base_bits.specs.Bits.{bit, number_of}
use Rattle.base_bits.proofs.Digits.{bit-of-zero, bit-or, bit-single, same_bits}
use Rattle.base_bits.proofs.Numbers.{bit-number-all}
use Rattle.graph.specs.Neighbours.{select}
use Rattle.graph.proofs.Groups.{select-link}
use Rattle.graph.specs.Circuit.{Circuit}
use Rattle.table_row.proofs.Masks.{listed_below}
use Rattle.table.specs.Fill.{listed}
use Rattle.table.specs.Prepared.{masks_of}
use Rattle.table.specs.Row.{neighbours}

-- ---- links added one by one to the sets of their keys

unfoldable pub add_links : List ℕ → List ℕ → List ℕ → List ℕ
add_links [] xs out = out
add_links (k ∷ ks) [] out = out
add_links (k ∷ ks) (x ∷ xs) out = add_links ks xs (set out k (bit_or (get_or out k 0) (2 ^ x)))

length-add : (ks xs out : List ℕ) → length (add_links ks xs out) ≡ length out
unfolding add_links
length-add [] xs out = refl
length-add (k ∷ ks) [] out = refl
length-add (k ∷ ks) (x ∷ xs) out = length-add ks xs (set out k (bit_or (get_or out k 0) (2 ^ x))) ∙ length-set out k (bit_or (get_or out k 0) (2 ^ x))

-- the sets that they make
bit-add : (ks xs out : List ℕ) (u : ℕ) → u < length out → (y : ℕ) → bit (get_or (add_links ks xs out) u 0) y ≡ bit (get_or out u 0) y || listed (select ks xs u) y
unfolding add_links select listed any
bit-add [] xs out u h y = sym (or-false (bit (get_or out u 0) y))
bit-add (k ∷ ks) [] out u h y = sym (or-false (bit (get_or out u 0) y))
bit-add (k ∷ ks) (x ∷ xs) out u h y = bit-add ks xs (set out k (bit_or (get_or out k 0) (2 ^ x))) u (rw length-set h) y ∙ go (eqb k u) refl
  where
    here : k ≡ u → get_or (set out k (bit_or (get_or out k 0) (2 ^ x))) u 0 ≡ bit_or (get_or out u 0) (2 ^ x)
    here e = rw e (get_or-set_same out u (bit_or (get_or out u 0) (2 ^ x)) 0 h)

    go : (b : Bool) → eqb k u ≡ b
        → bit (get_or (set out k (bit_or (get_or out k 0) (2 ^ x))) u 0) y || listed (select ks xs u) y
        ≡ bit (get_or out u 0) y || listed (cond b (x ∷ select ks xs u) (select ks xs u)) y
    go true e =
        ap (λ (s : ℕ). bit s y || listed (select ks xs u) y) (here (eqb-true k u e))
        ∙ ap (λ (b : Bool). b || listed (select ks xs u) y) (bit-or (get_or out u 0) (2 ^ x) y ∙ ap (λ (b : Bool). bit (get_or out u 0) y || b) (bit-single x y ∙ eqb-sym y x))
        ∙ or_assoc (bit (get_or out u 0) y) (eqb x y) (listed (select ks xs u) y)
    go false e =
        ap (λ (s : ℕ). bit s y || listed (select ks xs u) y) (get_or-set_other out k u (bit_or (get_or out k 0) (2 ^ x)) 0 (λ d. eqb-false k u e (sym d)))

-- ---- the values beside a key

-- they are below n, where all values are
pub select-within : (n : ℕ) (ks xs : List ℕ) (u : ℕ) → Below n xs → Below n (select ks xs u)
unfolding Below
select-within n ks xs u l i h = let (j, k) = select-link ks xs u i h in subst (λ (z : ℕ). z < n) k.end (l j k.in_ends)

add_none : (n : ℕ) (ks xs : List ℕ) → Below 32 xs → add_links ks xs (replicate n 0) ≡ masks_of n ks xs
unfolding masks_of
add_none n ks xs l =
    let none : List ℕ = replicate n 0 in
    let long : length none ≡ n = length-replicate n 0 in
    is-tabulate n (λ u. number_of 32 (listed (select ks xs u))) (add_links ks xs none) (length-add ks xs none ∙ long)
    (λ u h. same_bits (get_or (add_links ks xs none) u 0) (number_of 32 (listed (select ks xs u)))
    (λ y.
    bit-add ks xs none u (rw long h) y
    ∙ ap (λ (b : Bool). b || listed (select ks xs u) y) (ap (λ (s : ℕ). bit s y) (get_or-replicate n u 0 0 h) ∙ bit-of-zero y)
    ∙ sym (bit-number-all 32 (listed (select ks xs u)) (λ v k. T_false (λ t. not-le_of_lt (listed_below 32 (select ks xs u) v (select-within 32 ks xs u l) t) k)) y)))

-- the links added to empty sets are the masks
pub add-masks : (n : ℕ) (ks xs out : List ℕ) → Below 32 xs → out ≡ replicate n 0 → add_links ks xs out ≡ masks_of (length out) ks xs
add-masks n ks xs out l e =
    let long : length out ≡ n = ap length e ∙ length-replicate n 0 in
    rw (long, e) (add_none n ks xs l)

-- ---- neighbours along a direction

-- links lead from parts to parts
pub neighbours-below : (n : ℕ) (c : Circuit) → Below n c.starts → Below n c.ends → (d : Direction) (u : ℕ) → Below n (neighbours c d u)
unfolding neighbours
neighbours-below n c starts ends forwards u = select-within n c.starts c.ends u ends
neighbours-below n c starts ends backwards u = select-within n c.ends c.starts u starts
