-- Laws of a stretch of a list. Assumes nothing.
use Rattle.std.specs.Prelude.{◌≡◌, ◌++◌, ◌≤◌, ◌+◌, ◌⊎◌, ◌<◌, ◌-◌, ◌∷◌}
use Rattle.base_lists.specs.Kit.{◌∙◌, ap, List, ℕ, length, take, drop, length-append, length-drop, length-take, take_at, drop_at, arith, length-take-le, sym, subst, take-append-le, drop-append-le, inl, inr, set, take-set-le, drop-set-add, drop-set-lt, suc, le_refl, length-set, drop-cons, get_or-set_same, [], zero, take-nil, get_or, get_or-take, get_or-drop, refl, not-suc-le-zero, le_of_suc-le-suc, replicate, sets, sets-eq}
use Rattle.base_lists.specs.List.{part, tabulate}
use Rattle.base_lists.proofs.Tables.{is-tabulate, length-tabulate, get_d_tabulate}

-- it has no more entries than asked for
pub length-part-le : (at size : ℕ) (xs : List ℕ) → length (part at size xs) ≤ size
unfolding part
length-part-le at size xs = simp (length-take, length-drop) (omega arith)

-- A list that was filled in two halves: first its first `size` entries, by xs, and then the `size` entries after them, by ys.
abbrev pub halved : ℕ → List ℕ → List ℕ → List ℕ → List ℕ
halved size xs ys old = take size (xs ++ drop size old) ++ (ys ++ drop size (drop size (xs ++ drop size old)))

module _ (size : ℕ) (xs ys old : List ℕ) (first : length xs ≡ size) where
  prefix : take size (xs ++ drop size old) ≡ xs
  prefix = take_at xs (drop size old) size first

  abbrev back : List ℕ
  back = ys ++ drop size (drop size (xs ++ drop size old))

  -- these are its stretches
  pub part-first : part 0 size (halved size xs ys old) ≡ xs
  unfolding part
  part-first = take_at (take size (xs ++ drop size old)) back size (ap length prefix ∙ first) ∙ prefix

  pub part-second : length ys ≡ size → part size size (halved size xs ys old) ≡ ys
  unfolding part
  part-second second =
      ap (take size) (drop_at (take size (xs ++ drop size old)) back size (ap length prefix ∙ first))
      ∙ take_at ys (drop size (drop size (xs ++ drop size old))) size second

  -- and it is as long as it was
  pub length-halved : length ys ≡ size → size + size ≤ length old → length (halved size xs ys old) ≡ length old
  length-halved second h = ap (λ (l : List ℕ). length (l ++ back)) prefix ∙ simp (length-append, length-drop) (omega arith)

-- ---- lengths of parts

pub length_part : (from k : ℕ) (l : List ℕ) → from + k ≤ length l → length (part from k l) ≡ k
unfolding part
length_part from k l h = length-take-le k (drop from l) (omega (arith, length-drop from l))

-- a front as long as was asked for has room
pub length-take-room : (k : ℕ) (l : List ℕ) → length (take k l) ≡ k → k ≤ length l
length-take-room k l e = omega (arith, rw length-take at e)

-- what holds of n holds of the length of the first n entries
pub length-take-for : (n : ℕ) (table : List ℕ) (P : ℕ → Type 0) → n ≤ length table → P n → P (length (take n table))
length-take-for n table P h = subst P (sym (length-take-le n table h))

-- a front that is short enough for a list is short enough for a longer one
pub length-append-le : (k : ℕ) (xs ys : List ℕ) → k ≤ length xs → k ≤ length (xs ++ ys)
length-append-le k xs ys h = omega (arith, length-append xs ys)

-- ---- parts of longer lists, of stores and of tables

-- a part that lies within the first of two lists
pub part-append : (from count : ℕ) (xs ys : List ℕ) → from + count ≤ length xs → take count (drop from (xs ++ ys)) ≡ take count (drop from xs)
part-append from count xs ys h =
    rw (drop-append-le from xs ys (omega arith)) (take-append-le count (drop from xs) ys (simp length-drop (omega arith)))

-- a store outside a part leaves the part alone
pub part-set : (from count : ℕ) (xs : List ℕ) (i x : ℕ) → (i < from) ⊎ (from + count ≤ i) → take count (drop from (set xs i x)) ≡ take count (drop from xs)
part-set from count xs i x (inl h) = ap (take count) (drop-set-lt from xs i x h)
part-set from count xs i x (inr h) =
    let e : i ≡ from + (i - from) = omega arith in
    rw e (ap (take count) (drop-set-add from xs (i - from) x) ∙ take-set-le count (drop from xs) (i - from) x (omega arith))

-- a store at the front of a part
pub part-prefix : (from count : ℕ) (xs : List ℕ) (x : ℕ) → from < length xs → take (suc count) (drop from (set xs from x)) ≡ x ∷ take count (drop (suc from) xs)
part-prefix from count xs x h =
    rw (drop-cons (set xs from x) from 0 (omega (arith, length-set xs from x)), get_or-set_same xs from x 0 h, drop-set-lt (suc from) xs from x (le_refl (suc from)))

pub drop-take : (p k : ℕ) (l : List ℕ) → drop p (take (p + k) l) ≡ take k (drop p l)
drop-take zero k l = let e : 0 + k ≡ k = omega arith in ap (λ (n : ℕ). take n l) e
drop-take (suc p) k [] = ap (drop (suc p)) (take-nil (suc p + k)) ∙ sym (take-nil k)
drop-take (suc p) k (x ∷ l) =
    let e : suc p + k ≡ suc (p + k) = omega arith in
    ap (λ (n : ℕ). drop (suc p) (take n (x ∷ l))) e ∙ drop-take p k l

-- a stretch, entry by entry
pub part-entries : (from k : ℕ) (l : List ℕ) → from + k ≤ length l → part from k l ≡ tabulate k (λ i. get_or l (from + i) 0)
unfolding part
part-entries from k l h =
    is-tabulate k (λ i. get_or l (from + i) 0) (take k (drop from l)) (length-take-le k (drop from l) (omega (arith, length-drop from l)))
    (λ i b. get_or-take k (drop from l) i 0 b ∙ get_or-drop from l i 0)

pub part-tabulate : (at size n : ℕ) (f : ℕ → ℕ) → at + size ≤ n → part at size (tabulate n f) ≡ tabulate size (λ u. f (at + u))
unfolding part
part-tabulate at size n f h =
    is-tabulate size (λ u. f (at + u)) (take size (drop at (tabulate n f)))
    (length-take-le size (drop at (tabulate n f)) (omega (arith, length-drop at (tabulate n f), length-tabulate n f)))
    (λ u l. get_or-take size (drop at (tabulate n f)) u 0 l ∙ get_or-drop at (tabulate n f) u 0 ∙ get_d_tabulate n f (at + u) 0 (omega arith))

-- ---- fronts

-- the front of a longer list that has the entries of a list
pub length-append-room : (n : ℕ) (xs ys : List ℕ) → length xs ≡ n → n ≤ length (xs ++ ys)
length-append-room n xs ys e = omega (arith, length-append xs ys)

pub length-take-append : (n : ℕ) (xs ys : List ℕ) → length xs ≡ n → n ≡ length (take n (xs ++ ys))
length-take-append n xs ys e = sym (ap length (take_at xs ys n e) ∙ e)

pub take-replicate : (k n x : ℕ) → k ≤ n → take k (replicate n x) ≡ replicate k x
take-replicate zero n x h = refl
take-replicate (suc k) zero x h = absurd (not-suc-le-zero h)
take-replicate (suc k) (suc n) x h = ap (λ (l : List ℕ). x ∷ l) (take-replicate k n x (le_of_suc-le-suc h))

pub take-sets : (old values : List ℕ) (k : ℕ) → length values ≡ k → k ≤ length old → take k (sets old 0 values) ≡ values
take-sets old values k e h =
    let room : 0 + length values ≤ length old = omega arith in
    ap (take k) (sets-eq values old 0 room) ∙ take_at values _ k e
