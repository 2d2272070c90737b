-- Laws of numbers stored as bytes. Assumes nothing.
use Rattle.std.specs.Prelude.{◌≡◌, ◌∷◌, ◌++◌, ◌≤◌, ◌<◌, ◌+◌, ◌*◌, ◌/◌, ◌%◌}
use Rattle.base_lists.specs.Kit.{◌∙◌, sym, ap, refl, ap₂, List, [], append_assoc, ℕ, add-zero, add-one, length, get_or, take, drop, set, length-append, take-append-drop, length-take-le, take_at, drop_at, take-suc, sets-eq, drop-drop, arith}
use Rattle.file_format.specs.Reading.{filled}
use Rattle.file_format.specs.Refusals.{accept}
use Rattle.file_bytes.specs.Bytes.{bytes_of, stretch_bytes, stored}

pub length-bytes : (xs : List ℕ) → length (bytes_of xs) ≡ 2 * length xs
unfolding bytes_of
length-bytes [] = refl
length-bytes (x ∷ xs) = omega (arith, length-bytes xs)

pub bytes-append : (xs ys : List ℕ) → bytes_of (xs ++ ys) ≡ bytes_of xs ++ bytes_of ys
unfolding bytes_of
bytes-append [] ys = refl
bytes-append (x ∷ xs) ys = ap (λ (l : List ℕ). x % 256 ∷ x / 256 ∷ l) (bytes-append xs ys)

-- ---- stores one after another

-- nothing is stored yet
pub stored-none : (old : List ℕ) (at : ℕ) → old ≡ stored old at []
unfolding stored bytes_of
stored-none old at = sym (ap (λ (k : ℕ). take at old ++ drop k old) (add-zero at) ∙ take-append-drop at old)

-- two stores of a byte are the store of a number
pub stored-field : (old : List ℕ) (at x : ℕ) → at + 2 ≤ length old → set (set old at (x % 256)) (at + 1) (x / 256) ≡ stored old at (x ∷ [])
unfolding stored bytes_of
stored-field old at x h = rw add-one (sets-eq (x % 256 ∷ x / 256 ∷ []) old at h ∙ append_assoc (take at old) (x % 256 ∷ x / 256 ∷ []) _)

-- numbers stored right behind others
pub stored-append : (old : List ℕ) (at : ℕ) (xs : List ℕ) (next : ℕ) (ys : List ℕ) → next ≡ at + 2 * length xs → next ≤ length old
    → stored (stored old at xs) next ys ≡ stored old at (xs ++ ys)
unfolding stored
stored-append old at xs next ys e h =
    let prefix = take at old ++ bytes_of xs in
    let rest = drop (at + 2 * length xs) old in
    let long : length prefix ≡ next = length-append (take at old) (bytes_of xs) ∙ ap₂ (λ (a b : ℕ). a + b) (length-take-le at old (omega arith)) (length-bytes xs) ∙ sym e in
    let split : take at old ++ (bytes_of xs ++ rest) ≡ prefix ++ rest = sym (append_assoc (take at old) (bytes_of xs) rest) in
    let end : at + 2 * length xs + 2 * length ys ≡ at + 2 * length (xs ++ ys) = omega (arith, length-append xs ys) in
    let kept : drop (next + 2 * length ys) (prefix ++ rest) ≡ drop (at + 2 * length (xs ++ ys)) old =
    sym (drop-drop (2 * length ys) next (prefix ++ rest))
    ∙ ap (drop (2 * length ys)) (drop_at prefix rest next long)
    ∙ drop-drop (2 * length ys) (at + 2 * length xs) old
    ∙ ap (λ (k : ℕ). drop k old) end in
    ap (λ (l : List ℕ). take next l ++ (bytes_of ys ++ drop (next + 2 * length ys) l)) split
    ∙ ap₂ (λ (a b : List ℕ). a ++ (bytes_of ys ++ b)) (take_at prefix rest next long) kept
    ∙ append_assoc (take at old) (bytes_of xs) _
    ∙ ap (λ (l : List ℕ). take at old ++ l) (sym (append_assoc (bytes_of xs) (bytes_of ys) _) ∙ ap (λ (l : List ℕ). l ++ drop (at + 2 * length (xs ++ ys)) old) (sym (bytes-append xs ys)))

-- one number more of a list
pub stored_more : (old : List ℕ) (at : ℕ) (xs : List ℕ) (i : ℕ) → i < length xs → at + 2 * length xs ≤ length old
    → stored (stored old at (take i xs)) (at + 2 * i) (get_or xs i 0 ∷ []) ≡ stored old at (take (i + 1) xs)
stored_more old at xs i h room =
    stored-append old at (take i xs) (at + 2 * i) (get_or xs i 0 ∷ []) (omega (arith, length-take-le i xs (omega arith))) (omega arith)
    ∙ ap (stored old at) (sym (take-suc xs i 0 h) ∙ ap (λ (k : ℕ). take k xs) (sym (add-one i)))

-- ---- the file, stored stretch by stretch

stored-prefix : (old xs : List ℕ) → stored old 0 xs ≡ filled accept (bytes_of xs) old
unfolding stored filled
stored-prefix old xs =
    let e : 0 + 2 * length xs ≡ length (bytes_of xs) = omega (arith, length-bytes xs) in
    ap (λ (k : ℕ). bytes_of xs ++ drop k old) e

module _ (old kinds packages starts ends : List ℕ) (pairs : length starts ≡ length ends)
    (room : 4 + 2 * length kinds + 2 * length packages + 4 * length starts ≤ length old) where
  pub file-stored :
      stored (stored (stored (stored old 0 (length kinds ∷ [])) 2 (length starts ∷ [])) 4 (kinds ++ packages)) (4 + 2 * length kinds + 2 * length packages) (starts ++ ends)
      ≡ filled accept (stretch_bytes kinds packages starts ends) old
  unfolding stretch_bytes
  file-stored =
      let links = 4 + 2 * length kinds + 2 * length packages in
      let prefix : List ℕ = length kinds ∷ length starts ∷ kinds ++ packages in
      let nodes = length-append kinds packages in
      ap (λ (l : List ℕ). stored (stored l 4 (kinds ++ packages)) links (starts ++ ends)) (stored-append old 0 (length kinds ∷ []) 2 (length starts ∷ []) refl (omega arith))
      ∙ ap (λ (l : List ℕ). stored l links (starts ++ ends)) (stored-append old 0 (length kinds ∷ length starts ∷ []) 4 (kinds ++ packages) refl (omega arith))
      ∙ stored-append old 0 prefix links (starts ++ ends) (omega arith) (omega arith)
      ∙ ap (stored old 0) (append_assoc (length kinds ∷ length starts ∷ kinds) packages (starts ++ ends))
      ∙ stored-prefix old (length kinds ∷ length starts ∷ kinds ++ (packages ++ (starts ++ ends)))
