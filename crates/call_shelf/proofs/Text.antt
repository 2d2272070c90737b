-- Laws of the shelf's text. Assumes nothing.
use Rattle.std.specs.Prelude.{◌≡◌, ◌∷◌, ◌++◌, ◌<◌, ◌+◌, ◌*◌}
use Rattle.base_lists.specs.Kit.{◌∙◌, sym, ap, refl, List, [], append-nil, append_assoc, ℕ, add-one, length, get_or, take, length-append, length-take, take-suc, arith}
use Rattle.base_text.specs.Text.{Fits}
use Rattle.base_text.proofs.Text.{fits-less}
use Rattle.call_shelf.specs.Text.{line_of, shelf_text}

pub length-line : (x : ℕ) → length (line_of x) ≡ 3
unfolding line_of
length-line x = refl

-- three bytes a line
pub length-text : (xs : List ℕ) → length (shelf_text xs) ≡ 3 * length xs
unfolding shelf_text
length-text [] = refl
length-text (x ∷ xs) = length-append (line_of x) (shelf_text xs) ∙ omega (arith, length-line x, length-text xs)

text-append : (xs ys : List ℕ) → shelf_text (xs ++ ys) ≡ shelf_text xs ++ shelf_text ys
unfolding shelf_text
text-append [] ys = refl
text-append (x ∷ xs) ys = ap (λ (l : List ℕ). line_of x ++ l) (text-append xs ys) ∙ sym (append_assoc (line_of x) (shelf_text xs) (shelf_text ys))

text-one : (x : ℕ) → shelf_text (x ∷ []) ≡ line_of x
unfolding shelf_text
text-one x = append-nil (line_of x)

-- one line more
pub text-more : (xs : List ℕ) (i : ℕ) → i < length xs → shelf_text (take i xs) ++ line_of (get_or xs i 0) ≡ shelf_text (take (i + 1) xs)
text-more xs i h =
    ap (λ (l : List ℕ). shelf_text (take i xs) ++ l) (sym (text-one (get_or xs i 0)))
    ∙ sym (text-append (take i xs) (get_or xs i 0 ∷ []))
    ∙ ap shelf_text (sym (take-suc xs i 0 h) ∙ ap (λ (k : ℕ). take k xs) (sym (add-one i)))

pub fits_line : {o : List ℕ} {at : ℕ} (xs : List ℕ) (i : ℕ) → i < length xs → Fits o at (shelf_text xs) → Fits o at (shelf_text (take i xs) ++ line_of (get_or xs i 0))
fits_line xs i h =
    fits-less _
    (simp (length-append, length-text, length-line, length-take) (omega arith))
