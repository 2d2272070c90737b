-- A loop that fills a list from the front, one store a turn, whatever the width of its entries: the laws that the proofs of such loops cite. Assumes nothing.
use Rattle.std.specs.Prelude.{◌≡◌, ◌++◌, ◌≤◌, ◌<◌, ◌+◌}
use Rattle.base_lists.specs.Kit.{◌∙◌, refl, List, ℕ, zero-le, length, drop, set, length-set, arith}
use Rattle.base_lists.specs.List.{tabulate}
use Rattle.base_lists.proofs.Tables.{filled-all, filled_next, filled_none}

-- the first i entries of the list follow the rule f, and the others are as in xs, where the loop began
abbrev pub FilledTo : (ℕ → ℕ) → List ℕ → ℕ → List ℕ → Type 0
FilledTo f xs i list = (i ≤ length xs) × (length list ≡ length xs) × (list ≡ tabulate i f ++ drop i xs)

pub filling-none : (f : ℕ → ℕ) (xs : List ℕ) → FilledTo f xs 0 xs
filling-none f xs = (zero-le, refl, filled_none f xs)

module _ (f : ℕ → ℕ) (xs : List ℕ) (i : ℕ) (list : List ℕ) (filled : FilledTo f xs i list) where
  -- a turn stores at i what the rule says
  pub filling-more : (x : ℕ) → i < length list → x ≡ f i → FilledTo f xs (i + 1) (set list i x)
  filling-more x h e = (omega arith, length-set list i x ∙ filled.1, filled_next f xs list i x (omega arith) filled.2 e)

  -- in the end the rule has made the whole list
  pub filling-all : length list ≤ i → list ≡ tabulate (length xs) f
  filling-all h = filled.2 ∙ filled-all i f xs (omega arith)
