-- What is asked of a circuit's links.
use Rattle.std.specs.Prelude.{◌&&◌, ◌||◌, ◌+◌, ◌-◌, ◌*◌}
use Rattle.base_lists.specs.Kit.{Bool, List, ℕ, eqb, ltb, length, get_or}
use Rattle.base_lists.specs.List.{all, all_below}

-- every start and every end is a node
unfoldable pub links_below : ℕ → List ℕ → List ℕ → Bool
links_below n starts ends = all (λ v. ltb v n) starts && all (λ v. ltb v n) ends

-- one link comes before another: by start, then by end
unfoldable pub earlier : ℕ → ℕ → ℕ → ℕ → Bool
earlier s e s' e' = ltb s s' || (eqb s s' && ltb e e')

-- "Links rise strictly by start, then by end": each comes before the next
unfoldable pub rising : List ℕ → List ℕ → Bool
rising starts ends =
    all_below (length starts - 1) (λ i. earlier (get_or starts i 0) (get_or ends i 0) (get_or starts (i + 1) 0) (get_or ends (i + 1) 0))

-- ---- the same by one number per link

-- "one number per link, start times 65,536 plus end"
abbrev pub packed : ℕ → ℕ → ℕ
packed start end = start * 65536 + end

-- each link's number is below the next one's
unfoldable pub numbers_rise : List ℕ → List ℕ → Bool
numbers_rise starts ends =
    all_below (length starts - 1) (λ i. ltb (packed (get_or starts i 0) (get_or ends i 0)) (packed (get_or starts (i + 1) 0) (get_or ends (i + 1) 0)))
