-- Draws stored one after another at the front of a table. Assumes nothing.
use Rattle.std.specs.Prelude.{◌≡◌, ◌++◌, ◌<◌, ◌+◌}
use Rattle.base_lists.specs.Kit.{List, ℕ, length, drop, set}
use Rattle.base_lists.proofs.Tables.{filled_none, filled_more}
use Rattle.test_board.specs.Generator.{step, draw, stepped, draws}

-- none are drawn yet
pub draws-none : (s k : ℕ) (d : List ℕ) → d ≡ draws s k 0 ++ drop 0 d
unfolding draws
draws-none s k d = filled_none _ d

-- one more
pub draws-more :
    (s k i : ℕ) (d : List ℕ) → i < length d →
    set (draws s k i ++ drop i d) i (draw k (step (stepped s i))) ≡ draws s k (i + 1) ++ drop (i + 1) d
unfolding draws
draws-more s k i d h = filled_more i _ d h
