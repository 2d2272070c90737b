-- Laws of the draws. Assumes nothing.
use Rattle.std.specs.Prelude.{◌≡◌, ◌<◌, ◌+◌, ◌*◌, ◌^◌, ◌/◌}
use Rattle.base_lists.specs.Kit.{◌∙◌, sym, ap, ℕ, suc, zero, add-zero, add-suc, mod-lt, add-one, length, get_or, arith}
use Rattle.base_lists.proofs.Tables.{length-tabulate, get_d_tabulate}
use Rattle.test_board.specs.Generator.{step, draw, stepped, draws}

-- a state has 32 bits
pub step-lt : (s : ℕ) → step s < 2 ^ 32
unfolding step
step-lt s = mod-lt (1664525 * s + 1013904223) (omega arith)

-- a draw is below k, and has 16 bits
pub draw-lt : (k s : ℕ) → 0 < k → draw k s < k
unfolding draw
draw-lt k s some = mod-lt (s / 2 ^ 16) some

-- one step more
pub stepped-next : (s i : ℕ) → stepped s (i + 1) ≡ step (stepped s i)
unfolding stepped
stepped-next s i = rw add-one

-- steps go on from steps
pub stepped-add : (s i j : ℕ) → stepped (stepped s i) j ≡ stepped s (i + j)
unfolding stepped
stepped-add s i zero = rw add-zero
stepped-add s i (suc j) = rw (add-suc, stepped-add s i j)

pub length-draws : (s k count : ℕ) → length (draws s k count) ≡ count
unfolding draws
length-draws s k count = length-tabulate count _

pub draws-at : (s k count i : ℕ) → i < count → get_or (draws s k count) i 0 ≡ draw k (stepped s (i + 1))
unfolding draws
draws-at s k count i h = get_d_tabulate count _ i 0 h ∙ ap (draw k) (sym (stepped-next s i))

-- each of them is below k
pub draws-lt : (s k count i : ℕ) → 0 < k → i < count → get_or (draws s k count) i 0 < k
draws-lt s k count i some h = rw (draws-at s k count i h) (draw-lt k (stepped s (i + 1)) some)
