-- The numbers that a test board draws, one after another (document 02, Ask 3).
use Rattle.std.specs.Prelude.{◌+◌, ◌*◌, ◌^◌, ◌/◌, ◌%◌}
use Rattle.base_lists.specs.Kit.{List, ℕ, suc, zero}
use Rattle.base_lists.specs.List.{tabulate}

-- "A step turns s into (1,664,525 times s + 1,013,904,223) mod 2^32"
unfoldable pub step : ℕ → ℕ
step s = (1664525 * s + 1013904223) % 2 ^ 32

-- "a draw below k is the top 16 bits of the new s, mod k"
unfoldable pub draw : ℕ → ℕ → ℕ
draw k s = s / 2 ^ 16 % k

-- s after a number of steps
unfoldable pub stepped : ℕ → ℕ → ℕ
stepped s zero = s
stepped s (suc i) = step (stepped s i)

-- a number of draws below k, one after another: each steps first
unfoldable pub draws : ℕ → ℕ → ℕ → List ℕ
draws s k count = tabulate count (λ i. draw k (step (stepped s i)))
