-- The numbers of bound and part fit 128 masks. Assumes nothing.
use Rattle.std.specs.Prelude.{◌≡◌, ◌<◌}
use Rattle.base_lists.specs.Kit.{List, ℕ, length, get_or, arith}
use Rattle.base_lists.specs.List.{Below}
use Rattle.base_lists.proofs.Tables.{length-tabulate, get_d_tabulate}
use Rattle.bounded_strike.specs.Prepared.{key_at, keyed}
use Rattle.bounded.specs.Problem.{InBounds}

pub length-keyed : (bounds keys : List ℕ) → length (keyed bounds keys) ≡ length keys
unfolding keyed
length-keyed bounds keys = length-tabulate (length keys) (λ i. key_at (get_or bounds i 0) (get_or keys i 0))

pub keyed-below : (bounds keys : List ℕ) → InBounds bounds → length bounds ≡ length keys → Below 32 keys → Below 128 (keyed bounds keys)
unfolding keyed Below
keyed-below bounds keys r e b i h =
    let l : i < length keys = omega (arith, length-keyed bounds keys, h) in
    let m : i < length bounds = omega (arith, e, l) in
    rw (get_d_tabulate (length keys) (λ j. key_at (get_or bounds j 0) (get_or keys j 0)) i 0 l) (omega (arith, r.some i m, r.most i m, b i l))
