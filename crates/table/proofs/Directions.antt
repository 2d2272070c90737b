-- The masks of the directions chosen: a direction that is not among them asks for nothing. Assumes nothing.
use Rattle.std.specs.Prelude.{◌≡◌, ◌&&◌, ◌||◌, ◌∷◌, ◌<◌}
use Rattle.base_lists.specs.Kit.{◌∙◌, sym, ap, refl, Bool, false, true, cond, not, List, [], ℕ, get_or}
use Rattle.base_lists.specs.List.{any}
use Rattle.base_lists.proofs.Tests.{T_true, at-all_below}
use Rattle.base_lists.proofs.Tables.{get_d_tabulate}
use Rattle.base_bits.specs.Bits.{bit, number_of, subset_of}
use Rattle.base_bits.proofs.Digits.{bit-of-zero, same_bits}
use Rattle.base_bits.proofs.Numbers.{bit-number-all}
use Rattle.graph.specs.Neighbours.{select}
use Rattle.simulation.specs.Simulation.{Direction, forwards, backwards}
use Rattle.table_row.specs.Row.{every}
use Rattle.table.specs.Fill.{listed}
use Rattle.table.specs.Prepared.{masks_of, counting}
use Rattle.table.specs.Row.{both_directions, ways_of, among}
use Rattle.table.specs.declared.Ways.{Ways}
use Rattle.table.specs.declared.Ways.TheVariants.{Both, Forward}

-- ---- no links

-- a mask without links is empty,
none-mask : (u : ℕ) → u < 32 → get_or (masks_of 32 [] []) u 0 ≡ 0
unfolding masks_of select listed any
none-mask u h =
    get_d_tabulate 32 (λ u. number_of 32 (λ v. false)) u 0 h
    ∙ same_bits (number_of 32 (λ v. false)) 0
    (λ v. bit-number-all 32 (λ v. false) (λ w k. refl) v ∙ sym (bit-of-zero v))

-- and asks for nothing
none-covered : (u b : ℕ) → u < 32 → subset_of (get_or (masks_of 32 [] []) u 0) b ≡ true
unfolding subset_of
none-covered u b h =
    T_true
    (at-all_below 32 (λ v. not (bit (get_or (masks_of 32 [] []) u 0) v) || bit b v)
    (λ v k. rw (none-mask u h, bit-of-zero v) tt))

-- ---- one direction, and all of them

-- the mask of a direction asks for something only where that direction is among the ways
pub counting-covered :
    (ways : List Direction) (d : Direction) (keys values : List ℕ) (u b : ℕ) → u < 32 →
    subset_of (get_or (masks_of 32 (counting ways d keys) (counting ways d values)) u 0) b ≡ not (among ways d) || subset_of (get_or (masks_of 32 keys values) u 0) b
unfolding counting
counting-covered ways d keys values u b h = go (among ways d)
  where
    go : (c : Bool) → subset_of (get_or (masks_of 32 (cond c keys []) (cond c values [])) u 0) b ≡ not c || subset_of (get_or (masks_of 32 keys values) u 0) b
    go true = refl
    go false = none-covered u b h

once : (a b c : Bool) → a && ((not b || a) && c) ≡ a && c
once true true c = refl
once true false c = refl
once false b c = refl

once_more : (a b c : Bool) → a && (c && (not b || a)) ≡ c && a
once_more true true true = refl
once_more true true false = refl
once_more true false true = refl
once_more true false false = refl
once_more false b true = refl
once_more false b false = refl

-- a test that every one of the ways passes is passed by each direction that is among them
pub every-among :
    (ways : List Direction) (f : Direction → Bool) →
    every f ways ≡ (not (among ways forwards) || f forwards) && (not (among ways backwards) || f backwards)
unfolding every among
every-among [] f = refl
every-among (forwards ∷ ways) f =
    ap (λ (b : Bool). f forwards && b) (every-among ways f) ∙ once (f forwards) (among ways forwards) (not (among ways backwards) || f backwards)
every-among (backwards ∷ ways) f =
    ap (λ (b : Bool). f backwards && b) (every-among ways f) ∙ once_more (f backwards) (among ways backwards) (not (among ways forwards) || f forwards)

-- ---- the two choices

-- along both ways, and forwards whichever is chosen, all links count
pub counting-both : (d : Direction) (xs : List ℕ) → counting both_directions d xs ≡ xs
unfolding counting among
counting-both forwards xs = refl
counting-both backwards xs = refl

pub counting-forwards : (ways : Ways) (xs : List ℕ) → counting (ways_of ways) forwards xs ≡ xs
unfolding counting among
counting-forwards Both xs = refl
counting-forwards Forward xs = refl
