-- A round takes pairs away and adds none. Assumes nothing.
use Rattle.std.specs.Prelude.{◌≡◌, ◌<◌, ◌*◌}
use Rattle.base_lists.specs.Kit.{◌∙◌, refl, subst, List, ℕ, suc, zero, lt_of_le_of_lt, T, length, get_or, get_or-eq_default, arith}
use native.Mathlib.Decide.{dec_lt}
use Rattle.base_lists.specs.List.{part}
use Rattle.base_lists.proofs.Tests.{false-T}
use Rattle.base_lists.proofs.Tables.{length-tabulate, get_d_tabulate}
use Rattle.base_bits.specs.Bits.{bit, Subset, union_at}
use Rattle.base_bits.proofs.Digits.{bit-of-zero}
use Rattle.base_bits.proofs.Numbers.{subset-le}
use Rattle.table.specs.Prepared.{Tables}
use Rattle.bounded_layer.specs.Pass.{kept_within, pass_table}
use Rattle.bounded_strike.specs.Round.{layer_of, passes, round_table, BoundedReady}
use Rattle.bounded_layer.proofs.Sets.{kept-subset}

module _ (near : ℕ → List ℕ) (masks layer new : List ℕ) where
  length-pass : length (pass_table near masks layer new) ≡ length new
  unfolding pass_table
  length-pass = length-tabulate (length new) (λ v. kept_within masks (union_at layer (near v)) (get_or new v 0))

  pass-subset : (v : ℕ) → Subset (get_or (pass_table near masks layer new) v 0) (get_or new v 0)
  unfolding pass_table
  pass-subset v u s = go (dec_lt v (length new))
    where
      go : Dec (v < length new) → T (bit (get_or new v 0) u)
      go (yes h) =
          kept-subset masks (union_at layer (near v)) (get_or new v 0) u
          (subst (λ (x : ℕ). T (bit x u)) (get_d_tabulate (length new) (λ w. kept_within masks (union_at layer (near w)) (get_or new w 0)) v 0 h) s)
      go (no h) =
          absurd
          (false-T (bit-of-zero u)
          (subst (λ (x : ℕ). T (bit x u)) (get_or-eq_default (pass_table near masks layer new) 0 {n = v} (omega (arith, length-pass))) s))

module _ (near : ℕ → List ℕ) (masks old : List ℕ) where
  length-passes : (h : ℕ) (new : List ℕ) → length (passes near masks old h new) ≡ length new
  unfolding passes
  length-passes zero new = refl
  length-passes (suc h) new = length-pass near (part (32 * h) 32 masks) (layer_of near old h) (passes near masks old h new) ∙ length-passes h new

  passes-subset : (h : ℕ) (new : List ℕ) (v : ℕ) → Subset (get_or (passes near masks old h new) v 0) (get_or new v 0)
  unfolding passes
  passes-subset zero new v u s = s
  passes-subset (suc h) new v u s =
      passes-subset h new v u (pass-subset near (part (32 * h) 32 masks) (layer_of near old h) (passes near masks old h new) v u s)

module _ (t : Tables) (top : ℕ) (old : List ℕ) where
  pub length-round : length (round_table t top old) ≡ length old
  unfolding round_table
  length-round = length-passes _ _ old top _ ∙ length-passes _ _ old top old

  pub round-subset : (v : ℕ) → Subset (get_or (round_table t top old) v 0) (get_or old v 0)
  unfolding round_table
  round-subset v u s = passes-subset _ _ old top old v u (passes-subset _ _ old top _ v u s)

  pub round-ready : BoundedReady t top old → BoundedReady t top (round_table t top old)
  round-ready r =
      record {
        masks = r.masks;
        net = rw length-round r.net;
        small = λ v. lt_of_le_of_lt (subset-le (get_or old v 0) (get_or (round_table t top old) v 0) (round-subset v)) (r.small v);
        some = r.some;
        most = r.most;
        short = rw length-round r.short;
      }
