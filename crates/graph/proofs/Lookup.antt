-- Laws of the stretch of a neighbour table. Assumes nothing.
use Rattle.std.specs.Prelude.{◌≡◌, ◌&&◌, ◌≤◌, ◌<◌, ◌-◌}
use Rattle.base_lists.specs.Kit.{Bool, List, [], ℕ, suc, T, ltb, leb, ltb→lt, lt→ltb, le→leb, leb→le, length, get_or, take, drop}
use Rattle.base_lists.proofs.Tests.{both_true, both_left, both_right, T_true, T_false}
use Rattle.graph.specs.Neighbours.{stretch}

module _ (offsets table : List ℕ) (v : ℕ) where
  -- node v has two offsets, which do not fall back and stay within the table
  abbrev pub Sound : Type 0
  Sound = (suc v < length offsets) × (get_or offsets v 0 ≤ get_or offsets (suc v) 0) × (get_or offsets (suc v) 0 ≤ length table)

  abbrev held : Bool
  held = ltb (suc v) (length offsets)

  abbrev rising : Bool
  rising = leb (get_or offsets v 0) (get_or offsets (suc v) 0)

  abbrev within : Bool
  within = leb (get_or offsets (suc v) 0) (length table)

  sound-tested : Sound → T (held && (rising && within))
  sound-tested s = both_true held (rising && within) (lt→ltb _ _ s.0) (both_true rising within (le→leb _ _ s.1) (le→leb _ _ s.2))

  tested-sound : T (held && (rising && within)) → Sound
  tested-sound t =
      let ends = both_right held (rising && within) t in
      (ltb→lt _ _ (both_left held (rising && within) t), leb→le _ _ (both_left rising within ends), leb→le _ _ (both_right rising within ends))

  -- of sound offsets the stretch is what lies between them
  pub stretch-part : Sound → stretch offsets table v ≡ take (get_or offsets (suc v) 0 - get_or offsets v 0) (drop (get_or offsets v 0) table)
  unfolding stretch
  stretch-part s = let t = sound-tested s in rw (T_true {b = held && (rising && within)} t)

  -- of any others it is empty
  pub stretch-none : (Sound → ⊥) → stretch offsets table v ≡ []
  unfolding stretch
  stretch-none f = rw (T_false {b = held && (rising && within)} (λ t. f (tested-sound t)))
