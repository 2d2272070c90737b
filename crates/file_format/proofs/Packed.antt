-- One number per link, start times 65,536 plus end: which of two is the smaller, and when they are the same; and the condition 5 by these
-- numbers is the condition 5 by start, then by end. Assumes nothing.
use Rattle.std.specs.Prelude.{◌≡◌, ◌↔◌, ◌∷◌, ◌++◌, ◌<◌, ◌+◌, ◌-◌, ◌*◌}
use Rattle.base_lists.specs.Kit.{ap, subst, inl, inr, List, ℕ, ltb, ltb→lt, lt→ltb, length, get_or, get_or-drop, arith}
use native.Mathlib.Decide.{dec_lt}
use Rattle.base_lists.specs.List.{Below}
use Rattle.base_lists.proofs.Below.{all_below-same}
use Rattle.base_lists.proofs.Tests.{same_test}
use Rattle.base_lists.proofs.Entries.{below-get_or}
use Rattle.graph.proofs.RisingLinks.{Before}
use Rattle.file_format.specs.declared.Role.{Role}
use Rattle.file_format.specs.Layout.{CircuitFile, links_of, starts_of, ends_of}
use Rattle.file_format.specs.Links.{earlier, rising, packed, numbers_rise}
use Rattle.file_format.specs.Refusals.{Condition, first, falls_by_numbers, falls_by_links}
use Rattle.file_format.proofs.Fields.{length_fields, get_or-fields, field-low}
use Rattle.file_format.proofs.Rising.{earlier-iff}

-- ---- two links

-- of 16-bit ends; the starts may be any numbers
module _ (s e s' e' : ℕ) (low : e < 65536) (low' : e' < 65536) where
  to-before : packed s e < packed s' e' → Before s e s' e'
  to-before h = go (dec_lt s s')
    where
      go : Dec (s < s') → Before s e s' e'
      go (yes l) = inl l
      go (no f) = inr (omega arith, omega arith)

  from-before : Before s e s' e' → packed s e < packed s' e'
  from-before (inl l) = omega arith
  from-before (inr (p, l)) = omega arith

  -- One link's number is below another's exactly when it comes earlier by start, then by end,
  pub packed-before : (packed s e < packed s' e') ↔ Before s e s' e'
  packed-before = (to-before, from-before)

  -- and the same exactly when both agree.
  pub packed-same : (packed s e ≡ packed s' e') ↔ ((s ≡ s') × (e ≡ e'))
  packed-same = (λ h. (omega arith, omega arith), λ (p, q). omega arith)

  -- So the test of the numbers is the test of the links.
  pub packed-test : ltb (packed s e) (packed s' e') ≡ earlier s e s' e'
  packed-test =
      same_test (λ t. (earlier-iff s e s' e').1 (to-before (ltb→lt _ _ t))) (λ t. lt→ltb _ _ (from-before ((earlier-iff s e s' e').0 t)))

-- ---- all links

-- Numbers that rise are links that rise,
pub numbers-rise : (starts ends : List ℕ) → ((i : ℕ) → get_or ends i 0 < 65536) → numbers_rise starts ends ≡ rising starts ends
unfolding numbers_rise rising
numbers-rise starts ends low = all_below-same (length starts - 1) _ _ (λ i h. packed-test _ _ _ _ (low i) (low (i + 1)))

-- for any 16-bit starts and ends, as writing is lent them,
pub numbers-lists : (starts ends : List ℕ) → Below 65536 ends → numbers_rise starts ends ≡ rising starts ends
numbers-lists starts ends b = numbers-rise starts ends (below-get_or 65536 ends (omega arith) b)

ends_low : (file : CircuitFile) → Below 256 file.bytes → Below 65536 (ends_of file)
unfolding Below ends_of
ends_low file b i h =
    rw (get_or-fields _ (links_of file) i (subst (λ (k : ℕ). i < k) (length_fields _ (links_of file)) h))
    (field-low _ (λ j. rw get_or-drop (below-get_or 256 file.bytes (omega arith) b _)) (2 * i))

pub numbers-file : (file : CircuitFile) → Below 256 file.bytes → numbers_rise (starts_of file) (ends_of file) ≡ rising (starts_of file) (ends_of file)
numbers-file file b = numbers-lists (starts_of file) (ends_of file) (ends_low file b)

-- ---- the condition 5

-- By numbers it is what it was by start, then by end: on writing,
pub falls-lists : (r : Role) (starts ends : List ℕ) → Below 65536 ends → falls_by_numbers r starts ends ≡ falls_by_links r starts ends
falls-lists r starts ends b = rw (numbers-lists starts ends b)

-- and on reading;
pub falls-file : (r : Role) (file : CircuitFile) → Below 256 file.bytes → falls_by_numbers r (starts_of file) (ends_of file) ≡ falls_by_links r (starts_of file) (ends_of file)
falls-file r file b = falls-lists r (starts_of file) (ends_of file) (ends_low file b)

-- so in its place in any list of conditions it leaves the verdict: what is accepted, and each refusal with its number and file.
pub falls-verdict : (r : Role) (starts ends : List ℕ) → Below 65536 ends → (before after : List Condition)
    → first (before ++ (falls_by_numbers r starts ends ∷ after)) ≡ first (before ++ (falls_by_links r starts ends ∷ after))
falls-verdict r starts ends b before after = ap (λ (c : Condition). first (before ++ (c ∷ after))) (falls-lists r starts ends b)
