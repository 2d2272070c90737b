-- Laws of marks: which nodes are marked after one is marked or taken away, and how many. Assumes nothing.
use Rattle.std.specs.Prelude.{◌≡◌, ◌∷◌, ◌≤◌, ◌<◌, ◌*◌, ◌^◌, ◌/◌, ◌%◌}
use Rattle.base_lists.specs.Kit.{◌∙◌, ap, refl, Bool, false, true, cond, not, List, [], ℕ, suc, zero, not-suc-le-zero, le_of_suc-le-suc, T, eqb, ltb, length, get_or, set, length-set, replicate, get_or-eq_default, length-replicate, get_or-set_other, get_or-set_same, set_out, arith, eq-eqb, ne_eqb, lt-ltb, eqb-true, not-false, ltb-false, eqb-false, ltb-true}
use lib.Bits.{bit_or, or_lt}
use lib.Pow.{pow-lt}
use Rattle.base_lists.specs.List.{Occurs}
use Rattle.base_lists.specs.Below.{least_below}
use Rattle.base_lists.proofs.Below.{least_below-none}
use Rattle.base_lists.proofs.Tests.{both_true, both_left, both_right, either_left, either-right, true-T, false-T}
use Rattle.base_bits.specs.Bits.{bit, Subset, size_of, first_of, without_first, Words}
use Rattle.base_bits.proofs.Digits.{bit-of-zero, bit-or, bit-single}
use Rattle.base_bits.proofs.Members.{bit-without}
use Rattle.base_bits.proofs.Numbers.{number_lt, words-set, words-none}
use Rattle.simulation.specs.Simulation.{Direction, forwards, backwards}
use Rattle.table.specs.Row.{pairs}
use Rattle.table.proofs.Pairs.{pairs-at, pairs-put}
use Rattle.base_bits.proofs.Members.{first_bit}
use Rattle.base_bits.proofs.Counts.{size_less}
use Rattle.session_strike.specs.Moves.{node_marked, mark, mark_one, mark_all, mark_beside, mark_both, node_at, unmark}

-- ---- sizes

-- so a table with one set made smaller has fewer pairs
pub pairs-less : (xs : List ℕ) (v y : ℕ) → v < length xs → size_of y < size_of (get_or xs v 0) → pairs (set xs v y) < pairs xs
pairs-less xs v y h l = omega (arith, pairs-put xs v y h, pairs-at xs v h)

-- ---- one node marked

module _ (marks : List ℕ) (v : ℕ) where
  pub length-mark : length (mark marks v) ≡ length marks
  unfolding mark
  length-mark = length-set marks (v / 32) _

  pub words-mark : Words marks → Words (mark marks v)
  unfolding mark
  words-mark w =
      let low : v % 32 < 32 = omega arith in
      words-set marks (v / 32) _ w (or_lt 32 _ _ (w (v / 32)) (pow-lt low))

  -- the others stay
  pub mark-keeps : (w : ℕ) → T (node_marked marks w) → T (node_marked (mark marks v) w)
  unfolding mark node_marked
  mark-keeps w t = go (eqb (w / 32) (v / 32)) refl (ltb (v / 32) (length marks)) refl
    where
      word : ℕ
      word = bit_or (get_or marks (v / 32) 0) (2 ^ (v % 32))

      go : (b : Bool) → eqb (w / 32) (v / 32) ≡ b → (a : Bool) → ltb (v / 32) (length marks) ≡ a → T (bit (get_or (set marks (v / 32) word) (w / 32) 0) (w % 32))
      go true e true l =
          let q : w / 32 ≡ v / 32 = eqb-true _ _ e in
          rw (q, get_or-set_same marks (v / 32) word 0 (ltb-true _ _ l), bit-or)
          (either_left (bit (get_or marks (v / 32) 0) (w % 32)) _ (rw q at t))
      go true e false l = rw (set_out marks (v / 32) word (ltb-false _ _ l)) t
      go false e a l = rw (get_or-set_other marks (v / 32) (w / 32) word 0 (eqb-false _ _ e)) t

  pub mark-marks : v / 32 < length marks → T (node_marked (mark marks v) v)
  unfolding mark node_marked
  mark-marks h =
      rw (get_or-set_same marks (v / 32) (bit_or (get_or marks (v / 32) 0) (2 ^ (v % 32))) 0 h, bit-or)
      (either-right (bit (get_or marks (v / 32) 0) (v % 32)) _ (true-T (bit-single (v % 32) (v % 32) ∙ eq-eqb (v % 32) (v % 32) refl)))

-- ---- the nodes of a list marked

module _ (n : ℕ) where
  length-one : (marks : List ℕ) (w : ℕ) → length (mark_one n marks w) ≡ length marks
  unfolding mark_one
  length-one marks w = go (ltb w n)
    where
      go : (b : Bool) → length (cond b (mark marks w) marks) ≡ length marks
      go true = length-mark marks w
      go false = refl

  pub length-all : (marks ws : List ℕ) → length (mark_all n marks ws) ≡ length marks
  unfolding mark_all
  length-all marks [] = refl
  length-all marks (w ∷ ws) = length-all (mark_one n marks w) ws ∙ length-one marks w

  words-one : (marks : List ℕ) (w : ℕ) → Words marks → Words (mark_one n marks w)
  unfolding mark_one
  words-one marks w k = go (ltb w n)
    where
      go : (b : Bool) → Words (cond b (mark marks w) marks)
      go true = words-mark marks w k
      go false = k

  pub words-all : (marks ws : List ℕ) → Words marks → Words (mark_all n marks ws)
  unfolding mark_all
  words-all marks [] k = k
  words-all marks (w ∷ ws) k = words-all (mark_one n marks w) ws (words-one marks w k)

  one-keeps : (marks : List ℕ) (w x : ℕ) → T (node_marked marks x) → T (node_marked (mark_one n marks w) x)
  unfolding mark_one
  one-keeps marks w x t = go (ltb w n)
    where
      go : (b : Bool) → T (node_marked (cond b (mark marks w) marks) x)
      go true = mark-keeps marks w x t
      go false = t

  pub all-keeps : (marks ws : List ℕ) (x : ℕ) → T (node_marked marks x) → T (node_marked (mark_all n marks ws) x)
  unfolding mark_all
  all-keeps marks [] x t = t
  all-keeps marks (w ∷ ws) x t = all-keeps (mark_one n marks w) ws x (one-keeps marks w x t)

  one-marks : (marks : List ℕ) (w x : ℕ) → n ≤ 32 * length marks → x < n → w ≡ x → T (node_marked (mark_one n marks w) x)
  unfolding mark_one
  one-marks marks w x room h e = rw (e, lt-ltb x n h) (mark-marks marks x (omega arith))

  -- each node of the list is marked
  pub all-marks : (marks ws : List ℕ) (x : ℕ) → n ≤ 32 * length marks → x < n → Occurs ws x → T (node_marked (mark_all n marks ws) x)
  unfolding mark_all
  all-marks marks [] x room h (i, l, e) = absurd (not-suc-le-zero l)
  all-marks marks (w ∷ ws) x room h (zero, l, e) = all-keeps (mark_one n marks w) ws x (one-marks marks w x room h e)
  all-marks marks (w ∷ ws) x room h (suc i, l, e) =
      all-marks (mark_one n marks w) ws x (omega (arith, length-one marks w)) h (i, le_of_suc-le-suc l, e)

  -- ---- the nodes beside a node

  module _ (moves : Direction → ℕ → List ℕ) (marks : List ℕ) (v : ℕ) where
    pub length-beside : length (mark_beside n moves marks v) ≡ length marks
    unfolding mark_beside
    length-beside = length-all (mark_all n marks (moves forwards v)) (moves backwards v) ∙ length-all marks (moves forwards v)

    pub words-beside : Words marks → Words (mark_beside n moves marks v)
    unfolding mark_beside
    words-beside w = words-all (mark_all n marks (moves forwards v)) (moves backwards v) (words-all marks (moves forwards v) w)

    pub beside-keeps : (x : ℕ) → T (node_marked marks x) → T (node_marked (mark_beside n moves marks v) x)
    unfolding mark_beside
    beside-keeps x t = all-keeps (mark_all n marks (moves forwards v)) (moves backwards v) x (all-keeps marks (moves forwards v) x t)

    pub beside-marks : (d : Direction) (x : ℕ) → n ≤ 32 * length marks → x < n → Occurs (moves d v) x → T (node_marked (mark_beside n moves marks v) x)
    unfolding mark_beside
    beside-marks forwards x room h o = all-keeps (mark_all n marks (moves forwards v)) (moves backwards v) x (all-marks marks (moves forwards v) x room h o)
    beside-marks backwards x room h o =
        all-marks (mark_all n marks (moves forwards v)) (moves backwards v) x (omega (arith, length-all marks (moves forwards v))) h o

-- two nodes marked
pub both_first : (n x y : ℕ) → n ≤ 512 → x < n → T (node_marked (mark_both n x y) x)
unfolding mark_both
both_first n x y few h = one-keeps n (mark_one n (replicate 16 0) x) y x (one-marks n (replicate 16 0) x x (omega (arith, length-replicate {A = ℕ} 16 0)) h refl)

pub both-second : (n x y : ℕ) → n ≤ 512 → y < n → T (node_marked (mark_both n x y) y)
unfolding mark_both
both-second n x y few h =
    one-marks n (mark_one n (replicate 16 0) x) y y (omega (arith, length-one n (replicate 16 0) x, length-replicate {A = ℕ} 16 0)) h refl

pub length_both : (n x y : ℕ) → length (mark_both n x y) ≡ 16
unfolding mark_both
length_both n x y = length-one n (mark_one n (replicate 16 0) x) y ∙ length-one n (replicate 16 0) x ∙ length-replicate {A = ℕ} 16 0

pub words-both : (n x y : ℕ) → Words (mark_both n x y)
unfolding mark_both
words-both n x y = words-one n (mark_one n (replicate 16 0) x) y (words-one n (replicate 16 0) x (words-none 16))

-- ---- the first mark of a word taken away

module _ (marks : List ℕ) (j : ℕ) (inside : j < length marks) (some : zero < get_or marks j 0) (word : get_or marks j 0 < 2 ^ 32) where
  pub length-unmark : length (unmark marks j) ≡ length marks
  unfolding unmark
  length-unmark = length-set marks j _

  without-word : without_first (get_or marks j 0) < 2 ^ 32
  unfolding without_first
  without-word = number_lt 32 _

  pub words-unmark : Words marks → Words (unmark marks j)
  unfolding unmark
  words-unmark w = words-set marks j _ w without-word

  without-subset : Subset (without_first (get_or marks j 0)) (get_or marks j 0)
  without-subset u t = both_left (bit (get_or marks j 0) u) _ (rw (bit-without (get_or marks j 0) some word u) at t)

  without_other : without_first (get_or marks j 0) ≡ get_or marks j 0 → ⊥
  without_other e =
      let x = get_or marks j 0 in
      let t : T (bit (without_first x) (first_of x)) = rw e (first_bit x some word) in
      let m : T (not (eqb (first_of x) (first_of x))) = both_right (bit x (first_of x)) _ (rw (bit-without x some word (first_of x)) at t) in
      false-T (ap not (eq-eqb (first_of x) (first_of x) refl)) m

  -- there is one mark less
  pub unmark-less : pairs (unmark marks j) < pairs marks
  unfolding unmark
  unmark-less = pairs-less marks j _ inside (size_less _ _ without-word word without-subset without_other)

  -- the marks of the other nodes stay
  pub unmark-keeps : (w : ℕ) → (w ≡ node_at marks j → ⊥) → T (node_marked marks w) → T (node_marked (unmark marks j) w)
  unfolding unmark node_marked node_at
  unmark-keeps w other t = go (eqb (w / 32) j) refl
    where
      x : ℕ
      x = get_or marks j 0

      go : (b : Bool) → eqb (w / 32) j ≡ b → T (bit (get_or (set marks j (without_first x)) (w / 32) 0) (w % 32))
      go true e =
          let q : w / 32 ≡ j = eqb-true _ _ e in
          rw (q, get_or-set_same marks j (without_first x) 0 inside, bit-without x some word (w % 32))
          (both_true (bit x (w % 32)) _ (rw q at t) (true-T (ap not (ne_eqb (w % 32) (first_of x) (λ p. other (omega arith))))))
      go false e = rw (get_or-set_other marks j (w / 32) (without_first x) 0 (eqb-false _ _ e)) t

-- ---- no mark left

pub none-marked : (marks : List ℕ) → length marks ≤ least_below (length marks) (λ j. not (eqb (get_or marks j 0) 0)) → (w : ℕ) → node_marked marks w ≡ false
unfolding node_marked
none-marked marks h w = ap (λ (x : ℕ). bit x (w % 32)) (go (ltb (w / 32) (length marks)) refl) ∙ bit-of-zero (w % 32)
  where
    go : (b : Bool) → ltb (w / 32) (length marks) ≡ b → get_or marks (w / 32) 0 ≡ 0
    go true e =
        let l : w / 32 < length marks = ltb-true _ _ e in
        eqb-true _ 0 (not-false _ (least_below-none (length marks) (λ j. not (eqb (get_or marks j 0) 0)) (w / 32) (omega arith)))
    go false e = get_or-eq_default marks 0 (ltb-false _ _ e)
