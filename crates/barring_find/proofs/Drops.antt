-- Where the dropping of links stands. Assumes nothing.
use Rattle.std.specs.Prelude.{◌≡◌, ◌∷◌, ◌≤◌, ◌<◌, ◌+◌, ◌-◌}
use Rattle.base_lists.specs.Kit.{◌∙◌, sym, ap, refl, subst, Bool, false, true, cond, List, ℕ, suc, zero, add-one, length, get_or, take, set, length-set, length-replicate, get_or-replicate, get_or-set_other, set-get_or, set-set, arith}
use Rattle.graph.specs.Circuit.{Circuit, circuit}
use Rattle.barring.specs.Least.{bars, drop_from, all_links, least}
use Rattle.barring_find.specs.Trial.{Tried, EveryBars}

-- the first m of n ones
pub take-ones : (m n : ℕ) → m ≤ n → take m (all_links n) ≡ all_links m
take-ones zero n h = refl
take-ones (suc m) zero h = absurd (omega arith)
take-ones (suc m) (suc n) h = ap (λ (xs : List ℕ). 1 ∷ xs) (take-ones m n (omega arith))

-- The links before the i-th are gone through, those from it on are all chosen, and what is left to do comes to the kept links.
pub record Dropping (starts ends offsets targets : List ℕ) (w : ℕ) (nodes first marks : List ℕ) (i : ℕ) : Type 0 where
  pub within : i ≤ length marks
  pub long : length starts ≡ length marks
  pub later : (j : ℕ) → i ≤ j → j < length marks → get_or marks j 0 ≡ 1
  pub rest :
      (part_labels : List ℕ) (board : Circuit) (r : ℕ) → Tried (circuit part_labels starts ends) board offsets targets w r nodes first →
      drop_from (bars (circuit part_labels starts ends) board w r) i (length starts - i) marks ≡ least (circuit part_labels starts ends) board w r

module _ (starts ends offsets targets : List ℕ) (w : ℕ) (nodes first : List ℕ) where
  pub dropping-all : {marks : List ℕ} {m : ℕ} → length starts ≡ m → marks ≡ all_links m → Dropping starts ends offsets targets w nodes first marks 0
  unfolding least
  dropping-all {marks} {m} e a =
      let long : length starts ≡ length marks = e ∙ sym (ap length a ∙ length-replicate m 1) in
      record {
        within = omega arith;
        long = long;
        later = λ j l h. ap (λ (xs : List ℕ). get_or xs j 0) a ∙ get_or-replicate m j 1 0 (omega arith);
        rest = λ part_labels board r t.
            let test = bars (circuit part_labels starts ends) board w r in
            let left : length starts - 0 ≡ length starts = omega arith in
            ap (λ (n : ℕ). drop_from test 0 n marks) left ∙ ap (λ (xs : List ℕ). drop_from test 0 (length starts) xs) (a ∙ ap all_links (sym e));
      }

  module _ {marks : List ℕ} {i : ℕ} (d : Dropping starts ends offsets targets w nodes first marks i) (h : i < length marks) where
    -- a look at the next link
    next : (part_labels : List ℕ) (board : Circuit) (r : ℕ) (t : Tried (circuit part_labels starts ends) board offsets targets w r nodes first) (b : Bool) →
        b ≡ bars (circuit part_labels starts ends) board w r (set marks i 0) →
        drop_from (bars (circuit part_labels starts ends) board w r) (i + 1) (length starts - (i + 1)) (cond b (set marks i 0) marks) ≡ least (circuit part_labels starts ends) board w r
    unfolding drop_from
    next part_labels board r t b e =
        let test = bars (circuit part_labels starts ends) board w r in
        let left : length starts - i ≡ suc (length starts - (i + 1)) = omega (arith, d.long) in
        ap (λ (x : Bool). drop_from test (i + 1) (length starts - (i + 1)) (cond x (set marks i 0) marks)) e
        ∙ ap (λ (n : ℕ). drop_from test n (length starts - (i + 1)) (cond (test (set marks i 0)) (set marks i 0) marks)) (add-one i)
        ∙ ap (λ (n : ℕ). drop_from test i n marks) (sym left)
        ∙ d.rest part_labels board r t

    -- the rest bars: it is dropped
    pub dropping-drop : {b : Bool} → b ≡ true → EveryBars starts ends offsets targets w nodes first (set marks i 0) b → Dropping starts ends offsets targets w nodes first (set marks i 0) (i + 1)
    dropping-drop e f =
        record {
          within = omega (arith, length-set marks i 0);
          long = d.long ∙ sym (length-set marks i 0);
          later = λ j l k. get_or-set_other marks i j 0 0 (λ q. absurd (omega arith)) ∙ d.later j (omega arith) (omega (arith, length-set marks i 0));
          rest = λ part_labels board r t. next part_labels board r t true (sym e ∙ f part_labels board r t);
        }

    -- it does not: it is kept
    pub dropping-keep : {b : Bool} → b ≡ false → EveryBars starts ends offsets targets w nodes first (set marks i 0) b →
        Dropping starts ends offsets targets w nodes first (set (set marks i 0) i 1) (i + 1)
    dropping-keep e f =
        let same : set (set marks i 0) i 1 ≡ marks = set-set marks i 0 1 ∙ ap (λ (x : ℕ). set marks i x) (sym (d.later i (omega arith) h)) ∙ set-get_or marks i 0 in
        subst (λ (xs : List ℕ). Dropping starts ends offsets targets w nodes first xs (i + 1)) (sym same)
        (record {
          within = omega arith;
          long = d.long;
          later = λ j l k. d.later j (omega arith) k;
          rest = λ part_labels board r t. next part_labels board r t false (sym e ∙ f part_labels board r t);
        })

  -- all are gone through
  pub dropping-end : {marks : List ℕ} {i : ℕ} → Dropping starts ends offsets targets w nodes first marks i → length marks ≤ i →
      (part_labels : List ℕ) (board : Circuit) (r : ℕ) → Tried (circuit part_labels starts ends) board offsets targets w r nodes first → marks ≡ least (circuit part_labels starts ends) board w r
  unfolding drop_from
  dropping-end {marks} {i} d h part_labels board r t =
      let none : length starts - i ≡ 0 = omega (arith, d.long) in
      ap (λ (n : ℕ). drop_from (bars (circuit part_labels starts ends) board w r) i n marks) (sym none) ∙ d.rest part_labels board r t
