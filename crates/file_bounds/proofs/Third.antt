-- The conditions on a file of the third edition, one after another; and what they say of the file of the second edition before the bounds.
-- Assumes nothing.
use Rattle.std.specs.Prelude.{◌≡◌, ◌∷◌, ◌++◌, ◌≤◌, ◌+◌, ◌*◌, Result, Ok, Err}
use Rattle.base_lists.specs.Kit.{◌∙◌, sym, ap, refl, subst, ap₂, Bool, false, true, cond, not, List, [], ℕ, T, eqb, ltb, length, take, drop, length-take-le, get_or-take, arith, eq-eqb, ne_eqb, le-ltb, eqb-true, ltb-false, eqb-false}
use Rattle.base_lists.proofs.Tests.{true-T, T_true, not-true-false}
use Rattle.file_format.specs.declared.Edition.TheVariants.{Second}
use Rattle.graph.specs.Circuit.{Circuit}
use Rattle.file_format.specs.declared.FileRead.{FileRead}
use Rattle.file_format.specs.declared.Refusal.{Refusal}
use Rattle.file_format.specs.declared.Role.TheVariants.{AnyPattern}
use Rattle.file_format.specs.Layout.{CircuitFile, in_edition, field, fields, nodes_of, links_of, starts_of, ends_of}
use Rattle.file_format.specs.Refusals.{Condition, Verdict, accept, refuse, first, link_conditions, file_conditions, size_number, Accepted, turned, by_number}
use Rattle.file_format.specs.Reading.{Loaded}
use Rattle.file_format.specs.Reply.{verdict_of}
use Rattle.file_format.specs.Role.{in_range, file_of}
use Rattle.file_format.proofs.Reading.{loaded-accepted, loaded-refused}
use Rattle.file_format.proofs.Refusals.{turned-accept, number-none, number-refused, verdict-number, verdict-links, verdict-turned, size-0, first-accept, first-refuse, first-parts, first_holds, accepted}
use Rattle.file_format.proofs.Fields.{length_fields}
use Rattle.file_bounds.specs.Third.{bounds_at, bounded_length, before_bounds, bounds_of, bounds_fit, bound_outside, third_conditions, third_size, BoundsHeld, BoundsLoaded}

module _ (bytes : List ℕ) where
  -- ---- the verdict

  abbrev rest : List Condition
  rest = link_conditions AnyPattern (field bytes 0) (starts_of (before_bounds bytes)) (ends_of (before_bounds bytes)) ++ (bound_outside (bounds_of bytes) ∷ [])

  verdict-size : first (third_conditions bytes) ≡ cond (eqb (third_size bytes) 0) (first rest) (turned AnyPattern (third_size bytes))
  unfolding first third_conditions third_size turned
  verdict-size =
      go (ltb (length bytes) 4) (in_range AnyPattern (field bytes 0) (field bytes 2)) (eqb (length bytes) (bounded_length (field bytes 0) (field bytes 2))) (first rest)
    where
      go : (x y z : Bool) (v : Verdict) → cond x (turned AnyPattern 1) (cond (not y) (turned AnyPattern 2) (cond (not z) (turned AnyPattern 3) v))
          ≡ cond (eqb (cond x 1 (cond y (cond z 0 3) 2)) 0) v (turned AnyPattern (cond x 1 (cond y (cond z 0 3) 2)))
      go true y z v = refl
      go false true true v = refl
      go false true false v = refl
      go false false z v = refl

  pub third-turned : (third_size bytes ≡ 0 → ⊥) → first (third_conditions bytes) ≡ turned AnyPattern (third_size bytes)
  third-turned h = verdict-size ∙ rw (ne_eqb _ _ h)

  third-links : third_size bytes ≡ 0 → first (third_conditions bytes) ≡ first rest
  third-links h = verdict-size ∙ rw (eq-eqb _ _ h)

  pub third-sized : third_size bytes ≡ 0 → (4 ≤ length bytes) × T (in_range AnyPattern (field bytes 0) (field bytes 2)) × (length bytes ≡ bounded_length (field bytes 0) (field bytes 2))
  unfolding third_size
  third-sized = go (ltb (length bytes) 4) (in_range AnyPattern (field bytes 0) (field bytes 2)) (eqb (length bytes) (bounded_length (field bytes 0) (field bytes 2))) refl refl refl
    where
      go : (x y z : Bool) → ltb (length bytes) 4 ≡ x → in_range AnyPattern (field bytes 0) (field bytes 2) ≡ y → eqb (length bytes) (bounded_length (field bytes 0) (field bytes 2)) ≡ z
          → ◌≡◌ {A = ℕ} (cond x 1 (cond y (cond z 0 3) 2)) 0
          → (4 ≤ length bytes) × T (in_range AnyPattern (field bytes 0) (field bytes 2)) × (length bytes ≡ bounded_length (field bytes 0) (field bytes 2))
      go true y z a b e h = absurd (omega arith)
      go false true true a b e h = (ltb-false _ _ a, true-T b, eqb-true _ _ e)
      go false true false a b e h = absurd (omega arith)
      go false false z a b e h = absurd (omega arith)

  -- ---- the file of the second edition before the bounds

  pub nodes-prefix : nodes_of (before_bounds bytes) ≡ field bytes 0
  unfolding nodes_of before_bounds field
  nodes-prefix = ap₂ (λ (a b : ℕ). a + 256 * b) (get_or-take (bounds_at (field bytes 0) (field bytes 2)) bytes 0 0 (omega arith)) (get_or-take (bounds_at (field bytes 0) (field bytes 2)) bytes 1 0 (omega arith))

  pub links-prefix : links_of (before_bounds bytes) ≡ field bytes 2
  unfolding links_of before_bounds field
  links-prefix = ap₂ (λ (a b : ℕ). a + 256 * b) (get_or-take (bounds_at (field bytes 0) (field bytes 2)) bytes 2 0 (omega arith)) (get_or-take (bounds_at (field bytes 0) (field bytes 2)) bytes 3 0 (omega arith))

  module _ (h : third_size bytes ≡ 0) where
    pub length-prefix : length (before_bounds bytes).bytes ≡ bounds_at (field bytes 0) (field bytes 2)
    unfolding before_bounds
    length-prefix = length-take-le _ bytes (omega (arith, (third-sized h).2))

    pub prefix-size : size_number AnyPattern (before_bounds bytes) ≡ 0
    unfolding before_bounds
    prefix-size =
        size-0 AnyPattern (before_bounds bytes) (field bytes 0) (field bytes 2) (sym nodes-prefix) (sym links-prefix) (omega (arith, length-prefix))
        (T_true {b = in_range AnyPattern (field bytes 0) (field bytes 2)} (third-sized h).1) length-prefix

    -- its verdict is that of the links
    prefix-verdict : first (file_conditions AnyPattern (before_bounds bytes)) ≡ first (link_conditions AnyPattern (field bytes 0) (starts_of (before_bounds bytes)) (ends_of (before_bounds bytes)))
    prefix-verdict =
        verdict-links AnyPattern (before_bounds bytes) prefix-size
        ∙ sym (verdict-number AnyPattern (nodes_of (before_bounds bytes)) (starts_of (before_bounds bytes)) (ends_of (before_bounds bytes)))
        ∙ ap (λ (n : ℕ). first (link_conditions AnyPattern n (starts_of (before_bounds bytes)) (ends_of (before_bounds bytes)))) nodes-prefix

    -- The one law that ties the third edition to the second: a file of the right size is refused as the file before the bounds is, and then by 13.
    pub third-second : first (third_conditions bytes) ≡ first (file_conditions AnyPattern (before_bounds bytes) ++ (bound_outside (bounds_of bytes) ∷ []))
    third-second = third-links h ∙ go (first (file_conditions AnyPattern (before_bounds bytes))) refl prefix-verdict
      where
        links : List Condition
        links = link_conditions AnyPattern (field bytes 0) (starts_of (before_bounds bytes)) (ends_of (before_bounds bytes))

        go : (v : Verdict) → first (file_conditions AnyPattern (before_bounds bytes)) ≡ v → v ≡ first links → first rest ≡ first (file_conditions AnyPattern (before_bounds bytes) ++ (bound_outside (bounds_of bytes) ∷ []))
        go accept e q = first-accept links _ (sym q) ∙ sym (first-accept (file_conditions AnyPattern (before_bounds bytes)) _ e)
        go (refuse x) e q = first-refuse links _ x (sym q) ∙ sym (first-refuse (file_conditions AnyPattern (before_bounds bytes)) _ x e)

    -- what turns the front away turns the file away,
    pub prefix-refused : {x : Refusal} → first (file_conditions AnyPattern (before_bounds bytes)) ≡ refuse x → first (third_conditions bytes) ≡ refuse x
    prefix-refused e = third-second ∙ first-refuse _ _ _ e

    -- and where nothing does, the bounds decide
    module _ (e : first (file_conditions AnyPattern (before_bounds bytes)) ≡ accept) where
      pub bounds-refused : bounds_fit (bounds_of bytes) ≡ false → first (third_conditions bytes) ≡ turned AnyPattern 13
      unfolding first bound_outside turned
      bounds-refused b = third-second ∙ first-accept (file_conditions AnyPattern (before_bounds bytes)) (bound_outside (bounds_of bytes) ∷ []) e ∙ rw b

      pub bounds-accepted : bounds_fit (bounds_of bytes) ≡ true → first (third_conditions bytes) ≡ accept
      unfolding first bound_outside
      bounds-accepted b = third-second ∙ first-accept (file_conditions AnyPattern (before_bounds bytes)) (bound_outside (bounds_of bytes) ∷ []) e ∙ rw b

  -- as many bounds as links
  pub bounds-count : length (bounds_of bytes) ≡ links_of (before_bounds bytes)
  unfolding bounds_of
  bounds-count = length_fields _ _ ∙ sym links-prefix

  -- An accepted file: what stands before the bounds is a file of any pattern that is accepted, and every bound is from 1 to 4.
  pub third-accepted : first (third_conditions bytes) ≡ accept → Accepted AnyPattern (before_bounds bytes) × T (bounds_fit (bounds_of bytes))
  unfolding bound_outside
  third-accepted e = go (eqb (third_size bytes) 0) refl
    where
      go : (b : Bool) → eqb (third_size bytes) 0 ≡ b → Accepted AnyPattern (before_bounds bytes) × T (bounds_fit (bounds_of bytes))
      go true z =
          let (prefix, bounds) = first-parts (file_conditions AnyPattern (before_bounds bytes)) _ (sym (third-second (eqb-true _ _ z)) ∙ e) in
          (accepted AnyPattern (before_bounds bytes) prefix, not-true-false (bounds_fit (bounds_of bytes)) (first_holds _ _ bounds).0)
      go false z = absurd (turned-accept AnyPattern _ _ (third-turned (eqb-false _ _ z)) e)

  pub third-long : first (third_conditions bytes) ≡ accept → length bytes ≡ bounded_length (field bytes 0) (field bytes 2)
  third-long e = go (eqb (third_size bytes) 0) refl
    where
      go : (b : Bool) → eqb (third_size bytes) 0 ≡ b → length bytes ≡ bounded_length (field bytes 0) (field bytes 2)
      go true z = (third-sized (eqb-true _ _ z)).2
      go false z = absurd (turned-accept AnyPattern _ _ (third-turned (eqb-false _ _ z)) e)

  -- A file of the third edition's length, of which every bound is from 1 to 4, is refused or accepted as what stands before the bounds.
  module _ (long : length bytes ≡ bounded_length (field bytes 0) (field bytes 2)) where
    prefix-long : length (before_bounds bytes).bytes ≡ bounds_at (field bytes 0) (field bytes 2)
    unfolding before_bounds
    prefix-long = length-take-le _ bytes (omega (arith, long))

    size_same : size_number AnyPattern (before_bounds bytes) ≡ third_size bytes
    unfolding size_number third_size before_bounds
    size_same =
        simp
        (le-ltb (length bytes) 4 (omega (arith, long)), eq-eqb _ _ long, le-ltb (length (before_bounds bytes).bytes) 4 (omega (arith, prefix-long)), nodes-prefix, links-prefix, eq-eqb _ _ prefix-long)

    pub prefix-verdicts : T (bounds_fit (bounds_of bytes)) → first (third_conditions bytes) ≡ first (file_conditions AnyPattern (before_bounds bytes))
    unfolding first bound_outside
    prefix-verdicts fits = sized (eqb (third_size bytes) 0) refl
      where
        links : (v : Verdict) → first (file_conditions AnyPattern (before_bounds bytes)) ≡ v → first (file_conditions AnyPattern (before_bounds bytes) ++ (bound_outside (bounds_of bytes) ∷ [])) ≡ v
        links accept e = first-accept (file_conditions AnyPattern (before_bounds bytes)) (bound_outside (bounds_of bytes) ∷ []) e ∙ rw (T_true {b = bounds_fit (bounds_of bytes)} fits)
        links (refuse x) e = first-refuse (file_conditions AnyPattern (before_bounds bytes)) (bound_outside (bounds_of bytes) ∷ []) x e

        sized : (b : Bool) → eqb (third_size bytes) 0 ≡ b → first (third_conditions bytes) ≡ first (file_conditions AnyPattern (before_bounds bytes))
        sized true z = third-second (eqb-true _ _ z) ∙ links _ refl
        sized false z =
            third-turned (eqb-false _ _ z) ∙ ap (turned AnyPattern) (sym size_same)
            ∙ sym (verdict-turned AnyPattern (before_bounds bytes) (λ e. eqb-false _ _ z (sym size_same ∙ e)))

-- ---- as the reader answers

module _ {bytes : List ℕ} {read : Result FileRead Refusal} {tables : Circuit} {bounds : List ℕ} (l : BoundsLoaded bytes read tables bounds) where
  pub third-read : {size : FileRead} → read ≡ Ok size → first (third_conditions bytes) ≡ accept
  unfolding verdict_of
  third-read e = sym l.verdict ∙ ap verdict_of e

  pub third-refused : {x : Refusal} → read ≡ Err x → first (third_conditions bytes) ≡ refuse x
  unfolding verdict_of
  third-refused e = sym l.verdict ∙ ap verdict_of e

-- the size was tested: it refuses the file, or no number is left
module _ (bytes : List ℕ) {A : Type 0} {sized : Result A Refusal} (l : verdict_of sized ≡ by_number AnyPattern (third_size bytes)) where
  pub size-turned : {tables : Circuit} {bounds : List ℕ} {x : Refusal} → sized ≡ Err x → BoundsLoaded bytes (Err x) tables bounds
  unfolding verdict_of
  size-turned e =
      let (some, is) = number-refused AnyPattern (third_size bytes) (sym l ∙ ap verdict_of e) in
      record { verdict = sym (third-turned bytes some ∙ is); held = λ size q. cc }

  pub size-none : {a : A} → sized ≡ Ok a → third_size bytes ≡ 0
  unfolding verdict_of
  size-none e = number-none AnyPattern _ (sym l ∙ ap verdict_of e)

-- the parts of the file, as the reader cuts them
module _ (bytes : List ℕ) (n m : ℕ) (isN : n ≡ field bytes 0) (isM : m ≡ field bytes 2) where
  at-is : 4 + 4 * n + 4 * m ≡ bounds_at (field bytes 0) (field bytes 2)
  at-is = omega (arith, isN, isM)

  pub prefix-is : in_edition Second (take (4 + 4 * n + 4 * m) bytes) ≡ before_bounds bytes
  unfolding before_bounds
  prefix-is = ap (λ (k : ℕ). in_edition Second (take k bytes)) at-is

  pub bounds-are : fields (drop (4 + 4 * n + 4 * m) bytes) m ≡ bounds_of bytes
  unfolding bounds_of
  bounds-are = ap₂ (λ (k c : ℕ). fields (drop k bytes) c) at-is isM

  -- the front was read, and then the bounds
  module _ (h : third_size bytes ≡ 0) {read : Result FileRead Refusal} {tables : Circuit}
      (l : Loaded AnyPattern (in_edition Second (take (4 + 4 * n + 4 * m) bytes)) read tables) where
    prefix-loaded : Loaded AnyPattern (before_bounds bytes) read tables
    prefix-loaded = subst (λ (f : CircuitFile). Loaded AnyPattern f read tables) prefix-is l

    -- what stands before the bounds is refused
    pub loaded-before : {x : Refusal} {bounds : List ℕ} → read ≡ Err x → BoundsLoaded bytes (Err x) tables bounds
    unfolding verdict_of
    loaded-before e = record { verdict = sym (prefix-refused bytes h (loaded-refused prefix-loaded e)); held = λ size q. cc }

    module _ {size : FileRead} (e : read ≡ Ok size) {fits : Bool} (f : fits ≡ bounds_fit (fields (drop (4 + 4 * n + 4 * m) bytes) m)) where
      accepts : first (file_conditions AnyPattern (before_bounds bytes)) ≡ accept
      accepts = loaded-accepted prefix-loaded e

      fits-are : {b : Bool} → fits ≡ b → bounds_fit (bounds_of bytes) ≡ b
      fits-are q = ap bounds_fit (sym bounds-are) ∙ sym f ∙ q

      -- a bound is refused
      pub loaded-outside : {bounds : List ℕ} → fits ≡ false → BoundsLoaded bytes (Err (record { number = 13; file = file_of AnyPattern })) tables bounds
      unfolding verdict_of turned
      loaded-outside q = record { verdict = sym (bounds-refused bytes h accepts (fits-are q)); held = λ other p. cc }

      -- all is accepted
      pub loaded-bounds : {bounds : List ℕ} → fits ≡ true → take m bounds ≡ fields (drop (4 + 4 * n + 4 * m) bytes) m → BoundsLoaded bytes (Ok size) tables bounds
      unfolding verdict_of
      loaded-bounds {bounds} q t =
          let stands = (prefix-loaded.held size e).stands in
          let held : BoundsHeld bytes size tables bounds
          = record { stands = stands; bounded = ap (λ (k : ℕ). take k bounds) (stands.links ∙ links-prefix bytes ∙ sym isM) ∙ t ∙ bounds-are }
          in
          record {
            verdict = sym (bounds-accepted bytes h accepts (fits-are q));
            held = λ other p. let is : size ≡ other = cc in subst (λ (k : FileRead). BoundsHeld bytes k tables bounds) is held;
          }
