-- Laws of marking: writing at the nodes of a list one after another, and the links of one node after another. Assumes nothing.
use Rattle.std.specs.Prelude.{◌≡◌, ◌⊎◌, ◌&&◌, ◌||◌, ◌∷◌, ◌++◌, ◌≤◌, ◌<◌, ◌+◌, ◌-◌}
use Rattle.base_lists.specs.Kit.{◌∙◌, sym, ap, refl, subst, ⊎_elim, inl, inr, Bool, false, true, cond, List, [], ℕ, suc, min, add-one, ltb, leb, length, get_or, take, drop, set, length-append, replicate, length-drop, drop_of_length-le, length-replicate, length-take, get_or-replicate, get_or-append, length-take-le, drop-cons, get_or-take, get_or-drop, get_or-append-add, arith, le-ltb, lt-ltb, le-leb, lt-leb}
use Rattle.base_lists.specs.List.{any, part}
use Rattle.base_lists.proofs.Tables.{length-tabulate, get_d_tabulate, is-tabulate}
use Rattle.base_lists.proofs.Tests.{lt-or-le}
use Rattle.base_bits.specs.Bits.{intersects, union_over}
use Rattle.graph.specs.Net.{forward_offsets, forward_targets, driven, Net}
use Rattle.graph.proofs.Lookup.{stretch-part}
use Rattle.graph.proofs.Net.{stretch-sound, net-few}
use Rattle.table.specs.Fill.{marks_of, fill_at, table_at}
use Rattle.table.specs.Prepared.{succ_of, Tables}
use Rattle.table.proofs.Fill.{fill-table, cleared-none}
use Rattle.place.specs.Bytes.{driven_by, marked_ends, marks_link, mark_start, mark_starts, link_marks}

-- ---- at the nodes of a list

module _ (f : ℕ → ℕ) (nodes : List ℕ) where
  -- one more
  pub fill-next : (xs : List ℕ) (i : ℕ) → i < length nodes → fill_at f (drop (i + 1) nodes) (set xs (get_or nodes i 0) (f (get_or nodes i 0))) ≡ fill_at f (drop i nodes) xs
  unfolding fill_at
  fill-next xs i h = rw (add-one, drop-cons nodes i 0) refl

  pub fill_end : (xs : List ℕ) (i : ℕ) → length nodes ≤ i → fill_at f (drop i nodes) xs ≡ xs
  unfolding fill_at
  fill_end xs i h = rw (drop_of_length-le nodes h)

-- 1 at each node of the list, in a table that was cleared
pub ones-marks : (n : ℕ) (nodes xs : List ℕ) → xs ≡ replicate n 0 → fill_at (λ v. 1) nodes xs ≡ marks_of n nodes
unfolding marks_of table_at
ones-marks n nodes xs e =
    fill-table (λ v. 1) nodes xs (cleared-none n nodes xs e) ∙ ap (λ (m : ℕ). table_at m (λ v. 1) nodes) (ap length e ∙ length-replicate n 0)

-- ---- the links of the nodes of a list

module _ (t : Tables) (sets : List ℕ) where
  pub length-start : (v : ℕ) (bytes : List ℕ) → length (mark_start t sets v bytes) ≡ length bytes
  unfolding mark_start
  length-start v bytes = length-tabulate (length bytes) (λ i. cond (marks_link t sets i v) 1 (get_or bytes i 0))

  pub starts-next : (nodes bytes : List ℕ) (i : ℕ) → i < length nodes
      → mark_starts t sets (drop (i + 1) nodes) (mark_start t sets (get_or nodes i 0) bytes) ≡ mark_starts t sets (drop i nodes) bytes
  unfolding mark_starts
  starts-next nodes bytes i h = rw (add-one, drop-cons nodes i 0) refl

  pub starts-end : (nodes bytes : List ℕ) (i : ℕ) → length nodes ≤ i → mark_starts t sets (drop i nodes) bytes ≡ bytes
  unfolding mark_starts
  starts-end nodes bytes i h = rw (drop_of_length-le nodes h)

  length-starts : (nodes bytes : List ℕ) → length (mark_starts t sets nodes bytes) ≡ length bytes
  unfolding mark_starts
  length-starts [] bytes = refl
  length-starts (v ∷ vs) bytes = length-starts vs (mark_start t sets v bytes) ∙ length-start v bytes

  -- a link is marked where some node marks it
  get_or-starts : (nodes bytes : List ℕ) (i : ℕ) → i < length bytes
      → get_or (mark_starts t sets nodes bytes) i 0 ≡ cond (any (marks_link t sets i) nodes) 1 (get_or bytes i 0)
  unfolding mark_starts mark_start any
  get_or-starts [] bytes i h = refl
  get_or-starts (v ∷ vs) bytes i h =
      get_or-starts vs (mark_start t sets v bytes) i (rw (length-start v bytes) h)
      ∙ ap (λ (x : ℕ). cond (any (marks_link t sets i) vs) 1 x) (get_d_tabulate (length bytes) _ i 0 h)
      ∙ go (any (marks_link t sets i) vs) (marks_link t sets i v)
    where
      go : (a b : Bool) → cond a 1 (cond b 1 (get_or bytes i 0)) ≡ cond (b || a) 1 (get_or bytes i 0)
      go true true = refl
      go true false = refl
      go false true = refl
      go false false = refl

  -- in bytes that were cleared
  pub starts-marks : (m : ℕ) (nodes bytes : List ℕ) → bytes ≡ replicate m 0 → mark_starts t sets nodes bytes ≡ link_marks m t sets nodes
  unfolding link_marks
  starts-marks m nodes bytes e =
      let long : length bytes ≡ m = ap length e ∙ length-replicate m 0 in
      is-tabulate m (λ i. cond (any (marks_link t sets i) nodes) 1 0) (mark_starts t sets nodes bytes) (length-starts nodes bytes ∙ long)
      (λ i h.
      get_or-starts nodes bytes i (rw long h)
      ∙ ap (λ (x : ℕ). cond (any (marks_link t sets i) nodes) 1 x) (ap (λ (l : List ℕ). get_or l i 0) e ∙ get_or-replicate m i 0 0 h))

-- ---- the links of one node

module _ {n : ℕ} {offsets links : List ℕ} (net : Net n offsets links) (v : ℕ) (h : v < n) where
  abbrev start : ℕ
  start = get_or (forward_offsets offsets) v 0

  abbrev ends : List ℕ
  ends = driven offsets links v

  -- the first half of the offsets has the node's
  pub start-at : get_or offsets v 0 ≡ start
  unfolding part
  start-at = sym (get_or-take 513 offsets v 0 (omega (arith, net-few net)))

  ends-part : ends ≡ take (get_or (forward_offsets offsets) (suc v) 0 - start) (drop start (forward_targets links))
  unfolding driven
  ends-part = stretch-part (forward_offsets offsets) (forward_targets links) v (stretch-sound net.forward v h)

  -- its links are those between its two offsets
  pub ends-length : start + length ends ≡ get_or (forward_offsets offsets) (suc v) 0
  ends-length =
      let e : length ends ≡ min (get_or (forward_offsets offsets) (suc v) 0 - start) (length (forward_targets links) - start) = ap length ends-part ∙ simp (length-take, length-drop) in
      omega (arith, net.forward.rising v h, net.forward.within v h)

  ends_at : (k : ℕ) → k < length ends → get_or ends k 0 ≡ get_or (forward_targets links) (start + k) 0
  ends_at k l =
      ap (λ (xs : List ℕ). get_or xs k 0) ends-part
      ∙ get_or-take (get_or (forward_offsets offsets) (suc v) 0 - start) (drop start (forward_targets links)) k 0 (omega (arith, ends-length))
      ∙ get_or-drop start (forward_targets links) k 0

-- Marking the links of a node in the stretch of the bytes that is theirs.
module _ (a k : ℕ) (bytes ys : List ℕ) (fits : a + k ≤ length bytes) (long : length ys ≡ k) where
  abbrev whole : List ℕ
  whole = take a bytes ++ (ys ++ drop k (drop a bytes))

  length_whole : length whole ≡ length bytes
  length_whole = simp (length-append, length-take, length-drop) (omega arith)

  before : (i : ℕ) → i < a → get_or whole i 0 ≡ get_or bytes i 0
  before i h =
      get_or-append (take a bytes) (ys ++ drop k (drop a bytes)) 0 i (simp length-take (omega arith)) ∙ get_or-take a bytes i 0 h

  inner : (j : ℕ) → get_or whole (a + j) 0 ≡ get_or (ys ++ drop k (drop a bytes)) j 0
  inner j =
      ap (λ (i : ℕ). get_or whole i 0) (ap (λ (m : ℕ). m + j) (sym (length-take-le a bytes (omega arith))))
      ∙ get_or-append-add (take a bytes) (ys ++ drop k (drop a bytes)) j 0

  within : (j : ℕ) → j < k → get_or whole (a + j) 0 ≡ get_or ys j 0
  within j h = inner j ∙ get_or-append ys (drop k (drop a bytes)) 0 j (omega arith)

  after : (j : ℕ) → get_or whole (a + (k + j)) 0 ≡ get_or bytes (a + (k + j)) 0
  after j =
      inner (k + j)
      ∙ ap (λ (m : ℕ). get_or (ys ++ drop k (drop a bytes)) (m + j) 0) (sym long)
      ∙ get_or-append-add ys (drop k (drop a bytes)) j 0
      ∙ get_or-drop k (drop a bytes) j 0
      ∙ get_or-drop a bytes (k + j) 0

module _ (t : Tables) {n : ℕ} (net : Net n t.offsets t.targets) (v : ℕ) (h : v < n) (sets bytes : List ℕ)
    (room : get_or (forward_offsets t.offsets) (suc v) 0 ≤ length bytes)
  where
    abbrev from : ℕ
    from = get_or (forward_offsets t.offsets) v 0

    abbrev to : ℕ
    to = get_or (forward_offsets t.offsets) (suc v) 0

    abbrev stretch : List ℕ
    stretch = driven t.offsets t.targets v

    abbrev parts : ℕ
    parts = driven_by (succ_of t.masks) sets v

    abbrev meets : ℕ → Bool
    meets i = intersects parts (get_or sets (get_or (forward_targets t.targets) i 0) 0)

    abbrev middle : List ℕ
    middle = take (length stretch) (drop from bytes)

    long : from + length stretch ≡ to
    long = ends-length net v h

    length_marked : length (marked_ends parts sets stretch middle) ≡ length stretch
    unfolding marked_ends
    length_marked = length-tabulate _ _

    -- outside the stretch no byte is marked
    outside : (i : ℕ) → (i < from) ⊎ (to ≤ i) → cond (marks_link t sets i v) 1 (get_or bytes i 0) ≡ get_or bytes i 0
    unfolding marks_link
    outside i (inl l) = rw (lt-leb from i l)
    outside i (inr l) = go (leb from i)
      where
        go : (b : Bool) → cond ((b && ltb i to) && meets i) 1 (get_or bytes i 0) ≡ get_or bytes i 0
        go true = rw (le-ltb i to l)
        go false = refl

    inside : (j : ℕ) → j < length stretch → get_or (marked_ends parts sets stretch middle) j 0 ≡ cond (marks_link t sets (from + j) v) 1 (get_or bytes (from + j) 0)
    unfolding marked_ends marks_link
    inside j l =
        let low : leb from (from + j) ≡ true = le-leb from (from + j) (omega arith) in
        let high : ltb (from + j) to ≡ true = lt-ltb (from + j) to (omega (arith, long)) in
        get_d_tabulate (length stretch) _ j 0 l
        ∙ rw (low, high, ends_at net v h j l, get_or-take (length stretch) (drop from bytes) j 0 l, get_or-drop from bytes j 0) refl

    abbrev new : List ℕ
    new = marked_ends parts sets stretch middle

    fits : from + length stretch ≤ length bytes
    fits = rw long room

    entry : (i : ℕ) → get_or (take from bytes ++ (new ++ drop (length stretch) (drop from bytes))) i 0 ≡ cond (marks_link t sets i v) 1 (get_or bytes i 0)
    entry i =
        ⊎_elim
        (λ l. before from (length stretch) bytes new fits length_marked i l ∙ sym (outside i (inl l)))
        (λ l.
        ⊎_elim
        (λ m.
        let e : from + (i - from) ≡ i = omega arith in
        let less : i - from < length stretch = omega (arith, long) in
        subst Same e (within from (length stretch) bytes new fits length_marked (i - from) less ∙ inside (i - from) less))
        (λ m.
        let e : from + (length stretch + (i - to)) ≡ i = omega (arith, long) in
        subst Same e (after from (length stretch) bytes new fits length_marked (i - to) ∙ sym (outside _ (inr (omega (arith, long))))))
        (lt-or-le i to))
        (lt-or-le i from)
      where
        Same : ℕ → Type 0
        Same i = get_or (take from bytes ++ (new ++ drop (length stretch) (drop from bytes))) i 0 ≡ cond (marks_link t sets i v) 1 (get_or bytes i 0)

    pub start-marked : (a set : ℕ) (ends' new' : List ℕ) → a ≡ from → ends' ≡ stretch → set ≡ union_over (succ_of t.masks) (get_or sets v 0)
        → new' ≡ marked_ends set sets ends' (take (a + length ends' - a) (drop a bytes))
        → take a bytes ++ (new' ++ drop (a + length ends' - a) (drop a bytes)) ≡ mark_start t sets v bytes
    unfolding mark_start driven_by
    start-marked a set ends' new' ea ee es en =
        let k : a + length ends' - a ≡ length stretch = omega (arith, ap length ee) in
        rw (en, k, ea, ee, es)
        (is-tabulate (length bytes) (λ i. cond (marks_link t sets i v) 1 (get_or bytes i 0)) _ (length_whole from (length stretch) bytes new fits length_marked) (λ i l. entry i))
