-- Laws of lists of conditions, and what it says of a file that none of its conditions holds. Assumes nothing.
use Rattle.std.specs.Prelude.{◌≡◌, ◌↔◌, ◌⊎◌, ◌&&◌, ◌∷◌, ◌++◌, ◌≤◌, ◌<◌}
use Rattle.base_lists.specs.Kit.{◌∙◌, sym, ap, refl, ⊎_elim, inl, inr, Bool, false, true, cond, not, List, [], MemOf, mem-cases_cons, mem-head, mem-not_nil, mem-tail, ℕ, T, eqb, ltb, leb, leb→le, length, arith, eq-eqb, ne_eqb, le-ltb, lt-ltb, eqb-true, not-false, ltb-false}
use Rattle.base_lists.specs.List.{all}
use Rattle.base_lists.proofs.Tests.{not-true-false, both_false, both_left, both_right, true-T, false-T, T_true, T_false}
use Rattle.graph.specs.Search.{connected, radius}
use Rattle.file_format.specs.declared.File.TheVariants.{Neither}
use Rattle.file_format.specs.declared.Refusal.{Refusal}
use Rattle.file_format.specs.declared.Role.{Role}
use Rattle.file_format.specs.declared.Role.TheVariants.{Pattern, Board, AnyPattern}
use Rattle.file_format.specs.Layout.{CircuitFile, nodes_of, links_of, length_of, starts_of, ends_of}
use Rattle.file_format.specs.Links.{links_below, rising}
use Rattle.file_format.specs.Refusals.{Accepted, Condition, Verdict, accept, refuse, NoneHolds, first, FirstHolding, link_conditions, file_conditions, widest, asks_connected, size_number, link_order_number, link_number, short_table, turned, by_number}
use Rattle.file_format.specs.Role.{min_nodes, max_nodes, max_links, in_range, file_of}
use Rattle.file_format.specs.Reply.{reply}

-- ---- the first of a list of conditions

pub first-accept : (cs ds : List Condition) → first cs ≡ accept → first (cs ++ ds) ≡ first ds
unfolding first
first-accept [] ds e = refl
first-accept (c ∷ cs) ds e = go c.holds e (first-accept cs ds)
  where
    go : (b : Bool) → cond b (refuse (record { number = c.number; file = c.file })) (first cs) ≡ accept → (first cs ≡ accept → first (cs ++ ds) ≡ first ds)
        → cond b (refuse (record { number = c.number; file = c.file })) (first (cs ++ ds)) ≡ first ds
    go true e r = cc
    go false e r = r e

pub first-refuse : (cs ds : List Condition) (x : Refusal) → first cs ≡ refuse x → first (cs ++ ds) ≡ refuse x
unfolding first
first-refuse [] ds x e = cc
first-refuse (c ∷ cs) ds x e = go c.holds e (first-refuse cs ds x)
  where
    go : (b : Bool) → cond b (refuse (record { number = c.number; file = c.file })) (first cs) ≡ refuse x → (first cs ≡ refuse x → first (cs ++ ds) ≡ refuse x)
        → cond b (refuse (record { number = c.number; file = c.file })) (first (cs ++ ds)) ≡ refuse x
    go true e r = e
    go false e r = r e

pub accept-not-refuse : {x : Refusal} → accept ≡ refuse x → ⊥
accept-not-refuse e = let z : ◌≡◌ {A = ℕ} 0 1 = cc in omega arith

-- no condition of an accepted list holds
pub first_holds : (c : Condition) (cs : List Condition) → first (c ∷ cs) ≡ accept → (c.holds ≡ false) × (first cs ≡ accept)
unfolding first
first_holds c cs e = go c.holds e
  where
    go : (b : Bool) → cond b (refuse (record { number = c.number; file = c.file })) (first cs) ≡ accept → (b ≡ false) × (first cs ≡ accept)
    go true e = (cc, cc)
    go false e = (refl, e)

-- a list that is accepted is accepted part by part
pub first-parts : (cs ds : List Condition) → first (cs ++ ds) ≡ accept → (first cs ≡ accept) × (first ds ≡ accept)
first-parts cs ds e = go (first cs) refl
  where
    go : (v : Verdict) → first cs ≡ v → (first cs ≡ accept) × (first ds ≡ accept)
    go accept h = (h, sym (first-accept cs ds h) ∙ e)
    go (refuse x) h = let z : refuse x ≡ accept = sym (first-refuse cs ds x h) ∙ e in (cc, cc)

none-holds : (cs : List Condition) → first cs ≡ accept → (c : Condition) → MemOf c cs → T c.holds → ⊥
none-holds [] e c m t = absurd (mem-not_nil m)
none-holds (d ∷ ds) e c m t =
    let (fails, rest) = first_holds d ds e in
    ⊎_elim (λ same. false-T (ap (λ (k : Condition). k.holds) same ∙ fails) t) (λ later. none-holds ds rest c later t) (mem-cases_cons m)

-- ---- what the first of a list of conditions means

none-accept : (cs : List Condition) → NoneHolds cs → first cs ≡ accept
unfolding first NoneHolds
none-accept [] none = refl
none-accept (c ∷ cs) none = rw (none c (mem-head refl)) (none-accept cs (λ d m. none d (mem-tail m)))

pub accepts-iff : (cs : List Condition) → (first cs ≡ accept) ↔ NoneHolds cs
unfolding NoneHolds
accepts-iff cs = (λ e c m. T_false {b = c.holds} (none-holds cs e c m), none-accept cs)

refuses-step :
    (c : Condition) (cs : List Condition) (x : Refusal) (b : Bool) → c.holds ≡ b →
    cond b (refuse (record { number = c.number; file = c.file })) (first cs) ≡ refuse x → (first cs ≡ refuse x → FirstHolding cs x) →
    FirstHolding (c ∷ cs) x
unfolding NoneHolds
refuses-step c cs x true h e rest =
    let same : record { number = c.number; file = c.file } ≡ x = cc in
    record {
      before = [];
      after = cs;
      place =
          ap (λ (b : Bool). record { number = c.number; file = c.file; holds = b } ∷ cs) h
          ∙ ap (λ (y : Refusal). record { number = y.number; file = y.file; holds = true } ∷ cs) same;
      none = λ d m. absurd (mem-not_nil m);
    }
refuses-step c cs x false h e rest =
    let f = rest e in
    record {
      before = c ∷ f.before;
      after = f.after;
      place = ap (λ (ds : List Condition). c ∷ ds) f.place;
      none = λ d m. ⊎_elim (λ same. ap (λ (k : Condition). k.holds) same ∙ h) (λ later. f.none d later) (mem-cases_cons m);
    }

refuses-first : (cs : List Condition) (x : Refusal) → first cs ≡ refuse x → FirstHolding cs x
unfolding first
refuses-first [] x e = absurd (accept-not-refuse e)
refuses-first (c ∷ cs) x e = refuses-step c cs x c.holds refl e (refuses-first cs x)

first-refuses : {cs : List Condition} {x : Refusal} → FirstHolding cs x → first cs ≡ refuse x
unfolding first
first-refuses f = rw f.place (first-accept f.before _ (none-accept f.before f.none))

-- a list of conditions refuses by a number and a file exactly when those are of its first condition that holds
pub refuses-by : (cs : List Condition) (x : Refusal) → (first cs ≡ refuse x) ↔ FirstHolding cs x
refuses-by cs x = (refuses-first cs x, first-refuses)

-- ---- three lent tables, and four

either_way : (x : Bool) (v : Verdict) → cond x v v ≡ v
either_way true v = refl
either_way false v = refl

module _ (a b d k s e : ℕ) where
  -- one short table of three is enough
  pub tables-short : (k < a) ⊎ ((s < b) ⊎ (e < d))
      → first (short_table a k ∷ short_table b s ∷ short_table d e ∷ []) ≡ refuse (record { number = 8; file = Neither })
  unfolding first short_table
  tables-short (inl h) = rw (lt-ltb _ _ h)
  tables-short (inr (inl h)) = rw (lt-ltb _ _ h) (either_way (ltb k a) _)
  tables-short (inr (inr h)) = rw (lt-ltb _ _ h, either_way (ltb s b)) (either_way (ltb k a) _)

  pub tables-fit : a ≤ k → b ≤ s → d ≤ e → first (short_table a k ∷ short_table b s ∷ short_table d e ∷ []) ≡ accept
  unfolding first short_table
  tables-fit x y z = rw (le-ltb _ _ x, le-ltb _ _ y, le-ltb _ _ z)

-- one short table of four is enough
pub tables-short-4 : (a p b d k q s e : ℕ) → (k < a) ⊎ ((q < p) ⊎ ((s < b) ⊎ (e < d)))
    → first (short_table a k ∷ short_table p q ∷ short_table b s ∷ short_table d e ∷ []) ≡ refuse (record { number = 8; file = Neither })
unfolding first short_table
tables-short-4 a p b d k q s e (inl h) = rw (lt-ltb _ _ h)
tables-short-4 a p b d k q s e (inr h) = rw (tables-short p b d q s e h) (either_way (ltb k a) _)

pub tables-fit-4 : (a p b d k q s e : ℕ) → a ≤ k → p ≤ q → b ≤ s → d ≤ e
    → first (short_table a k ∷ short_table p q ∷ short_table b s ∷ short_table d e ∷ []) ≡ accept
unfolding first short_table
tables-fit-4 a p b d k q s e x w y z = rw (le-ltb _ _ x) (tables-fit p b d q s e w y z)

-- ---- the links' number, as the tests come out in their order

module _ (n : ℕ) (starts ends : List ℕ) where
  pub order-starts : all (λ v. ltb v n) starts ≡ false → link_order_number n starts ends ≡ 4
  unfolding link_order_number links_below
  order-starts a = simp a

  module _ (a : all (λ v. ltb v n) starts ≡ true) where
    pub order-ends : all (λ v. ltb v n) ends ≡ false → link_order_number n starts ends ≡ 4
    unfolding link_order_number links_below
    order-ends b = simp (a, b)

    module _ (b : all (λ v. ltb v n) ends ≡ true) where
      pub order-falls : rising starts ends ≡ false → link_order_number n starts ends ≡ 5
      unfolding link_order_number links_below
      order-falls e = simp (a, b, e)

      pub order-rises : rising starts ends ≡ true → link_order_number n starts ends ≡ 0
      unfolding link_order_number links_below
      order-rises e = simp (a, b, e)

  -- links in order
  pub ordered : link_order_number n starts ends ≡ 0 → T (links_below n starts ends) × T (rising starts ends)
  unfolding link_order_number
  ordered = go (links_below n starts ends) (rising starts ends)
    where
      go : (x y : Bool) → ◌≡◌ {A = ℕ} (cond x (cond y 0 5) 4) 0 → T x × T y
      go true true e = (tt, tt)
      go true false e = absurd (omega arith)
      go false y e = absurd (omega arith)

  -- the links' number, from that of their order
  pub number-order : (r : Role) → (link_order_number n starts ends ≡ 0 → ⊥) → link_number r n starts ends ≡ link_order_number n starts ends
  unfolding link_order_number link_number
  number-order r = go (links_below n starts ends) (rising starts ends)
    where
      go : (x y : Bool) → (◌≡◌ {A = ℕ} (cond x (cond y 0 5) 4) 0 → ⊥)
          → ◌≡◌ {A = ℕ} (cond x (cond y (cond (asks_connected r && not (connected n starts ends)) 6 (cond (asks_connected r && ltb widest (radius n starts ends)) 11 0)) 5) 4) (cond x (cond y 0 5) 4)
      go true true f = absurd (f refl)
      go true false f = refl
      go false y f = refl

  -- and of links in order, by what is asked of a pattern's alone
  pub number-joined : (r : Role) → link_order_number n starts ends ≡ 0
      → link_number r n starts ends ≡ cond (asks_connected r && not (connected n starts ends)) 6 (cond (asks_connected r && ltb widest (radius n starts ends)) 11 0)
  unfolding link_number
  number-joined r e =
      let (below, rises) = ordered e in
      simp (T_true {b = links_below n starts ends} below, T_true {b = rising starts ends} rises)

-- ---- the conditions on a file, one after another: the number of bytes, the range, the length, the links

pub number-turned : (r : Role) (k : ℕ) → (k ≡ 0 → ⊥) → by_number r k ≡ turned r k
unfolding by_number
number-turned r k h = simp (ne_eqb _ _ h)

pub number-accept : (r : Role) (k : ℕ) → k ≡ 0 → by_number r k ≡ accept
unfolding by_number
number-accept r k h = simp (eq-eqb _ _ h)

pub number-none : (r : Role) (k : ℕ) → by_number r k ≡ accept → k ≡ 0
unfolding by_number turned
number-none r k e = go (eqb k 0) refl e
  where
    go : (b : Bool) → eqb k 0 ≡ b → cond b accept (refuse (record { number = k; file = file_of r })) ≡ accept → k ≡ 0
    go true q h = eqb-true _ _ q
    go false q h = absurd (accept-not-refuse (sym h))

pub number-refused : (r : Role) (k : ℕ) {x : Refusal} → by_number r k ≡ refuse x → (k ≡ 0 → ⊥) × (turned r k ≡ refuse x)
number-refused r k e =
    let none : k ≡ 0 → ⊥ = λ z. accept-not-refuse (sym (number-accept r k z) ∙ e) in
    (none, sym (number-turned r k none) ∙ e)

-- the first of the conditions on the links is the one that their number says
pub verdict-number : (r : Role) (n : ℕ) (starts ends : List ℕ) → first (link_conditions r n starts ends) ≡ by_number r (link_number r n starts ends)
unfolding first link_conditions link_number by_number turned
verdict-number r n starts ends =
    go (links_below n starts ends) (rising starts ends) (asks_connected r && not (connected n starts ends)) (asks_connected r && ltb widest (radius n starts ends))
  where
    go : (x y z w : Bool) → cond (not x) (turned r 4) (cond (not y) (turned r 5) (cond z (turned r 6) (cond w (turned r 11) accept)))
        ≡ by_number r (cond x (cond y (cond z 6 (cond w 11 0)) 5) 4)
    go true true true w = refl
    go true true false true = refl
    go true true false false = refl
    go true false z w = refl
    go false y z w = refl

-- The tests of the size in their order, with N and M as the code has read them.
module _ (r : Role) (file : CircuitFile) where
  pub size-1 : length file.bytes < 4 → size_number r file ≡ 1
  unfolding size_number
  size-1 a = simp (lt-ltb _ _ a)

  module _ (n m : ℕ) (isN : n ≡ nodes_of file) (isM : m ≡ links_of file) (a : 4 ≤ length file.bytes) where
    pub size-2 : in_range r n m ≡ false → size_number r file ≡ 2
    unfolding size_number
    size-2 b = simp (le-ltb _ _ a, rw (isN, isM) at b)

    pub size-3 : in_range r n m ≡ true → (length file.bytes ≡ length_of file.edition n m → ⊥) → size_number r file ≡ 3
    unfolding size_number
    size-3 b e = simp (le-ltb _ _ a, rw (isN, isM) at b, ne_eqb _ _ (rw (isN, isM) at e))

    pub size-0 : in_range r n m ≡ true → length file.bytes ≡ length_of file.edition n m → size_number r file ≡ 0
    unfolding size_number
    size-0 b e = simp (le-ltb _ _ a, rw (isN, isM) at b, eq-eqb _ _ (rw (isN, isM) at e))

  -- the first of the conditions on a file is the one that the size's number says, or else one on the links
  verdict-size : first (file_conditions r file)
      ≡ cond (eqb (size_number r file) 0) (first (link_conditions r (nodes_of file) (starts_of file) (ends_of file))) (turned r (size_number r file))
  unfolding first file_conditions size_number turned
  verdict-size =
      go (ltb (length file.bytes) 4) (in_range r (nodes_of file) (links_of file)) (eqb (length file.bytes) (length_of file.edition (nodes_of file) (links_of file)))
      (first (link_conditions r (nodes_of file) (starts_of file) (ends_of file)))
    where
      go : (x y z : Bool) (v : Verdict) → cond x (turned r 1) (cond (not y) (turned r 2) (cond (not z) (turned r 3) v))
          ≡ cond (eqb (cond x 1 (cond y (cond z 0 3) 2)) 0) v (turned r (cond x 1 (cond y (cond z 0 3) 2)))
      go true y z v = refl
      go false true true v = refl
      go false true false v = refl
      go false false z v = refl

  pub verdict-turned : (size_number r file ≡ 0 → ⊥) → first (file_conditions r file) ≡ turned r (size_number r file)
  verdict-turned h = verdict-size ∙ rw (ne_eqb _ _ h)

  pub verdict-links : size_number r file ≡ 0 → first (file_conditions r file) ≡ by_number r (link_number r (nodes_of file) (starts_of file) (ends_of file))
  verdict-links h = verdict-size ∙ rw (eq-eqb _ _ h) (verdict-number r (nodes_of file) (starts_of file) (ends_of file))

  -- a size that no condition is about
  pub sized : size_number r file ≡ 0
      → (4 ≤ length file.bytes) × T (in_range r (nodes_of file) (links_of file)) × (length file.bytes ≡ length_of file.edition (nodes_of file) (links_of file))
  unfolding size_number
  sized = go (ltb (length file.bytes) 4) (in_range r (nodes_of file) (links_of file)) (eqb (length file.bytes) (length_of file.edition (nodes_of file) (links_of file))) refl refl refl
    where
      go : (x y z : Bool) → ltb (length file.bytes) 4 ≡ x → in_range r (nodes_of file) (links_of file) ≡ y → eqb (length file.bytes) (length_of file.edition (nodes_of file) (links_of file)) ≡ z
          → ◌≡◌ {A = ℕ} (cond x 1 (cond y (cond z 0 3) 2)) 0
          → (4 ≤ length file.bytes) × T (in_range r (nodes_of file) (links_of file)) × (length file.bytes ≡ length_of file.edition (nodes_of file) (links_of file))
      go true y z a b e h = absurd (omega arith)
      go false true true a b e h = (ltb-false _ _ a, true-T b, eqb-true _ _ e)
      go false true false a b e h = absurd (omega arith)
      go false false z a b e h = absurd (omega arith)

-- a refusal by a number is no acceptance
pub turned-accept : (r : Role) (k : ℕ) (v : Verdict) → v ≡ turned r k → v ≡ accept → ⊥
unfolding turned
turned-accept r k v e a = accept-not-refuse (sym a ∙ e)

-- ---- an accepted file

pub accepted : (r : Role) (file : CircuitFile) → first (file_conditions r file) ≡ accept → Accepted r file
unfolding file_conditions link_conditions
accepted r file e =
    let h1 = first_holds _ _ e in
    let h2 = first_holds _ _ h1.1 in
    let h3 = first_holds _ _ h2.1 in
    let h4 = first_holds _ _ h3.1 in
    let h5 = first_holds _ _ h4.1 in
    let h6 = first_holds _ _ h5.1 in
    let h11 = first_holds _ _ h6.1 in
    record {
      bytes = ltb-false _ _ h1.0;
      range = not-true-false (in_range r (nodes_of file) (links_of file)) h2.0;
      size = eqb-true _ _ (not-false _ h3.0);
      below = not-true-false (links_below (nodes_of file) (starts_of file) (ends_of file)) h4.0;
      rises = not-true-false (rising (starts_of file) (ends_of file)) h5.0;
      joined = λ t. not-true-false (connected (nodes_of file) (starts_of file) (ends_of file)) (both_false (asks_connected r) _ t h6.0);
      narrow = λ t. ltb-false _ _ (both_false (asks_connected r) _ t h11.0);
    }

-- and the other way round: a file that has all this is not refused
not-asked : (b c : Bool) → (T b → c ≡ false) → b && c ≡ false
not-asked true c f = f tt
not-asked false c f = refl

-- the condition 11 does not hold where the radius is at most 12
pub not_wide : (r : Role) (n : ℕ) (starts ends : List ℕ) → (T (asks_connected r) → radius n starts ends ≤ widest)
    → (asks_connected r && ltb widest (radius n starts ends)) ≡ false
not_wide r n starts ends f = not-asked (asks_connected r) _ (λ t. le-ltb _ _ (f t))

pub accepted-verdict : {r : Role} {file : CircuitFile} → Accepted r file → first (file_conditions r file) ≡ accept
unfolding first file_conditions link_conditions
accepted-verdict {r} {file} a =
    let n = nodes_of file in
    let range : in_range r n (links_of file) ≡ true = T_true a.range in
    let below : links_below n (starts_of file) (ends_of file) ≡ true = T_true a.below in
    let rises : rising (starts_of file) (ends_of file) ≡ true = T_true a.rises in
    let joined = not-asked (asks_connected r) (not (connected n (starts_of file) (ends_of file))) (λ t. ap not (T_true {b = connected n (starts_of file) (ends_of file)} (a.joined t))) in
    let narrow = not_wide r n (starts_of file) (ends_of file) a.narrow in
    simp (le-ltb _ _ a.bytes, range, eq-eqb _ _ a.size, below, rises, joined, narrow)

-- its links, as what makes or searches neighbour tables asks of them
pub accepted-links : (r : Role) (file : CircuitFile) → Accepted r file → T (all (λ v. ltb v (nodes_of file)) (starts_of file)) × T (all (λ v. ltb v (nodes_of file)) (ends_of file))
unfolding links_below
accepted-links r file a =
    let n = nodes_of file in
    let starts = all (λ v. ltb v n) (starts_of file) in
    let ends = all (λ v. ltb v n) (ends_of file) in
    (both_left starts ends a.below, both_right starts ends a.below)

-- ---- the ranges of the roles, as orders

pub range-orders : (r : Role) (n m : ℕ) → T (in_range r n m) → (min_nodes r ≤ n) × (n ≤ max_nodes r) × (m ≤ max_links r)
range-orders r n m t =
    let least = leb (min_nodes r) n in
    let most = leb n (max_nodes r) in
    let links = leb m (max_links r) in
    let rest : T (most && links) = both_right least (most && links) t in
    (leb→le _ _ (both_left least (most && links) t), leb→le _ _ (both_left most links rest), leb→le _ _ (both_right most links rest))

-- a role that is asked to be connected has a pattern's range
pub range-asked : (r : Role) (n m : ℕ) → T (asks_connected r) → T (in_range r n m) → (0 < n) × (n ≤ 32) × (m ≤ 256)
unfolding asks_connected
range-asked Pattern n m a t = range-orders Pattern n m t
range-asked Board n m a t = absurd a
range-asked AnyPattern n m a t = absurd a

-- what every role's range leaves
pub range-bounds : (r : Role) (n m : ℕ) → T (in_range r n m) → (n ≤ 512) × (m ≤ 4096)
range-bounds Pattern n m t =
    let h = range-orders Pattern n m t in
    (omega arith, omega arith)
range-bounds Board n m t =
    let h = range-orders Board n m t in
    (omega arith, omega arith)
range-bounds AnyPattern n m t =
    let h = range-orders AnyPattern n m t in
    (omega arith, omega arith)

-- A pattern is any pattern.
pub accepted-any : {file : CircuitFile} → Accepted Pattern file → Accepted AnyPattern file
unfolding asks_connected
accepted-any a = record { bytes = a.bytes; range = a.range; size = a.size; below = a.below; rises = a.rises; joined = λ t. absurd t; narrow = λ t. absurd t }

-- ---- replies

-- the verdict of a reply is the one that it was made from
pub reply-verdict : (v : Verdict) (values : List ℕ) → (reply v values).verdict ≡ v
unfolding reply
reply-verdict accept values = refl
reply-verdict (refuse x) values = refl

-- ---- lists of conditions of which the first parts come to the same

pub first-same : (xs ys zs : List Condition) → first xs ≡ first ys → first (xs ++ zs) ≡ first (ys ++ zs)
first-same xs ys zs e = go (first ys) refl
  where
    go : (v : Verdict) → first ys ≡ v → first (xs ++ zs) ≡ first (ys ++ zs)
    go accept f = first-accept xs zs (e ∙ f) ∙ sym (first-accept ys zs f)
    go (refuse x) f = first-refuse xs zs x (e ∙ f) ∙ sym (first-refuse ys zs x f)
