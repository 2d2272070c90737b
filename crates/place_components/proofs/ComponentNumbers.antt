-- Naming the components, node by node: where a node has no number yet, neither has any node of its component, and all of them get its number. Two
-- components are one or apart. Assumes nothing.
use Rattle.std.specs.Prelude.{◌≡◌, ◌⊎◌, ◌&&◌, ◌≤◌, ◌<◌, ◌+◌}
use Rattle.base_lists.specs.Kit.{◌∙◌, sym, ap, refl, subst, ⊎_elim, inl, inr, Bool, false, true, cond, not, List, ℕ, suc, not-suc-le-zero, eq-or-lt_of_le, T, eqb, eqb→eq, length, get_or, set, length-set, replicate, length-replicate, get_or-replicate, get_or-set_other, get_or-set_same, arith, eq-eqb, ne_eqb, eqb-true, eqb-false}
use Rattle.base_lists.specs.List.{Occurs, Below}
use Rattle.base_lists.proofs.Tests.{true-T, any_at, at-any}
use Rattle.graph.specs.Bfs.{SearchState, bfs, Adjacency}
use Rattle.graph.specs.Circuit.{HasLink}
use Rattle.graph.specs.Search.{far}
use Rattle.graph.proofs.Bfs.{bfs-ready}
use Rattle.graph.proofs.Net.{net-of}
use Rattle.graph_search.specs.Until.{Until}
use Rattle.graph_search.proofs.Onward.{until-walk}
use Rattle.table.specs.Fill.{listed, fill_at, NodeList}
use Rattle.table.specs.Prepared.{Tables, Ready}
use Rattle.table.proofs.Fill.{length-fill, get_or-fill}
use Rattle.place.specs.Match.{match_starts, match_ends}
use Rattle.place.specs.Spread.{matched, Reached, Spread, Lists}
use Rattle.place.proofs.Find.{tabled-joins}
use Rattle.place.proofs.Matched.{matched-adjacency}
use Rattle.place.proofs.Spread.{walk-closed, bfs-lists, spread-from}
use Rattle.place_components.specs.Components.{MatchTable, ComponentFound, ComponentAt, ComponentsBefore, Components}
use Rattle.place_components.proofs.Lists.{first-list, few-within, all-within}

-- ---- over the tables of a pattern and a board

module _ {t : Tables} {sets : List ℕ} (m : MatchTable t sets) where
  pub match-ready : Ready t sets
  match-ready =
      record { masks = m.tabled.prepared.masked.room; net = rw m.long (net-of m.tabled.prepared.net); small = m.small }

  -- links are followed either way
  pub match-adjacency : Adjacency (length sets) (matched t sets) (HasLink (match_starts m.pattern m.board sets) (match_ends m.pattern m.board sets))
  match-adjacency = rw m.long (matched-adjacency m.tabled.prepared (tabled-joins m.tabled) m.tabled.parallel sets m.small)

-- ---- what is reached

pub near : List ℕ → ℕ → Bool
near dist v = not (eqb (get_or dist v 0) far)

pub is-near : (dist : List ℕ) (v : ℕ) → Reached dist v → T (near dist v)
unfolding near
is-near dist v f = true-T (ap not (ne_eqb (get_or dist v 0) far f))

pub near-is : (dist : List ℕ) (v : ℕ) → T (near dist v) → Reached dist v
unfolding near
near-is dist v t q = subst (λ (x : ℕ). T (not (eqb x far))) q t

-- two searches from one node reach the same
pub spread_same : {n c : ℕ} {adj : ℕ → List ℕ} {dist other : List ℕ} → Spread n c adj dist → Spread n c adj other → (v : ℕ) → v < n → Reached dist v → Reached other v
spread_same {c = c} {other = other} g h v l r =
    near-is other v
    (g.least (near other) (is-near other c h.centre) (λ x y m t o. is-near other y (h.closed x y m (near-is other x t) o)) v l r)

-- what reaches the same nodes as a search is one
spread-respect : {n c : ℕ} {adj : ℕ → List ℕ} {dist other : List ℕ} → c < n → ((v : ℕ) → v < n → Below n (adj v)) → Spread n c adj dist → length other ≡ n
    → ((v : ℕ) → v < n → Reached dist v → Reached other v) → ((v : ℕ) → v < n → Reached other v → Reached dist v) → Spread n c adj other
unfolding Below
spread-respect {n} {c} {adj} h below g e into back =
    record {
      size = e;
      centre = into c h g.centre;
      closed = λ v w m r o. into w (subst (λ (x : ℕ). x < n) o.2 (below v m o.0 o.1)) (g.closed v w m (back v m r) o);
      least = λ p t k v m r. g.least p t k v m (back v m r);
    }

-- a table with an entry at each node of a list, and `far` elsewhere, is what a search leaves that has reached those nodes
marked-lists : {n : ℕ} {nodes : List ℕ} → NodeList n nodes → (length (fill_at (λ v. 0) nodes (replicate n far)) ≡ n) × Lists nodes (fill_at (λ v. 0) nodes (replicate n far))
unfolding listed Below
marked-lists {n} {nodes} l = (long, record { list = rw long l; near = near-at; complete = at-near })
  where
    long : length (fill_at (λ v. 0) nodes (replicate n far)) ≡ n
    long = length-fill (λ v. 0) nodes (replicate n far) ∙ length-replicate n far

    entry : (v : ℕ) → v < n → get_or (fill_at (λ v. 0) nodes (replicate n far)) v 0 ≡ cond (listed nodes v) 0 far
    entry v m = get_or-fill (λ v. 0) nodes (replicate n far) v (rw (length-replicate n far) m) ∙ ap (λ (x : ℕ). cond (listed nodes v) 0 x) (get_or-replicate n v far 0 m)

    chosen : (b : Bool) → T b → cond b 0 far ≡ far → ⊥
    chosen true t q = omega arith
    chosen false t q = t

    left : (b : Bool) → (cond b 0 far ≡ far → ⊥) → T b
    left true f = tt
    left false f = absurd (f refl)

    near-at : (v : ℕ) → Occurs nodes v → Reached (fill_at (λ v. 0) nodes (replicate n far)) v
    near-at v (i, b, e) q =
        let m : v < n = subst (λ (x : ℕ). x < n) e (l.below i b) in
        chosen (listed nodes v) (at-any (λ w. eqb w v) nodes i b (true-T (eq-eqb _ _ e))) (sym (entry v m) ∙ q)

    at-near : (v : ℕ) → v < length (fill_at (λ v. 0) nodes (replicate n far)) → Reached (fill_at (λ v. 0) nodes (replicate n far)) v → Occurs nodes v
    at-near v m r =
        let low : v < n = rw long at m in
        let (i, b, e) = any_at (λ w. eqb w v) nodes (left (listed nodes v) (λ q. r (entry v low ∙ q))) in
        (i, b, eqb→eq _ _ e)

-- so the marks of the nodes that a search reached are what one leaves that has reached the same
pub marked-spread : {n c : ℕ} {adj : ℕ → List ℕ} {comp nodes : List ℕ} → c < n → ((v : ℕ) → v < n → Below n (adj v)) → Spread n c adj comp → Lists nodes comp
    → Spread n c adj (fill_at (λ v. 0) nodes (replicate n far)) × Lists nodes (fill_at (λ v. 0) nodes (replicate n far))
marked-spread h below g l =
    let (long, marks) = marked-lists (rw g.size at l.list) in (
      spread-respect h below g long
          (λ v m q. marks.near v (l.complete v (rw g.size m) q))
          (λ v m q. l.near v (marks.complete v (rw long m) q)),
      marks,
    )

pub reached-or-not : (dist : List ℕ) (v : ℕ) → Reached dist v ⊎ (get_or dist v 0 ≡ far)
reached-or-not dist v = go (eqb (get_or dist v 0) far) refl
  where
    go : (b : Bool) → eqb (get_or dist v 0) far ≡ b → Reached dist v ⊎ (get_or dist v 0 ≡ far)
    go true e = inr (eqb-true (get_or dist v 0) far e)
    go false e = inl (eqb-false (get_or dist v 0) far e)

-- ---- nodes of a component

module _ {n c size : ℕ} {adj : ℕ → List ℕ} {comp nodes : List ℕ} (k : ComponentFound n c adj size comp nodes) where
  -- a list of some of its nodes
  module _ {some : List ℕ} (l : NodeList n some) (only : (v : ℕ) → Occurs some v → Reached comp v) where
    inner : (w : ℕ) → Occurs some w → Occurs nodes w
    unfolding Below
    inner w o = k.lists.complete w (rw k.spread.size (subst (λ (x : ℕ). x < n) o.2 (l.below o.0 o.1))) (only w o)

    -- has no more than the component has,
    pub some-few : length some ≤ size
    some-few = omega (arith, few-within some nodes l.distinct inner, k.count)

    -- and all of them where it has as many
    pub some-lists : length some ≡ size → Lists some comp
    some-lists e =
        record {
          list = rw k.spread.size l;
          near = only;
          complete = λ v m q. all-within some nodes l.distinct inner (omega (arith, k.count)) v (k.lists.complete v m q);
        }

  -- so a search that has reached as many has reached the component
  pub until-lists : {Link : ℕ → ℕ → Type 0} {r : ℕ} {Enough : Type 0} {s : SearchState} → suc n < far → c < n → Adjacency n adj Link → Until adj n c r Enough s → length s.reached ≡ size
      → Lists s.reached comp
  until-lists {Link} {s = s} few h a u =
      let d = u.depth in
      let all : NodeList n (bfs adj n c d).reached = rw (bfs-ready n c adj Link (omega arith) h a d).size at (bfs-lists n c adj Link few h a d).list in
      some-lists (first-list s.reached u.rest (rw u.first all))
      (λ v o. (walk-closed h a (Reached comp) k.spread.centre k.spread.closed (until-walk (omega arith) h a u v o).1.1 refl).1)

-- ---- at the start no node has a number

module _ {n : ℕ} {adj : ℕ → List ℕ} where
  pub numbering_start : (sets : List ℕ) {componentOf sizes : List ℕ} → componentOf ≡ replicate n far → length sizes ≡ n → ComponentsBefore n adj sets 0 componentOf sizes
  numbering_start sets {componentOf} e s =
      record {
        long = ap length e ∙ length-replicate n far;
        sized = s;
        done = λ v h. absurd (not-suc-le-zero h);
        named = λ v h r. absurd (r (none v h));
        numbered = λ v h r. absurd (r (none v h));
      }
    where
      none : (v : ℕ) → v < n → get_or componentOf v 0 ≡ far
      none v h = ap (λ (l : List ℕ). get_or l v 0) e ∙ get_or-replicate n v far 0 h

  -- where all nodes are done, each has the number of its component
  pub numbering-end : {sets componentOf sizes : List ℕ} {f : ℕ} → n ≤ f → f ≤ n → ComponentsBefore n adj sets f componentOf sizes → Components n adj sets componentOf sizes
  numbering-end a b g =
      record {
        long = g.long;
        sized = g.sized;
        named = λ v h f. let k = g.named v h (g.done v (omega arith) h f) in omega arith;
        numbered = λ v h f. g.numbered v h (g.done v (omega arith) h f);
      }

  -- ---- one node further

  module _ {sets componentOf sizes : List ℕ} {f : ℕ} (g : ComponentsBefore n adj sets f componentOf sizes) where
    -- its set is empty, or it has a number
    pub numbering-skip : (not (eqb (get_or sets f 0) 0) && eqb (get_or componentOf f 0) far) ≡ false → ComponentsBefore n adj sets (f + 1) componentOf sizes
    numbering-skip e =
        record {
          long = g.long;
          sized = g.sized;
          done = λ v h l k. ⊎_elim (λ q. subst (Reached componentOf) (sym q) (here e (rw q at k))) (λ m. g.done v m l k) (eq-or-lt_of_le (omega arith));
          named = λ v h r. let k = g.named v h r in omega arith;
          numbered = g.numbered;
        }
      where
        here : (not (eqb (get_or sets f 0) 0) && eqb (get_or componentOf f 0) far) ≡ false → (get_or sets f 0 ≡ 0 → ⊥) → Reached componentOf f
        here e k = eqb-false (get_or componentOf f 0) far (rw (ne_eqb (get_or sets f 0) 0 k) at e)

    -- it has none: its component is named
    module _ {Link : ℕ → ℕ → Type 0} (a : Adjacency n adj Link) (h : f < n) (few : n < far) (fresh : get_or componentOf f 0 ≡ far) {dist nodes : List ℕ}
        (s : Spread n f adj dist) (l : Lists nodes dist) where
      abbrev component_of' : List ℕ
      component_of' = fill_at (λ v. f) nodes componentOf

      abbrev sizes' : List ℕ
      sizes' = set sizes f (length nodes)

      entry : (v : ℕ) → v < n → get_or component_of' v 0 ≡ cond (listed nodes v) f (get_or componentOf v 0)
      entry v m = get_or-fill (λ v. f) nodes componentOf v (rw g.long m)

      inside : (v : ℕ) → v < n → Reached dist v → get_or component_of' v 0 ≡ f
      unfolding listed
      inside v m r =
          let (i, b, e) = l.complete v (rw s.size m) r in
          entry v m ∙ go (listed nodes v) (at-any (λ w. eqb w v) nodes i b (true-T (eq-eqb _ _ e)))
        where
          go : (b : Bool) → T b → cond b f (get_or componentOf v 0) ≡ f
          go true t = refl
          go false t = absurd t

      outside : (v : ℕ) → v < n → (Reached dist v → ⊥) → get_or component_of' v 0 ≡ get_or componentOf v 0
      unfolding listed
      outside v m r = entry v m ∙ go (listed nodes v) (λ t. let (i, b, e) = any_at (λ w. eqb w v) nodes t in r (l.near v (i, b, eqb→eq _ _ e)))
        where
          go : (b : Bool) → (T b → ⊥) → cond b f (get_or componentOf v 0) ≡ get_or componentOf v 0
          go true t = absurd (t tt)
          go false t = refl

      -- none of its nodes has a number
      apart : (v : ℕ) → v < n → Reached componentOf v → Reached dist v → ⊥
      apart v m r q =
          let old = g.numbered v m r in
          r (sym (old.same f h (spread_same (spread-from a s v m q) old.component.spread f h s.centre)) ∙ fresh)

      -- no other node has its number for a number
      strange : (v : ℕ) → v < n → get_or dist v 0 ≡ far → get_or component_of' v 0 ≡ f → ⊥
      strange v m z e =
          ⊎_elim
          (λ q. let b = g.named v m q in let o = outside v m (λ a. a z) in omega arith)
          (λ q. let o = outside v m (λ a. a z) in omega arith)
          (reached-or-not componentOf v)

      named_here : (v : ℕ) → v < n → Reached dist v → ComponentAt n adj component_of' sizes' v
      named_here v m r =
          record {
            comp = dist;
            nodes = nodes;
            component =
                record {
                  spread = spread-from a s v m r;
                  lists = l;
                  count = sym (ap (λ (x : ℕ). get_or sizes' x 0) (inside v m r) ∙ get_or-set_same sizes f (length nodes) 0 (rw g.sized h));
                };
            same = λ w k q. inside w k q ∙ sym (inside v m r);
            only = λ w k q. ⊎_elim (λ a. a) (λ z. absurd (strange w k z (q ∙ inside v m r))) (reached-or-not dist w);
          }

      named-before : (v : ℕ) → v < n → Reached componentOf v → ComponentAt n adj component_of' sizes' v
      named-before v m r =
          let old = g.numbered v m r in
          let kept : get_or component_of' v 0 ≡ get_or componentOf v 0 = outside v m (apart v m r) in
          let before = g.named v m r in
          record {
            comp = old.comp;
            nodes = old.nodes;
            component =
                record {
                  spread = old.component.spread;
                  lists = old.component.lists;
                  count =
                      old.component.count
                      ∙ sym (ap (λ (x : ℕ). get_or sizes' x 0) kept ∙ get_or-set_other sizes f (get_or componentOf v 0) (length nodes) 0 (λ e. omega arith));
                };
            same =
                λ w k q.
                let e : get_or componentOf w 0 ≡ get_or componentOf v 0 = old.same w k q in
                outside w k (apart w k (λ z. r (sym e ∙ z))) ∙ e ∙ sym kept;
            only =
                λ w k q.
                ⊎_elim
                (λ a. absurd (let e = inside w k a in omega arith))
                (λ z. old.only w k (sym (outside w k (λ a. a z)) ∙ q ∙ kept))
                (reached-or-not dist w);
          }

      pub numbering-next : ComponentsBefore n adj sets (f + 1) component_of' sizes'
      numbering-next =
          record {
            long = length-fill (λ v. f) nodes componentOf ∙ g.long;
            sized = length-set sizes f (length nodes) ∙ g.sized;
            done =
                λ v b m k.
                ⊎_elim
                (λ q z. let e = inside v m (subst (Reached dist) (sym q) s.centre) in omega arith)
                (λ c. stays v m (g.done v c m k))
                (eq-or-lt_of_le (omega arith));
            named = λ v m r. ⊎_elim (λ q. let e = inside v m q in omega arith) (λ z. let k = g.named v m (before v m z r) in let e = outside v m (λ q. q z) in omega arith) (reached-or-not dist v);
            numbered = λ v m r. ⊎_elim (λ q. named_here v m q) (λ z. named-before v m (before v m z r)) (reached-or-not dist v);
          }
        where
          stays : (v : ℕ) → v < n → Reached componentOf v → Reached component_of' v
          stays v m r z = r (sym (outside v m (apart v m r)) ∙ z)

          before : (v : ℕ) → v < n → get_or dist v 0 ≡ far → Reached component_of' v → Reached componentOf v
          before v m z r q = r (outside v m (λ k. k z) ∙ q)
