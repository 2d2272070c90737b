-- A search as its tables hold it, over any adjacency function: what a turn of its loop does, and what it has found where it stops. The loops of `advance`, of
-- `place_component::reach` and of the searches that go on by `advance` have this for their invariant. Assumes nothing.
use Rattle.std.specs.Prelude.{◌≡◌, ◌||◌, ◌≤◌, ◌<◌, ◌+◌}
use Rattle.base_lists.specs.Kit.{◌∙◌, sym, ap, refl, false, true, List, ℕ, not-suc-le-zero, eqb, length, get_or, get_or-take, arith}
use Rattle.graph.specs.Bfs.{SearchState, scan, start, state_of, Searching, Searched}
use Rattle.graph.proofs.BfsSteps.{tail-le, reached-length, queue-node}
use Rattle.graph_search.specs.declared.Frontier.{Frontier}
use Rattle.graph_search.specs.Until.{Standing, Advanced, Until}
use Rattle.graph_search.proofs.Onward.{either, neither, advanced-none, advanced-next, advanced-level, advanced-end, advanced-enough, advanced-more, centre, centre-standing, advanced-all, advanced-until}

-- Among n nodes, with q entries in the queue, it has gone on from f and the state s to g and the state that the tables stand for.
pub record Going (adj : ℕ → List ℕ) (r n q : ℕ) (f : Frontier) (s : SearchState) (dist queue : List ℕ) (g : Frontier) : Type 0 where
  pub few : n ≤ 512
  pub long : length dist ≡ n
  pub room : length queue ≡ q
  pub kept : Searching dist queue g.tail
  pub gone : Advanced adj r 0 f s g (state_of dist queue g.tail)

-- ---- the beginning

pub going-none :
    {adj : ℕ → List ℕ} {r : ℕ} {f : Frontier} {dist queue : List ℕ} → length dist ≤ 512 → Searching dist queue f.tail → Standing r f →
    Going adj r (length dist) (length queue) f (state_of dist queue f.tail) dist queue f
going-none few k a = record { few = few; long = refl; room = refl; kept = k; gone = advanced-none a }

-- the centre alone is reached
pub going-centre :
    {adj : ℕ → List ℕ} {r n q : ℕ} (c : ℕ) {dist queue : List ℕ} → n ≤ 512 → length dist ≡ n → length queue ≡ q → Searched dist queue 1 (start n c) →
    Going adj r n q centre (start n c) dist queue centre
going-centre {r = r} c few l m k = record { few = few; long = l; room = m; kept = k.kept; gone = rw k.state (advanced-none (centre-standing r)) }

module _ {adj : ℕ → List ℕ} {r n q : ℕ} {f : Frontier} {s : SearchState} {dist queue : List ℕ} {g : Frontier} (go : Going adj r n q f s dist queue g) where
  -- ---- a turn

  -- there are nodes for all levels and for all steps of the queue
  pub near : (g.looked ≤ g.level) × (g.level ≤ g.tail) × (g.depth ≤ g.level) × (g.depth ≤ r) × (g.tail ≤ n) × (g.tail ≤ q) × (n ≤ 512)
  near =
      let k = go.gone.standing in
      (k.inside, k.reached, k.early, k.within, omega (arith, tail-le _ _ _ go.kept, go.long), omega (arith, go.kept.within, go.room), go.few)

  -- not all of the level has been looked from
  pub going-left : (g.looked ≡ g.level → ⊥) → g.looked < g.level
  going-left h = omega (arith, near, h)

  size : g.tail ≡ length (state_of dist queue g.tail).reached
  size = sym (reached-length _ _ _ go.kept)

  module _ (h : g.looked < g.level) where
    -- the node that is looked from next
    pub going-node : get_or queue g.looked 0 < length dist
    going-node = queue-node _ _ _ go.kept g.looked (omega (arith, near))

    pub going_next :
        {dist' queue' : List ℕ} {tail : ℕ} → Searched dist' queue' tail (scan g.depth (state_of dist queue g.tail) (adj (get_or queue g.looked 0))) →
        length dist' ≡ length dist → length queue' ≡ length queue →
        Going adj r n q f s dist' queue' (record { looked = g.looked + 1; level = g.level; tail = tail; depth = g.depth })
    unfolding state_of
    going_next {tail = tail} k l m =
        let entry = sym (get_or-take g.tail queue g.looked 0 (omega (arith, near))) in
        let more = sym (reached-length _ _ _ k.kept) ∙ ap (λ (t : SearchState). length t.reached) k.state in
        record { few = go.few; long = l ∙ go.long; room = m ∙ go.room; kept = k.kept; gone = rw k.state (advanced-next go.gone size _ h entry tail more) }

  -- all of the level has been looked from
  module _ (e : g.looked ≡ g.level) where
    module _ (left : (eqb g.level g.tail || eqb g.depth r) ≡ false) where
      pub going_more : (g.level < g.tail) × (g.depth < r)
      going_more = let none = neither g.level g.tail g.depth r left in (omega (arith, near, none.0), omega (arith, near, none.1))

      pub going-level : Going adj r n q f s dist queue (record { looked = g.looked; level = g.tail; tail = g.tail; depth = g.depth + 1 })
      going-level =
          record { few = go.few; long = go.long; room = go.room; kept = go.kept; gone = advanced-level go.gone size e going_more.0 going_more.1 }

    -- ---- the end

    pub going_end : (eqb g.level g.tail || eqb g.depth r) ≡ true → (k : ℕ) → Advanced adj r k f s g (state_of dist queue g.tail)
    going_end none k = advanced-end go.gone size e k (either g.level g.tail g.depth r none)

  pub going-enough : (k : ℕ) → k ≤ g.tail → Advanced adj r k f s g (state_of dist queue g.tail)
  going-enough k h = advanced-enough go.gone size k h

  -- ---- some turns more

  pub going-further :
      {k : ℕ} {dist' queue' : List ℕ} {h : Frontier} → length dist' ≡ length dist → length queue' ≡ length queue → Searching dist' queue' h.tail →
      Advanced adj r k g (state_of dist queue g.tail) h (state_of dist' queue' h.tail) → Going adj r n q f s dist' queue' h
  going-further l m k a =
      let b = advanced-more go.gone a in
      record {
        few = go.few;
        long = l ∙ go.long;
        room = m ∙ go.room;
        kept = k;
        gone = record { standing = b.standing; further = b.further; longer = b.longer; same = b.same; all = λ h. absurd (not-suc-le-zero h) };
      }

-- ---- from the centre

module _ {adj : ℕ → List ℕ} {r n q c : ℕ} {dist queue : List ℕ} {g : Frontier} {Enough : Type 0} (go : Going adj r n q centre (start n c) dist queue g) where
  -- there is enough
  pub until-enough : Enough → Until adj n c r Enough (state_of dist queue g.tail)
  until-enough y = advanced-until n c refl go.gone (λ none. absurd (none y))

  -- nothing is left
  pub until_end : g.looked ≡ g.level → (eqb g.level g.tail || eqb g.depth r) ≡ true → Until adj n c r Enough (state_of dist queue g.tail)
  until_end e none = advanced-until n c refl go.gone (λ _. advanced-all n c refl (going_end go e none (g.tail + 1)) (omega arith))

  -- nor some turns later
  pub until-all :
      {k : ℕ} {h : Frontier} {t : SearchState} → Advanced adj r k g (state_of dist queue g.tail) h t → h.tail < k → Until adj n c r Enough t
  until-all a l = let b = advanced-more go.gone a in advanced-until n c refl b (λ _. advanced-all n c refl b l)
