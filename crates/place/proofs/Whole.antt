-- Laws of the centre's component in the match graph of a larger graph, as the whole board is of a ball. What lies outside the component
-- supports nothing inside it: so on its nodes a smaller graph's table is that of its nodes in the component alone; and where the smaller graph
-- has the whole component, its table is the larger graph's there, and the place is that component with its matching links. Assumes nothing.
use Rattle.std.specs.Prelude.{◌≡◌, ◌↔◌, ◌⊎◌, ◌≤◌, ◌<◌, ◌^◌}
use Rattle.base_lists.specs.Kit.{ap, subst, ⊎_elim, inl, inr, Bool, not, List, ℕ, T, eqb, length, get_or, ne_eqb}
use Rattle.base_lists.specs.List.{Occurs}
use Rattle.base_lists.proofs.Tests.{same_test, true-T}
use Rattle.base_bits.proofs.Digits.{same_bits}
use Rattle.graph.specs.Circuit.{Circuit, HasLink, graph_of, circuit_graph}
use Rattle.graph.specs.Search.{far, inside}
use Rattle.graph.proofs.Ball.{Within}
use Rattle.simulation.specs.Closed.{◌⊆◌}
use Rattle.simulation.specs.Simulation.{Direction, forwards, backwards, Along}
use Rattle.simulation.proofs.Simulation.{along-wider}
use Rattle.table.specs.Host.{Taken, host_graph, everything}
use Rattle.table.specs.Row.{in_table, InTable, last_table}
use Rattle.table.specs.Prepared.{Tables, Prepared}
use Rattle.table.proofs.Host.{everything-taken}
use Rattle.table.proofs.Meaning.{last_fits, last-candidate, last-closed}
use Rattle.table.proofs.Narrow.{last_wider}
use Rattle.table.proofs.Row.{Moves}
use Rattle.table.proofs.Sets.{fits_word}
use Rattle.place.specs.Match.{matches, match_starts, match_ends}
use Rattle.place.specs.Spread.{matched, Reached, ClosedSet, Spread}
use Rattle.place.proofs.Links.{matches-iff, match-kept}
use Rattle.place.proofs.Matched.{matched-adjacency}
use Rattle.place.proofs.Spread.{spread-agree}

-- a link of the board between nodes of H is one of H, whichever way it is followed
host-along :
    (host : Circuit) (taken : List ℕ) (d : Direction) (v w : ℕ) → Along (HasLink host.starts host.ends) d v w →
    Taken host taken v → Taken host taken w → Moves host taken d v w
unfolding host_graph Along
host-along host taken forwards v w l n m = (l, n, m)
host-along host taken backwards v w l n m = (l, m, n)

-- ---- what lies outside the component supports nothing inside it

module _ (pattern board : Circuit) (most : length pattern.labels ≤ 32) (wide narrow : List ℕ) (P : ℕ → Type 0)
    -- P is a set of nodes that has, with a node, those that a matching link of the larger graph joins to it,
    (closed :
    (d : Direction) (u v u' v' : ℕ) → P v → Along (circuit_graph pattern).Link d u u' → Along (HasLink board.starts board.ends) d v v' →
    InTable (last_table pattern board wide) u v → InTable (last_table pattern board wide) u' v' → P v')
    -- and the smaller graph has those of its nodes that the larger graph has
    (keeps : (v : ℕ) → Taken board wide v → P v → Taken board narrow v) where
  -- The pairs of the larger graph at these nodes are pairs of the smaller graph.
  pub supported : (u v : ℕ) → InTable (last_table pattern board wide) u v → P v → InTable (last_table pattern board narrow) u v
  unfolding host_graph
  supported u v m p =
      (last-closed pattern board narrow most).contains (λ x y. InTable (last_table pattern board wide) x y × P y)
      (record {
        agree = λ x y (s, q). let c = last-candidate pattern board wide x y s in record { part = c.part; node = keeps y c.node q; kinds = c.kinds };
        partner =
            λ d x y x' (s, q) l.
            let (y', move, s') = (last-closed pattern board wide most).closed.partner d x y x' s l in
            let link : Along (HasLink board.starts board.ends) d y y' = along-wider (λ a b g. g.0) d y y' move in
            let q' = closed d x y x' y' q l link s s' in (
              y',
              host-along board narrow d y y' link (keeps y (last-candidate pattern board wide x y s).node q) (keeps y' (last-candidate pattern board wide x' y' s').node q'),
              (s', q'),
            );
      })
      u v (m, p)

-- ---- two tables, of which the smaller has what the larger has at the nodes of a component

-- the matching links of a table of sets
abbrev pub Linked : Circuit → Circuit → List ℕ → ℕ → ℕ → Type 0
Linked pattern board sets = HasLink (match_starts pattern board sets) (match_ends pattern board sets)

module _ (pattern board : Circuit) (parallel : length pattern.starts ≡ length pattern.ends) where
  -- a link whose ends have parts that a link of the pattern joins is a matching one
  pub links-match :
      (sets : List ℕ) (d : Direction) (u v u' v' : ℕ) → Along (circuit_graph pattern).Link d u u' → Along (HasLink board.starts board.ends) d v v' →
      InTable sets u v → InTable sets u' v' → Linked pattern board sets v v' ⊎ Linked pattern board sets v' v
  unfolding Along circuit_graph graph_of
  links-match sets forwards u v u' v' s l m m' =
      inl ((match-kept pattern board sets v v').1 (l, (matches-iff pattern parallel sets v v').1 (u, u', s, m, m')))
  links-match sets backwards u v u' v' s l m m' =
      inr ((match-kept pattern board sets v' v).1 (l, (matches-iff pattern parallel sets v' v).1 (u', u, s, m', m)))

  -- a larger table has the matching links of a smaller one
  pub linked-wider : (small large : List ℕ) → InTable small ⊆ InTable large → (v v' : ℕ) → Linked pattern board small v v' → Linked pattern board large v v'
  linked-wider small large inner v v' l =
      let (k, m) = (match-kept pattern board small v v').0 l in
      let (u, u', s, c, c') = (matches-iff pattern parallel small v v').0 m in
      (match-kept pattern board large v v').1 (k, (matches-iff pattern parallel large v v').1 (u, u', s, inner u v c, inner u' v' c'))

-- links that join nodes, and tables of them
pub record Joined (pattern board : Circuit) (t : Tables) : Type 0 where
  pub prepared : Prepared pattern board t
  pub joins : Within (length board.labels) board.starts board.ends
  pub parallel : length pattern.starts ≡ length pattern.ends

-- The nodes that `comp` reaches have, with a node, those that a matching link of the larger table joins to it; and at them the smaller table has what
-- the larger has.
pub record Agreeing (pattern board : Circuit) (t : Tables) (small large comp : List ℕ) : Type 0 where
  pub joined : Joined pattern board t
  pub narrow : (v : ℕ) → get_or small v 0 < 2 ^ 32
  pub wide : (v : ℕ) → get_or large v 0 < 2 ^ 32
  pub inner : InTable small ⊆ InTable large
  pub closed : (v v' : ℕ) → v < length board.labels → Reached comp v → Linked pattern board large v v' ⊎ Linked pattern board large v' v → Reached comp v'
  pub holds : (u v : ℕ) → InTable large u v → v < length board.labels → Reached comp v → InTable small u v

module _ {pattern board : Circuit} {t : Tables} {small large comp : List ℕ} (a : Agreeing pattern board t small large comp) where
  abbrev n : ℕ
  n = length board.labels

  -- the two are the same at those nodes
  pub agree-set : (v : ℕ) → v < n → Reached comp v → get_or small v 0 ≡ get_or large v 0
  unfolding in_table
  agree-set v h f = same_bits (get_or small v 0) (get_or large v 0) (λ u. same_test (a.inner u v) (λ m. a.holds u v m h f))

  -- so a link from one of them matches in the one exactly where it matches in the other
  agree-linked : (v v' : ℕ) → v < n → Reached comp v → v' < n → Reached comp v' → Linked pattern board large v v' → Linked pattern board small v v'
  agree-linked v v' h f h' f' l =
      let (k, m) = (match-kept pattern board large v v').0 l in
      let (u, u', s, c, c') = (matches-iff pattern a.joined.parallel large v v').0 m in
      (match-kept pattern board small v v').1 (k, (matches-iff pattern a.joined.parallel small v v').1 (u, u', s, a.holds u v c h f, a.holds u' v' c' h' f'))

  linked-end : (v v' : ℕ) → Linked pattern board large v v' ⊎ Linked pattern board large v' v → v' < n
  linked-end v v' l =
      ⊎_elim (λ b. a.joined.joins.ends v v' ((match-kept pattern board large v v').0 b).0)
      (λ b. a.joined.joins.starts v' v ((match-kept pattern board large v' v).0 b).0) l

  wider : (v v' : ℕ) → Linked pattern board small v v' ⊎ Linked pattern board small v' v → Linked pattern board large v v' ⊎ Linked pattern board large v' v
  wider v v' l =
      let larger = linked-wider pattern board a.joined.parallel small large a.inner in
      ⊎_elim (λ b. inl (larger v v' b)) (λ b. inr (larger v' v b)) l

  narrower : (v v' : ℕ) → v < n → Reached comp v → Linked pattern board large v v' ⊎ Linked pattern board large v' v
      → Linked pattern board small v v' ⊎ Linked pattern board small v' v
  narrower v v' h f l =
      let h' = linked-end v v' l in
      let f' = a.closed v v' h f l in
      ⊎_elim (λ b. inl (agree-linked v v' h f h' f' b)) (λ b. inr (agree-linked v' v h' f' h f b)) l

  pub agree-matches : (v v' : ℕ) → HasLink board.starts board.ends v v' → v < n → Reached comp v → matches pattern large v v' ≡ matches pattern small v v'
  agree-matches v v' k h f =
      same_test
      (λ m.
      let l = (match-kept pattern board large v v').1 (k, m) in
      ((match-kept pattern board small v v').0 (agree-linked v v' h f (linked-end v v' (inl l)) (a.closed v v' h f (inl l)) l)).1)
      (λ m.
      ((match-kept pattern board large v v').0
      (linked-wider pattern board a.joined.parallel small large a.inner v v' ((match-kept pattern board small v v').1 (k, m)))).1)

  in_small : (v v' : ℕ) → v < n → Occurs (matched t small v) v' ↔ (Linked pattern board small v v' ⊎ Linked pattern board small v' v)
  in_small v v' h = (matched-adjacency a.joined.prepared a.joined.joins a.joined.parallel small a.narrow).joined v v' h

  in-large : (v v' : ℕ) → v < n → Occurs (matched t large v) v' ↔ (Linked pattern board large v v' ⊎ Linked pattern board large v' v)
  in-large v v' h = (matched-adjacency a.joined.prepared a.joined.joins a.joined.parallel large a.wide).joined v v' h

  near : ℕ → Bool
  near v = not (eqb (get_or comp v 0) far)

  is-near : (v : ℕ) → Reached comp v → T (near v)
  unfolding near
  is-near v f = true-T (ap not (ne_eqb (get_or comp v 0) far f))

  near-is : (v : ℕ) → T (near v) → Reached comp v
  unfolding near
  near-is v m q = subst (λ (x : ℕ). T (not (eqb x far))) q m

  closed-small : ClosedSet n (matched t small) near
  closed-small x y l m o = is-near y (a.closed x y l (near-is x m) (wider x y ((in_small x y l).0 o)))

  -- what a search over the one table reaches from a node of the component, one over the other does,
  pub spread-narrower : {c : ℕ} {dist : List ℕ} → c < n → Reached comp c → Spread n c (matched t large) dist → Spread n c (matched t small) dist
  spread-narrower {c} {dist} h f g =
      spread-agree near (is-near c f) (λ v w l m o. is-near w (a.closed v w l (near-is v m) ((in-large v w l).0 o)))
      (λ v w l m. (
        λ o. (in_small v w l).1 (narrower v w l (near-is v m) ((in-large v w l).0 o)),
        λ o. (in-large v w l).1 (wider v w ((in_small v w l).0 o)),
      ))
      h g

  pub spread-wider : {c : ℕ} {dist : List ℕ} → c < n → Reached comp c → Spread n c (matched t small) dist → Spread n c (matched t large) dist
  spread-wider {c} {dist} h f g =
      spread-agree near (is-near c f) closed-small
      (λ v w l m. (
        λ o. (in-large v w l).1 (wider v w ((in_small v w l).0 o)),
        λ o. (in_small v w l).1 (narrower v w l (near-is v m) ((in-large v w l).0 o)),
      ))
      h g

  -- and that lies in the component
  pub spread-within : {c : ℕ} {dist : List ℕ} → Reached comp c → Spread n c (matched t small) dist → (v : ℕ) → v < n → Reached dist v → Reached comp v
  spread-within {c} f g v h q = near-is v (g.least near (is-near c f) closed-small v h q)

-- ---- the component of a node in the whole board's match graph

pub record Component (pattern board : Circuit) (t : Tables) (w : ℕ) (whole comp : List ℕ) : Type 0 where
  pub joined : Joined pattern board t
  pub table : whole ≡ last_table pattern board (everything board)
  pub spread : Spread (length board.labels) w (matched t whole) comp

module _ {pattern board : Circuit} {t : Tables} {w : ℕ} {whole comp : List ℕ} (g : Component pattern board t w whole comp) where
  abbrev most : length pattern.labels ≤ 32
  most = g.joined.prepared.parts

  pub whole-small : (v : ℕ) → get_or whole v 0 < 2 ^ 32
  whole-small v = rw g.table (fits_word most (last_fits pattern board (everything board)) v)

  -- a matching link, followed either way, leads from a node of the component to one of it
  whole-closed : (v v' : ℕ) → v < length board.labels → Reached comp v → Linked pattern board whole v v' ⊎ Linked pattern board whole v' v → Reached comp v'
  whole-closed v v' h f l =
      g.spread.closed v v' h f
      (((matched-adjacency g.joined.prepared g.joined.joins g.joined.parallel whole whole-small).joined v v' h).1 l)

  -- every smaller graph's table lies inside the whole board's
  whole-inner : (taken : List ℕ) → InTable (last_table pattern board taken) ⊆ InTable whole
  whole-inner taken u v m = rw g.table (last_wider pattern board taken (everything board) most (λ x h. everything-taken board x h.below) u v m)

  part_small : (taken : List ℕ) (v : ℕ) → get_or (last_table pattern board taken) v 0 < 2 ^ 32
  part_small taken = fits_word most (last_fits pattern board taken)

  -- a matching link of a smaller graph's table leads from a node of the component to one of it too
  part-closed : (taken : List ℕ) (v v' : ℕ) → v < length board.labels → Reached comp v →
      Linked pattern board (last_table pattern board taken) v v' ⊎ Linked pattern board (last_table pattern board taken) v' v → Reached comp v'
  part-closed taken v v' h f l =
      let larger = linked-wider pattern board g.joined.parallel (last_table pattern board taken) whole (whole-inner taken) in
      whole-closed v v' h f (⊎_elim (λ b. inl (larger v v' b)) (λ b. inr (larger v' v b)) l)

  -- Of two graphs, the smaller of which has those nodes of the larger that lie in the component, the tables agree.
  part-holds :
      (wide narrow : List ℕ) → ((v : ℕ) → Taken board wide v → Reached comp v → Taken board narrow v) →
      (u v : ℕ) → InTable (last_table pattern board wide) u v → v < length board.labels → Reached comp v → InTable (last_table pattern board narrow) u v
  unfolding host_graph
  part-holds wide narrow keeps u v m h f =
      supported pattern board most wide narrow (λ x. (x < length board.labels) × Reached comp x)
      (λ d x y x' y' (k, q) s l c c'. (
        (last-candidate pattern board wide x' y' c').node.below,
        whole-closed y y' k q (links-match pattern board g.joined.parallel whole d x y x' y' s l (whole-inner wide x y c) (whole-inner wide x' y' c')),
      ))
      (λ x c (k, q). keeps x c q)
      u v m (h, f)

  -- a graph that has the whole component, and the whole board
  pub whole-agrees : (taken : List ℕ) → ((v : ℕ) → v < length board.labels → Reached comp v → T (inside taken v))
      → Agreeing pattern board t (last_table pattern board taken) whole comp
  whole-agrees taken held =
      record {
        joined = g.joined;
        narrow = part_small taken;
        wide = whole-small;
        inner = whole-inner taken;
        closed = whole-closed;
        holds = λ u v m h f. part-holds (everything board) taken (λ x c q. record { below = c.below; marked = held x c.below q }) u v (rw g.table at m) h f;
      }

  -- a graph, and its nodes in the component
  pub part-agrees : (wide narrow : List ℕ) → ((v : ℕ) → Taken board narrow v → Taken board wide v)
      → ((v : ℕ) → Taken board wide v → Reached comp v → Taken board narrow v)
      → Agreeing pattern board t (last_table pattern board narrow) (last_table pattern board wide) comp
  part-agrees wide narrow within keeps =
      record {
        joined = g.joined;
        narrow = part_small narrow;
        wide = part_small wide;
        inner = last_wider pattern board narrow wide most within;
        closed = part-closed wide;
        holds = part-holds wide narrow keeps;
      }
