-- Finding the place from a first table: from what it starts from to what it comes to, and what is then marked. Assumes nothing.
use Rattle.std.specs.Prelude.{◌≡◌, ◌≤◌, ◌<◌, ◌^◌, Option, Some, None}
use Rattle.std.specs.Option.{is_some}
use Rattle.base_lists.specs.Kit.{◌∙◌, sym, ap, refl, subst, Bool, false, true, cond, not, List, [], ℕ, T, eqb, length, get_or, take, eqb-false}
use Rattle.base_lists.specs.List.{Below}
use Rattle.base_lists.proofs.Tests.{true-T, false-T}
use Rattle.base_lists.proofs.Tables.{tabulate-same}
use Rattle.base_lists.proofs.Entries.{all-below}
use Rattle.base_bits.specs.Bits.{intersects, union_over}
use Rattle.graph.specs.Bfs.{bfs, adjacent, Found as Searched}
use Rattle.graph.specs.Circuit.{Circuit, HasLink}
use Rattle.graph.specs.Net.{Net}
use Rattle.graph.specs.Rising.{LinksRise}
use Rattle.graph.specs.Search.{far, inside}
use Rattle.graph.proofs.Ball.{Within, within}
use Rattle.graph.proofs.Net.{net-of, net-links}
use Rattle.graph.proofs.Sorted.{rise-sorted}
use Rattle.file_format.specs.Circuit.{Drawn}
use Rattle.file_format.proofs.Accepted.{bounded-starts, bounded-ends}
use Rattle.table.specs.declared.Rest.{Rest}
use Rattle.table.specs.Fill.{marks_of, NodeList, table_at}
use Rattle.table.specs.First.{Begins}
use Rattle.table.specs.Prepared.{succ_of, Tables, Prepared, Ready}
use Rattle.table.specs.Refine.{TablesKnown, RestedBy}
use Rattle.table.specs.Host.{Taken, everything}
use Rattle.table.specs.Row.{both_directions, problem_by, last_table}
use Rattle.table.proofs.Meaning.{last_fits}
use Rattle.table.proofs.Sets.{fits_word}
use Rattle.place.specs.Match.{ball_of, distances_of, ball_table, matches, found, place_nodes, place_links, place_table}
use Rattle.place.specs.Spread.{matched, Reached, Spread, Lists}
use Rattle.place.specs.Bytes.{driven_by, link_byte, bytes_of_links, node_sets, link_marks}
use Rattle.place.specs.declared.PlaceFound.{PlaceFound}
use Rattle.place.specs.Find.{Tabled, Located, Seen, Sought, FoundIn}
use Rattle.place.proofs.Ball.{ball-fits}
use Rattle.place.proofs.Bytes.{bytes-nodes, bytes-links, sets-table}
use Rattle.place.proofs.Listed.{marks-bytes, table-sets, links-bytes}
use Rattle.place.proofs.Matched.{found-short, found-list, found-distances, found-marks, forward-test, spread-component}
use Rattle.place.proofs.Outcome.{found_none, found_some}
use Rattle.place.proofs.Whole.{Agreeing, agree-set, agree-matches, spread-narrower, spread-wider, spread-within, Component, whole-small, whole-agrees, part-agrees}

-- ---- the ball

-- the circuits that were read have such tables
pub drawn-tabled : {pattern board : Circuit} {t : Tables} → Drawn pattern board → Prepared pattern board t → Tabled pattern board t
drawn-tabled d p =
    record {
      prepared = p;
      parallel = d.parts.parallel;
      starts = all-below _ _ (bounded-starts d.nodes);
      ends = all-below _ _ (bounded-ends d.nodes);
    }

module _ {pattern board : Circuit} {t : Tables} (d : Tabled pattern board t) where
  abbrev size : ℕ
  size = length board.labels

  pub tabled-joins : Within size board.starts board.ends
  unfolding Below
  tabled-joins = within size board.starts board.ends d.starts d.ends

  pub tabled-net : Net size t.offsets t.targets
  tabled-net = net-of d.prepared.net

  -- the last offset is how many links the board has
  pub tabled-links : get_or t.offsets size 0 ≡ length board.starts
  tabled-links = net-links d.prepared.net d.starts

  -- the search lists the ball's nodes, and finds their distances
  module _ (w r : ℕ) (h : w < size) {k : ℕ} {dist queue : List ℕ} (f : Searched k dist queue (bfs (adjacent t.offsets t.targets) size w r)) where
    pub ball-short : k ≤ size
    ball-short = found-short board d.prepared.net tabled-joins w r h k dist queue f

    pub ball-list : NodeList size (take k queue)
    ball-list = found-list board d.prepared.net tabled-joins w r h k dist queue f

    pub ball-measured : dist ≡ distances_of board w r
    ball-measured = found-distances board d.prepared.net tabled-joins w r h k dist queue f

    -- and lists
    pub ball-marks : marks_of size (take k queue) ≡ ball_of board w r
    ball-marks = found-marks board d.prepared.net tabled-joins w r h k dist queue f

-- ---- the place, from the ball's table and what the search for the component reaches

module _ {pattern board : Circuit} {t : Tables} (d : Tabled pattern board t) {w : ℕ} (r : ℕ) (centre : w < length board.labels) {sets : List ℕ}
    (ball : sets ≡ ball_table pattern board w r) {dist : List ℕ} (g : Spread (length board.labels) w (matched t sets) dist) where
  tabled-small : (v : ℕ) → get_or (ball_table pattern board w r) v 0 < 2 ^ 32
  tabled-small = fits_word d.prepared.parts (ball-fits pattern board w r)

  tabled-long : length sets ≡ length board.labels
  tabled-long = ap length ball ∙ (ball-fits pattern board w r).size

  tabled-reached : (v : ℕ) → v < length board.labels → inside (place_nodes pattern board w r) v ≡ not (eqb (get_or dist v 0) far)
  unfolding place_nodes
  tabled-reached = spread-component d.prepared (tabled-joins d) d.parallel (ball_table pattern board w r) tabled-small w centre dist (rw ball at g)

  tabled-located : (place : List ℕ) → Lists place dist → Located pattern board t w r dist sets place
  tabled-located place l =
      record {
        bytes = bytes-nodes pattern board w r dist g.size tabled-reached;
        links =
            ap (bytes_of_links board.starts board.ends (succ_of t.masks) dist) ball
            ∙ bytes-links pattern board w r dist g.size tabled-reached (succ_of t.masks) d.starts
            (forward-test d.prepared (tabled-joins d) d.parallel (ball_table pattern board w r) tabled-small);
        table = ap (node_sets dist) ball ∙ sets-table pattern board w r dist g.size tabled-reached;
        lists = l;
        size = g.size;
        long = tabled-long;
        ready =
            record {
              masks = d.prepared.masked.room;
              net = rw tabled-long (net-of d.prepared.net);
              small = λ v. rw ball (tabled-small v);
            };
      }

-- The place from another table than the ball's, which agrees with that at the nodes that the search for the component reaches.
module _ {pattern board : Circuit} {t : Tables} (d : Tabled pattern board t) (even : length board.starts ≡ length board.ends) {w : ℕ} (r : ℕ)
    (centre : w < length board.labels) (sets : List ℕ) {dist : List ℕ} (long : length sets ≡ length board.labels) (small : (v : ℕ) → get_or sets v 0 < 2 ^ 32)
    (g : Spread (length board.labels) w (matched t (ball_table pattern board w r)) dist)
    (same : (v : ℕ) → v < length board.labels → Reached dist v → get_or sets v 0 ≡ get_or (ball_table pattern board w r) v 0)
    (match :
    (v v' : ℕ) → HasLink board.starts board.ends v v' → v < length board.labels → Reached dist v →
    matches pattern sets v v' ≡ matches pattern (ball_table pattern board w r) v v') where
  abbrev ball_sets : List ℕ
  ball_sets = ball_table pattern board w r

  same-sets : node_sets dist sets ≡ node_sets dist ball_sets
  unfolding node_sets
  same-sets = tabulate-same (length dist) _ _ (λ v h. go v (subst (λ (m : ℕ). v < m) g.size h) (eqb (get_or dist v 0) far) refl)
    where
      go : (v : ℕ) → v < length board.labels → (b : Bool) → eqb (get_or dist v 0) far ≡ b → cond b 0 (get_or sets v 0) ≡ cond b 0 (get_or ball_sets v 0)
      go v h true q = refl
      go v h false q = same v h (eqb-false (get_or dist v 0) far q)

  same-links : bytes_of_links board.starts board.ends (succ_of t.masks) dist sets ≡ bytes_of_links board.starts board.ends (succ_of t.masks) dist ball_sets
  unfolding bytes_of_links link_byte driven_by HasLink Below
  same-links = tabulate-same (length board.starts) _ _ (λ i h. go i h (eqb (get_or dist (get_or board.starts i 0) 0) far) refl)
    where
      forward : (xs : List ℕ) → ((v : ℕ) → get_or xs v 0 < 2 ^ 32) → (v v' : ℕ) →
          intersects (union_over (succ_of t.masks) (get_or xs v 0)) (get_or xs v' 0) ≡ matches pattern xs v v'
      forward xs few = forward-test d.prepared (tabled-joins d) d.parallel xs few

      go : (i : ℕ) → i < length board.starts → (b : Bool) → eqb (get_or dist (get_or board.starts i 0) 0) far ≡ b →
          ◌≡◌ {A = ℕ} (cond b 0 (cond (intersects (union_over (succ_of t.masks) (get_or sets (get_or board.starts i 0) 0)) (get_or sets (get_or board.ends i 0) 0)) 1 0))
          (cond b 0 (cond (intersects (union_over (succ_of t.masks) (get_or ball_sets (get_or board.starts i 0) 0)) (get_or ball_sets (get_or board.ends i 0) 0)) 1 0))
      go i h true q = refl
      go i h false q =
          let v = get_or board.starts i 0 in
          let v' = get_or board.ends i 0 in
          ap (λ (b : Bool). cond b 1 0)
          (forward sets small v v'
          ∙ match v v' (i, record { in_starts = h; in_ends = subst (λ (m : ℕ). i < m) even h; start = refl; end = refl }) (d.starts i h) (eqb-false (get_or dist v 0) far q)
          ∙ sym (forward ball_sets (tabled-small d r centre refl g) v v'))

  agreed-located : (place : List ℕ) → Lists place dist → Located pattern board t w r dist sets place
  agreed-located place l =
      let q : Located pattern board t w r dist ball_sets place = tabled-located d r centre refl g place l in
      record {
        bytes = q.bytes;
        links = same-links ∙ q.links;
        table = same-sets ∙ q.table;
        lists = l;
        size = g.size;
        long = long;
        ready = record { masks = d.prepared.masked.room; net = rw long (net-of d.prepared.net); small = small };
      }

-- ---- from the centre's component in the whole board's match graph

module _ {pattern board : Circuit} {t : Tables} (d : Tabled pattern board t) (even : length board.starts ≡ length board.ends) {w : ℕ} (r : ℕ)
    (centre : w < length board.labels) {whole comp : List ℕ} (e : whole ≡ last_table pattern board (everything board))
    (g : Spread (length board.labels) w (matched t whole) comp) where
  abbrev nodes : ℕ
  nodes = length board.labels

  component : Component pattern board t w whole comp
  component = record { joined = record { prepared = d.prepared; joins = tabled-joins d; parallel = d.parallel }; table = e; spread = g }

  -- Where the ball holds the whole component, the place is that component with its matching links.
  module _ (held : (v : ℕ) → v < length board.labels → Reached comp v → T (inside (ball_of board w r) v)) where
    held-agrees : Agreeing pattern board t (ball_table pattern board w r) whole comp
    unfolding ball_table
    held-agrees = whole-agrees component (ball_of board w r) held

    pub whole-located : (place : List ℕ) → Lists place comp → Located pattern board t w r comp whole place
    whole-located =
        agreed-located d even r centre whole (ap length e ∙ (last_fits pattern board (everything board)).size) (whole-small component)
        (spread-narrower held-agrees centre g.centre g)
        (λ v h f. sym (agree-set held-agrees v h f))
        (agree-matches held-agrees)

    -- and there is a place, where the centre has a part left
    pub whole-found : (get_or whole w 0 ≡ 0 → ⊥) → found pattern board w r ≡ true
    whole-found f = found_some pattern board w r (ball_table pattern board w r) refl (λ q. f (sym (agree-set held-agrees w centre g.centre) ∙ q))

  -- What lies outside the component supports nothing inside it: from a graph that has the ball's nodes in the component, and no other nodes but the
  -- ball's, the place comes as from the ball.
  module _ (taken : List ℕ) (within : (v : ℕ) → Taken board taken v → Taken board (ball_of board w r) v)
      (keeps : (v : ℕ) → Taken board (ball_of board w r) v → Reached comp v → Taken board taken v) where
    abbrev cut : List ℕ
    cut = last_table pattern board taken

    cut-agrees : Agreeing pattern board t cut (ball_table pattern board w r) comp
    unfolding ball_table
    cut-agrees = part-agrees component (ball_of board w r) taken within keeps

    pub cut-located : (dist : List ℕ) → Spread nodes w (matched t cut) dist → (place : List ℕ) → Lists place dist → Located pattern board t w r dist cut place
    cut-located dist s =
        let reached = spread-within cut-agrees g.centre s in
        agreed-located d even r centre cut (last_fits pattern board taken).size (fits_word d.prepared.parts (last_fits pattern board taken))
        (spread-wider cut-agrees centre g.centre s)
        (λ v h f. agree-set cut-agrees v h (reached v h f))
        (λ v v' k h f. sym (agree-matches cut-agrees v v' k h (reached v h f)))

    pub cut-found : (get_or cut w 0 ≡ 0 → ⊥) → found pattern board w r ≡ true
    cut-found f = found_some pattern board w r (ball_table pattern board w r) refl (λ q. f (agree-set cut-agrees w centre g.centre ∙ q))

    pub cut-none : get_or cut w 0 ≡ 0 → found pattern board w r ≡ false
    cut-none z = found_none pattern board w r (ball_table pattern board w r) refl (sym (agree-set cut-agrees w centre g.centre) ∙ z)

-- ---- the graphs that a place comes from

module _ {pattern board : Circuit} {t : Tables} (d : Tabled pattern board t) (w r : ℕ) (centre : w < length board.labels) where
  -- the ball,
  pub ball-seen : (taken : List ℕ) → taken ≡ ball_of board w r → Seen pattern board t w r taken
  unfolding ball_table
  ball-seen taken e =
      rw e
      (record {
        none = found_none pattern board w r (ball_table pattern board w r) refl;
        some = found_some pattern board w r (ball_table pattern board w r) refl;
        there = λ dist place g l. tabled-located d r centre refl g place l;
      })

  -- as a search lists it,
  pub ball-sought :
      {k : ℕ} {dist queue first : List ℕ} → Searched k dist queue (bfs (adjacent t.offsets t.targets) (length board.labels) w r) →
      Begins pattern board (marks_of (length board.labels) (take k queue)) first → Sought pattern board t w r (take k queue) first
  ball-sought f b =
      record {
        tabled = d;
        centre = centre;
        list = ball-list d w r centre f;
        seen = ball-seen _ (ball-marks d w r centre f);
        begins = b;
      }

  -- and its nodes in the centre's component on the whole board
  pub cut-seen :
      {whole comp : List ℕ} → length board.starts ≡ length board.ends → whole ≡ last_table pattern board (everything board) →
      Spread (length board.labels) w (matched t whole) comp → (taken : List ℕ) →
      ((v : ℕ) → Taken board taken v → Taken board (ball_of board w r) v) →
      ((v : ℕ) → Taken board (ball_of board w r) v → Reached comp v → Taken board taken v) → Seen pattern board t w r taken
  cut-seen even e g taken within keeps =
      record {
        none = cut-none d even r centre e g taken within keeps;
        some = cut-found d even r centre e g taken within keeps;
        there = λ dist place s l. cut-located d even r centre e g taken within keeps dist s place l;
      }

-- ---- from a first table

module _ {pattern board : Circuit} {t : Tables} {w r : ℕ} {nodes first : List ℕ} (s : Sought pattern board t w r nodes first) where
  abbrev n : ℕ
  n = length board.labels

  -- the rounds may begin with the first table
  pub sought-known : TablesKnown t nodes first
  sought-known = record { ways = both_directions; pattern = pattern; host = board; prepared = s.tabled.prepared; begins = s.begins }

  -- which has a set for each node
  pub sought-long : length first ≡ length board.labels
  unfolding problem_by
  sought-long = s.begins.long

  module _ {sets : List ℕ} {rest : Rest} (e : RestedBy both_directions pattern board (marks_of n nodes) first sets rest) where
    -- for the table that they end with the tables serve
    pub sets-ready : Ready t sets
    sets-ready =
        let long : length sets ≡ n = ap length e.last ∙ (last_fits pattern board (marks_of n nodes)).size in
        record {
          masks = s.tabled.prepared.masked.room;
          net = rw long (net-of s.tabled.prepared.net);
          small = λ v. rw e.last (fits_word s.tabled.prepared.parts (last_fits pattern board (marks_of n nodes)) v);
        }

    -- the centre is struck: there is no place
    pub found_nothing : (dist queue : List ℕ) → get_or sets w 0 ≡ 0
        → FoundIn pattern board t w r nodes first dist queue sets (record { size = None; rest = rest })
    found_nothing dist queue z =
        record {
          rested = e;
          answer = sym (s.seen.none (rw e.last at z));
          short = λ k q. cc;
          there = λ k q. cc;
        }

    -- it is left: what the search for the component reaches is the place
    module _ (dist : List ℕ) (g : Spread n w (matched t sets) dist) where
      pub found-place : (queue : List ℕ) (k : ℕ) → (get_or sets w 0 ≡ 0 → ⊥) → k ≤ length queue → Lists (take k queue) dist
          → FoundIn pattern board t w r nodes first dist queue sets (record { size = Some k; rest = rest })
      found-place queue k f h l =
          record {
            rested = e;
            answer = sym (s.seen.some (rw e.last at f));
            short = λ m q. let is : k ≡ m = cc in subst (λ (x : ℕ). x ≤ length queue) is h;
            there = λ m q.
                let is : k ≡ m = cc in
                subst (λ (x : ℕ). Located pattern board t w r dist sets (take x queue)) is (rw e.last (s.seen.there dist (take k queue) (rw e.last at g) l));
          }

-- where there is a place, it is in the tables, however many nodes it has
pub found-located : {pattern board : Circuit} {t : Tables} {w r : ℕ} {nodes first dist queue sets : List ℕ} {a : PlaceFound}
    → FoundIn pattern board t w r nodes first dist queue sets a → (list : List ℕ) × (is_some a.size ≡ true → Located pattern board t w r dist sets list)
found-located {pattern} {board} {t} {w} {r} {dist = dist} {queue = queue} {sets = sets} {a = a} f = go a.size refl
  where
    go : (o : Option ℕ) → a.size ≡ o → (list : List ℕ) × (is_some o ≡ true → Located pattern board t w r dist sets list)
    go None e = ([], λ q. absurd (false-T refl (true-T q)))
    go (Some k) e = (take k queue, λ _. f.there k e)

-- ---- what is marked

module _ {pattern board : Circuit} {t : Tables} {w r : ℕ} {dist sets place : List ℕ} (l : Located pattern board t w r dist sets place) where
  pub located-nodes : marks_of (length board.labels) place ≡ place_nodes pattern board w r
  located-nodes = ap (λ (m : ℕ). marks_of m place) (sym l.size) ∙ marks-bytes l.lists ∙ l.bytes

  pub located-table : table_at (length board.labels) (λ v. get_or sets v 0) place ≡ place_table pattern board w r
  located-table = ap (λ (m : ℕ). table_at m (λ v. get_or sets v 0) place) (sym l.size) ∙ table-sets l.lists sets ∙ l.table

pub located-links :
    {pattern board : Circuit} {t : Tables} {w r : ℕ} {dist sets place : List ℕ} → Prepared pattern board t → length board.starts ≡ length board.ends →
    Below (length board.labels) board.starts → LinksRise board.starts board.ends →
    Located pattern board t w r dist sets place → link_marks (length board.starts) t sets place ≡ place_links pattern board w r
located-links p parallel below rise l =
    links-bytes l.lists _ _ (rw l.size p.net) (rise-sorted _ _ rise) parallel (rw l.size below) ∙ l.links
