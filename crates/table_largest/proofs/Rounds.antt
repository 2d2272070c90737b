-- The loop of rounds: from one table to the next, until a round strikes nothing. Assumes nothing.
use Rattle.std.specs.Prelude.{◌≡◌, ◌⊎◌, ◌≤◌, ◌<◌, ◌+◌, ◌^◌}
use Rattle.base_lists.specs.Kit.{◌∙◌, sym, ap, refl, subst, ap₂, ⊎_elim, List, [], ℕ, suc, not-suc-le-zero, le_refl, lt_of_le_of_lt, add-one, T, length, get_or, take, replicate, get_or-eq_default, length-take-le, arith}
use native.Mathlib.Decide.{dec_lt}
use borrow.Author.Count.{below_more}
use Rattle.base_lists.specs.List.{Occurs, Below}
use Rattle.base_lists.proofs.Tests.{false-T}
use Rattle.base_bits.specs.Bits.{bit, Subset}
use Rattle.base_bits.proofs.Digits.{bit-of-zero}
use Rattle.base_bits.proofs.Numbers.{subset-le}
use Rattle.graph.specs.Bfs.{SearchState, level, state_of, Searched}
use Rattle.graph.specs.Circuit.{Circuit}
use Rattle.graph.specs.Net.{NetOf}
use Rattle.graph.specs.Search.{far}
use Rattle.graph.proofs.BfsSteps.{reached-length, tail-le}
use Rattle.graph.proofs.Net.{net-of}
use Rattle.simulation.specs.Simulation.{Direction}
use Rattle.table_row.specs.Problem.{Problem}
use Rattle.table_row.specs.Row.{start_of, row_from, row_of, last_of, kept_of, rounds_of}
use Rattle.table_row.proofs.Sets.{fits_word, pairs-progress}
use Rattle.table_row.proofs.Falling.{FirstRest, falls-count}
use Rattle.table_row.proofs.Counting.{first-rounds}
use Rattle.table_row.proofs.Begin.{begins-fits, begins-times, begins-rest}
use Rattle.table.specs.Row.{in_table, pairs, problem_by}
use Rattle.table.specs.Fill.{listed, marks_of, NodeList, Cleared, fill_at}
use Rattle.table.specs.First.{BeginsBy}
use Rattle.graph_follow.specs.Follow.{nodes_beside}
use Rattle.table_round.specs.Pending.{changing, Pending, put_at, SetsPut}
use Rattle.table.specs.Prepared.{Tables, Ready, PreparedBy}
use Rattle.table.specs.Refine.{RestedBy}
use Rattle.table_strike.specs.Strike.{strike_node}
use Rattle.table_largest.specs.Rounds.{strike_table, strike_times, Covers, Due, Round, Settled}
use Rattle.graph_follow.proofs.Following.{beside-below}
use Rattle.table.proofs.NodeLists.{list-few}
use Rattle.table.proofs.Fill.{occurs-listed}
use Rattle.table_round.proofs.Pending.{changing-below, put_fill}
use Rattle.table_largest.proofs.Due.{length-strike, strike-at, covers-changing, fill-strike, changing-differs, covers-next, net-mutual}
use Rattle.table_strike.proofs.Survivors.{survivors-subset, strike-none}
use Rattle.table_largest.proofs.Row.{begins-cleared, times-row}
use Rattle.table_largest.proofs.Waking.{unmarked, woken-beside, woken-unmarked}

-- ---- a round shrinks the sets

module _ (t : Tables) (old : List ℕ) where
  strike-subset : (v : ℕ) → Subset (get_or (strike_table t old) v 0) (get_or old v 0)
  unfolding strike_node
  strike-subset v u s = go (dec_lt v (length old))
    where
      go : Dec (v < length old) → T (bit (get_or old v 0) u)
      go (yes h) = survivors-subset _ _ _ _ (get_or old v 0) u (subst (λ (x : ℕ). T (bit x u)) (strike-at t old v h) s)
      go (no h) =
          absurd
          (false-T (bit-of-zero u)
          (subst (λ (x : ℕ). T (bit x u)) (get_or-eq_default (strike_table t old) 0 {n = v} (rw length-strike (omega arith))) s))

  strike-smaller : (n v : ℕ) → get_or old v 0 < n → get_or (strike_table t old) v 0 < n
  strike-smaller n v h = lt_of_le_of_lt (subset-le (get_or old v 0) (get_or (strike_table t old) v 0) (strike-subset v)) h

  strike-ready : Ready t old → Ready t (strike_table t old)
  strike-ready r =
      record {
        masks = r.masks;
        net = rw length-strike r.net;
        small = λ v. strike-smaller (2 ^ 32) v (r.small v);
      }

  -- it leaves fewer pairs, or the same table
  strike-progress : Ready t old → (pairs (strike_table t old) < pairs old) ⊎ (strike_table t old ≡ old)
  unfolding in_table
  strike-progress r =
      pairs-progress (le_refl 32)
      (record { size = length-strike t old; small = λ v. strike-smaller (2 ^ 32) v (r.small v) })
      (record { size = refl; small = r.small })
      (λ u v. strike-subset v u)

-- ---- from round to round

-- no more rounds than there were pairs
pub round-count : {t : Tables} {start old : List ℕ} {kept rounds : ℕ} → Round t start old kept rounds → kept + rounds ≤ pairs start
unfolding strike_times
round-count {t} {start} {rounds = rounds} r =
    omega (arith, falls-count pairs (strike_times t start) rounds r.falls, r.count ∙ ap pairs r.table)

pub round-start : {t : Tables} {start : List ℕ} {kept : ℕ} → kept ≡ pairs start → Round t start start kept 0
unfolding strike_times
round-start e = record { table = refl; falls = λ j h. absurd (not-suc-le-zero h); count = e }

-- The nodes that change are listed, each with its next set: `old` is the table, and some list of nodes to look at was looked at.
pub record Noticed (t : Tables) (old changed next : List ℕ) (k : ℕ) : Type 0 where
  pub todo : List ℕ
  pub due : Due t old todo
  pub pending : Pending (strike_node t old) old todo changed next k

module _ {t : Tables} {start old : List ℕ} {kept rounds : ℕ} (r : Round t start old kept rounds) {changed next : List ℕ} {k : ℕ} (q : Noticed t old changed next k) where
  abbrev nodes : List ℕ
  nodes = take k changed

  covered : Covers t old nodes
  covered = rw q.pending.nodes (covers-changing t old q.todo q.due.covers)

  pub noticed-below : Below (length old) nodes
  noticed-below = rw q.pending.nodes (changing-below (strike_node t old) old (length old) q.todo q.due.below)

  pub noticed-few : k ≤ length old
  noticed-few = omega (arith, q.pending.within, q.due.few)

  -- ---- none changes: the rounds are over

  pub round-last : k ≡ 0 → Settled t start old kept rounds
  unfolding fill_at
  round-last e =
      record {
        table = r.table;
        stops = sym (fill-strike t old [] (subst (λ (m : ℕ). Covers t old (take m changed)) e covered));
        falls = r.falls;
        count = r.count;
      }

  -- ---- some change: their sets are written

  module _ {new : List ℕ} {count : ℕ} (put : SetsPut nodes (take k next) old new count) where
    struck : new ≡ strike_table t old
    struck =
        put.table ∙ ap₂ (λ (vs xs : List ℕ). put_at vs xs old) q.pending.nodes q.pending.sets
        ∙ put_fill (strike_node t old) (changing (strike_node t old) old q.todo) old
        ∙ fill-strike t old (changing (strike_node t old) old q.todo) (covers-changing t old q.todo q.due.covers)

    pub new-long : length new ≡ length old
    new-long = ap length struck ∙ length-strike t old

    pub new-ready : Ready t new
    new-ready = rw struck (strike-ready t old q.due.ready)

    module _ (long : length changed ≡ length old) (some : k ≡ 0 → ⊥) where
      -- the first of them has another set
      differs : strike_table t old ≡ old → ⊥
      unfolding Below
      differs e =
          let size : length nodes ≡ k = length-take-le k changed (omega (arith, noticed-few, long)) in
          let v : ℕ = get_or nodes 0 0 in
          let here : 0 < length nodes = omega arith in
          changing-differs t old q.todo v
          (subst (λ (l : List ℕ). T (listed l v)) q.pending.nodes (occurs-listed nodes v (0, here, refl)))
          (sym (strike-at t old v (noticed-below 0 here)) ∙ ap (λ (l : List ℕ). get_or l v 0) e)

      pub round-less : count < kept
      round-less =
          ⊎_elim (λ l. omega (arith, put.size, ap pairs struck, r.count)) (λ e. absurd (differs e)) (strike-progress t old q.due.ready)

      pub round-next : Round t start new count (rounds + 1)
      unfolding strike_times
      round-next =
          let after : new ≡ strike_times t start (suc rounds) = struck ∙ ap (strike_table t) r.table in
          record {
            table = rw add-one after;
            falls =
                below_more (λ j. pairs (strike_times t start (suc j)) < pairs (strike_times t start j)) rounds r.falls
                (omega (arith, round-less, put.size, r.count, ap pairs after, ap pairs r.table));
            count = put.size;
          }

    -- what lies beside them is to be looked at

    module _ (todo : List ℕ) {marks marks' todo' : List ℕ} {m : ℕ} (clean : marks ≡ replicate (length old) far)
        (s : Searched marks' todo' m (level (nodes_beside t.offsets t.targets new) 0 (state_of marks todo 0) nodes)) where
      beside-inside : (v : ℕ) → v < length old → Below (length old) (nodes_beside t.offsets t.targets new v)
      beside-inside v h = beside-below t.offsets t.targets new v q.due.ready.net h

      state : state_of marks' todo' m ≡ level (nodes_beside t.offsets t.targets new) 0 (unmarked (length old)) nodes
      unfolding unmarked state_of
      state = s.state ∙ ap (λ (l : List ℕ). level (nodes_beside t.offsets t.targets new) 0 (record { dist = l; reached = [] }) nodes) clean

      list : take m todo' ≡ (level (nodes_beside t.offsets t.targets new) 0 (unmarked (length old)) nodes).reached
      unfolding state_of
      list = ap (λ (x : SearchState). x.reached) state

      pub woken-due : length marks' ≡ length old → Due t new (take m todo')
      unfolding state_of
      woken-due long =
          record {
            ready = new-ready;
            both = rw new-long q.due.both;
            covers =
                subst (λ (l : List ℕ). Covers t new l) (sym list)
                (subst (λ (x : List ℕ). Covers t x (level (nodes_beside t.offsets t.targets new) 0 (unmarked (length old)) nodes).reached) (sym struck)
                (covers-next t old q.due.ready.net q.due.both (λ v. subst (λ (x : List ℕ). get_or x v 0 < 2 ^ 32) struck (new-ready.small v)) nodes covered _
                (λ w v o m.
                woken-beside (nodes_beside t.offsets t.targets new) beside-inside nodes noticed-below w v o
                (subst (λ (x : List ℕ). Occurs (nodes_beside t.offsets t.targets x w) v) (sym struck) m))));
            below = rw (new-long, ← long) s.kept.ready.inside;
            few = rw new-long (omega (arith, tail-le marks' todo' m s.kept, reached-length marks' todo' m s.kept, long));
          }

      pub woken-clean : fill_at (λ v. far) (take m todo') marks' ≡ replicate (length old) far
      unfolding state_of
      woken-clean =
          ap (λ (x : SearchState). fill_at (λ v. far) x.reached x.dist) state
          ∙ woken-unmarked (nodes_beside t.offsets t.targets new) beside-inside nodes noticed-below

-- ---- the rounds begin

module _ {ways : List Direction} {pattern host : Circuit} {t : Tables} (p : PreparedBy ways pattern host t) (nodes : List ℕ) {first : List ℕ}
    (b : BeginsBy ways pattern host (marks_of (length host.labels) nodes) first) where
  -- the list of nodes has each node that changes
  pub first-due : NodeList (length first) nodes → Due t first nodes
  unfolding problem_by Covers Cleared
  first-due list =
      let net : NetOf (length first) host.starts host.ends t.offsets t.targets = rw b.long p.net in
      record {
        ready =
            record {
              masks = p.masked.room;
              net = net-of net;
              small = fits_word p.parts (begins-fits (problem_by ways pattern host (marks_of (length host.labels) nodes)) b);
            };
        both = net-mutual t net;
        covers = λ v h e. let z = begins-cleared ways pattern host nodes b v h e in strike-none t first v z ∙ sym z;
        below = list.below;
        few = list-few list;
      }

  -- ---- what the loop settles at is the end of the row

  module _ {last : List ℕ} {k r : ℕ} (s : Settled t first last k r) where
    abbrev marks : List ℕ
    marks = marks_of (length host.labels) nodes

    abbrev problem : Problem Direction
    problem = problem_by ways pattern host marks

    settled-again : strike_times t first (suc r) ≡ strike_times t first r
    unfolding strike_times
    settled-again = ap (strike_table t) (sym s.table) ∙ s.stops ∙ s.table

    repeats : row_from problem first (suc r) ≡ row_from problem first r
    repeats = sym (times-row ways pattern host t p nodes b (suc r)) ∙ settled-again ∙ times-row ways pattern host t p nodes b r

    settled-last : last ≡ last_of problem
    unfolding row_from problem_by
    settled-last = s.table ∙ times-row ways pattern host t p nodes b r ∙ begins-rest problem p.parts (begins-times problem p.parts b r) repeats

    -- from the first table of the row, the rounds are those of the row
    settled-rounds : first ≡ start_of problem → r ≡ rounds_of problem
    unfolding row_of
    settled-rounds e =
        let rest : FirstRest pairs (row_from problem first) r = record { falls = falls; repeats = repeats } in
        sym (first-rounds problem (rw e at rest))
      where
        falls : (j : ℕ) → j < r → pairs (row_from problem first (suc j)) < pairs (row_from problem first j)
        falls j h = rw (← times-row ways pattern host t p nodes b j, ← times-row ways pattern host t p nodes b (suc j)) (s.falls j h)

    pub settled-rested : RestedBy ways pattern host marks first last (record { kept = k; rounds = r })
    unfolding kept_of
    settled-rested = record { last = settled-last; kept = s.count ∙ ap pairs settled-last; rounds = settled-rounds }
