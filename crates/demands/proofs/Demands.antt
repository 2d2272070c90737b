-- The three demands hold. Assumes nothing.
use Rattle.std.specs.Prelude.{◌≡◌, ◌↔◌, ◌∷◌, ◌≤◌, ◌<◌, Ok}
use Rattle.base_lists.specs.Kit.{◌∙◌, sym, ap, refl, subst, ⊎_elim, List, [], ℕ, length, take, take_at, arith}
use Rattle.base_lists.specs.List.{all, Below}
use Rattle.base_lists.proofs.Tables.{replicate-tabulate}
use Rattle.base_lists.proofs.Entries.{below_all}
use Rattle.graph.specs.Graph.{Radius}
use Rattle.graph.proofs.Walks.{radius-unique}
use Rattle.simulation.specs.Closed.{Relation}
use Rattle.simulation.specs.Perfect.{SameGraph}
use Rattle.simulation.specs.Simulation.{Direction}
use Rattle.file_format.specs.declared.Edition.{Edition}
use Rattle.file_format.specs.declared.Role.{Role}
use Rattle.file_format.specs.declared.Role.TheVariants.{Pattern, Board, AnyPattern}
use Rattle.file_format.specs.Circuit.{circuit_of}
use Rattle.file_format.specs.Layout.{CircuitFile, package_count, nodes_of, links_of, length_of}
use Rattle.file_format.specs.Reading.{ReadOutcome, read_conditions, read_answer, reading}
use Rattle.file_format.specs.Refusals.{accept, first, Accepted}
use Rattle.file_format.specs.Reply.{read_reply, reply}
use Rattle.file_format.proofs.Accepted.{accepted-bounded, accepted-within, accepted-connected}
use Rattle.file_format.proofs.Fields.{length-labels}
use Rattle.file_format.proofs.Refusals.{accepted-any, accepted-verdict, reply-verdict}
use Rattle.table.proofs.Host.{everything-same, within-joins}
use Rattle.table.specs.declared.Counts.{Counts}
use Rattle.table.specs.Row.{both_directions, row_by, InTable}
use Rattle.table.specs.Answer.{answer_counts_by}
use Rattle.table.specs.Host.{host_graph, everything}
use Rattle.table.proofs.Answer.{along-dual, answer-found, answer-missing, answer-connected}
use Rattle.place.specs.Match.{radius_of, ball_of}
use Rattle.place.proofs.Accepted.{accepted-admissible, accepted-radius}
use Rattle.place.proofs.Ball.{ball-host}
use Rattle.place.proofs.Marks.{Marks, nodes-marks, links-marks}
use Rattle.file_write.specs.Writing.{WriteOutcome, write_conditions, write_answer, writing}
use Rattle.file_write.proofs.FileFields.{packs-length}
use Rattle.file_write.proofs.Writing.{sound, writing-accepted}
use Rattle.file_write.proofs.RoundTrip.{written-reads, read-writes}
use Rattle.call_match.specs.Call.{matching_by}
use Rattle.call_match.proofs.Promise as match-call
use Rattle.call_place.specs.Call.{input_conditions}
use Rattle.call_place.proofs.Promise.{counts-are, accept-or-nine, nine-iff, marked-place, nodes-prefix, links-prefix}
use Rattle.call_merge.specs.Call.{merging}
use Rattle.call_merge.proofs.Promise as merge-call
use Rattle.demands.specs.Demands.{Lent, Enough, placed, placed_own, graph, Demand1, Matched, Demand2, nine, FoundAt, Demand3}
use Rattle.demands.proofs.Counts.{both_is, row-run, row_counts}
use Rattle.demands.proofs.Decided.{decided-1}
use Rattle.demands.proofs.Groupings.{merged-made}
use Rattle.demands.proofs.Merged.{ready-sound, merged-same, radius-fits}

-- ---- Demand 1

-- "From the file readers to the last report line, every call ends with a fixed reply for every byte string, centre and
-- table size. It refuses under the numbered conditions of document 01 and no other; a refusal returns its number and
-- the file concerned, and changes no lent table."
pub demand-1 : Demand1
demand-1 = decided-1

-- ---- Demand 2

-- the whole-board call, along any directions, by any sets that its tables hold and anything that its answer is
pub matched-by :
    (ways : List Direction) (pattern board : CircuitFile) (table : List ℕ) → Accepted AnyPattern pattern → Accepted Board board → nodes_of board ≤ length table →
    {sets : ℕ → Relation} {Best : Relation → Type 1} →
    ((k u v : ℕ) → InTable (row_by ways (circuit_of pattern) (circuit_of board) (everything (circuit_of board)) k) u v ↔ sets k u v) →
    Best (InTable (take (nodes_of board) (matching_by ways pattern board table).table)) →
    Matched sets Best (nodes_of pattern) (nodes_of board) table (matching_by ways pattern board table)
unfolding answer_counts_by
matched-by ways pattern board table a b room is largest =
    let P = circuit_of pattern in
    let B = circuit_of board in
    let ok = match-call.accepts ways pattern board table a b room in
    let counted = match-call.counts-are ways pattern board table ok in
    let begun = ap (λ (c : Counts). c.started) counted in
    let rounds = ap (λ (c : Counts). c.rounds) counted in
    let prefix = match-call.prefix-is ways pattern board table ok in
    let (run, ends) = row-run ways P B (everything B) (accepted-bounded a).nodes is begun rounds in
    record {
      accepted = ok;
      largest = largest;
      run = run;
      kept = match-call.counts-ones ways pattern board table ok;
      struck = match-call.counts-struck ways pattern board table ok;
      found = λ all. prefix ∙ sym (answer-found ways P B (everything B) (λ u h. rw ends at (all u (rw (length-labels pattern) at h)))).last ∙ sym ends;
      missing = λ u h none. prefix ∙ sym (answer-missing ways P B (everything B) u (rw (length-labels pattern) h) (λ v m. none v (rw ends m))).last ∙ rw (length-labels board) (sym (replicate-tabulate (nodes_of board)));
      rest = match-call.rest-is ways pattern board table ok;
    }

-- the whole board, as the graph that it is
pub whole : {board : CircuitFile} → Accepted Board board → SameGraph (host_graph (circuit_of board) (everything (circuit_of board))) (graph board)
whole {board} b = everything-same (circuit_of board) (within-joins (circuit_of board) (accepted-within b))

-- an accepted writing call has written a file of the length replied
written :
    (role : Role) (e : Edition) (kinds packages starts ends out : List ℕ) → (writing role e kinds packages starts ends out).reply.verdict ≡ accept →
    (size : ℕ) × ((writing role e kinds packages starts ends out).answer ≡ Ok size) × ((writing role e kinds packages starts ends out).reply.values ≡ size ∷ [])
unfolding writing write_answer reply
written role e kinds packages starts ends out a =
    let v : first (write_conditions role e kinds packages starts ends (length out)) ≡ accept = sym (reply-verdict _ _) ∙ a in
    (length_of e (length kinds) (length starts), rw v, rw v)

-- an accepted reading call has N and M
was_read :
    (role : Role) (file : CircuitFile) (ks ps ss es : List ℕ) → (reading role file ks ps ss es).reply.verdict ≡ accept →
    (reading role file ks ps ss es).answer ≡ Ok (record { nodes = nodes_of file; links = links_of file })
unfolding reading read_answer
was_read role file ks ps ss es e =
    let v : first (read_conditions role file (length ks) (length ps) (length ss) (length es)) ≡ accept = sym (reply-verdict _ _) ∙ e in
    rw v

-- "The match table is the largest dual simulation, pair by pair as 01 reads it: each of its pairs holds, and every dual
-- simulation lies inside it. Counts and rounds are those of 01's row of sets. A circuit written reads back as itself;
-- an accepted file writes back to its own bytes."
pub demand-2 : Demand2
unfolding placed read_reply
demand-2 =
    record {
      table = λ pattern board table a b room.
          matched-by both_directions pattern board table a b room (both_is (circuit_of pattern) (circuit_of board) (everything (circuit_of board)) (whole b))
          (along-dual (match-call.prefix-along both_directions pattern board table (match-call.accepts both_directions pattern board table a b room)));
      connected = λ pattern board table c b room.
          let P = circuit_of pattern in
          let B = circuit_of board in
          let ok = match-call.accepts both_directions pattern board table (accepted-any c) b room in
          let most = (accepted-bounded c).nodes in
          let plain = answer-connected P B (everything B) most (accepted-connected c) in
          let (counts, last) = row_counts P B (everything B) most (whole b) (match-call.counts-are both_directions pattern board table ok ∙ sym plain.counted) in
          (counts, match-call.prefix-connected pattern board table c ok ∙ sym last);
      ball = λ pattern board w r lent x.
          (row_counts (circuit_of pattern) (circuit_of board) (ball_of (circuit_of board) w r) (accepted-bounded x.drawn).nodes
          (ball-host (accepted-admissible x.drawn x.given) w r)
          (counts-are pattern board w r lent.nodes lent.links lent.table lent.distances (ready-sound x))).0;
      reads = λ role e kinds packages starts ends out ks ps ss es a k p s t.
          let (size, answer, values) = written role e kinds packages starts ends out a in
          let same = written-reads role e kinds packages starts ends out size answer ks ps ss es k p s t in
          let packs = packs-length e kinds packages (sound role e kinds packages starts ends (writing-accepted role e kinds packages starts ends out size answer).0).given in
          rw values (
          record {
            accepted = ap (λ (o : ReadOutcome). o.reply.verdict) same;
            values = ap (λ (o : ReadOutcome). o.reply.values) same;
            kinds_are = ap (λ (o : ReadOutcome). take (length kinds) o.kinds) same ∙ take_at kinds _ (length kinds) refl;
            packages_are =
                ap (λ (o : ReadOutcome). take (package_count e (length kinds)) o.packages) same
                ∙ take_at (take (package_count e (length kinds)) packages) _ (package_count e (length kinds)) packs;
            starts_are = ap (λ (o : ReadOutcome). take (length starts) o.starts) same ∙ take_at starts _ (length starts) refl;
            ends_are = ap (λ (o : ReadOutcome). take (length ends) o.ends) same ∙ take_at ends _ (length ends) refl;
          }
          );
      writes = λ role file ks ps ss es out bytes e room.
          ap (λ (o : WriteOutcome). take (length file.bytes) o.out) (read-writes role file (below_all 256 file.bytes bytes) ks ps ss es out _ _ (was_read role file ks ps ss es e) room)
          ∙ take_at file.bytes _ (length file.bytes) refl;
    }

-- ---- Demand 3

-- a row of marks has no other bytes than 0 and 1
marks-below : {n : ℕ} {row : List ℕ} → Marks n row → Below 2 row
unfolding Below
marks-below m i h = omega (arith, m.bytes i (subst (λ (k : ℕ). i < k) m.size h))

-- the place call at a radius, where none of the conditions on its inputs holds
found_at : (pattern board : CircuitFile) (w r : ℕ) (lent : Lent) →
    first (input_conditions pattern board w (length lent.nodes) (length lent.links) (length lent.table) (length lent.distances)) ≡ accept →
    FoundAt pattern board w r (placed pattern board w r lent)
unfolding placed nine
found_at pattern board w r lent sound =
    record {
      none = nine-iff pattern board w r lent.nodes lent.links lent.table lent.distances sound;
      accepted = λ other. ⊎_elim (λ ok. ok) (λ e. absurd (other e)) (accept-or-nine pattern board w r lent.nodes lent.links lent.table lent.distances sound);
      place = marked-place pattern board w r lent.nodes lent.links lent.table lent.distances sound;
      bytes = λ ok. (
        rw (nodes-prefix pattern board w r lent.nodes lent.links lent.table lent.distances sound ok) (marks-below (nodes-marks (circuit_of pattern) (circuit_of board) w r)),
        rw (links-prefix pattern board w r lent.nodes lent.links lent.table lent.distances sound ok) (marks-below (links-marks (circuit_of pattern) (circuit_of board) w r)),
      );
    }

-- the pattern's radius is the one computed
radius-computed : (pattern : CircuitFile) → Accepted Pattern pattern → (r : ℕ) → Radius (graph pattern) r → radius_of (circuit_of pattern) ≡ r
radius-computed pattern a r is = radius-unique (accepted-radius a) is

-- the merging call accepts
merge-accepts : {pattern : CircuitFile} {classes out : List ℕ} → Accepted Pattern pattern → Enough pattern classes out → (merging pattern classes out).reply.verdict ≡ accept
merge-accepts {pattern} {classes} {out} a room = merge-call.accepts pattern classes out (accepted-verdict a) room.bytes room.file

-- "For every accepted pattern, board and centre, with tables long enough, 9 is given exactly when there is no perfect
-- subgraph around the centre at the radius; else what is marked is one, and contains every other. The merged pattern,
-- run at the first pattern's radius, is refused with 9 exactly when the first is, and else marks the same nodes and
-- links."
pub demand-3 : Demand3
unfolding placed_own
demand-3 =
    record {
      radius = λ pattern a. (radius_of (circuit_of pattern), accepted-radius a, radius-fits a);
      own = λ pattern board w lent x r is. rw (radius-computed pattern x.drawn r is) (found_at pattern board w r lent (ready-sound x));
      given = λ pattern board w r lent x. found_at pattern board w r lent (ready-sound x);
      classes = λ pattern classes out table a enough room u v h k. merge-call.share-table pattern classes out (merge-accepts a enough) table room u v h k;
      numbered = λ pattern classes out a enough. merge-call.bytes-rise pattern classes out (merge-accepts a enough);
      made = λ pattern classes out a enough. merged-made a enough;
      merged = λ pattern classes out board w lent again x room enough r is.
          rw (radius-computed pattern x.drawn r is) (merged-same pattern classes out (merge-accepts x.drawn enough) board w r lent again x room);
    }
