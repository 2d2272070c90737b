-- Ask 11 holds: nothing more could be joined. Assumes nothing.
use Rattle.std.specs.Prelude.{◌≡◌, ◌↔◌, ◌≤◌, ◌<◌}
use Rattle.base_lists.specs.Kit.{◌∙◌, sym, ap, subst, iff_rfl, iff_trans, iff_symm, List, ℕ, le_of_eq, length, get_or, replicate, length-replicate}
use Rattle.graph.specs.Circuit.{Circuit, graph_of, circuit_graph}
use Rattle.simulation.specs.Closed.{Relation}
use Rattle.simulation.specs.Grouping.{AsEachMember}
use Rattle.simulation.specs.Simulation.{Largest}
use Rattle.simulation.proofs.Grouping.{grouping-same, nothing-more, classes-such}
use Rattle.simulation.proofs.Same.{same_refl, largest-same}
use Rattle.file_format.specs.declared.Role.TheVariants.{Pattern, Board}
use Rattle.file_format.specs.Circuit.{circuit_of}
use Rattle.file_format.specs.Layout.{CircuitFile, in_edition, nodes_of}
use Rattle.file_format.specs.Refusals.{accept, Accepted}
use Rattle.file_format.proofs.Accepted.{accepted-bounded, accepted-within, accepted-connected}
use Rattle.file_format.proofs.Fields.{length-labels}
use Rattle.file_format.proofs.Refusals.{accepted-any, accepted-verdict}
use Rattle.file_write.specs.Bytes.{circuit_bytes}
use Rattle.table.specs.Host.{everything, KindsMatch}
use Rattle.table.specs.Row.{last_table, InTable}
use Rattle.table.proofs.Host.{board-largest, within-joins}
use Rattle.merge.specs.Merged.{class_of, class_count, grouped, merged}
use Rattle.merge.proofs.Content.{PatternContent, accepted-content}
use Rattle.merge.proofs.Classes.{SelfPairs, kinds-laws, content-joins, self-largest, shares-class}
use Rattle.merge.proofs.Grouped.{grouped-graph, grouped-kind, grouped-content, grouped-same}
use Rattle.merge.proofs.Merging.{classes-grouping, merged-graph, merging}
use Rattle.table.specs.Row.{both_directions}
use Rattle.call_match.specs.Call.{matching}
use Rattle.call_match.proofs.Promise as match-call
use Rattle.call_merge.specs.Call as call
use Rattle.call_merge.specs.Classes.{class_byte}
use Rattle.call_merge.proofs.Promise as merge-call
use Rattle.demands.specs.Demands.{graph, equal, Enough, merged_file, Made}
use Rattle.demands.specs.Groupings.{Groups, grouped_file, Matches, Supposed, replied, Such, NothingMore}
use Rattle.demands.proofs.Merged.{file-is}

-- ---- what the table call leaves

module _ {pattern board : CircuitFile} (a : Accepted Pattern pattern) (b : Accepted Board board) where
  -- a node matches a part exactly when the pair is in the largest dual simulation
  matches-iff :
      {S : Relation} → Largest (graph pattern) (equal pattern board) (graph board) S → (u v : ℕ) → (graph board).Node v →
      Matches pattern board u v ↔ S u v
  unfolding Matches circuit_graph graph_of
  matches-iff {S} largest u v h =
      let node : v < nodes_of board = rw (← length-labels board) h in
      let entry : (lent : List ℕ) → nodes_of board ≤ length lent → InTable (matching pattern board lent).table u v ↔ S u v =
      λ lent room. match-call.entry-bit pattern board lent (match-call.accepts both_directions pattern board lent (accepted-any a) b room) largest u v node in
      let some : nodes_of board ≤ length {A = ℕ} (replicate (nodes_of board) 0) = le_of_eq (sym (length-replicate (nodes_of board) 0)) in
      (λ m. (entry (replicate (nodes_of board) 0) some).0 (m (replicate (nodes_of board) 0) some), λ s lent room. (entry lent room).1 s)

  -- which is the last set of the row
  table-largest :
      Largest (graph pattern) (equal pattern board) (graph board) (InTable (last_table (circuit_of pattern) (circuit_of board) (everything (circuit_of board))))
  table-largest =
      board-largest (circuit_of pattern) (circuit_of board) (accepted-bounded a).nodes (accepted-connected a)
      (within-joins (circuit_of board) (accepted-within b))

  pub matches-last :
      (u v : ℕ) → v < nodes_of board →
      Matches pattern board u v ↔ InTable (last_table (circuit_of pattern) (circuit_of board) (everything (circuit_of board))) u v
  unfolding circuit_graph graph_of
  matches-last u v h = matches-iff table-largest u v (rw (length-labels board) h)

-- the same of a circuit that a file holds
held-largest :
    (file board : CircuitFile) {q : Circuit} {S : Relation} → circuit_of file ≡ q → Largest (graph file) (equal file board) (graph board) S →
    Largest (circuit_graph q) (KindsMatch q (circuit_of board)) (graph board) S
held-largest file board {S = S} e largest = subst (λ (q : Circuit). Largest (circuit_graph q) (KindsMatch q (circuit_of board)) (graph board) S) e largest

-- ---- the pattern that a grouping makes

module _ {pattern : CircuitFile} (a : Accepted Pattern pattern) where
  content : PatternContent (circuit_of pattern)
  content = accepted-content a

  part-below : (u : ℕ) → u < nodes_of pattern → u < length (circuit_of pattern).labels
  part-below u h = rw (length-labels pattern) h

  below-part : (u : ℕ) → u < length (circuit_of pattern).labels → u < nodes_of pattern
  below-part u h = rw (← length-labels pattern) h

  module _ {group : ℕ → ℕ} {k : ℕ} (g : Groups pattern group k) where
    grouped-accepted : Accepted Pattern (grouped_file pattern group k)
    unfolding grouped_file
    grouped-accepted = merge-call.content-accepted pattern.edition (grouped-content content g)

    grouped-circuit : circuit_of (grouped_file pattern group k) ≡ grouped (circuit_of pattern) group k
    unfolding grouped_file
    grouped-circuit = merge-call.content-circuit pattern.edition (grouped-content content g)

    pub grouped-made : Made pattern group (grouped_file pattern group k)
    grouped-made =
        record {
          accepted = grouped-accepted;
          quotient = rw grouped-circuit (grouped-graph content g);
          kinds = λ u h. ap (λ (q : Circuit). get_or q.labels (group u) 0) grouped-circuit ∙ grouped-kind content g u (part-below u h);
        }

  -- ---- nothing more could be joined

  -- The pattern's file is an accepted board, and the supposition is used on it alone.
  on-itself : {group : ℕ → ℕ} {k : ℕ} → Supposed pattern group k →
      AsEachMember (graph pattern) group (graph pattern) (SelfPairs (circuit_of pattern)) (Matches (grouped_file pattern group k) pattern)
  on-itself supposed =
      let itself = merge-call.pattern-board a in
      record { exactly = λ x u v n e h. iff_trans ((supposed.on pattern itself).exactly x u v n e h) (matches-iff a itself (self-largest content) u v h) }

  pub least-classes : {group : ℕ → ℕ} {k : ℕ} → Groups pattern group k → Supposed pattern group k → class_count (circuit_of pattern) ≤ k
  least-classes g supposed =
      nothing-more (content-joins content) (kinds-laws (circuit_of pattern) (circuit_of pattern)) (self-largest content) (on-itself supposed)
      (shares-class content) g (classes-grouping content)

  -- ---- the classes that the call leaves

  module _ {classes out : List ℕ} (room : Enough pattern classes out) where
    ok : (call.merging pattern classes out).reply.verdict ≡ accept
    ok = merge-call.accepts pattern classes out (accepted-verdict a) room.bytes room.file

    pub replied-is : replied pattern classes out ≡ class_count (circuit_of pattern)
    unfolding replied
    replied-is = ap (λ (xs : List ℕ). get_or xs 0 0) (merge-call.values-are pattern classes out ok)

    byte-is : (u : ℕ) → u < length (circuit_of pattern).labels → class_byte pattern classes out u ≡ class_of (circuit_of pattern) u
    byte-is u h = merge-call.byte-is pattern classes out ok u (below-part u h)

    our-groups : Groups pattern (class_byte pattern classes out) (replied pattern classes out)
    unfolding circuit_graph graph_of
    our-groups = rw replied-is (grouping-same byte-is (classes-grouping content))

    -- the pattern that they make is the merged pattern
    our-bytes : grouped_file pattern (class_byte pattern classes out) (replied pattern classes out) ≡ in_edition pattern.edition (call.merged_bytes pattern.edition (circuit_of pattern))
    unfolding grouped_file call.merged_bytes merged
    our-bytes =
        rw replied-is
        (ap (λ (q : Circuit). in_edition pattern.edition (circuit_bytes pattern.edition q))
        (grouped-same content (class_byte pattern classes out) (class_of (circuit_of pattern)) (class_count (circuit_of pattern)) byte-is))

    -- which on every board has the pairs of each member
    merged-each : (board : CircuitFile) → Accepted Board board →
        AsEachMember (graph pattern) (class_byte pattern classes out) (graph board) (Matches pattern board)
        (Matches (in_edition pattern.edition (call.merged_bytes pattern.edition (circuit_of pattern))) board)
    unfolding circuit_graph graph_of
    merged-each board b =
        let second = merge-call.merged-accepted a in
        let table = table-largest second b in
        let each =
        classes-such (merging content (circuit_of board)) (table-largest a b)
        (largest-same (merged-graph content) (same_refl _) (record { agree = λ u v _ _. iff_rfl }) (held-largest (in_edition pattern.edition (call.merged_bytes pattern.edition (circuit_of pattern))) board (merge-call.merged-circuit a) table)) in
        record {
          exactly = λ x u v n e h.
              iff_trans (matches-iff second b table x v h)
              (iff_trans (each.exactly x u v n (sym (byte-is u n) ∙ e) h) (iff_symm (matches-iff a b (table-largest a b) u v h)));
        }

    our-supposed : Supposed pattern (class_byte pattern classes out) (replied pattern classes out)
    our-supposed = record { on = λ board b. rw our-bytes (merged-each board b) }

    pub ours-such : Such pattern classes out
    ours-such =
        record { groups = our-groups; file = our-bytes ∙ sym (file-is pattern classes out ok); supposed = our-supposed }

    -- the merged file is the pattern made of the classes
    pub merged-made : Made pattern (class_byte pattern classes out) (merged_file pattern (call.merging pattern classes out))
    merged-made =
        subst (λ (file : CircuitFile). Made pattern (class_byte pattern classes out) file) (our-bytes ∙ sym (file-is pattern classes out ok)) (grouped-made our-groups)

-- "Then that grouping has at least as many groups as ours, and ours is itself such a grouping."
pub nothing-more-joined : NothingMore
nothing-more-joined =
    record {
      makes = λ pattern a group k g. grouped-made a g;
      least = λ pattern classes out a room group k g supposed. rw (replied-is a room) (least-classes a g supposed);
      ours = λ pattern classes out a room. ours-such a room;
    }
