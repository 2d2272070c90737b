-- Ask 13: what a list of cuts comes to, without the machine. Assumes nothing.
use Rattle.std.specs.Prelude.{◌≡◌, ◌↔◌, ◌&&◌, ◌||◌, ◌∷◌, ◌≤◌, ◌<◌}
use Rattle.base_lists.specs.Kit.{◌∙◌, sym, ap, refl, subst, ap₂, iff_rfl, iff_trans, Bool, false, true, cond, not, and-true, List, [], ℕ, T, eqb, ltb, length, take, drop, take_at, drop_at, lt-ltb, not-true}
use Rattle.base_lists.specs.List.{any}
use Rattle.base_lists.proofs.Tests.{both_true, both_right, T_true, true-T}
use Rattle.graph.specs.Chosen.{chosen, ChosenLink}
use Rattle.graph.specs.Circuit.{Circuit, LinkAt, HasLink, circuit_graph, graph_of}
use Rattle.graph.specs.Search.{inside}
use Rattle.graph.proofs.Chosen.{chosen-iff}
use Rattle.simulation.specs.Perfect.{SameGraph}
use Rattle.simulation.specs.Simulation.{Largest}
use Rattle.simulation.proofs.Same.{same_refl, largest-same}
use Rattle.file_format.specs.Circuit.{circuit_of}
use Rattle.file_format.specs.Layout.{CircuitFile, nodes_of, links_of}
use Rattle.file_format.specs.Refusals.{Verdict, accept, refuse, first, link_gone}
use Rattle.file_format.specs.Reply.{Reply, reply}
use Rattle.file_format.proofs.Fields.{length-labels, length-starts}
use Rattle.table.specs.Fill.{listed}
use Rattle.table.specs.Host.{KindsMatch}
use Rattle.table.specs.Row.{InTable}
use Rattle.call_match.specs.Call.{match_conditions}
use Rattle.call_session.specs.Call.{OpenPromise}
use Rattle.call_session.proofs.Promise as call
use Rattle.session.specs.Machine as of
use Rattle.session.specs.Machine.{Machine, fresh, is_left, cut_reply, cut_machine, machine_after, board_left, machine_table}
use Rattle.session.specs.Session.{ReadPromise, Cuts}
use Rattle.session.specs.State.{State}
use Rattle.session.proofs.Left.{fresh-left, left-inside, below_left}
use Rattle.session.proofs.Run.{cut_keeps, length-table, left_after, after_same}
use Rattle.demands.specs.Cutting.{fourteen, cut_replies, left_of, Ask13}
use Rattle.demands.specs.Demands.{graph, equal}

-- ---- the replies

-- by whether the link is left
cut-reply : (m : Machine) (linkIndex : ℕ) (b : Bool) → is_left m linkIndex ≡ b → cut_reply m linkIndex ≡ cond b accept (refuse fourteen)
unfolding cut_reply first link_gone
cut-reply m linkIndex true e = rw e
cut-reply m linkIndex false e = rw e

-- from a machine of which those links are left whose places were not named
replies-from :
    (linkIndices : List ℕ) (m : Machine) (k : ℕ) (earlier : List ℕ) → ((i : ℕ) → is_left m i ≡ ltb i k && not (listed earlier i)) →
    of.replies m linkIndices ≡ cut_replies k earlier linkIndices
unfolding of.replies cut_replies listed any
replies-from [] m k earlier left = refl
replies-from (linkIndex ∷ linkIndices) m k earlier left =
    ap₂ (λ (x : Verdict) (xs : List Verdict). x ∷ xs) (said (is_left m linkIndex) refl)
    (replies-from linkIndices (cut_machine m linkIndex) k (linkIndex ∷ earlier)
    (λ i. cut_keeps m linkIndex i ∙ ap (λ (b : Bool). b && not (eqb linkIndex i)) (left i) ∙ go (ltb i k) (any (λ w. eqb w i) earlier) (eqb linkIndex i)))
  where
    said : (b : Bool) → is_left m linkIndex ≡ b → cut_reply m linkIndex ≡ cond (ltb linkIndex k && not (any (λ w. eqb w linkIndex) earlier)) accept (refuse fourteen)
    said b e = cut-reply m linkIndex b e ∙ ap (λ (c : Bool). cond c accept (refuse fourteen)) (sym e ∙ left linkIndex)

    go : (a b c : Bool) → (a && not b) && not c ≡ a && not (c || b)
    go true true true = refl
    go true true false = refl
    go true false true = refl
    go true false false = refl
    go false b c = refl

-- ---- the links left

module _ (m : Machine) (P B : Circuit) (same_pattern : m.pattern ≡ P) (sameBoard : m.board ≡ B) (linkIndices : List ℕ)
    (left : (i : ℕ) → is_left m i ≡ ltb i (length B.starts) && not (listed linkIndices i)) where
  kept-link : (v w : ℕ) →
      HasLink (board_left m).starts (board_left m).ends v w ↔ ((i : ℕ) × LinkAt B.starts B.ends v w i × (listed linkIndices i ≡ false))
  unfolding board_left ChosenLink
  kept-link v w = iff_trans (chosen-iff m.board m.left v w) (to, from)
    where
      to : (i : ℕ) × LinkAt m.board.starts m.board.ends v w i × T (inside m.left i) → (i : ℕ) × LinkAt B.starts B.ends v w i × (listed linkIndices i ≡ false)
      to (i, l, t) =
          let here : T (is_left m i) = below_left m i l.in_starts t in
          (i, rw sameBoard at l, not-true _ (T_true (both_right (ltb i (length B.starts)) (not (listed linkIndices i)) (rw (left i) at here))))

      from : (i : ℕ) × LinkAt B.starts B.ends v w i × (listed linkIndices i ≡ false) → (i : ℕ) × LinkAt m.board.starts m.board.ends v w i × T (inside m.left i)
      from (i, l, e) =
          let here : T (is_left m i) = rw (left i) (both_true (ltb i (length B.starts)) (not (listed linkIndices i)) (true-T (lt-ltb i _ l.in_starts)) (true-T (ap not e))) in
          (i, rw sameBoard l, left-inside m i here)

-- ---- every list of cuts

module _ (pattern board : CircuitFile) (before opened after : State) (linkIndices : List ℕ) (said : List Verdict)
    (begun : OpenPromise pattern board before accept opened) (cuts : Cuts opened linkIndices said after) where
  abbrev P : Circuit
  P = circuit_of pattern

  abbrev B : Circuit
  B = circuit_of board

  abbrev m : Machine
  m = machine_after (fresh P B) linkIndices

  first-left : (i : ℕ) → is_left (fresh P B) i ≡ ltb i (links_of board)
  first-left i = fresh-left P B i ∙ ap (ltb i) (length-starts board)

  replies : said ≡ cut_replies (links_of board) [] linkIndices
  unfolding listed any
  replies = (call.session-run begun linkIndices said after cuts).0 ∙ replies-from linkIndices (fresh P B) (links_of board) [] (λ i. first-left i ∙ sym (and-true (ltb i (links_of board))))

  same : (m.pattern ≡ P) × (m.board ≡ B)
  unfolding fresh
  same = after_same linkIndices (fresh P B)

  largest : Largest (graph pattern) (equal pattern board) (left_of board linkIndices) (InTable (machine_table m))
  unfolding left_of circuit_graph graph_of board_left chosen KindsMatch
  largest =
      largest-same
      (subst (λ (c : Circuit). SameGraph (circuit_graph m.pattern) (circuit_graph c)) same.0 (same_refl (circuit_graph m.pattern)))
      (record {
        nodes = λ v. subst (λ (c : Circuit). (v < length m.board.labels) ↔ (v < length c.labels)) same.1 iff_rfl;
        links = kept-link m P B same.0 same.1 linkIndices (λ i. left_after linkIndices (fresh P B) i ∙ ap (λ (b : Bool). b && not (listed linkIndices i)) (fresh-left P B i));
      })
      (record { agree = λ u v h k. agreeing u v })
      (call.session-largest begun linkIndices said after cuts)
    where
      agreeing : (u v : ℕ) → KindsMatch m.pattern (board_left m) u v ↔ KindsMatch P B u v
      agreeing u v =
          subst (λ (c : Circuit). KindsMatch m.pattern (board_left m) u v ↔ KindsMatch c B u v) same.0
          (subst (λ (c : Circuit). KindsMatch m.pattern (board_left m) u v ↔ KindsMatch m.pattern c u v) same.1 iff_rfl)

  nodes : length m.board.labels ≡ nodes_of board
  nodes = ap (λ (c : Circuit). length c.labels) same.1 ∙ length-labels board

  table : (lent later : List ℕ) (answer : Reply) → ReadPromise after lent answer later → nodes_of board ≤ length lent →
      (answer ≡ reply accept (nodes_of board ∷ []))
      × Largest (graph pattern) (equal pattern board) (left_of board linkIndices) (InTable (take (nodes_of board) later))
      × (drop (nodes_of board) later ≡ drop (nodes_of board) lent)
  table lent later answer read room =
      let (a, t) = call.session-table begun linkIndices said after cuts read (rw nodes room) in
      let long : length (machine_table m) ≡ nodes_of board = length-table m ∙ nodes in (
        a ∙ ap (λ (n : ℕ). reply accept (n ∷ [])) nodes,
        subst (λ (x : List ℕ). Largest (graph pattern) (equal pattern board) (left_of board linkIndices) (InTable x))
            (sym (ap (take (nodes_of board)) t ∙ take_at (machine_table m) _ (nodes_of board) long)) largest,
        ap (drop (nodes_of board)) t ∙ drop_at (machine_table m) _ (nodes_of board) long ∙ ap (λ (n : ℕ). drop n lent) long,
      )

pub ask-13 : Ask13
unfolding match_conditions
ask-13 =
    record {
      conditions = λ pattern board lent. refl;
      replies = replies;
      table = table;
    }
