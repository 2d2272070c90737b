-- What the promise of the exported calls means: a refusal is a condition on the inputs, or there is no perfect
-- subgraph; else what the tables mark is the place, and the table is the largest dual simulation in it. Assumes
-- nothing.
use Rattle.std.specs.Prelude.{◌≡◌, ◌↔◌, ◌⊎◌, ◌++◌, ◌≤◌, ◌<◌}
use Rattle.base_lists.specs.Kit.{◌∙◌, sym, ap, ⊎_elim, inl, inr, List, ℕ, T, ltb, length, get_or, take, drop, get_or-append, take_at, drop_at, arith, lt-ltb, not-false, ltb-true}
use Rattle.base_lists.proofs.Tests.{T_true, T_false, decide}
use Rattle.graph.specs.Circuit.{Circuit, circuit_graph}
use Rattle.graph.specs.Graph.{Graph, DistanceEntry}
use Rattle.graph.specs.Search as search
use Rattle.graph.proofs.Distance.{distances-entry}
use Rattle.simulation.specs.Simulation.{Largest}
use Rattle.simulation.specs.Perfect.{Perfect, Place}
use Rattle.file_format.specs.declared.File.TheVariants.{Neither}
use Rattle.file_format.specs.declared.Refusal.{Refusal}
use Rattle.file_format.specs.declared.Role.TheVariants.{Pattern, Board}
use Rattle.file_format.specs.Circuit.{circuit_of}
use Rattle.file_format.specs.Layout.{CircuitFile, nodes_of, links_of, starts_of, ends_of}
use Rattle.file_format.specs.Reading.{filled}
use Rattle.file_format.specs.Refusals.{Condition, accept, refuse, first, file_conditions, centre_outside, Accepted}
use Rattle.file_format.proofs.Accepted.{accepted-bounded}
use Rattle.file_format.proofs.Fields.{length-labels, length-starts}
use Rattle.file_format.proofs.Refusals.{accepted, first-accept, first-parts, first_holds}
use Rattle.file_pair.specs.Pair.{pair_conditions}
use Rattle.file_pair.proofs.Both.{pair-accept, pair_parts}
use Rattle.table.specs.Reply.{no_counts}
use Rattle.table.specs.Host.{KindsMatch}
use Rattle.table.specs.Refine.{counts_of}
use Rattle.table.specs.Row.{InTable}
use Rattle.place.specs.Match.{ball_of, distances_of, found, place_nodes, place_links, place_table, marked_graph}
use Rattle.place.specs.Outcome.{PlaceOutcome, place_verdict, place_around}
use Rattle.call_place.specs.Call.{input_conditions, decided, place_at}
use Rattle.call_decide.proofs.Rooms.{room-holds, room-enough}
use Rattle.place.proofs.Accepted.{accepted-admissible}
use Rattle.place.proofs.Ball.{Admissible}
use Rattle.place.proofs.Marks.{nodes-marks, links-marks, length-table, length-ball_distances}
use Rattle.place.proofs.Place.{place_found, none-iff, place-table}

-- number 9, of neither file
abbrev pub nine : Refusal
nine = record { number = 9; file = Neither }

refuse-not-accept : {x : Refusal} → refuse x ≡ accept → ⊥
refuse-not-accept e = let z : ◌≡◌ {A = ℕ} 0 1 = cc in omega arith

-- ---- the verdict on a centre

module _ (pattern board : Circuit) (w r : ℕ) where
  verdict-found : T (found pattern board w r) → place_verdict pattern board w r ≡ accept
  unfolding place_verdict
  verdict-found t = rw (T_true {b = found pattern board w r} t)

  verdict-none : (T (found pattern board w r) → ⊥) → place_verdict pattern board w r ≡ refuse nine
  unfolding place_verdict
  verdict-none f = rw (T_false {b = found pattern board w r} f)

  pub found-verdict : place_verdict pattern board w r ≡ accept → T (found pattern board w r)
  found-verdict e = ⊎_elim (λ t. t) (λ f. absurd (refuse-not-accept (sym (verdict-none f) ∙ e))) (decide (found pattern board w r))

  pub none-verdict : place_verdict pattern board w r ≡ refuse nine → T (found pattern board w r) → ⊥
  none-verdict e t = refuse-not-accept (sym e ∙ verdict-found t)

-- ---- a call

module _ (pattern board : CircuitFile) (w r : ℕ) (nodes links table distances : List ℕ) where
  -- the two circuits, the conditions on the inputs, and what the call comes to
  abbrev P : Circuit
  P = circuit_of pattern

  abbrev B : Circuit
  B = circuit_of board

  abbrev inputs : List Condition
  inputs = input_conditions pattern board w (length nodes) (length links) (length table) (length distances)

  abbrev result : PlaceOutcome
  result = place_at pattern board w r nodes links table distances

  -- A condition on the inputs that holds, and no other holds before it, refuses: "All lent tables keep their content;
  -- counts are 0".
  pub input-refused :
      (x : Refusal) → first inputs ≡ refuse x →
      (result.reply.verdict ≡ refuse x) × (result.reply.counts ≡ no_counts) × (result.nodes ≡ nodes) × (result.links ≡ links) × (result.table ≡ table) × (result.distances ≡ distances)
  unfolding place_at decided
  input-refused x e = (rw e, rw e, rw e, rw e, rw e, rw e)

  -- None holds where both files are accepted, the centre is a node and the tables are long enough,
  pub inputs-accept :
      Accepted Pattern pattern → Accepted Board board → w < nodes_of board → nodes_of board ≤ length nodes → links_of board ≤ length links →
      nodes_of board ≤ length table → nodes_of board ≤ length distances → first inputs ≡ accept
  unfolding input_conditions first centre_outside
  inputs-accept a b h n m t d =
      rw (first-accept _ _ (pair-accept Pattern pattern board a b), lt-ltb _ _ h)
      (room-enough (nodes_of board) (links_of board) (length nodes) (length links) (length table) (length distances) n m t d)

  -- and only there.
  module _ (sound : first inputs ≡ accept) where
    result-is : result ≡ place_around P B w r nodes links table distances
    unfolding place_at decided
    result-is = rw sound

    pub verdict-is : result.reply.verdict ≡ place_verdict P B w r
    unfolding place_around
    verdict-is = ap (λ (o : PlaceOutcome). o.reply.verdict) result-is

    -- what the conditions say, in their order
    parts : (first (file_conditions Pattern pattern) ≡ accept) × (first (file_conditions Board board) ≡ accept) × (w < nodes_of board)
    unfolding input_conditions centre_outside
    parts =
        let (files, rest) = first-parts (pair_conditions Pattern pattern board) _ sound in
        let (drawn, given) = pair_parts Pattern pattern board files in
        (drawn, given, ltb-true w (nodes_of board) (not-false (ltb w (nodes_of board)) (first_holds _ _ rest).0))

    pub centre-inside : w < nodes_of board
    centre-inside = parts.2

    pub distances_room : nodes_of board ≤ length distances
    unfolding input_conditions
    distances_room = (room-holds _ _ _ _ _ _ (first_holds _ _ (first-parts (pair_conditions Pattern pattern board) _ sound).1).1).3

    pub pattern-accepted : Accepted Pattern pattern
    pattern-accepted = accepted Pattern pattern parts.0

    pub board-accepted : Accepted Board board
    board-accepted = accepted Board board parts.1

    admissible : Admissible P B
    admissible = accepted-admissible pattern-accepted board-accepted

    -- The counts are those of the ball's row, whether there is a place or not.
    pub counts-are : result.reply.counts ≡ counts_of P B (ball_of B w r)
    unfolding place_around
    counts-are = ap (λ (o : PlaceOutcome). o.reply.counts) result-is

    -- ---- no place

    -- The call is accepted, or refused with 9; 9 exactly when there is no perfect subgraph around the centre at the
    -- radius.
    pub accept-or-nine : (result.reply.verdict ≡ accept) ⊎ (result.reply.verdict ≡ refuse nine)
    accept-or-nine = ⊎_elim (λ t. inl (verdict-is ∙ verdict-found P B w r t)) (λ f. inr (verdict-is ∙ verdict-none P B w r f)) (decide (found P B w r))

    pub nine-iff :
        (result.reply.verdict ≡ refuse nine) ↔
        ((G : Graph) → Perfect (circuit_graph P) (KindsMatch P B) (circuit_graph B) w r G → ⊥)
    nine-iff = (
      λ e. (none-iff admissible w r).0 (none-verdict P B w r (sym verdict-is ∙ e)),
      λ none. verdict-is ∙ verdict-none P B w r ((none-iff admissible w r).1 none),
    )

    -- 9 too leaves the tables as they were
    pub nine-keeps : result.reply.verdict ≡ refuse nine → (result.nodes ≡ nodes) × (result.links ≡ links) × (result.table ≡ table) × (result.distances ≡ distances)
    unfolding place_around filled
    nine-keeps e =
        let v : place_verdict P B w r ≡ refuse nine = sym verdict-is ∙ e in
        (rw (result-is, v), rw (result-is, v), rw (result-is, v), rw (result-is, v))

    -- ---- the place

    module _ (accepts : result.reply.verdict ≡ accept) where
      ok : place_verdict P B w r ≡ accept
      ok = sym verdict-is ∙ accepts

      is_found : T (found P B w r)
      is_found = found-verdict P B w r ok

      nodes-are : result.nodes ≡ place_nodes P B w r ++ drop (length (place_nodes P B w r)) nodes
      unfolding place_around filled
      nodes-are = rw (result-is, ok)

      links-are : result.links ≡ place_links P B w r ++ drop (length (place_links P B w r)) links
      unfolding place_around filled
      links-are = rw (result-is, ok)

      table_is : result.table ≡ place_table P B w r ++ drop (length (place_table P B w r)) table
      unfolding place_around filled
      table_is = rw (result-is, ok)

      distances-are : result.distances ≡ distances_of B w r ++ drop (length (distances_of B w r)) distances
      unfolding place_around filled
      distances-are = rw (result-is, ok)

      distances-size : length (distances_of B w r) ≡ nodes_of board
      distances-size = length-ball_distances B w r ∙ length-labels board

      -- the first N node bytes, M link bytes and N sets are the place's, and the first N distances the ball's
      pub nodes-prefix : take (nodes_of board) result.nodes ≡ place_nodes P B w r
      nodes-prefix = rw nodes-are (take_at (place_nodes P B w r) _ (nodes_of board) ((nodes-marks P B w r).size ∙ length-labels board))

      pub links-prefix : take (links_of board) result.links ≡ place_links P B w r
      links-prefix = rw links-are (take_at (place_links P B w r) _ (links_of board) ((links-marks P B w r).size ∙ length-starts board))

      pub table-prefix : take (nodes_of board) result.table ≡ place_table P B w r
      table-prefix = rw table_is (take_at (place_table P B w r) _ (nodes_of board) (length-table P B w r ∙ length-labels board))

      pub distances-prefix : take (nodes_of board) result.distances ≡ distances_of B w r
      distances-prefix = rw distances-are (take_at (distances_of B w r) _ (nodes_of board) distances-size)

      -- "Accepted calls leave entries past those needed."
      pub nodes-rest : drop (nodes_of board) result.nodes ≡ drop (nodes_of board) nodes
      nodes-rest =
          let size : length (place_nodes P B w r) ≡ nodes_of board = (nodes-marks P B w r).size ∙ length-labels board in
          rw nodes-are (drop_at (place_nodes P B w r) _ (nodes_of board) size ∙ ap (λ (k : ℕ). drop k nodes) size)

      pub links-rest : drop (links_of board) result.links ≡ drop (links_of board) links
      links-rest =
          let size : length (place_links P B w r) ≡ links_of board = (links-marks P B w r).size ∙ length-starts board in
          rw links-are (drop_at (place_links P B w r) _ (links_of board) size ∙ ap (λ (k : ℕ). drop k links) size)

      pub table-rest : drop (nodes_of board) result.table ≡ drop (nodes_of board) table
      table-rest =
          let size : length (place_table P B w r) ≡ nodes_of board = length-table P B w r ∙ length-labels board in
          rw table_is (drop_at (place_table P B w r) _ (nodes_of board) size ∙ ap (λ (k : ℕ). drop k table) size)

      pub distances-rest : drop (nodes_of board) result.distances ≡ drop (nodes_of board) distances
      distances-rest = rw distances-are (drop_at (distances_of B w r) _ (nodes_of board) distances-size ∙ ap (λ (k : ℕ). drop k distances) distances-size)

      -- "each node's distance from the centre, and 65,535 for a node outside the ball", "whether a node is in the place
      -- or not"
      pub distances-mean : (v : ℕ) → v < nodes_of board → DistanceEntry (circuit_graph B) w r v (get_or result.distances v 0)
      unfolding circuit_graph distances_of
      distances-mean v h =
          let few = (accepted-bounded board-accepted).nodes in
          rw (distances-are, get_or-append (distances_of B w r) (drop (length (distances_of B w r)) distances) 0 v (rw distances-size h))
          (distances-entry admissible.links w r v 0 (omega arith) (rw (length-labels board) h))

      -- the table is as a ball lookup would leave it
      pub distances-ball : result.distances ≡ search.distances (nodes_of board) (starts_of board) (ends_of board) w r ++ drop (nodes_of board) distances
      unfolding distances_of
      distances-ball = distances-are ∙ rw (distances-size, length-labels board)

      -- the subgraph of the board that those bytes mark
      abbrev pub marked : Graph
      marked = marked_graph B (take (nodes_of board) result.nodes) (take (links_of board) result.links)

      -- It is the place: perfect, and it contains every other perfect subgraph.
      pub marked-place : Place (circuit_graph P) (KindsMatch P B) (circuit_graph B) w r marked
      marked-place = rw (nodes-prefix, links-prefix) (place_found admissible w r is_found)

      -- The table is the largest dual simulation of the pattern in it.
      pub marked-largest : Largest (circuit_graph P) (KindsMatch P B) marked (InTable (take (nodes_of board) result.table))
      marked-largest = rw (nodes-prefix, links-prefix, table-prefix) (place-table admissible w r is_found)
