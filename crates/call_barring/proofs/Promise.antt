-- What the promise of the call means: 15 exactly where the centre has a place; else the bytes mark links that bar, of
-- which none can be spared. Assumes nothing.
use Rattle.std.specs.Prelude.{◌≡◌, ◌↔◌, ◌∷◌, ◌++◌, ◌≤◌, ◌<◌}
use Rattle.base_lists.specs.Kit.{◌∙◌, sym, ap, ⊎_elim, List, [], ℕ, T, length, take, drop, take_at, drop_at, le-ltb, lt-ltb}
use Rattle.base_lists.proofs.Tests.{T_true, T_false, false-T, decide}
use Rattle.graph.specs.Chosen.{ChosenLink}
use Rattle.graph.specs.Circuit.{Circuit, circuit_graph}
use Rattle.graph.specs.Graph.{Graph}
use Rattle.simulation.specs.Closed.{Relation, ◌⊆◌}
use Rattle.simulation.specs.Perfect.{Perfect, Place}
use Rattle.file_format.specs.declared.File.TheVariants.{Neither}
use Rattle.file_format.specs.declared.Refusal.{Refusal}
use Rattle.file_format.specs.declared.Role.TheVariants.{Pattern, Board}
use Rattle.file_format.specs.Circuit.{circuit_of}
use Rattle.file_format.specs.Layout.{CircuitFile, nodes_of, links_of}
use Rattle.file_format.specs.Reading.{filled}
use Rattle.file_format.specs.Refusals.{accept, refuse, first, centre_outside, short_table, centre_placed, Accepted}
use Rattle.file_format.specs.Reply.{reply}
use Rattle.file_format.proofs.Fields.{length-starts}
use Rattle.file_format.proofs.Refusals.{accepted, accept-not-refuse, first-accept, first_holds, first-parts, reply-verdict}
use Rattle.file_pair.specs.Pair.{pair_conditions}
use Rattle.file_pair.proofs.Both.{pair-accept, pair_parts}
use Rattle.table.specs.Host.{KindsMatch}
use Rattle.place.specs.Match.{radius_of, found}
use Rattle.place.proofs.Accepted.{accepted-admissible, accepted-radius}
use Rattle.place.proofs.Ball.{Admissible}
use Rattle.place.proofs.Place.{found-place, none-iff}
use Rattle.barring.specs.Barring.{Bars}
use Rattle.barring.specs.Least.{least, kept_count}
use Rattle.barring.specs.Outcome.{BarOutcome, barring}
use Rattle.barring.proofs.Least.{all-bar, least_size, least-bars, least-needed, bars-radius}
use Rattle.call_barring.specs.Call.{has_place, bar_inputs, bar_call}

-- number 15, of neither file
abbrev pub fifteen : Refusal
fifteen = record { number = 15; file = Neither }

module _ (pattern board : CircuitFile) (w : ℕ) (out : List ℕ) where
  abbrev P : Circuit
  P = circuit_of pattern

  abbrev B : Circuit
  B = circuit_of board

  abbrev r : ℕ
  r = radius_of P

  abbrev result : BarOutcome
  result = bar_call pattern board w out

  -- The verdict is that of the first condition that holds.
  pub verdict-is : result.reply.verdict ≡ first (bar_inputs pattern board w (length out))
  unfolding bar_call barring
  verdict-is = reply-verdict _ _

  -- Nothing is written on a refusal, and it has no value.
  pub refused-keeps : (x : Refusal) → first (bar_inputs pattern board w (length out)) ≡ refuse x → (result.reply.values ≡ []) × (result.out ≡ out)
  unfolding bar_call barring reply filled
  refused-keeps x e = (rw e, rw e)

  -- ---- whether the centre has a place

  -- Where both files are accepted, the centre is a node and the bytes are long enough,
  module _ (a : Accepted Pattern pattern) (b : Accepted Board board) (h : w < nodes_of board) (room : links_of pattern ≤ length out) where
    admissible : Admissible P B
    admissible = accepted-admissible a b

    inputs_are : first (bar_inputs pattern board w (length out)) ≡ first (centre_placed (found P B w r) ∷ [])
    unfolding bar_inputs first centre_outside short_table has_place
    inputs_are = rw (first-accept _ _ (pair-accept Pattern pattern board a b)) (simp (lt-ltb _ _ h, le-ltb _ _ room))

    placed-verdict : T (found P B w r) → result.reply.verdict ≡ refuse fifteen
    unfolding first centre_placed
    placed-verdict t = verdict-is ∙ inputs_are ∙ rw (T_true {b = found P B w r} t)

    none-verdict : (T (found P B w r) → ⊥) → result.reply.verdict ≡ accept
    unfolding first centre_placed
    none-verdict f = verdict-is ∙ inputs_are ∙ rw (T_false {b = found P B w r} f)

    pub fifteen-found : (result.reply.verdict ≡ refuse fifteen) ↔ T (found P B w r)
    fifteen-found = (λ e. ⊎_elim (λ t. t) (λ f. absurd (accept-not-refuse (sym (none-verdict f) ∙ e))) (decide (found P B w r)), placed-verdict)

    pub accept-none : (result.reply.verdict ≡ accept) ↔ (T (found P B w r) → ⊥)
    accept-none = (λ e t. accept-not-refuse (sym e ∙ placed-verdict t), none-verdict)

    -- it is 15 exactly when there is a place around the centre at the pattern's radius,
    pub fifteen-iff : (result.reply.verdict ≡ refuse fifteen) ↔ ((G : Graph) × Place (circuit_graph P) (KindsMatch P B) (circuit_graph B) w r G)
    fifteen-iff = (λ e. (found-place admissible w r).0 (fifteen-found.0 e), λ p. fifteen-found.1 ((found-place admissible w r).1 p))

    -- and accepted exactly when there is no perfect subgraph,
    pub accept-iff : (result.reply.verdict ≡ accept) ↔ ((G : Graph) → Perfect (circuit_graph P) (KindsMatch P B) (circuit_graph B) w r G → ⊥)
    accept-iff = (λ e. (none-iff admissible w r).0 (accept-none.0 e), λ n. accept-none.1 ((none-iff admissible w r).1 n))

    -- which is exactly when all links together bar.
    pub accept-bars : (result.reply.verdict ≡ accept) ↔ Bars (circuit_graph P) (KindsMatch P B) (circuit_graph B) w (circuit_graph P).Link
    accept-bars =
        let same = bars-radius P B w r (accepted-radius a) (circuit_graph P).Link in (
          λ e. same.0 ((all-bar admissible w r).0 (accept-none.0 e)),
          λ d. accept-none.1 ((all-bar admissible w r).1 (same.1 d)),
        )

  -- ---- the kept links, wherever the call is accepted

  module _ (accepts : result.reply.verdict ≡ accept) where
    sound : first (bar_inputs pattern board w (length out)) ≡ accept
    sound = sym verdict-is ∙ accepts

    pub pattern-accepted : Accepted Pattern pattern
    unfolding bar_inputs
    pattern-accepted = accepted Pattern pattern (pair_parts Pattern pattern board (first-parts (pair_conditions Pattern pattern board) _ sound).0).0

    pub board-accepted : Accepted Board board
    unfolding bar_inputs
    board-accepted = accepted Board board (pair_parts Pattern pattern board (first-parts (pair_conditions Pattern pattern board) _ sound).0).1

    none : T (found P B w r) → ⊥
    unfolding bar_inputs centre_placed has_place
    none =
        let rest = (first-parts (pair_conditions Pattern pattern board) _ sound).1 in
        let (_, room) = first_holds _ _ rest in
        let (_, last) = first_holds _ _ room in
        false-T (first_holds _ _ last).0

    fits : Admissible P B
    fits = accepted-admissible pattern-accepted board-accepted

    size : length (least P B w r) ≡ links_of pattern
    size = least_size fits w r ∙ length-starts pattern

    out-is : result.out ≡ least P B w r ++ drop (length (least P B w r)) out
    unfolding bar_call barring filled
    out-is = rw sound

    -- the first M bytes are those of the procedure, and the others as they were; the reply is how many of them are 1
    pub bytes-prefix : take (links_of pattern) result.out ≡ least P B w r
    bytes-prefix = rw out-is (take_at (least P B w r) _ (links_of pattern) size)

    pub bytes_rest : drop (links_of pattern) result.out ≡ drop (links_of pattern) out
    bytes_rest = rw out-is (drop_at (least P B w r) _ (links_of pattern) size ∙ ap (λ (k : ℕ). drop k out) size)

    values : result.reply.values ≡ kept_count (least P B w r) ∷ []
    unfolding bar_call barring reply
    values = rw sound

    pub values-are : result.reply.values ≡ kept_count (take (links_of pattern) result.out) ∷ []
    values-are = values ∙ ap (λ (marks : List ℕ). kept_count marks ∷ []) (sym bytes-prefix)

    -- the links that the bytes mark
    abbrev pub Kept : Relation
    Kept = ChosenLink P (take (links_of pattern) result.out)

    -- "The kept links bar,
    pub kept-bars : Bars (circuit_graph P) (KindsMatch P B) (circuit_graph B) w Kept
    kept-bars = rw bytes-prefix ((bars-radius P B w r (accepted-radius pattern-accepted) (ChosenLink P (least P B w r))).0 (least-bars fits w r none))

    -- and with any one or more of them taken away the rest does not."
    pub kept-needed :
        (L : Relation) → L ⊆ Kept → (u u' : ℕ) → Kept u u' → (L u u' → ⊥) → Bars (circuit_graph P) (KindsMatch P B) (circuit_graph B) w L → ⊥
    kept-needed L fewer u u' k gone d =
        least-needed fits w r none L (λ x x' m. rw bytes-prefix at (fewer x x' m)) u u' (rw bytes-prefix at k) gone
        ((bars-radius P B w r (accepted-radius pattern-accepted) L).1 d)
