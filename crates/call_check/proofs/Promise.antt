-- What the promise of the exported call means: a refusal is a condition on the inputs; else yes exactly when the bytes
-- mark a perfect subgraph around the centre at the pattern's radius. Assumes nothing.
use Rattle.std.specs.Prelude.{◌≡◌, ◌↔◌, ◌⊎◌, ◌∷◌, ◌<◌}
use Rattle.base_lists.specs.Kit.{◌∙◌, sym, ap, ⊎_elim, inl, inr, iff_trans, Bool, false, true, List, [], ℕ, T, eqb, ltb, length, get_or, arith, eq-eqb, lt-ltb, eqb-true, not-false, ltb-true}
use Rattle.base_lists.proofs.Tests.{T_true, T_false, decide}
use Rattle.graph.specs.Circuit.{Circuit, circuit_graph}
use Rattle.graph.specs.Graph.{Radius}
use Rattle.file_format.specs.declared.Refusal.{Refusal}
use Rattle.file_format.specs.declared.Role.TheVariants.{Pattern, Board}
use Rattle.file_format.specs.Circuit.{circuit_of}
use Rattle.file_format.specs.Layout.{CircuitFile, nodes_of, links_of}
use Rattle.file_format.specs.Refusals.{Condition, accept, refuse, first, centre_outside, other_length, Accepted}
use Rattle.file_format.specs.Reply.{Reply, reply}
use Rattle.file_format.proofs.Accepted.{accepted-bounded}
use Rattle.file_format.proofs.Refusals.{accepted, first-accept, first-parts, first_holds}
use Rattle.file_pair.specs.Pair.{pair_conditions}
use Rattle.file_pair.proofs.Both.{pair-accept, pair_parts}
use Rattle.place.specs.Match.{radius_of}
use Rattle.place.proofs.Accepted.{accepted-admissible, accepted-radius}
use Rattle.place.proofs.Ball.{Admissible}
use Rattle.proposal.specs.Check.{checks}
use Rattle.proposal.specs.Meaning.{PerfectMarks}
use Rattle.proposal.proofs.Perfect.{checks-iff}
use Rattle.call_check.specs.Call.{yes_value, check_conditions, check_call}

-- yes, no
abbrev pub says-yes : Reply
says-yes = record { verdict = accept; values = 1 ∷ [] }

abbrev pub says-no : Reply
says-no = record { verdict = accept; values = 0 ∷ [] }

module _ (pattern board : CircuitFile) (w : ℕ) (nodes links : List ℕ) where
  -- the two circuits, the conditions on the inputs, and what the call comes to
  abbrev P : Circuit
  P = circuit_of pattern

  abbrev B : Circuit
  B = circuit_of board

  abbrev inputs : List Condition
  inputs = check_conditions pattern board w (length nodes) (length links)

  abbrev result : Reply
  result = check_call pattern board w nodes links

  abbrev judged : Bool
  judged = checks P B w (radius_of P) nodes links

  -- A condition on the inputs that holds, and no other holds before it, refuses.
  pub input-refused : (x : Refusal) → first inputs ≡ refuse x → result ≡ record { verdict = refuse x; values = [] }
  unfolding check_call reply
  input-refused x e = rw e

  -- None holds where both files are accepted, the centre is a node and the bytes are N and M in number,
  pub inputs-accept :
      Accepted Pattern pattern → Accepted Board board → w < nodes_of board → length nodes ≡ nodes_of board → length links ≡ links_of board → first inputs ≡ accept
  unfolding check_conditions first centre_outside other_length
  inputs-accept a b h n m =
      rw (first-accept _ _ (pair-accept Pattern pattern board a b))
      (simp (lt-ltb _ _ h, eq-eqb _ _ n, eq-eqb _ _ m))

  -- and only there.
  module _ (sound : first inputs ≡ accept) where
    -- what the conditions say, in their order
    pub parts : Accepted Pattern pattern × Accepted Board board × (w < nodes_of board) × (length nodes ≡ nodes_of board) × (length links ≡ links_of board)
    unfolding check_conditions centre_outside other_length
    parts =
        let (files, rest) = first-parts (pair_conditions Pattern pattern board) _ sound in
        let (drawn, given) = pair_parts Pattern pattern board files in
        let (c, bytes) = first_holds _ _ rest in
        let (n, last) = first_holds _ _ bytes in (
          accepted Pattern pattern drawn,
          accepted Board board given,
          ltb-true w (nodes_of board) (not-false (ltb w (nodes_of board)) c),
          eqb-true _ _ (not-false (eqb (length nodes) (nodes_of board)) n),
          eqb-true _ _ (not-false (eqb (length links) (links_of board)) (first_holds _ _ last).0),
        )

    pub admissible : Admissible P B
    admissible = accepted-admissible parts.0 parts.1

    -- the radius is the pattern's
    pub radius-own : Radius (circuit_graph P) (radius_of P)
    radius-own = accepted-radius parts.0

    answer-is : (b : Bool) → judged ≡ b → result ≡ record { verdict = accept; values = yes_value b ∷ [] }
    unfolding check_call reply
    answer-is b e = rw (sound, e)

    -- The call says yes or no.
    pub yes_or_no : (result ≡ says-yes) ⊎ (result ≡ says-no)
    yes_or_no = ⊎_elim (λ t. inl (answer-is true (T_true t))) (λ f. inr (answer-is false (T_false f))) (decide judged)

    result-yes : (result ≡ says-yes) ↔ T judged
    result-yes = (
      λ e. ⊎_elim (λ t. t) (λ f. absurd (apart (sym (answer-is false (T_false f)) ∙ e))) (decide judged),
      λ t. answer-is true (T_true t),
    )
      where
        apart : says-no ≡ says-yes → ⊥
        apart e = let z : ◌≡◌ {A = ℕ} 0 1 = ap (λ (o : Reply). get_or o.values 0 0) e in omega arith

    -- Yes exactly when every byte is 0 or 1, every marked link has both its ends marked, and what is marked is a
    -- perfect subgraph around the centre at the pattern's radius. The answer depends on the bytes alone: "Whoever
    -- proposed it, a yes means the same".
    pub yes_iff : (result ≡ says-yes) ↔ PerfectMarks P B w (radius_of P) nodes links
    yes_iff = iff_trans result-yes (checks-iff admissible w (radius_of P) nodes links (accepted-bounded parts.1).parallel)

    -- the same as a test, for laws on the calls
    pub yes-test : (result ≡ says-yes) ↔ T (checks P B w (radius_of P) nodes links)
    yes-test = result-yes
