-- What the call comes to, by cases: a refused file, a centre outside, bytes of another length, or yes or no. Assumes
-- nothing.
use Rattle.std.specs.Prelude.{◌≡◌, Result, Ok, Err}
use Rattle.base_lists.specs.Kit.{◌∙◌, sym, ap, Bool, List, ℕ, length}
use Rattle.graph.specs.Circuit.{Circuit}
use Rattle.graph.specs.Search.{radius}
use Rattle.file_format.specs.declared.Role.TheVariants.{Pattern}
use Rattle.file_format.specs.declared.Refusal.{Refusal}
use Rattle.file_format.specs.Circuit.{circuit_of}
use Rattle.file_format.specs.Layout.{CircuitFile, starts_of, ends_of}
use Rattle.file_format.specs.Reading.{prefix}
use Rattle.file_format.specs.Refusals.{Verdict, accept, refuse, first}
use Rattle.file_format.specs.Reply.{Reply, reply, verdict_of}
use Rattle.file_format.proofs.Fields.{length-labels, length-starts}
use Rattle.file_format.proofs.Refusals.{first-accept, first-refuse}
use Rattle.call_decide.specs.Decide.{bytes_conditions}
use Rattle.file_pair.specs.declared.Pair.{Pair}
use Rattle.file_pair.specs.Pair.{pair_conditions, BothRead}
use Rattle.file_pair.proofs.Both.{pair-radius}
use Rattle.place.specs.Match.{radius_of}
use Rattle.proposal.specs.Check.{checks}
use Rattle.call_check.specs.Call.{check_reply, check_conditions, check_call, check_on}

-- ---- two circuits

module _ (r : ℕ) (p b : Circuit) (w : ℕ) (nodes links : List ℕ) where
  -- the verdict on the centre and the bytes
  abbrev told : Verdict
  told = first (bytes_conditions (length b.labels) (length b.starts) w (length nodes) (length links))

  module _ {A : Type 0} {v : Result A Refusal} (says : verdict_of v ≡ told) where
    pub on-refused : {x : Refusal} → v ≡ Err x → check_reply (Err x) ≡ check_on r p b w nodes links
    unfolding check_reply check_on reply verdict_of
    on-refused e = rw (sym says ∙ ap verdict_of e)

    on-accepted : {a : A} → v ≡ Ok a → told ≡ accept
    unfolding verdict_of
    on-accepted e = sym says ∙ ap verdict_of e

    pub on-judged : {a : A} → v ≡ Ok a → {t : Bool} → t ≡ checks p b w r nodes links → check_reply (Ok t) ≡ check_on r p b w nodes links
    unfolding check_on reply check_reply
    on-judged e s = rw (on-accepted e, s)

-- ---- two files

module _ (pattern board : CircuitFile) (w : ℕ) (nodes links : List ℕ) where
  pub check-refused : {x : Refusal} → first (pair_conditions Pattern pattern board) ≡ refuse x → check_reply (Err x) ≡ check_call pattern board w nodes links
  unfolding check_reply check_call check_conditions reply
  check-refused e = rw (first-refuse _ _ _ e)

  check-accepted : first (pair_conditions Pattern pattern board) ≡ accept →
      check_on (radius_of (circuit_of pattern)) (circuit_of pattern) (circuit_of board) w nodes links ≡ check_call pattern board w nodes links
  unfolding check_on check_call check_conditions
  check-accepted e = rw (first-accept _ _ e, length-labels board, length-starts board)

  pub check-read : {p : Pair} {parts host : Circuit} → BothRead Pattern pattern board p parts host → {o : Reply} →
      o ≡ check_on p.radius (prefix p.parts p.joins parts) (prefix p.nodes p.links host) w nodes links → o ≡ check_call pattern board w nodes links
  unfolding radius_of
  check-read read e =
      let own = pair-radius read ∙ sym (ap (λ (n : ℕ). radius n (starts_of pattern) (ends_of pattern)) (length-labels pattern)) in
      (rw (own, read.drawn.content, read.given.content) at e) ∙ check-accepted read.verdict
