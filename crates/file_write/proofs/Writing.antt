-- What the writing call comes to, by cases of the verdict. Assumes nothing.
use Rattle.std.specs.Prelude.{◌≡◌, ◌&&◌, ◌≤◌, ◌<◌, Ok, Err}
use Rattle.base_lists.specs.Kit.{refl, Bool, false, true, cond, not, List, ℕ, T, eqb, eqb→eq, length, eq-eqb, le-ltb, lt-ltb, ltb-false}
use Rattle.base_lists.proofs.Tests.{not-true-false, both_left, both_right}
use Rattle.file_format.specs.declared.File.TheVariants.{Neither}
use Rattle.file_format.specs.declared.Refusal.{Refusal}
use Rattle.file_format.specs.declared.Edition.{Edition}
use Rattle.file_format.specs.declared.Role.{Role}
use Rattle.file_format.specs.Layout.{package_count, length_of}
use Rattle.file_format.specs.Reading.{filled}
use Rattle.file_format.specs.Refusals.{Verdict, accept, refuse, first, link_conditions, link_number, short_table, turned, by_number}
use Rattle.file_format.specs.Reply.{reply, number_reply}
use Rattle.file_format.specs.Role.{in_range}
use Rattle.file_format.proofs.Refusals.{verdict-number, first-accept, first-refuse, first-parts, first_holds}
use Rattle.file_check.specs.Circuit.{circuit_number}
use Rattle.file_write.specs.Bytes.{file_bytes}
use Rattle.file_write.specs.Writing.{packages_given, circuit_conditions, write_conditions, write_answer, writing}

-- ---- the answer and its verdict

pub answer-written : (size : ℕ) (v : Verdict) (k : ℕ) → write_answer v size ≡ Ok k → (v ≡ accept) × (k ≡ size)
unfolding write_answer
answer-written size accept k e = (refl, cc)
answer-written size (refuse y) k e = (cc, cc)

-- ---- the conditions on a circuit: the range, as many starts as ends, the links

module _ (r : Role) (e : Edition) (kinds packages starts ends : List ℕ) where
  -- the first of the conditions is the one that the circuit's number says
  pub circuit-verdict : first (circuit_conditions r e kinds packages starts ends) ≡ by_number r (circuit_number r e (length kinds) (length packages) starts ends)
  unfolding first circuit_conditions packages_given circuit_number by_number turned
  circuit-verdict = go (in_range r (length kinds) (length starts)) (eqb (length starts) (length ends) && packages_given e kinds packages)
    where
      go : (x y : Bool) → cond (not x) (turned r 2) (cond (not y) (turned r 3) (first (link_conditions r (length kinds) starts ends)))
          ≡ by_number r (cond x (cond y (link_number r (length kinds) starts ends) 3) 2)
      go true true = verdict-number r (length kinds) starts ends
      go true false = refl
      go false y = refl

  pub verdict-links : in_range r (length kinds) (length starts) ≡ true → length starts ≡ length ends → package_count e (length packages) ≡ package_count e (length kinds)
      → first (circuit_conditions r e kinds packages starts ends) ≡ first (link_conditions r (length kinds) starts ends)
  unfolding first circuit_conditions packages_given
  verdict-links b d f = simp (b, eq-eqb _ _ d, eq-eqb _ _ f)

-- What is known of a circuit of which none of the conditions 2 to 6 holds.
pub record Sound (r : Role) (e : Edition) (kinds packages starts ends : List ℕ) : Type 0 where
  pub range : T (in_range r (length kinds) (length starts))
  pub pairs : length starts ≡ length ends
  pub given : package_count e (length packages) ≡ package_count e (length kinds)
  pub links : first (link_conditions r (length kinds) starts ends) ≡ accept

pub sound : (r : Role) (e : Edition) (kinds packages starts ends : List ℕ) → first (circuit_conditions r e kinds packages starts ends) ≡ accept → Sound r e kinds packages starts ends
unfolding circuit_conditions packages_given
sound r e kinds packages starts ends a =
    let h2 = first_holds _ _ a in
    let h3 = first_holds _ _ h2.1 in
    let links = eqb (length starts) (length ends) in
    let boxes = eqb (package_count e (length packages)) (package_count e (length kinds)) in
    let many = not-true-false (links && boxes) h3.0 in
    record {
      range = not-true-false (in_range r (length kinds) (length starts)) h2.0;
      pairs = eqb→eq _ _ (both_left links boxes many);
      given = eqb→eq _ _ (both_right links boxes many);
      links = h3.1;
    }

-- ---- the call, by cases

module _ (r : Role) (e : Edition) (kinds packages starts ends out : List ℕ) where
  pub writing-refused : (x : Refusal) → first (circuit_conditions r e kinds packages starts ends) ≡ refuse x
      → writing r e kinds packages starts ends out ≡ record { answer = Err x; reply = number_reply (Err x); out = out }
  unfolding writing write_conditions write_answer number_reply reply filled
  writing-refused x q = rw (first-refuse _ _ x q)

  module _ (a : first (circuit_conditions r e kinds packages starts ends) ≡ accept) where
    pub writing-short : length out < length_of e (length kinds) (length starts)
        → writing r e kinds packages starts ends out ≡ record { answer = Err (record { number = 8; file = Neither }); reply = number_reply (Err (record { number = 8; file = Neither })); out = out }
    unfolding writing write_conditions first short_table write_answer number_reply reply filled
    writing-short h = rw (first-accept _ _ a) (simp (lt-ltb _ _ h))

    pub writing-filled : length_of e (length kinds) (length starts) ≤ length out
        → writing r e kinds packages starts ends out
        ≡ record { answer = Ok (length_of e (length kinds) (length starts)); reply = number_reply (Ok (length_of e (length kinds) (length starts))); out = filled accept (file_bytes e kinds packages starts ends) out }
    unfolding writing write_conditions first short_table write_answer number_reply reply
    writing-filled h = rw (first-accept _ _ a) (simp (le-ltb _ _ h))

  -- an accepted call has room, and no condition on the circuit holds
  pub writing-accepted : (size : ℕ) → (writing r e kinds packages starts ends out).answer ≡ Ok size
      → (first (circuit_conditions r e kinds packages starts ends) ≡ accept) × (length_of e (length kinds) (length starts) ≤ length out)
  unfolding writing write_conditions short_table
  writing-accepted size q =
      let h = first-parts _ _ (answer-written _ _ size q).0 in
      (h.0, ltb-false _ _ (first_holds _ _ h.1).0)
