-- The call that writes a circuit file, whole: its reply and the later content of the bytes lent, from the inputs alone.
use Rattle.std.specs.Prelude.{◌&&◌, ◌∷◌, ◌++◌, Result, Ok, Err}
use Rattle.base_lists.specs.Kit.{Bool, not, List, [], ℕ, eqb, length}
use Rattle.file_format.specs.declared.Edition.{Edition}
use Rattle.file_format.specs.declared.Refusal.{Refusal}
use Rattle.file_format.specs.declared.Role.{Role}
use Rattle.file_format.specs.Layout.{package_count, length_of}
use Rattle.file_format.specs.Reading.{filled}
use Rattle.file_format.specs.Refusals.{Condition, Verdict, accept, refuse, first, link_conditions, short_table}
use Rattle.file_format.specs.Reply.{Reply, reply}
use Rattle.file_format.specs.Role.{in_range, file_of}
use Rattle.file_write.specs.Bytes.{file_bytes}

-- "Writing the second with as many packages as kinds not given is 3"; the first neither needs nor touches packages
unfoldable pub packages_given : Edition → List ℕ → List ℕ → Bool
packages_given e kinds packages = eqb (package_count e (length packages)) (package_count e (length kinds))

-- What is asked of a circuit that is to be written in a role: 2 N or M outside the role's range; 3 "as many starts as ends not given", or
-- in the second edition as many packages as kinds; then the links. "Writing takes N from the kinds given and M from the starts given."
unfoldable pub circuit_conditions : Role → Edition → List ℕ → List ℕ → List ℕ → List ℕ → List Condition
circuit_conditions role e kinds packages starts ends =
    record { number = 2; file = file_of role; holds = not (in_range role (length kinds) (length starts)) } ∷
    record { number = 3; file = file_of role; holds = not (eqb (length starts) (length ends) && packages_given e kinds packages) } ∷
    link_conditions role (length kinds) starts ends

-- "Needed: .. writing the file's length"
unfoldable pub write_conditions : Role → Edition → List ℕ → List ℕ → List ℕ → List ℕ → ℕ → List Condition
write_conditions role e kinds packages starts ends lent =
    circuit_conditions role e kinds packages starts ends ++ (short_table (length_of e (length kinds) (length starts)) lent ∷ [])

-- "Writing .. replies with the file's length."
unfoldable pub write_answer : Verdict → ℕ → Result ℕ Refusal
write_answer accept size = Ok size
write_answer (refuse x) size = Err x

-- the answer, what it is in document 01's terms (Reply `number_reply`), and the bytes lent as the call leaves them
pub record WriteOutcome : Type 0 where
  pub answer : Result ℕ Refusal
  pub reply : Reply
  pub out : List ℕ

unfoldable pub writing : Role → Edition → List ℕ → List ℕ → List ℕ → List ℕ → List ℕ → WriteOutcome
writing role e kinds packages starts ends out =
    let verdict = first (write_conditions role e kinds packages starts ends (length out)) in
    record {
      answer = write_answer verdict (length_of e (length kinds) (length starts));
      reply = reply verdict (length_of e (length kinds) (length starts) ∷ []);
      out = filled verdict (file_bytes e kinds packages starts ends) out;
    }
