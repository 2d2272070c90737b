-- What a call answers, in document 01's terms: "The answer is either a result or a refusal that holds its number and, inside it, which
-- file was meant". A call's answer is a `Result` whose error is the refusal.
use Rattle.std.specs.Prelude.{◌∷◌, Result, Ok, Err}
use Rattle.base_lists.specs.Kit.{List, [], ℕ}
use Rattle.file_format.specs.declared.Refusal.{Refusal}
use Rattle.file_format.specs.declared.Size.{Size}
use Rattle.file_format.specs.Refusals.{Verdict, accept, refuse}

-- accepted, or refused by a number and a file; and the values replied with
pub record Reply : Type 0 where
  pub verdict : Verdict
  pub values : List ℕ

-- a refusal of a call that replies with values has none of them
unfoldable pub reply : Verdict → List ℕ → Reply
reply accept values = record { verdict = accept; values = values }
reply (refuse x) values = record { verdict = refuse x; values = [] }

-- accepted, or refused: whatever the value is
unfoldable pub verdict_of : {A : Type 0} → Result A Refusal → Verdict
verdict_of (Ok a) = accept
verdict_of (Err x) = refuse x

-- the reader's: N and M
unfoldable pub read_reply : Result Size Refusal → Reply
read_reply (Ok size) = record { verdict = accept; values = size.nodes ∷ size.links ∷ [] }
read_reply (Err x) = record { verdict = refuse x; values = [] }

-- of a call that replies with one number
unfoldable pub number_reply : Result ℕ Refusal → Reply
number_reply (Ok k) = record { verdict = accept; values = k ∷ [] }
number_reply (Err x) = record { verdict = refuse x; values = [] }
