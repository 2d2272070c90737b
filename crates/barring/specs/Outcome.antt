-- What looking for the least that still bars comes to: the reply, and the lent bytes' later content, from the inputs alone.
use Rattle.std.specs.Prelude.{◌∷◌}
use Rattle.base_lists.specs.Kit.{List, [], ℕ}
use Rattle.graph.specs.Circuit.{Circuit}
use Rattle.file_format.specs.Reading.{filled}
use Rattle.file_format.specs.Refusals.{Verdict, first, centre_placed}
use Rattle.file_format.specs.Reply.{Reply, reply}
use Rattle.place.specs.Match.{found}
use Rattle.barring.specs.Least.{least, kept_count}

-- the reply, and the bytes as the call leaves them
pub record BarOutcome : Type 0 where
  pub reply : Reply
  pub out : List ℕ

-- what a verdict comes to: "a byte per link, 1 for kept, .. the reply is how many are 1"; nothing is written on a refusal
unfoldable pub barring : Verdict → Circuit → Circuit → ℕ → ℕ → List ℕ → BarOutcome
barring verdict pattern board w r out =
    let marks = least pattern board w r in
    record { reply = reply verdict (kept_count marks ∷ []); out = filled verdict marks out }

-- around a centre, of sound circuits and bytes that are long enough: 15 where it has a place
unfoldable pub bar_around : Circuit → Circuit → ℕ → ℕ → List ℕ → BarOutcome
bar_around pattern board w r out = barring (first (centre_placed (found pattern board w r) ∷ [])) pattern board w r out
