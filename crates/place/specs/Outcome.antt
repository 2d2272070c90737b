-- What finding a place comes to: the reply, and each lent table's later content, from the inputs alone.
use Rattle.std.specs.Prelude.{Result, Ok, Err}
use Rattle.base_lists.specs.Kit.{cond, List, ℕ}
use Rattle.graph.specs.Circuit.{Circuit}
use Rattle.file_format.specs.declared.File.TheVariants.{Neither}
use Rattle.file_format.specs.Reading.{filled}
use Rattle.file_format.specs.Refusals.{Verdict, accept, refuse}
use Rattle.table.specs.declared.Counts.{Counts}
use Rattle.table.specs.Refine.{counts_of}
use Rattle.table.specs.Reply.{MatchReply}
use Rattle.place.specs.declared.NoPlace.{NoPlace}
use Rattle.place.specs.Match.{ball_of, distances_of, found, place_nodes, place_links, place_table}

-- number, file and counts of each case of the answer
unfoldable pub place_reply : Result Counts NoPlace → MatchReply
place_reply (Ok counts) = record { verdict = accept; counts = counts }
place_reply (Err none) = record { verdict = refuse none.refusal; counts = none.counts }

-- the reply, and the four tables as the call leaves them
pub record PlaceOutcome : Type 0 where
  pub reply : MatchReply
  pub nodes : List ℕ
  pub links : List ℕ
  pub table : List ℕ
  pub distances : List ℕ

-- ---- the place around a centre, of sound circuits and tables that are long enough

-- 9 no place around the centre
unfoldable pub place_verdict : Circuit → Circuit → ℕ → ℕ → Verdict
place_verdict pattern board w r = cond (found pattern board w r) accept (refuse (record { number = 9; file = Neither }))

-- "The call returns the four counts for the whole ball and fills a byte per board node and one per board link .., and a table"; "9 carries
-- the ball's counts" too. "Both place calls fill one more table with these entries for their ball, whether a node is in the place or not".
unfoldable pub place_around : Circuit → Circuit → ℕ → ℕ → List ℕ → List ℕ → List ℕ → List ℕ → PlaceOutcome
place_around pattern board w r nodes links table distances =
    let verdict = place_verdict pattern board w r in
    record {
      reply = record { verdict = verdict; counts = counts_of pattern board (ball_of board w r) };
      nodes = filled verdict (place_nodes pattern board w r) nodes;
      links = filled verdict (place_links pattern board w r) links;
      table = filled verdict (place_table pattern board w r) table;
      distances = filled verdict (distances_of board w r) distances;
    }
