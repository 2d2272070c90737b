-- What the calls that match reply: the verdict, and the four counts.
use Rattle.file_format.specs.Refusals.{Verdict, accept, refuse}
use Rattle.table.specs.declared.Counts.{Counts}

-- "counts are 0"
unfoldable pub no_counts : Counts
no_counts = record { started = 0; kept = 0; struck = 0; rounds = 0 }

-- What document 01 says of a reply: accepted, or refused by a number and with the file that is meant; and the four counts.
pub record MatchReply : Type 0 where
  pub verdict : Verdict
  pub counts : Counts

-- the reply to a verdict, where acceptance has these counts
unfoldable pub counts_reply : Verdict → Counts → MatchReply
counts_reply accept counts = record { verdict = accept; counts = counts }
counts_reply (refuse x) counts = record { verdict = refuse x; counts = no_counts }
