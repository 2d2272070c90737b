-- Replies as a host program sees them: structs of numbers, in which number 0 stands for acceptance.
use Rattle.std.specs.Prelude.{◌∷◌}
use Rattle.base_lists.specs.Kit.{List, [], ℕ, length, get_or}
use Rattle.file_format.specs.declared.File.{File}
use Rattle.file_format.specs.declared.File.TheVariants.{Pattern, Board, Neither}
use Rattle.file_format.specs.Reading.{filled}
use Rattle.file_format.specs.Refusals.{Verdict, accept, refuse, first, short_table}
use Rattle.file_format.specs.Reply as files
use Rattle.table.specs.Reply as table
use Rattle.table.specs.declared.Counts.{Counts}
use Rattle.heronditch_reply.specs.declared.HostReply.{HostReply}
use Rattle.heronditch_reply.specs.declared.Counted.{Counted}
use Rattle.heronditch_reply.specs.declared.Piece.{Piece}

-- the file that a refusal means
unfoldable pub file_number : File → ℕ
file_number Neither = 0
file_number Pattern = 1
file_number Board = 2

-- acceptance is number 0 of neither file
unfoldable pub verdict_number : Verdict → ℕ
verdict_number accept = 0
verdict_number (refuse x) = x.number

unfoldable pub meant_file : Verdict → ℕ
meant_file accept = 0
meant_file (refuse x) = file_number x.file

-- up to two values replied with; a slot without one is 0
unfoldable pub slots : files.Reply → HostReply
slots r =
    record { number = verdict_number r.verdict; file = meant_file r.verdict; first = get_or r.values 0 0; second = get_or r.values 1 0 }

-- a number and a file with four counts
abbrev pub counted_as : ℕ → ℕ → Counts → Counted
counted_as number file k =
    record { number = number; file = file; started = k.started; kept = k.kept; struck = k.struck; rounds = k.rounds }

-- the four counts replied with
unfoldable pub counted : table.MatchReply → Counted
counted r = counted_as (verdict_number r.verdict) (meant_file r.verdict) r.counts

-- where the report goes on, how many centres had a place, and how many bytes were put
unfoldable pub pieced : files.Reply → Piece
pieced r =
    record {
      number = verdict_number r.verdict;
      file = meant_file r.verdict;
      next = get_or r.values 0 0;
      found = get_or r.values 1 0;
      size = get_or r.values 2 0;
    }

pub record HostOut : Type 0 where
  pub reply : HostReply
  pub out : List ℕ

-- The neighbour lookup hands out a stretch of one of two tables. C has no form for that: the stretch is copied to the
-- front of the lent table, and its length replied; 8 where it does not fit.
unfoldable pub host_neighbours : List ℕ → List ℕ → HostOut
host_neighbours part out =
    let verdict = first (short_table (length part) (length out) ∷ []) in
    record { reply = slots (files.reply verdict (length part ∷ [])); out = filled verdict part out }
