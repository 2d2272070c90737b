-- The calls as a host program sees them: each reply is a struct of numbers, in which number 0 stands for acceptance.
-- What is below gives document 01's reply in that form; the calls themselves are those of the crates below.
use Rattle.base_lists.specs.Kit.{cond, List, ℕ}
use Rattle.file_format.specs.Layout.{CircuitFile}
use Rattle.file_format.specs.Reading.{ReadOutcome}
use Rattle.heronditch_reply.specs.Replies.{HostOut, verdict_number, meant_file, slots, counted, pieced}
use Rattle.call_convert.specs.Call.{ConvertOutcome}
use Rattle.call_distance.specs.Calls.{BallOutcome}
use Rattle.file_write.specs.Writing.{WriteOutcome}
use Rattle.call_match.specs.Call.{TableOutcome, matching}
use Rattle.call_bounded.specs.Call.{bounded_matching}
use Rattle.place.specs.Outcome.{PlaceOutcome}
use Rattle.barring.specs.Outcome.{BarOutcome}
use Rattle.call_merge.specs.Call.{MergeOutcome}
use Rattle.call_test_board.specs.Call.{TestBoardOutcome}
use Rattle.report_answer.specs.Call.{ReportOutcome}
use Rattle.std.specs.Prelude.{Result}
use Rattle.call_shelf.specs.declared.compare.FileRefusal.{FileRefusal}
use Rattle.std.specs.declared.cmp.Ordering.{Ordering}
use Rattle.call_shelf.specs.Compare.{compare_reply}
use Rattle.call_shelf.specs.Shelf.{ShelfOutcome}
use Rattle.heronditch_reply.specs.declared.HostReply.{HostReply}
use Rattle.heronditch_reply.specs.declared.Counted.{Counted}
use Rattle.heronditch_reply.specs.declared.Piece.{Piece}
use Rattle.heronditch_told.specs.Told.{told, is_third}
use Rattle.heronditch.specs.declared.shelf.Comparison.{Comparison}

pub record HostRead : Type 0 where
  pub reply : HostReply
  pub kinds : List ℕ
  pub packages : List ℕ
  pub starts : List ℕ
  pub ends : List ℕ

abbrev pub read_as : HostReply → List ℕ → List ℕ → List ℕ → List ℕ → HostRead
read_as r kinds packages starts ends =
    record { reply = r; kinds = kinds; packages = packages; starts = starts; ends = ends }

unfoldable pub host_read : ReadOutcome → HostRead
host_read o = record { reply = slots o.reply; kinds = o.kinds; packages = o.packages; starts = o.starts; ends = o.ends }

unfoldable pub host_write : WriteOutcome → HostOut
host_write o = record { reply = slots o.reply; out = o.out }

unfoldable pub host_convert : ConvertOutcome → HostOut
host_convert o = record { reply = slots o.reply; out = o.out }

unfoldable pub host_ball : BallOutcome → HostOut
host_ball o = record { reply = slots o.reply; out = o.out }

pub record HostTable : Type 0 where
  pub reply : Counted
  pub table : List ℕ

-- The whole-board call, told the pattern's edition by a number: "Only Ask 7's whole-board call takes this edition", the
-- third.
unfoldable pub matching_told : List ℕ → ℕ → CircuitFile → List ℕ → TableOutcome
matching_told pattern edition board table = cond (is_third edition) (bounded_matching pattern board table) (matching (told pattern edition) board table)

unfoldable pub host_match : TableOutcome → HostTable
host_match o = record { reply = counted o.reply; table = o.table }

pub record HostPlace : Type 0 where
  pub reply : Counted
  pub nodes : List ℕ
  pub links : List ℕ
  pub table : List ℕ
  pub distances : List ℕ

abbrev pub placed_as : Counted → List ℕ → List ℕ → List ℕ → List ℕ → HostPlace
placed_as r nodes links table distances =
    record { reply = r; nodes = nodes; links = links; table = table; distances = distances }

unfoldable pub host_place : PlaceOutcome → HostPlace
host_place o = record { reply = counted o.reply; nodes = o.nodes; links = o.links; table = o.table; distances = o.distances }

unfoldable pub host_bar : BarOutcome → HostOut
host_bar o = record { reply = slots o.reply; out = o.out }

pub record HostMerge : Type 0 where
  pub reply : HostReply
  pub classes : List ℕ
  pub out : List ℕ

unfoldable pub host_merge : MergeOutcome → HostMerge
host_merge o = record { reply = slots o.reply; classes = o.classes; out = o.out }

unfoldable pub host_test_board : TestBoardOutcome → HostOut
host_test_board o = record { reply = slots o.reply; out = o.out }

pub record HostReport : Type 0 where
  pub reply : Piece
  pub out : List ℕ

unfoldable pub host_report : ReportOutcome → HostReport
host_report o = record { reply = pieced o.reply; out = o.out }

-- which of the two files is meant, and the order found
unfoldable pub host_compare : Result Ordering FileRefusal → Comparison
host_compare answer =
    let c = compare_reply answer in
    record { number = verdict_number c.verdict; file = meant_file c.verdict; which = c.which; order = c.order }

unfoldable pub host_shelf : ShelfOutcome → HostOut
host_shelf o = record { reply = slots o.reply; out = o.order }
