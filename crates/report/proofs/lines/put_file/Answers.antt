-- `report::lines::put_file` meets its contract, file by file. Assumes nothing.
use Rattle.base_lists.specs.Kit.{sym, ap, arith}
use Rattle.base_text.specs.Text.{bytes}
use Rattle.base_text.proofs.Text.{put-nothing, put_same}
use Rattle.report.specs.Report.{file_word}
use Rattle.report.proofs.lines.put_file.Goals as goal

pub put_bytes-requires : goal.put_bytes-requires
put_bytes-requires c = record { room = omega (arith, c.requires) }

pub put_bytes-requires-in-Board : goal.put_bytes-requires-in-Board
put_bytes-requires-in-Board c = record { room = omega (arith, c.requires) }

pub returns-in-Pattern : goal.returns-in-Pattern
unfolding file_word bytes
returns-in-Pattern c = put_same (sym (ap file_word c.in-Pattern.is)) c.put_bytes.ensures

pub returns-in-Board : goal.returns-in-Board
unfolding file_word bytes
returns-in-Board c = put_same (sym (ap file_word c.in-Board.is)) c.put_bytes-in-Board.ensures

pub returns-in-Neither : goal.returns-in-Neither
unfolding file_word
returns-in-Neither c = put_same (sym (ap file_word c.in-Neither.is)) put-nothing
