-- `heronditch_reply::file_number` meets its contract, file by file. Assumes nothing.
use Rattle.heronditch_reply.specs.Replies.{file_number}
use Rattle.heronditch_reply.proofs.file_number.Goals as goal

pub returns-in-Neither : goal.returns-in-Neither
unfolding file_number
returns-in-Neither c = rw c.in-Neither.is

pub returns-in-Pattern : goal.returns-in-Pattern
unfolding file_number
returns-in-Pattern c = rw c.in-Pattern.is

pub returns-in-Board : goal.returns-in-Board
unfolding file_number
returns-in-Board c = rw c.in-Board.is
