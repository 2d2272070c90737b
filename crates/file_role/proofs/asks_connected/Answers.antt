-- `file_role::asks_connected` meets its contract, by cases on the role. Assumes nothing.
use Rattle.file_format.specs.Refusals.{asks_connected}
use Rattle.file_role.proofs.asks_connected.Goals as goal

pub returns-in-Pattern : goal.returns-in-Pattern
unfolding asks_connected
returns-in-Pattern c = rw c.in-Pattern.is

pub returns-in-Board : goal.returns-in-Board
unfolding asks_connected
returns-in-Board c = rw c.in-Board.is

pub returns-in-AnyPattern : goal.returns-in-AnyPattern
unfolding asks_connected
returns-in-AnyPattern c = rw c.in-AnyPattern.is
