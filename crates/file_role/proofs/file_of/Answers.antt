-- `file_role::file_of` meets its contract, by cases on the role. Assumes nothing.

use Rattle.file_role.proofs.file_of.Goals as goal

pub returns-in-Pattern : goal.returns-in-Pattern
returns-in-Pattern c = rw c.in-Pattern.is

pub returns-in-Board : goal.returns-in-Board
returns-in-Board c = rw c.in-Board.is

pub returns-in-AnyPattern : goal.returns-in-AnyPattern
returns-in-AnyPattern c = rw c.in-AnyPattern.is
