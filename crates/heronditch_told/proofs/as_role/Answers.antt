-- `heronditch_told::as_role` meets its contract, by cases on what is told. Assumes nothing.
use Rattle.heronditch_told.specs.Told.{as_role}
use Rattle.heronditch_told.proofs.as_role.Goals as goal

pub returns-in-Pattern : goal.returns-in-Pattern
unfolding as_role
returns-in-Pattern c = rw c.in-Pattern.is

pub returns-in-Board : goal.returns-in-Board
unfolding as_role
returns-in-Board c = rw c.in-Board.is
