-- `heronditch::shelf::which_number` meets its contract. Assumes nothing.
use Rattle.call_shelf.specs.Compare.{which_number}
use Rattle.heronditch.proofs.shelf.which_number.Goals as goal

pub returns-in-First : goal.returns-in-First
unfolding which_number
returns-in-First c = rw c.in-First.is

pub returns-in-Second : goal.returns-in-Second
unfolding which_number
returns-in-Second c = rw c.in-Second.is
