-- `heronditch_told::direction_of` meets its contract: a number below 2, or another. Assumes nothing.
use borrow.Author.Tests.{lt-ltb, le-ltb}
use Rattle.heronditch_told.specs.Told.{direction_of}
use Rattle.heronditch_told.proofs.direction_of.Goals as goal

pub returns-then-number-lt2 : goal.returns-then-number-lt2
unfolding direction_of
returns-then-number-lt2 c = simp (lt-ltb _ _ c.if-number-lt2.true)

pub returns : goal.returns
unfolding direction_of
returns c = simp (le-ltb _ _ c.if-number-lt2.false)
