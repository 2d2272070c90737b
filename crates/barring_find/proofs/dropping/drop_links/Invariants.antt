-- `barring_find::dropping::drop_links` meets its contract. The loop's invariant: the links before i are gone through, and what is left to do comes to
-- the kept links. Assumes nothing.
use Rattle.barring_find.proofs.Drops.{Dropping}
use Rattle.barring_find.proofs.dropping.drop_links.Given as goal

abbrev pub invariant-loop-i : goal.invariant-loop-i
invariant-loop-i l = Dropping l.starts l.ends l.offsets l.targets l.w l.nodes l.first l.marks l.i
