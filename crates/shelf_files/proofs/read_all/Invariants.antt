-- The files before the i-th are there, and their bytes end at the place.
use Rattle.std.proofs.Common.{◌≤◌, ◌*◌}
use Rattle.shelf_files.specs.Reading.{most_bytes, FileReached}
use Rattle.shelf_files.proofs.read_all.Given as goal

abbrev pub invariant-loop-i : goal.invariant-loop-i
invariant-loop-i l = (l.at ≤ most_bytes * l.i) × FileReached l.notes l.i l.at
