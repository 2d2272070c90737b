-- `file_links::links_rise` meets its contract. The loop's invariant: of the links passed each number is below the next one's. Assumes nothing.

use Rattle.file_links.proofs.LinkTests.{Rose}
use Rattle.file_links.proofs.links_rise.Given as goal

abbrev pub invariant-loop-i : goal.invariant-loop-i
invariant-loop-i l = Rose l.starts l.ends l.last l.i
