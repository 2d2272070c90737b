use Rattle.std.proofs.Common.{sym, arith}
use Rattle.shelf.specs.Printing.{ShelfRan}
use Rattle.shelf_files.proofs.Reading.{unreadable-under}
use Rattle.shelf.proofs.Printing.{ran-begun}
use Rattle.shelf.proofs.shelve.Goals as goal

pub cannot_read-requires : goal.cannot_read-requires
cannot_read-requires c =
    omega (arith, unreadable-under _ _ (sym c.in-Err.ensures), c.read_all-taken.auto.notes, c.requires.most_bytes_in_bounds.1)

pub returns-in-Ok : goal.returns-in-Ok
returns-in-Ok c = rw c.ended.ensures (ran-begun _ _ _ _ _ _ (sym c.in-Ok.ensures) c.print_shelf-whole.ensures)

pub returns-in-Err : goal.returns-in-Err
unfolding ShelfRan
returns-in-Err c = (sym c.in-Err.ensures, c.requires.most_files_in_bounds.2)
