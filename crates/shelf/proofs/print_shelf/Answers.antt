use Rattle.std.proofs.Common.{sym, length-take-le}
use Rattle.shelf.specs.Printing.{ShelfHanded}
use Rattle.shelf_files.proofs.Reading.{few-files}
use Rattle.shelf.proofs.Printing.{text-prefix, text-size, numbers-size, numbers-room, lines_fit, lines-printed, handed-prefix}
use Rattle.shelf.proofs.print_shelf.Goals as goal

pub slice_bounds-shelf-end : goal.slice_bounds-shelf-end
slice_bounds-shelf-end c = sym (length-take-le _ _ (few-files _ _ c.requires.notes_len.1))

pub returns-in_default : goal.returns-in_default
unfolding ShelfHanded
returns-in_default c = c.requires.most_files_in_bounds.2

pub slice_bounds-put_numbers-end : goal.slice_bounds-put_numbers-end
slice_bounds-put_numbers-end c =
    let r = c.requires in
    numbers-room _ _ _ _ _ _ _ r.notes_len.0 r.notes_len.1 c.shelf.ensures c.in-Ok.is r.most_files_in_bounds.0 c.shelf.auto.order

pub slice_bounds-put_numbers-end-2 : goal.slice_bounds-put_numbers-end-2
slice_bounds-put_numbers-end-2 c =
    let r = c.requires in
    sym (numbers-size _ _ _ _ _ _ _ r.notes_len.0 r.notes_len.1 c.shelf.ensures c.in-Ok.is)

pub put_numbers-size-requires : goal.put_numbers-size-requires
put_numbers-size-requires c =
    let r = c.requires in
    lines_fit _ _ _ _ _ _ _ r.notes_len.0 r.notes_len.1 c.shelf.ensures c.in-Ok.is _ r.most_files_in_bounds.1

pub slice_bounds-hand-end : goal.slice_bounds-hand-end
slice_bounds-hand-end c =
    let r = c.requires in
    let fits = lines_fit _ _ _ _ _ _ _ r.notes_len.0 r.notes_len.1 c.shelf.ensures c.in-Ok.is _ r.most_files_in_bounds.1 in
    text-size c.put_numbers-size.ensures fits

pub slice_bounds-hand-end-2 : goal.slice_bounds-hand-end-2
slice_bounds-hand-end-2 c =
    let r = c.requires in
    let fits = lines_fit _ _ _ _ _ _ _ r.notes_len.0 r.notes_len.1 c.shelf.ensures c.in-Ok.is _ r.most_files_in_bounds.1 in
    sym (length-take-le _ _ (text-size c.put_numbers-size.ensures fits))

pub hand-requires : goal.hand-requires
hand-requires c =
    let r = c.requires in
    let fits = lines_fit _ _ _ _ _ _ _ r.notes_len.0 r.notes_len.1 c.shelf.ensures c.in-Ok.is _ r.most_files_in_bounds.1 in (
      r.most_files_in_bounds.2,
      lines-printed _ _ _ _ _ _ _ r.notes_len.0 r.notes_len.1 c.shelf.ensures c.in-Ok.is _ (text-prefix c.put_numbers-size.ensures fits),
    )

pub returns : goal.returns
returns c =
    let r = c.requires in
    let fits = lines_fit _ _ _ _ _ _ _ r.notes_len.0 r.notes_len.1 c.shelf.ensures c.in-Ok.is _ r.most_files_in_bounds.1 in
    let prefix = lines-printed _ _ _ _ _ _ _ r.notes_len.0 r.notes_len.1 c.shelf.ensures c.in-Ok.is _ (text-prefix c.put_numbers-size.ensures fits) in
    handed-prefix _ _ _ _ _ prefix (sym (length-take-le _ _ (text-size c.put_numbers-size.ensures fits))) c.hand.ensures
