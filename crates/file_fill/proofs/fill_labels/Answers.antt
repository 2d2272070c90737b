-- `file_fill::fill_labels` meets its contract: the labels are made from the two stretches. Assumes nothing.
use Rattle.file_format.specs.Layout.{labels_from}
use Rattle.file_fill.proofs.fill_labels.Goals as goal

pub returns : goal.returns
unfolding labels_from
returns c =
    rw (← c.package_count-p.ensures.0, ← c.stretch.ensures.1, ← c.stretch-2.ensures.1)
    c.store_labels.ensures
