-- `file_write::write_circuit` meets its contract: its tables have room for the kinds and the packages of every circuit. Assumes nothing.
use Rattle.base_lists.specs.Kit.{sym, length-take-le}
use Rattle.file_write.proofs.write_circuit.Goals as goal

pub slice_bounds-write_parts-end : goal.slice_bounds-write_parts-end
slice_bounds-write_parts-end c = sym (length-take-le _ _ c.requires.0)

pub slice_bounds-write_parts-end-2 : goal.slice_bounds-write_parts-end-2
slice_bounds-write_parts-end-2 c = sym (length-take-le _ _ c.requires.0)

pub write_parts-requires : goal.write_parts-requires
write_parts-requires c =
    (length-take-le _ _ c.requires.0, length-take-le _ _ c.requires.0, c.requires.1)
