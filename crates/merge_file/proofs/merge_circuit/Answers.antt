-- `merge_file::merge_circuit` meets its contract: its tables have room for every merged pattern, which is made and written, and writing it is not
-- refused. Assumes nothing.
use Rattle.std.specs.Prelude.{◌≡◌}
use Rattle.base_lists.specs.Kit.{sym, lit≤, length, take}
use Rattle.base_lists.proofs.Parts.{length-take-room}
use Rattle.graph.specs.Circuit.{circuit}
use Rattle.merge.proofs.Content.{PatternContent}
use Rattle.merge_quotient.proofs.Passes.{sound-content}
use Rattle.merge_file.proofs.Written.{quotient-size, asked, written-answer, merged-from}
use Rattle.merge_file.proofs.merge_circuit.Goals as goal
use Rattle.merge_file.proofs.merge_circuit.Goals.{After-me-2-1, Start}

content : (c : Start) → PatternContent ((circuit c.args.labels.now c.args.starts.now c.args.ends.now))
content c = sound-content _ _ _ c.requires.ends_value

pub quotient-merged-requires : goal.quotient-merged-requires
quotient-merged-requires c = record {
  ends_value = c.requires.ends_value;
  classes_len = c.requires.classes_len.0;
  in_bounds = (lit≤ tt, lit≤ tt, lit≤ tt);
}

-- each front has the size that was counted
size :
    (c : After-me-2-1) →
    (length (take c.quotient-merged.result.nodes c.quotient-merged.new.mk) ≡ c.quotient-merged.result.nodes) × (length (take c.quotient-merged.result.links c.quotient-merged.new.ms) ≡ c.quotient-merged.result.links) × (length (take c.quotient-merged.result.links c.quotient-merged.new.me) ≡ c.quotient-merged.result.links)
size c = quotient-size (sound-content _ _ _ c.requires.ends_value) c.quotient-merged.ensures

pub slice_bounds-mk-end : goal.slice_bounds-mk-end
slice_bounds-mk-end c = length-take-room _ _ (size (goal.at.slice_bounds-mk-end c).After-me-2-1).0

pub slice_bounds-write_circuit-end : goal.slice_bounds-write_circuit-end
slice_bounds-write_circuit-end c = sym (size (goal.at.slice_bounds-write_circuit-end c).After-me-2-1).0

pub slice_bounds-ms-end : goal.slice_bounds-ms-end
slice_bounds-ms-end c = length-take-room _ _ (size (goal.at.slice_bounds-ms-end c).After-me-2-1).1

pub slice_bounds-write_circuit-end-2 : goal.slice_bounds-write_circuit-end-2
slice_bounds-write_circuit-end-2 c = sym (size (goal.at.slice_bounds-write_circuit-end-2 c).After-me-2-1).1

pub slice_bounds-me-end : goal.slice_bounds-me-end
slice_bounds-me-end c = length-take-room _ _ (size (goal.at.slice_bounds-me-end c).After-me-2-1).2

pub slice_bounds-write_circuit-end-3 : goal.slice_bounds-write_circuit-end-3
slice_bounds-write_circuit-end-3 c = sym (size (goal.at.slice_bounds-write_circuit-end-3 c).After-me-2-1).2

pub write_circuit-written-requires : goal.write_circuit-written-requires
write_circuit-written-requires c =
    asked (content (goal.at.write_circuit-written-requires c).Start) _ c.quotient-merged.ensures c.requires.labels_fit

-- ---- written
pub unwrap-requires : goal.unwrap-requires
unwrap-requires c =
    rw (written-answer (content (goal.at.unwrap-requires c).Start) _ c.quotient-merged.ensures _ c.requires.classes_len.1 c.write_circuit-written.ensures)

pub returns : goal.returns
returns c =
    merged-from (content (goal.at.returns c).Start) _ c.quotient-merged.ensures _ c.requires.classes_len.1 c.write_circuit-written.ensures c.unwrap.ensures
