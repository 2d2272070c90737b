-- `call_convert_file::convert_through` meets its contract: the file is refused, or its circuit, at the front of the tables, is converted. Assumes nothing.
use mathlib.Core.Path.{◌≡◌, sym}
use Rattle.std.proofs.Common.{Err, arith}
use Rattle.std.proofs.lemmas.Grind.{common_steps}
use Rattle.base_lists.proofs.Parts.{length-take-room}
use Rattle.call_convert.proofs.Converting.{Whole, converting-refused, whole-turned, whole-read, whole-sizes, whole-circuit, whole-converted}
use Rattle.call_convert_file.proofs.convert_through.Goals as goal
use Rattle.call_convert_file.proofs.convert_through.Goals.{In_ok-size}

-- what was read stands at the front of the tables
stood :
    (c : In_ok-size) →
    Whole c.args.role c.args.from c.args.file.now c.in_ok-size.size.nodes c.in_ok-size.size.links c.read.new.kinds c.read.new.packages c.read.new.starts c.read.new.ends
stood c =
    whole-read _ _ _ _ _ _ _ c.requires.in_bounds c.read.ensures c.requires.below c.in_ok-size.was

pub slice_bounds-convert_circuit-end : goal.slice_bounds-convert_circuit-end
slice_bounds-convert_circuit-end c = length-take-room _ _ (whole-sizes (stood (goal.at.slice_bounds-convert_circuit-end c).In_ok-size)).0

pub slice_bounds-convert_circuit-end-2 : goal.slice_bounds-convert_circuit-end-2
slice_bounds-convert_circuit-end-2 c = sym (whole-sizes (stood (goal.at.slice_bounds-convert_circuit-end-2 c).In_ok-size)).0

pub slice_bounds-convert_circuit-end-3 : goal.slice_bounds-convert_circuit-end-3
slice_bounds-convert_circuit-end-3 c = length-take-room _ _ (whole-sizes (stood (goal.at.slice_bounds-convert_circuit-end-3 c).In_ok-size)).1

pub slice_bounds-convert_circuit-end-4 : goal.slice_bounds-convert_circuit-end-4
slice_bounds-convert_circuit-end-4 c = sym (whole-sizes (stood (goal.at.slice_bounds-convert_circuit-end-4 c).In_ok-size)).1

pub slice_bounds-convert_circuit-end-5 : goal.slice_bounds-convert_circuit-end-5
slice_bounds-convert_circuit-end-5 c = length-take-room _ _ (whole-sizes (stood (goal.at.slice_bounds-convert_circuit-end-5 c).In_ok-size)).2

pub slice_bounds-convert_circuit-end-6 : goal.slice_bounds-convert_circuit-end-6
slice_bounds-convert_circuit-end-6 c = sym (whole-sizes (stood (goal.at.slice_bounds-convert_circuit-end-6 c).In_ok-size)).2

pub slice_bounds-convert_circuit-end-7 : goal.slice_bounds-convert_circuit-end-7
slice_bounds-convert_circuit-end-7 c = length-take-room _ _ (whole-sizes (stood (goal.at.slice_bounds-convert_circuit-end-7 c).In_ok-size)).3

pub slice_bounds-convert_circuit-end-8 : goal.slice_bounds-convert_circuit-end-8
slice_bounds-convert_circuit-end-8 c = sym (whole-sizes (stood (goal.at.slice_bounds-convert_circuit-end-8 c).In_ok-size)).3

pub convert_circuit-requires : goal.convert_circuit-requires
convert_circuit-requires c = whole-circuit (stood (goal.at.convert_circuit-requires c).In_ok-size) _

pub returns : goal.returns
returns c = whole-converted (stood (goal.at.returns c).In_ok-size) _ _ c.convert_circuit.ensures

pub returns-in_err-size : goal.returns-in_err-size
returns-in_err-size c =
    let e : c.from_residual.result ≡ Err c.in_err-size.field-0.0 = grind (arith, common_steps) in
    rw e (converting-refused _ _ _ _ _ (whole-turned _ _ _ _ _ _ _ c.requires.in_bounds c.read.ensures c.in_err-size.was))
