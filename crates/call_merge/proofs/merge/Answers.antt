-- `call_merge::merge` meets its contract: the pattern is refused, or one of the two tables is short, or the pattern is merged. Assumes nothing.
use mathlib.Core.Path.{◌≡◌, ◌∙◌, sym}
use Rattle.std.proofs.Common.{Err, arith}
use Rattle.std.proofs.lemmas.Grind.{common_steps}
use Rattle.base_lists.specs.Kit.{le_trans, le_of_eq, length-take-le}
use Rattle.graph.specs.Circuit.{circuit}
use Rattle.file_format.specs.declared.Role.TheVariants.{Pattern}
use Rattle.file_format.specs.Layout.{in_edition}
use Rattle.file_format.specs.Reading.{Stands}
use Rattle.file_format.specs.Refusals.{accept, first, file_conditions}
use Rattle.file_format.proofs.Reading.{loaded-accepted, loaded-refused, stands-size, stands-room}
use Rattle.call_merge.proofs.Merging.{prefix-sound, prefix-length, prefix-fits, merging-file, merging-classes, merging-out, merging-merged}
use Rattle.call_merge.proofs.merge.Goals as goal
use Rattle.call_merge.proofs.merge.Goals.{In_ok-read}

-- it was accepted
sound : (c : In_ok-read) → first (file_conditions Pattern ((in_edition c.args.edition c.args.pattern.now))) ≡ accept
sound c = loaded-accepted c.load.ensures c.in_ok-read.was

held : (c : In_ok-read) → Stands ((in_edition c.args.edition c.args.pattern.now)) c.in_ok-read.read.nodes c.in_ok-read.read.links ((circuit c.load.new.labels c.load.new.starts c.load.new.ends))
held c = (c.load.ensures.held _ c.in_ok-read.was).stands

pub returns-in_err-read : goal.returns-in_err-read
returns-in_err-read c =
    let e : c.from_residual.result ≡ Err c.in_err-read.field-0.0 = grind (arith, common_steps) in
    rw e (merging-file _ _ _ _ (loaded-refused c.load.ensures c.in_err-read.was))

-- ---- the lent tables
pub returns-then-classes-n : goal.returns-then-classes-n
returns-then-classes-n c = merging-classes _ _ _ (sound (goal.at.returns-then-classes-n c).In_ok-read) (held (goal.at.returns-then-classes-n c).In_ok-read) c.if-classes-n.true

pub returns-then-out-pattern : goal.returns-then-out-pattern
returns-then-out-pattern c =
    merging-out _ _ _ (sound (goal.at.returns-then-out-pattern c).In_ok-read) (held (goal.at.returns-then-out-pattern c).In_ok-read) c.if-classes-n.false c.if-out-pattern.true

pub slice_bounds-pk-end : goal.slice_bounds-pk-end
slice_bounds-pk-end c = (stands-room (held (goal.at.slice_bounds-pk-end c).In_ok-read)).0

pub slice_bounds-merge_circuit-end : goal.slice_bounds-merge_circuit-end
slice_bounds-merge_circuit-end c = sym (stands-size (held (goal.at.slice_bounds-merge_circuit-end c).In_ok-read)).0

pub slice_bounds-ps-end : goal.slice_bounds-ps-end
slice_bounds-ps-end c = (stands-room (held (goal.at.slice_bounds-ps-end c).In_ok-read)).1

pub slice_bounds-merge_circuit-end-2 : goal.slice_bounds-merge_circuit-end-2
slice_bounds-merge_circuit-end-2 c = sym (stands-size (held (goal.at.slice_bounds-merge_circuit-end-2 c).In_ok-read)).1

pub slice_bounds-pe-end : goal.slice_bounds-pe-end
slice_bounds-pe-end c = (stands-room (held (goal.at.slice_bounds-pe-end c).In_ok-read)).2

pub slice_bounds-merge_circuit-end-3 : goal.slice_bounds-merge_circuit-end-3
slice_bounds-merge_circuit-end-3 c = sym (stands-size (held (goal.at.slice_bounds-merge_circuit-end-3 c).In_ok-read)).2

pub slice_bounds-merge_circuit-end-5 : goal.slice_bounds-merge_circuit-end-5
slice_bounds-merge_circuit-end-5 c = sym (length-take-le _ _ c.if-classes-n.false)

pub merge_circuit-requires : goal.merge_circuit-requires
merge_circuit-requires c =
    let l = held (goal.at.merge_circuit-requires c).In_ok-read in record {
      ends_value = prefix-sound (sound (goal.at.merge_circuit-requires c).In_ok-read) l;
      classes_len = (
        length-take-le _ _ c.if-classes-n.false ∙ sym (stands-size l).0,
        le_trans (le_of_eq (prefix-length (sound (goal.at.merge_circuit-requires c).In_ok-read) l)) c.if-out-pattern.false,
      );
      labels_fit = prefix-fits _ _ l (λ i. omega (arith, c.type_inv.pattern i));
    }

pub returns : goal.returns
returns c =
    merging-merged _ _ _ (sound (goal.at.returns c).In_ok-read) (held (goal.at.returns c).In_ok-read) c.if-classes-n.false c.if-out-pattern.false c.merge_circuit.ensures
