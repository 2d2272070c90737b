-- `report_texts::put_copy` meets its contract. Assumes nothing.
use Rattle.std.specs.Prelude.{◌≡◌, ◌-◌}
use Rattle.base_lists.specs.Kit.{◌∙◌, ap, append_assoc, List, ℕ, length, drop-drop, sets-eq, arith}
use Rattle.base_lists.specs.List.{part}
use Rattle.base_lists.proofs.Parts.{length_part, part-append}
use Rattle.report_texts.proofs.put_copy.Goals as goal

pub returns : goal.returns
unfolding part
returns c =
    let out : List ℕ = c.args.out.now in
    let size : ℕ = c.args.to - c.args.from in
    let halves = c.split_at_mut-text.ensures in
    let long : length (part c.args.from size out) ≡ size = length_part c.args.from size out (omega arith) in
    let text : part c.args.from size out ≡ part c.args.from size c.split_at_mut-text.result.0.now = ap (part c.args.from size) halves.value ∙ part-append c.args.from size _ _ (omega arith) in
    record {
      table = rw (c.copy.ensures, ← text, halves.front, halves.back, sets-eq (part c.args.from size out) out c.args.at (rw long c.requires.2), long, drop-drop, append_assoc);
      end = rw long;
    }
