-- `session_open::store_fixed` meets its contract. Assumes nothing.
use Rattle.base_lists.specs.Kit.{◌∙◌, sym, length-set, length-append, length-drop, length-take-le, arith}
use Rattle.session_open.proofs.Filling.{fixed-stored}
use Rattle.session_open.proofs.store_fixed.Goals as goal

pub slice_bounds-pattern_masks-end-2 : goal.slice_bounds-pattern_masks-end-2
slice_bounds-pattern_masks-end-2 c =
    sym (length-take-le 64 c.args.fixed.now (omega (arith, c.requires.fixed_len)))

pub pattern_masks-requires : goal.pattern_masks-requires
pattern_masks-requires c =
    record {
      starts_len = c.requires.starts_len;
      masks_len = length-take-le 64 c.args.fixed.now (omega (arith, c.requires.fixed_len));
    }

pub bounds-fixed-65 : goal.bounds-fixed-65
bounds-fixed-65 c =
    let long = c.pattern_masks.auto.masks ∙ length-take-le 64 c.args.fixed.now (omega arith) in
    simp (length-set, length-append, length-drop) (omega arith)

pub returns : goal.returns
returns c =
    fixed-stored c.args.starts.now c.args.ends.now c.args.parts c.args.nodes c.args.fixed.now c.requires.fixed_len
    (c.pattern_masks.auto.masks ∙ length-take-le 64 c.args.fixed.now (omega (arith, c.requires.fixed_len))) c.pattern_masks.ensures
