-- `bounded_prepare::way_masks` meets its contract. Assumes nothing.
use Rattle.base_lists.specs.Kit.{◌∙◌, ap₂, List, ℕ}
use Rattle.table.specs.Prepared.{masks_of}
use Rattle.bounded_prepare.proofs.Keys.{keyed-below}
use Rattle.bounded_prepare.proofs.way_masks.Goals as goal

pub keys_of-requires : goal.keys_of-requires
keys_of-requires c =
    record {
      in_bounds = (c.requires.in_bounds.0, c.requires.in_bounds.1);
      bounds_len = (c.requires.bounds_len.0, c.requires.bounds_len.1);
    }

pub masks_of-requires : goal.masks_of-requires
masks_of-requires c =
    record {
      keys_len = c.keys_of.auto.keys ∙ c.requires.bounds_len.1 ∙ c.requires.bounds_len.2;
      below = rw (c.keys_of.ensures, c.requires.bounds_len.3) (keyed-below c.args.bounds.now c.args.parts.now c.requires.in_bounds.0 c.requires.bounds_len.0 c.requires.in_bounds.1);
      below_2 = c.requires.in_bounds.2;
    }

pub returns : goal.returns
returns c =
    c.masks_of.ensures
    ∙ ap₂ (λ (n : ℕ) (keys : List ℕ). masks_of n keys c.args.values.now) c.requires.bounds_len.3 c.keys_of.ensures
