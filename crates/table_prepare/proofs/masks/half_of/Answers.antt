-- `table_prepare::masks::half_of` meets its contract: the masks of the links, or those of none, which are empty. Assumes nothing.
use Rattle.base_lists.specs.Kit.{◌∙◌, sym, ap, Bool, cond, List, [], ℕ, replicate}
use Rattle.table.specs.Prepared.{masks_of}
use Rattle.table.proofs.Prepare.{none-masks}
use Rattle.table_prepare.proofs.masks.half_of.Goals as goal

abbrev Half : Bool → List ℕ → List ℕ → List ℕ
Half counts keys values = masks_of 32 (cond counts keys []) (cond counts values [])

pub masks_of-requires : goal.masks_of-requires
masks_of-requires c =
    record {
      keys_len = c.requires.keys_len.0;
      below = rw c.requires.out_len c.requires.keys_len.1;
      below_2 = c.requires.keys_len.2;
    }

pub returns-then-counts : goal.returns-then-counts
returns-then-counts c =
    c.masks_of.ensures
    ∙ ap (λ (k : ℕ). masks_of k c.args.keys.now c.args.values.now) c.requires.out_len
    ∙ ap (λ (b : Bool). Half b c.args.keys.now c.args.values.now) (sym c.if-counts.true)

pub returns-else-counts : goal.returns-else-counts
returns-else-counts c =
    c.fill.ensures ∙ ap (λ (k : ℕ). replicate k 0) c.requires.out_len ∙ none-masks
    ∙ ap (λ (b : Bool). Half b c.args.keys.now c.args.values.now) (sym c.if-counts.false)
