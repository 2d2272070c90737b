-- `table_prepare::masks::masks_along` meets its contract: the two halves of the masks, each by the links followed in one direction, or by none.
-- Assumes nothing.
use Rattle.std.specs.Prelude.{◌≡◌, ◌++◌}
use Rattle.base_lists.specs.Kit.{◌∙◌, sym, List, ℕ, length, take, drop, length-append, length-drop, length-take, length-take-le, arith, rules}
use Rattle.table.proofs.Prepare.{masked}
use Rattle.table_prepare.proofs.masks.masks_along.Goals as goal

-- ---- the first half
half : (masks : List ℕ) → length masks ≡ 64 → length (take 32 masks) ≡ 32
half masks long = length-take-le 32 masks (omega arith)

pub slice_bounds-half_of-end-2 : goal.slice_bounds-half_of-end-2
slice_bounds-half_of-end-2 c = sym (half c.args.masks.now c.requires.masks_len)

pub half_of-requires : goal.half_of-requires
half_of-requires c = record {
  keys_len = c.requires.starts_len;
  out_len = half c.args.masks.now c.requires.masks_len;
}

-- ---- the second half
half-2 : (xs masks : List ℕ) → length xs ≡ 32 → length masks ≡ 64 → length (take 32 (drop 32 (xs ++ drop 32 masks))) ≡ 32
half-2 xs masks first long = simp (length-take, length-drop, length-append) (omega arith)

pub half_of-requires-2 : goal.half_of-requires-2
half_of-requires-2 c =
    record {
      keys_len = (omega (arith, c.requires.starts_len.0), search rules, search rules);
      out_len = half-2 c.half_of.new.out c.args.masks.now (c.half_of.auto.out ∙ half c.args.masks.now c.requires.masks_len) c.requires.masks_len;
    }

pub returns : goal.returns
returns c =
    masked c.args.ways c.args.starts.now c.args.ends.now c.args.masks.now c.requires.masks_len c.backwards_count-back.ensures c.half_of.ensures c.half_of-2.ensures
