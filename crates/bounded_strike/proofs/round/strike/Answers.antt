-- `bounded_strike::round::strike` meets its contract. Assumes nothing.
use Rattle.std.specs.Prelude.{◌≡◌, ◌++◌, ◌≤◌}
use Rattle.base_lists.specs.Kit.{◌∙◌, sym, ap, List, append-nil, ℕ, length, take, drop, length-drop, drop_of_length-le, length-take-le, arith}
use Rattle.base_lists.specs.List.{part}
use Rattle.graph_neighbours.specs.Lookup.{neighbours_in}
use Rattle.graph_neighbours.specs.declared.neighbours.Direction.TheVariants.{Forward, Backward}
use Rattle.bounded_strike.specs.Round.{passes, round_table}
use Rattle.bounded_strike.proofs.round.strike.Goals as goal

-- ---- the masks of each direction

half : (masks : List ℕ) → length masks ≡ 256 → length (take 128 masks) ≡ 128
half masks e = length-take-le 128 masks (omega arith)

other_half : (masks : List ℕ) → length masks ≡ 256 → length (take 128 (drop 128 masks)) ≡ 128
other_half masks e = length-take-le 128 (drop 128 masks) (omega (arith, length-drop 128 masks))

-- the copy is the table of the round before
copied : (old new copy : List ℕ) → copy ≡ old ++ drop (length old) new → length new ≡ length old → copy ≡ old
copied old new copy e long =
    let all : length new ≤ length old = omega arith in
    e ∙ ap (λ (rest : List ℕ). old ++ rest) (drop_of_length-le new all) ∙ append-nil old

-- ---- the needs

pub slice_bounds-strike_way-end : goal.slice_bounds-strike_way-end
slice_bounds-strike_way-end c = sym (half _ c.requires.bounded_ready.masks)

pub strike_way-requires : goal.strike_way-requires
strike_way-requires c =
    record {
      masks_len = (half _ c.requires.bounded_ready.masks, c.requires.bounded_ready.net, c.requires.bounded_ready.some, c.requires.bounded_ready.most);
      layer_len = (c.requires.layer_len.0, c.requires.layer_len.1, c.copy.auto.out ∙ c.requires.layer_len.2);
    }

pub strike_way-requires-2 : goal.strike_way-requires-2
strike_way-requires-2 c =
    record {
      masks_len = (other_half _ c.requires.bounded_ready.masks, c.requires.bounded_ready.net, c.requires.bounded_ready.some, c.requires.bounded_ready.most);
      layer_len = (c.strike_way.auto.layer ∙ c.requires.layer_len.0, c.strike_way.auto.next ∙ c.requires.layer_len.1, c.strike_way.auto.new ∙ c.copy.auto.out ∙ c.requires.layer_len.2);
    }

pub count-requires : goal.count-requires
count-requires c =
    omega (arith, c.strike_way-2.auto.new, c.strike_way.auto.new, c.copy.auto.out, c.requires.layer_len.2, c.requires.bounded_ready.short)

pub returns : goal.returns
unfolding round_table part
returns c =
    let masks = c.args.masks.now in
    let near = λ (way : _). neighbours_in way c.args.offsets.now c.args.targets.now in (
      c.strike_way-2.ensures
          ∙ ap (passes (near Backward) (take 128 (drop 128 masks)) c.args.old.now c.args.top)
          (c.strike_way.ensures
          ∙ ap (passes (near Forward) (take 128 masks) c.args.old.now c.args.top) (copied c.args.old.now c.args.new.now _ c.copy.ensures c.requires.layer_len.2)),
      c.count.ensures,
    )
