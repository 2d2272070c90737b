-- `place_mark::mark_links` meets its contract. The loop's invariant: marking the links of the nodes that are left leads to the bytes with all of
-- them. Assumes nothing.
use Rattle.std.specs.Prelude.{◌≡◌}
use Rattle.base_lists.specs.Kit.{drop}
use Rattle.table.specs.Prepared.{tables}
use Rattle.place.specs.Bytes.{mark_starts}
use Rattle.place_mark.proofs.mark_links.Given as goal

abbrev pub invariant-loop-v : goal.invariant-loop-v
invariant-loop-v l =
    mark_starts (tables l.masks l.offsets l.targets) l.sets (drop l.v-index l.list) l.bytes ≡ mark_starts (tables l.masks l.offsets l.targets) l.sets l.list l.initial.bytes
