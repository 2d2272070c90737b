-- `place_around::find` meets its contract: the rounds end with the ball's table, and where the centre is left in it the search finds its
-- component. Assumes nothing.
use Rattle.std.specs.Prelude.{◌<◌}
use Rattle.base_lists.specs.Kit.{◌∙◌, sym, length, length-take-le, arith}
use Rattle.table.specs.Row.{both_directions}
use Rattle.graph.proofs.Net.{net-few}
use Rattle.place.proofs.Find.{tabled-joins, tabled-net, sought-known, sought-long, sets-ready, found_nothing, found-place}
use Rattle.place.proofs.Matched.{matched-adjacency}
use Rattle.place.proofs.Spread.{found-spread}
use Rattle.place_around.proofs.find.Goals as goal
use Rattle.place_around.proofs.find.Goals.{After-refine-rest}

pub slice_bounds-refine-end : goal.slice_bounds-refine-end
slice_bounds-refine-end c = omega (arith, c.requires.k_in_bounds.0)

pub slice_bounds-refine-end-2 : goal.slice_bounds-refine-end-2
slice_bounds-refine-end-2 c = sym (length-take-le _ _ (omega (arith, c.requires.k_in_bounds.0)))

pub refine-rest-requires : goal.refine-rest-requires
refine-rest-requires c =
    record {
      tables_known = sought-known c.requires.k_in_bounds.1.sought;
      node_list = rw (sought-long c.requires.k_in_bounds.1.sought) c.requires.k_in_bounds.1.sought.list;
      spare_len = c.requires.dist_len.2;
      started_value = c.requires.started_value;
    }

-- the centre has a set
centre : (c : After-refine-rest) → c.args.c < length c.refine-rest.new.table
centre c =
    rw (c.refine-rest.auto.table, sought-long c.requires.k_in_bounds.1.sought) c.requires.k_in_bounds.1.sought.centre

pub offset_bounds-sets-at : goal.offset_bounds-sets-at
offset_bounds-sets-at c = omega (arith, centre (goal.at.offset_bounds-sets-at c).After-refine-rest)

pub bounds-sets-at : goal.bounds-sets-at
bounds-sets-at c = centre (goal.at.bounds-sets-at c).After-refine-rest

pub returns-then-sets-at-eq0 : goal.returns-then-sets-at-eq0
returns-then-sets-at-eq0 c =
    λ pattern board r g. found_nothing g (c.refine-rest.ensures both_directions pattern board g.tabled.prepared g.begins) _ _ c.if-sets-at-eq0.true

pub component-size-requires : goal.component-size-requires
component-size-requires c =
    record {
      ready = sets-ready c.requires.k_in_bounds.1.sought (c.refine-rest.ensures both_directions _ _ c.requires.k_in_bounds.1.sought.tabled.prepared c.requires.k_in_bounds.1.sought.begins);
      c_in_bounds = rw (c.requires.dist_len.0, sought-long c.requires.k_in_bounds.1.sought) c.requires.k_in_bounds.1.sought.centre;
      sets_len = (c.refine-rest.auto.table ∙ sym c.requires.dist_len.0, c.requires.dist_len.0 ∙ sym c.requires.dist_len.1);
    }

pub returns : goal.returns
returns c =
    λ pattern board r g.
    let e = c.refine-rest.ensures both_directions pattern board g.tabled.prepared g.begins in
    let (spread, short, lists) = found-spread _ _ _ _ (omega (arith, net-few (tabled-net g.tabled))) g.centre
    (matched-adjacency g.tabled.prepared (tabled-joins g.tabled) g.tabled.parallel _ (sets-ready g e).small) (omega (arith, net-few (tabled-net g.tabled)))
    (rw (c.requires.dist_len.0, sought-long g) at c.component-size.ensures) in
    found-place g e _ spread _ _ c.if-sets-at-eq0.false short lists
