-- `call_open::fill_lines` meets its contract: no lines are left, or the whole board is matched and its components are named. Assumes
-- nothing.
use Rattle.std.specs.Prelude.{◌≡◌, ◌≤◌}
use Rattle.base_lists.specs.Kit.{◌∙◌, sym, length, length-take-le, arith}
use Rattle.file_format.specs.declared.Role.TheVariants.{Pattern}
use Rattle.table.specs.Prepared.{tables}
use Rattle.table.specs.Row.{both_directions}
use Rattle.report_locate.proofs.Component.{source-match}
use Rattle.call_prepare.specs.Read.{BothPrepared}
use Rattle.call_open.proofs.Opened.{opened-links, opened-few, opened-source, opened-past, opened-lines}
use Rattle.call_open.proofs.fill_lines.Goals as goal
use Rattle.call_open.proofs.fill_lines.Goals.{After-match_tables, Else-n-from}

pub returns-then-n-from : goal.returns-then-n-from
returns-then-n-from c pattern board p = opened-past p _ c.if-n-from.true c.requires.lines_room

-- ---- the whole board's table
-- both were read and prepared
ready : (c : Else-n-from) →
    BothPrepared Pattern both_directions c.requires.some_prepared.pattern c.requires.some_prepared.board c.args.read c.args.pk.now c.args.nk.now (tables c.args.masks.now c.args.offsets.now c.args.targets.now)
ready c = c.requires.some_prepared.prepared

-- the tables have room
room : (c : Else-n-from) →
    (c.args.read.nodes ≤ length c.args.whole.now) × (c.args.read.nodes ≤ length c.args.component_of.now) × (c.args.read.nodes ≤ length c.args.sizes.now)
room c =
    let few = opened-few (ready c) in
    (omega (arith, few, c.requires.lines_room.0), omega (arith, few, c.requires.lines_room.1), omega (arith, few, c.requires.lines_room.2))

pub slice_bounds-table-end : goal.slice_bounds-table-end
slice_bounds-table-end c = (room (goal.at.slice_bounds-table-end c).Else-n-from).0

pub slice_bounds-table-end-2 : goal.slice_bounds-table-end-2
slice_bounds-table-end-2 c = sym (length-take-le _ _ (room (goal.at.slice_bounds-table-end-2 c).Else-n-from).0)

pub slice_bounds-match_tables-end : goal.slice_bounds-match_tables-end
slice_bounds-match_tables-end c = sym (length-take-le _ _ (ready (goal.at.slice_bounds-match_tables-end c).Else-n-from).parts.room)

pub slice_bounds-match_tables-end-2 : goal.slice_bounds-match_tables-end-2
slice_bounds-match_tables-end-2 c = sym (length-take-le _ _ (ready (goal.at.slice_bounds-match_tables-end-2 c).Else-n-from).nodes.room)

pub match_tables-requires : goal.match_tables-requires
match_tables-requires c =
    record {
      some_links = opened-links (ready (goal.at.match_tables-requires c).Else-n-from);
      table_len = length-take-le _ _ (room (goal.at.match_tables-requires c).Else-n-from).0 ∙ sym (length-take-le _ _ (ready (goal.at.match_tables-requires c).Else-n-from).nodes.room);
    }

-- it has an entry for each node
long : (c : After-match_tables) → length c.match_tables.new.table ≡ c.args.read.nodes
long c = c.match_tables.auto.table ∙ length-take-le _ _ (omega (arith, opened-few c.requires.some_prepared.prepared, c.requires.lines_room.0))

pub slice_bounds-components-end : goal.slice_bounds-components-end
slice_bounds-components-end c = (room (goal.at.slice_bounds-components-end c).Else-n-from).1

pub slice_bounds-components-end-2 : goal.slice_bounds-components-end-2
slice_bounds-components-end-2 c = sym (length-take-le _ _ (room (goal.at.slice_bounds-components-end-2 c).Else-n-from).1)

pub slice_bounds-components-end-3 : goal.slice_bounds-components-end-3
slice_bounds-components-end-3 c = (room (goal.at.slice_bounds-components-end-3 c).Else-n-from).2

pub slice_bounds-components-end-4 : goal.slice_bounds-components-end-4
slice_bounds-components-end-4 c = sym (length-take-le _ _ (room (goal.at.slice_bounds-components-end-4 c).Else-n-from).2)

pub components-requires : goal.components-requires
components-requires c =
    let few = opened-few (ready (goal.at.components-requires c).Else-n-from) in record {
      cases = source-match (opened-source (ready (goal.at.components-requires c).Else-n-from) c.match_tables.ensures);
      sets_len_bound = omega (arith, few, long (goal.at.components-requires c).After-match_tables);
      component_of_len = (length-take-le _ _ (room (goal.at.components-requires c).Else-n-from).1 ∙ sym (long (goal.at.components-requires c).After-match_tables), length-take-le _ _ (room (goal.at.components-requires c).Else-n-from).2 ∙ sym (long (goal.at.components-requires c).After-match_tables));
    }

pub returns : goal.returns
returns c pattern board p =
    let room = room (goal.at.returns c).Else-n-from in
    opened-lines p _ _ _ _ c.requires.lines_room (
      long (goal.at.returns c).After-match_tables,
      c.components.auto.component_of ∙ length-take-le _ _ room.1,
      c.components.auto.sizes ∙ length-take-le _ _ room.2,
    )
    c.match_tables.ensures c.components.ensures
