-- `session_open::order_links` meets its contract: the numbers are listed, and grouped by the links' starts and by their ends. Assumes nothing.
use Rattle.std.specs.Prelude.{◌≡◌}
use Rattle.base_lists.specs.Kit.{◌∙◌, sym, ap, length, take, drop, length-take-le, take_at, arith}
use Rattle.table.specs.Fill.{all_nodes}
use Rattle.session_open.proofs.Filling.{length-all, numbered}
use Rattle.session_open.proofs.order_links.Goals as goal
use Rattle.session_open.proofs.order_links.Goals.{After-list_all, Start}

-- the table has room for the numbers of all links
room : (s : Start) → length (take (length s.args.starts.now) s.args.order.now) ≡ length s.args.starts.now
room s = length-take-le (length s.args.starts.now) s.args.order.now (omega (arith, s.requires.starts_len.1, s.requires.order_len))

-- where they are listed
listed : (c : After-list_all)
    → (length c.list_all.new.nodes ≡ length c.args.starts.now) × (c.list_all.new.nodes ≡ all_nodes (length c.args.starts.now))
listed c =
    let all = c.list_all.ensures ∙ ap all_nodes ((let fact : length (take (length c.args.starts.now) c.args.order.now) ≡ length c.args.starts.now = length-take-le (length c.args.starts.now) c.args.order.now (omega (arith, c.requires.starts_len.1, c.requires.order_len)) in fact)) in
    (ap length all ∙ length-all (length c.args.starts.now), all)

pub slice_bounds-list_all-end-2 : goal.slice_bounds-list_all-end-2
slice_bounds-list_all-end-2 c = sym (room (goal.at.slice_bounds-list_all-end-2 c).Start)

pub list_all-requires : goal.list_all-requires
list_all-requires c =
    omega (arith, room (goal.at.list_all-requires c).Start, c.requires.starts_len.1)

pub slice_bounds-listed-end-2 : goal.slice_bounds-listed-end-2
slice_bounds-listed-end-2 c =
    sym (ap length (take_at c.list_all.new.nodes _ _ (listed (goal.at.slice_bounds-listed-end-2 c).After-list_all).0) ∙ (listed (goal.at.slice_bounds-listed-end-2 c).After-list_all).0)

pub group_both-requires : goal.group_both-requires
group_both-requires c =
    let all = take_at c.list_all.new.nodes _ _ (listed (goal.at.group_both-requires c).After-list_all).0 ∙ (listed (goal.at.group_both-requires c).After-list_all).1 in
    let order = ap length all ∙ length-all (length c.args.starts.now) in
    record {
      net_room = c.requires.net_room;
      n_bound = c.requires.n_bound;
      starts_len_bound = (c.requires.starts_len.1, omega (arith, c.requires.starts_len));
      starts_len = (sym order, sym c.requires.starts_len.0 ∙ sym order);
      t = c.requires.t;
    }

pub returns : goal.returns
returns c =
    let past = drop (length c.args.starts.now) c.args.order.now in
    numbered (rw (take_at c.list_all.new.nodes past _ (listed (goal.at.returns c).After-list_all).0 ∙ (listed (goal.at.returns c).After-list_all).1) at c.group_both.ensures) c.requires.net_room c.requires.starts_len.0 c.requires.t.0 c.requires.t.1
