-- `proposal_check::fills` meets its contract: the place is found in the board's own links, and compared with what is
-- marked. Assumes nothing.
use Rattle.std.specs.Prelude.{◌≡◌}
use Rattle.base_lists.specs.Kit.{◌∙◌, sym, subst, ℕ, length, length-take-le}
use Rattle.base_lists.specs.List.{Below}
use Rattle.table.specs.Prepared.{succ_of}
use Rattle.proposal_check.proofs.Searched.{cut-room, cut-long, cut-row, cut-links}
use Rattle.proposal_check.proofs.Marked.{found-not, row-not, row-left}
use Rattle.proposal_check.proofs.fills.Goals as goal
use Rattle.proposal_check.proofs.fills.Goals.{After-find_joined-found}

pub slice_bounds-find_joined-end : goal.slice_bounds-find_joined-end
slice_bounds-find_joined-end c = sym (length-take-le _ _ c.requires.node_labels_len_bound.0)

pub slice_bounds-find_joined-end-2 : goal.slice_bounds-find_joined-end-2
slice_bounds-find_joined-end-2 c = sym (length-take-le _ _ c.requires.node_labels_len_bound.0)

pub slice_bounds-find_joined-end-3 : goal.slice_bounds-find_joined-end-3
slice_bounds-find_joined-end-3 c = sym (length-take-le _ _ c.requires.node_labels_len_bound.0)

pub slice_bounds-find_joined-end-4 : goal.slice_bounds-find_joined-end-4
slice_bounds-find_joined-end-4 c = sym (length-take-le _ _ c.requires.node_labels_len_bound.0)

pub find_joined-found-requires : goal.find_joined-found-requires
find_joined-found-requires c =
    record {
      some_tabled = record { part_starts = c.requires.some_pattern.part_starts; part_ends = c.requires.some_pattern.part_ends; node_starts = _; node_ends = _; tabled = c.requires.some_pattern.tabled };
      node_labels_len_bound = (c.requires.node_labels_len_bound.0, c.requires.node_labels_len_bound.1);
      dist_len = (length-take-le _ _ c.requires.node_labels_len_bound.0, length-take-le _ _ c.requires.node_labels_len_bound.0);
      sets_len = (length-take-le _ _ c.requires.node_labels_len_bound.0, length-take-le _ _ c.requires.node_labels_len_bound.0);
    }

pub returns-then-not-found : goal.returns-then-not-found
returns-then-not-found c = λ ps pe d. found-not _ _ _ _ (sym (c.find_joined-found.ensures ps pe _ _ d).answer ∙ c.if-not-found.true)

-- an entry and a set are left for each node
dist-long : (c : After-find_joined-found) → length c.find_joined-found.new.dist ≡ length c.args.node_labels.now
dist-long c = c.find_joined-found.auto.dist ∙ length-take-le _ _ c.requires.node_labels_len_bound.0

sets-long : (c : After-find_joined-found) → length c.find_joined-found.new.sets ≡ length c.args.node_labels.now
sets-long c = c.find_joined-found.auto.sets ∙ length-take-le _ _ c.requires.node_labels_len_bound.0

pub slice_bounds-dist-end-2 : goal.slice_bounds-dist-end-2
slice_bounds-dist-end-2 c = cut-room c.find_joined-found.new.dist _ (dist-long (goal.at.slice_bounds-dist-end-2 c).After-find_joined-found)

pub slice_bounds-in_row-end : goal.slice_bounds-in_row-end
slice_bounds-in_row-end c = sym (cut-long c.find_joined-found.new.dist _ (dist-long (goal.at.slice_bounds-in_row-end c).After-find_joined-found))

pub in_row-requires : goal.in_row-requires
in_row-requires c = c.requires.node_labels_len_bound.2 ∙ sym (cut-long c.find_joined-found.new.dist _ (dist-long (goal.at.in_row-requires c).After-find_joined-found))

pub returns-then-not-in_row : goal.returns-then-not-in_row
returns-then-not-in_row c =
    let there = c.if-not-found.false in
    λ ps pe d.
    let placed = c.find_joined-found.ensures ps pe _ _ d in
    row-not _ _ _ _ (sym placed.answer ∙ there) (placed.there there).1 (cut-row c.find_joined-found.new.dist _ (dist-long (goal.at.returns-then-not-in_row c).After-find_joined-found) c.args.nodes.now (sym (c.if-not-in_row.true) ∙ c.in_row.ensures))

pub slice_bounds-dist-end-3 : goal.slice_bounds-dist-end-3
slice_bounds-dist-end-3 c = cut-room c.find_joined-found.new.dist _ (dist-long (goal.at.slice_bounds-dist-end-3 c).After-find_joined-found)

pub slice_bounds-links_placed-end : goal.slice_bounds-links_placed-end
slice_bounds-links_placed-end c = sym (cut-long c.find_joined-found.new.dist _ (dist-long (goal.at.slice_bounds-links_placed-end c).After-find_joined-found))

pub slice_bounds-sets-end-2 : goal.slice_bounds-sets-end-2
slice_bounds-sets-end-2 c = cut-room c.find_joined-found.new.sets _ (sets-long (goal.at.slice_bounds-sets-end-2 c).After-find_joined-found)

pub slice_bounds-links_placed-end-2 : goal.slice_bounds-links_placed-end-2
slice_bounds-links_placed-end-2 c = sym (cut-long c.find_joined-found.new.sets _ (sets-long (goal.at.slice_bounds-links_placed-end-2 c).After-find_joined-found))

pub links_placed-requires : goal.links_placed-requires
links_placed-requires c =
    let dist = cut-long c.find_joined-found.new.dist _ (dist-long (goal.at.links_placed-requires c).After-find_joined-found) in
    let sets = cut-long c.find_joined-found.new.sets _ (sets-long (goal.at.links_placed-requires c).After-find_joined-found) in record {
      masks_len = (c.requires.some_pattern.tabled.prepared.masked.room, dist ∙ sym sets);
      starts_len = c.requires.starts_len;
      below = subst (λ (k : ℕ). Below k c.args.starts.now × Below k c.args.ends.now) (sym sets) (c.requires.some_pattern.tabled.starts, c.requires.some_pattern.tabled.ends);
    }

pub returns : goal.returns
returns c =
    let there = c.if-not-found.false in
    λ ps pe d.
    let placed = c.find_joined-found.ensures ps pe _ _ d in
    cut-links c.find_joined-found.new.dist _ (dist-long (goal.at.returns c).After-find_joined-found) c.find_joined-found.new.sets _ (sets-long (goal.at.returns c).After-find_joined-found) c.args.starts.now c.args.ends.now (succ_of c.args.masks.now) c.links_placed.ensures
    ∙ row-left _ _ _ _ (sym placed.answer ∙ there) (placed.there there).1 (cut-row c.find_joined-found.new.dist _ (dist-long (goal.at.returns c).After-find_joined-found) c.args.nodes.now (sym (c.if-not-in_row.false) ∙ c.in_row.ensures))
