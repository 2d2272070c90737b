-- `proposal_check::near` meets its contract: the search reaches the nodes of the ball, and no other. Assumes nothing.
use Rattle.std.specs.Prelude.{◌≡◌, ◌<◌}
use Rattle.base_lists.specs.Kit.{◌∙◌, sym, ap, refl, List, ℕ, length, length-take-le}
use Rattle.base_lists.proofs.Parts.{length-take-for}
use Rattle.graph.specs.Net.{Net}
use Rattle.graph.proofs.Net.{net-of}
use Rattle.graph.proofs.Ball.{within_all}
use Rattle.proposal.specs.Check.{in_row}
use Rattle.proposal_check.proofs.Searched.{near-row, cut-room, cut-long, cut-row}
use Rattle.proposal_check.proofs.near.Goals as goal
use Rattle.proposal_check.proofs.near.Goals.{After-search}

pub neighbour_tables-requires : goal.neighbour_tables-requires
neighbour_tables-requires c = record {
  net_room = c.requires.net_room;
  n_bound = c.requires.nodes_len_bound.0;
  starts_len = c.requires.starts_len;
  t = c.requires.t;
}

pub slice_bounds-search-end : goal.slice_bounds-search-end
slice_bounds-search-end c = sym (length-take-le _ _ c.requires.nodes_len_bound.0)

pub slice_bounds-search-end-2 : goal.slice_bounds-search-end-2
slice_bounds-search-end-2 c = sym (length-take-le _ _ c.requires.nodes_len_bound.0)

pub search-requires : goal.search-requires
search-requires c =
    record {
      net = (length-take-for (length c.args.nodes.now) _ (λ k. Net k c.neighbour_tables.new.offsets c.neighbour_tables.new.targets × ((c.args.around.centre < k) × (k ≡ k))) c.requires.nodes_len_bound.0
          (net-of c.neighbour_tables.ensures, (c.requires.nodes_len_bound.1, refl))).0;
      c_in_bounds = (length-take-for (length c.args.nodes.now) _ (λ k. Net k c.neighbour_tables.new.offsets c.neighbour_tables.new.targets × ((c.args.around.centre < k) × (k ≡ k))) c.requires.nodes_len_bound.0
          (net-of c.neighbour_tables.ensures, (c.requires.nodes_len_bound.1, refl))).1.0;
      dist_len = (length-take-for (length c.args.nodes.now) _ (λ k. Net k c.neighbour_tables.new.offsets c.neighbour_tables.new.targets × ((c.args.around.centre < k) × (k ≡ k))) c.requires.nodes_len_bound.0
          (net-of c.neighbour_tables.ensures, (c.requires.nodes_len_bound.1, refl))).1.1;
    }

-- the search leaves a distance for each node
long : (c : After-search) → length c.search.new.dist ≡ length c.args.nodes.now
long c = c.search.auto.dist ∙ length-take-le _ _ c.requires.nodes_len_bound.0

pub slice_bounds-dist-end-2 : goal.slice_bounds-dist-end-2
slice_bounds-dist-end-2 c = cut-room c.search.new.dist _ (long (goal.at.slice_bounds-dist-end-2 c).After-search)

pub slice_bounds-in_row-end : goal.slice_bounds-in_row-end
slice_bounds-in_row-end c = sym (cut-long c.search.new.dist _ (long (goal.at.slice_bounds-in_row-end c).After-search))

pub in_row-requires : goal.in_row-requires
in_row-requires c = sym (cut-long c.search.new.dist _ (long (goal.at.in_row-requires c).After-search))

pub returns : goal.returns
returns c =
    sym (cut-row c.search.new.dist _ (long (goal.at.returns c).After-search) c.args.nodes.now c.in_row.ensures)
    ∙ ap (λ (row : List ℕ). in_row row c.args.nodes.now)
    (near-row c.neighbour_tables.ensures (within_all _ _ _ c.requires.t.0 c.requires.t.1) c.args.around.centre c.requires.nodes_len_bound.1 c.args.around.radius (length-take-le _ _ c.requires.nodes_len_bound.0) c.search.ensures)
