-- `call_distance::distances::fill_ball` meets its contract: the distances are written into the front of the lent table.
-- Assumes nothing.
use Rattle.std.specs.Prelude.{◌++◌, ◌≤◌, ◌<◌}
use Rattle.base_lists.specs.Kit.{◌∙◌, sym, ap, List, ℕ, T, ltb, length, drop, length-take-le}
use Rattle.base_lists.specs.List.{all}
use Rattle.base_lists.proofs.Parts.{length-take-for}
use Rattle.graph.specs.Search.{distances}
use Rattle.file_format.proofs.Accepted.{bounded-starts, bounded-ends}
use Rattle.call_distance.proofs.distances.fill_ball.Goals as goal

pub slice_bounds-measure-end : goal.slice_bounds-measure-end
slice_bounds-measure-end c = c.requires.c_in_bounds.1

pub slice_bounds-measure-end-2 : goal.slice_bounds-measure-end-2
slice_bounds-measure-end-2 c = sym (length-take-le _ _ c.requires.c_in_bounds.1)

pub measure-requires : goal.measure-requires
measure-requires c =
    record {
      starts_len = (c.requires.bounded.parallel, c.requires.bounded.links);
      t = (length-take-for (length c.args.labels.now) c.args.out.now
          (λ k. (T (all (λ v. ltb v k) c.args.starts.now) × T (all (λ v. ltb v k) c.args.ends.now)) × ((c.args.c < k) × (k ≤ 512)))
          c.requires.c_in_bounds.1
          ((bounded-starts c.requires.bounded, bounded-ends c.requires.bounded), (c.requires.c_in_bounds.0, c.requires.bounded.nodes))).0;
      c_in_bounds = (length-take-for (length c.args.labels.now) c.args.out.now
          (λ k. (T (all (λ v. ltb v k) c.args.starts.now) × T (all (λ v. ltb v k) c.args.ends.now)) × ((c.args.c < k) × (k ≤ 512)))
          c.requires.c_in_bounds.1
          ((bounded-starts c.requires.bounded, bounded-ends c.requires.bounded), (c.requires.c_in_bounds.0, c.requires.bounded.nodes))).1;
    }

pub returns : goal.returns
returns c =
    ap (λ (xs : List ℕ). xs ++ drop (length c.args.labels.now) c.args.out.now)
    (c.measure.ensures
    ∙ ap (λ (k : ℕ). distances k c.args.starts.now c.args.ends.now c.args.c c.args.r) (length-take-le (length c.args.labels.now) c.args.out.now c.requires.c_in_bounds.1))
