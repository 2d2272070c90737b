-- `graph_radius::all_full` meets its contract: each set is `full`, or one is not. Assumes nothing.
use Rattle.std.specs.Prelude.{◌≡◌, ◌↔◌, IsTrue, EachIndex}
use Rattle.base_lists.specs.Kit.{eqb, eqb→eq, eq-eqb, get_or, rules}
use Rattle.base_lists.proofs.Tests.{T_true, true-T, same_test, all-at, at_all}
use Rattle.graph_radius.specs.Balls.{spanning}
use Rattle.graph_radius.proofs.all_full.Goals as goal

pub returns : goal.returns
unfolding spanning
returns c =
    let e : IsTrue c.all.result ↔ EachIndex c.args.sets.now (λ k. get_or c.args.sets.now k 0 ≡ c.args.full) = search rules in
    same_test
    (λ t. at_all (λ x. eqb x c.args.full) c.args.sets.now (λ i h. true-T (eq-eqb _ _ (e.0 (T_true t) i h))))
    (λ t. true-T (e.1 (λ i h. eqb→eq _ _ (all-at (λ x. eqb x c.args.full) c.args.sets.now t i h))))
