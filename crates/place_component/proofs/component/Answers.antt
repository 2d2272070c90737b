-- `place_component::component` meets its contract: the search goes on as far as there is anything to reach, and no number of nodes is enough. Assumes nothing.
use Rattle.std.specs.Prelude.{◌<◌}
use Rattle.base_lists.specs.Kit.{not-le_of_lt, arith}
use Rattle.graph.proofs.BfsSteps.{found, tail-le}
use Rattle.graph.proofs.Net.{net-few}
use Rattle.place_component.proofs.component.Goals as goal

pub returns : goal.returns
returns c =
    let most = tail-le _ _ _ c.reach.ensures.searching in
    let all : c.reach.result < 65536 = omega (arith, most, c.reach.auto.dist, c.requires.sets_len.0, net-few c.requires.ready.net) in
    found _ _ _ _ (record { state = c.reach.ensures.until.all (λ h. not-le_of_lt all h); kept = c.reach.ensures.searching })
