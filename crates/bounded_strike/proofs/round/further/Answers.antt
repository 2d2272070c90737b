-- `bounded_strike::round::further` meets its contract. Assumes nothing.
use Rattle.base_lists.specs.Kit.{◌∙◌, sym, subst, ℕ}
use Rattle.graph.specs.Net.{Net}
use Rattle.bounded_strike.proofs.round.further.Goals as goal

pub pass_asked-requires : goal.pass_asked-requires
pass_asked-requires c =
    let long = c.widen.auto.next ∙ c.requires.masks_len.2 in
    (c.requires.masks_len.0, subst (λ (n : ℕ). Net n c.args.offsets.now c.args.targets.now) (sym long) c.requires.net, c.requires.masks_len.3 ∙ sym long)
