-- `place_components::number_from` meets its contract: nothing is left to name where the node's set is empty or it has a number, else its component is, which
-- the search lists. Assumes nothing.
use Rattle.std.specs.Prelude.{◌≡◌, ◌≤◌, ◌<◌, ◌+◌}
use Rattle.base_lists.specs.Kit.{◌∙◌, sym, subst, not, ℕ, suc, eqb, eqb→eq, length, get_or, take, set, length-take-le, arith}
use Rattle.base_lists.proofs.Tests.{both_right, true-T}
use Rattle.graph.specs.Search.{far}
use Rattle.graph.proofs.Net.{net-few}
use Rattle.table.specs.Fill.{fill_at}
use Rattle.table.specs.Prepared.{tables}
use Rattle.place.specs.Spread.{matched, Spread, Lists}
use Rattle.place.proofs.Spread.{found-spread}
use Rattle.place_components.specs.Components.{ComponentsBefore}
use Rattle.place_components.proofs.ComponentNumbers.{match-ready, match-adjacency, numbering-skip, numbering-next}
use Rattle.place_components.proofs.number_from.Goals as goal
use Rattle.place_components.proofs.number_from.Goals.{After-component-k, Else-not-begins}

pub returns-then-not-begins : goal.returns-then-not-begins
returns-then-not-begins c = numbering-skip c.requires.components_before (sym c.begins.ensures ∙ c.if-not-begins.true)

few : (c : Else-not-begins) → suc (length c.args.sets.now) < far
few c = omega (arith, net-few (match-ready c.requires.cases).net)

fresh : (c : Else-not-begins) → get_or c.args.component_of.now c.args.f 0 ≡ far
fresh c =
    eqb→eq _ _
    (both_right (not (eqb (get_or c.args.sets.now c.args.f 0) 0)) (eqb (get_or c.args.component_of.now c.args.f 0) far)
    (true-T (sym c.begins.ensures ∙ c.if-not-begins.false)))

pub overflow_cast-c : goal.overflow_cast-c
overflow_cast-c c = omega (arith, few (goal.at.overflow_cast-c c).Else-not-begins, c.requires.f_in_bounds)

pub component-k-requires : goal.component-k-requires
component-k-requires c =
    let (d, q) = c.requires.dist_len in
    record {
      ready = match-ready c.requires.cases;
      c_in_bounds = rw d c.requires.f_in_bounds;
      sets_len = (sym d, d ∙ sym q);
    }

listed : (c : After-component-k) → Spread (length c.args.sets.now) c.args.f (matched (tables c.args.masks.now c.args.offsets.now c.args.targets.now) c.args.sets.now) c.component-k.new.dist
    × (c.component-k.result ≤ length c.component-k.new.queue)
    × Lists (take c.component-k.result c.component-k.new.queue) c.component-k.new.dist
listed c =
    found-spread _ _ _ _ (omega (arith, (let fact : suc (length c.args.sets.now) < far = omega (arith, net-few (match-ready c.requires.cases).net) in fact))) c.requires.f_in_bounds (match-adjacency c.requires.cases) (omega (arith, (let fact : suc (length c.args.sets.now) < far = omega (arith, net-few (match-ready c.requires.cases).net) in fact)))
    (rw c.requires.dist_len.0 at c.component-k.ensures)

pub slice_bounds-store_each-end : goal.slice_bounds-store_each-end
slice_bounds-store_each-end c = (listed (goal.at.slice_bounds-store_each-end c).After-component-k).1

pub slice_bounds-store_each-end-2 : goal.slice_bounds-store_each-end-2
slice_bounds-store_each-end-2 c = let l = listed (goal.at.slice_bounds-store_each-end-2 c).After-component-k in sym (length-take-le _ _ l.1)

pub store_each-requires : goal.store_each-requires
store_each-requires c =
    let l = listed (goal.at.store_each-requires c).After-component-k in
    rw (c.requires.components_before.long ∙ sym l.0.size) l.2.list.below

pub overflow_cast-sizes : goal.overflow_cast-sizes
overflow_cast-sizes c =
    omega (arith, (listed (goal.at.overflow_cast-sizes c).After-component-k).1, c.component-k.auto.queue, c.requires.dist_len, few (goal.at.overflow_cast-sizes c).Else-not-begins)

pub returns : goal.returns
returns c =
    let l = listed (goal.at.returns c).After-component-k in
    let adj = matched (tables c.args.masks.now c.args.offsets.now c.args.targets.now) c.args.sets.now in
    rw c.store_each.ensures
    (subst (λ (m : ℕ). ComponentsBefore (length c.args.sets.now) adj c.args.sets.now (c.args.f + 1) (fill_at (λ v. c.args.f) (take c.component-k.result c.component-k.new.queue) c.args.component_of.now) (set c.args.sizes.now c.args.f m))
    (length-take-le c.component-k.result c.component-k.new.queue l.1)
    (numbering-next c.requires.components_before (match-adjacency c.requires.cases) c.requires.f_in_bounds (omega (arith, few (goal.at.returns c).Else-not-begins)) (fresh (goal.at.returns c).Else-not-begins) l.0 l.2))
