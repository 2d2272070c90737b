-- `file_bounds::load_bounded` meets its contract: 1 to 3 by the size, then the file before the bounds, then the bounds. Assumes nothing.
use Rattle.std.specs.Prelude.{◌≡◌}
use Rattle.std.proofs.Common.{Err}
use Rattle.std.proofs.lemmas.Grind.{common_steps}
use Rattle.base_lists.specs.Kit.{sym, length-take-le, arith}
use Rattle.file_format.specs.declared.Role.TheVariants.{AnyPattern}
use Rattle.file_format.specs.Layout.{field}
use Rattle.file_format.proofs.Refusals.{range-orders}
use Rattle.file_bounds.specs.Third.{third_size}
use Rattle.file_bounds.proofs.Third.{third-sized, size-turned, size-none, loaded-before, loaded-outside, loaded-bounds}
use Rattle.file_bounds.proofs.load_bounded.Goals as goal
use Rattle.file_bounds.proofs.load_bounded.Goals.{After-field_at-m, In_ok-check_size}

none : (c : In_ok-check_size) → third_size c.args.file.now ≡ 0
none c = size-none _ c.check_size.ensures c.in_ok-check_size.was

nodes-are : (c : After-field_at-m) → c.field_at-n.result ≡ field c.args.file.now 0
nodes-are c = c.field_at-n.ensures

links-are : (c : After-field_at-m) → c.field_at-m.result ≡ field c.args.file.now 2
links-are c = c.field_at-m.ensures

pub returns-in_err-check_size : goal.returns-in_err-check_size
returns-in_err-check_size c =
    let e : c.from_residual.result ≡ Err c.in_err-check_size.field-0.0 = grind (arith, common_steps) in
    rw e (size-turned _ c.check_size.ensures c.in_err-check_size.was)

pub field_at-n-requires : goal.field_at-n-requires
field_at-n-requires c = omega (arith, (third-sized _ (none (goal.at.field_at-n-requires c).In_ok-check_size)).0)

pub field_at-m-requires : goal.field_at-m-requires
field_at-m-requires c = omega (arith, (third-sized _ (none (goal.at.field_at-m-requires c).In_ok-check_size)).0)

pub slice_bounds-load-end : goal.slice_bounds-load-end
slice_bounds-load-end c =
    sym (length-take-le _ _ (omega (arith, nodes-are (goal.at.slice_bounds-load-end c).After-field_at-m, links-are (goal.at.slice_bounds-load-end c).After-field_at-m, (third-sized _ (none (goal.at.slice_bounds-load-end c).In_ok-check_size)).2)))

pub read_bounds-requires : goal.read_bounds-requires
read_bounds-requires c =
    let (_, range, size) = third-sized c.args.file.now (none (goal.at.read_bounds-requires c).In_ok-check_size) in
    let (_, _, few) = range-orders AnyPattern (field c.args.file.now 0) (field c.args.file.now 2) range in
    (omega (arith, nodes-are (goal.at.read_bounds-requires c).After-field_at-m, links-are (goal.at.read_bounds-requires c).After-field_at-m, size), omega (arith, links-are (goal.at.read_bounds-requires c).After-field_at-m, few, c.requires.in_bounds))

pub returns-in_err-read : goal.returns-in_err-read
returns-in_err-read c =
    let e : c.from_residual-in_err-read.result ≡ Err c.in_err-read.field-0.0 = grind (arith, common_steps) in
    let p = (goal.at.returns-in_err-read c).After-field_at-m in
    rw e (loaded-before _ _ _ (nodes-are p) (links-are p) (none (goal.at.returns-in_err-read c).In_ok-check_size) c.load.ensures c.in_err-read.was)

pub returns-then-not-read_bounds : goal.returns-then-not-read_bounds
returns-then-not-read_bounds c =
    let p = (goal.at.returns-then-not-read_bounds c).After-field_at-m in
    rw c.refusal.ensures
    (loaded-outside _ _ _ (nodes-are p) (links-are p) (none (goal.at.returns-then-not-read_bounds c).In_ok-check_size) c.load.ensures c.in_ok-read.was c.read_bounds.ensures.value c.if-not-read_bounds.true)

pub returns : goal.returns
returns c =
    let p = (goal.at.returns c).After-field_at-m in
    loaded-bounds _ _ _ (nodes-are p) (links-are p) (none (goal.at.returns c).In_ok-check_size) c.load.ensures c.in_ok-read.was c.read_bounds.ensures.value c.if-not-read_bounds.false
    c.read_bounds.ensures.bounds_after
