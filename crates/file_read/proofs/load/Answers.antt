-- `file_read::load` meets its contract: 1 to 3 by the size, then the links tested where they were stored. Assumes nothing.
use mathlib.Core.Path.{◌≡◌, sym, ap₂, subst, ◌∙◌}
use Prim.Native.Nat.{ℕ}
use native.Mathlib.Nat.{le_trans, le_of_eq}
use native.Mathlib.Omega.{arith}
use lib.Dec.{T}
use Rattle.std.proofs.Common.{Err}
use Rattle.std.proofs.lemmas.Grind.{common_steps}
use Rattle.graph.specs.Circuit.{circuit}
use Rattle.file_format.specs.declared.Role.{Role}
use Rattle.file_format.specs.Layout.{in_edition, nodes_of, links_of, length_of}
use Rattle.file_format.specs.Reading.{Stands}
use Rattle.file_format.specs.Refusals.{size_number}
use Rattle.file_format.specs.Role.{in_range}
use Rattle.file_format.proofs.Reading.{size-turned, size-none, stands-size, stands-room, filled-stands, links-turned, links-sound}
use Rattle.file_format.proofs.Refusals.{sized, range-orders}
use Rattle.file_read.proofs.load.Goals as goal
use Rattle.file_read.proofs.load.Goals.{After-field_at-m, After-fill_links, In_ok-check_size}

none : (c : In_ok-check_size) → size_number c.args.role ((in_edition c.args.edition c.args.file.now)) ≡ 0
none c = size-none _ _ c.check_size.ensures c.in_ok-check_size.was

nodes-are : (c : After-field_at-m) → c.field_at-n.result ≡ nodes_of ((in_edition c.args.edition c.args.file.now))
unfolding nodes_of
nodes-are c = c.field_at-n.ensures

links-are : (c : After-field_at-m) → c.field_at-m.result ≡ links_of ((in_edition c.args.edition c.args.file.now))
unfolding links_of
links-are c = c.field_at-m.ensures

same-range : (r : Role) (n m n' m' : ℕ) → n ≡ n' → m ≡ m' → T (in_range r n' m') → T (in_range r n m)
same-range r n m n' m' e f t = rw (e, f) t

-- the file is as long as the stretches that are stored
long : (c : After-field_at-m) → length_of c.args.edition (nodes_of ((in_edition c.args.edition c.args.file.now))) (links_of ((in_edition c.args.edition c.args.file.now))) ≡ length_of c.args.edition c.field_at-n.result c.field_at-m.result
long c = sym (ap₂ (length_of c.args.edition) (nodes-are c) (links-are c))

standing : (c : After-fill_links) → Stands ((in_edition c.args.edition c.args.file.now)) c.field_at-n.result c.field_at-m.result ((circuit c.fill_labels.new.labels c.fill_links.new.starts c.fill_links.new.ends))
unfolding links_of nodes_of
standing c =
    filled-stands _ _ _ _ _ _ _ _ _ ((let fact : c.field_at-n.result ≡ nodes_of ((in_edition c.args.edition c.args.file.now)) = c.field_at-n.ensures in fact)) ((let fact : c.field_at-m.result ≡ links_of ((in_edition c.args.edition c.args.file.now)) = c.field_at-m.ensures in fact)) c.fill_labels.ensures c.fill_links.ensures.starts_after c.fill_links.ensures.ends_after

pub returns-in_err-check_size : goal.returns-in_err-check_size
returns-in_err-check_size c =
    let e : c.from_residual.result ≡ Err c.in_err-check_size.field-0.0 = grind (arith, common_steps) in
    rw e (size-turned _ _ c.check_size.ensures _ c.in_err-check_size.was)

pub field_at-n-requires : goal.field_at-n-requires
field_at-n-requires c = omega (arith, (sized _ _ (none (goal.at.field_at-n-requires c).In_ok-check_size)).0)

pub field_at-m-requires : goal.field_at-m-requires
field_at-m-requires c = omega (arith, (sized _ _ (none (goal.at.field_at-m-requires c).In_ok-check_size)).0)

pub fill_labels-requires : goal.fill_labels-requires
fill_labels-requires c =
    let (_, range, size) = sized _ _ (none (goal.at.fill_labels-requires c).In_ok-check_size) in
    let (_, few, _) = range-orders c.args.role (nodes_of ((in_edition c.args.edition c.args.file.now))) (links_of ((in_edition c.args.edition c.args.file.now))) range in
    (size ∙ long (goal.at.fill_labels-requires c).After-field_at-m, le_trans (le_of_eq (nodes-are (goal.at.fill_labels-requires c).After-field_at-m)) (le_trans few c.requires.for_kinds))

pub fill_links-requires : goal.fill_links-requires
fill_links-requires c =
    let (_, range, size) = sized _ _ (none (goal.at.fill_links-requires c).In_ok-check_size) in
    let (_, _, short) = range-orders c.args.role (nodes_of ((in_edition c.args.edition c.args.file.now))) (links_of ((in_edition c.args.edition c.args.file.now))) range in
    let m = le_of_eq (links-are (goal.at.fill_links-requires c).After-field_at-m) in
    record {
      file_len = size ∙ long (goal.at.fill_links-requires c).After-field_at-m;
      m_in_bounds = (le_trans m (le_trans short c.requires.for_starts), le_trans m (le_trans short c.requires.for_ends));
    }

pub slice_bounds-check_links-end : goal.slice_bounds-check_links-end
slice_bounds-check_links-end c = (stands-room (standing (goal.at.slice_bounds-check_links-end c).After-fill_links)).1

pub slice_bounds-check_links-end-2 : goal.slice_bounds-check_links-end-2
slice_bounds-check_links-end-2 c = sym (stands-size (standing (goal.at.slice_bounds-check_links-end-2 c).After-fill_links)).1

pub slice_bounds-check_links-end-3 : goal.slice_bounds-check_links-end-3
slice_bounds-check_links-end-3 c = (stands-room (standing (goal.at.slice_bounds-check_links-end-3 c).After-fill_links)).2

pub slice_bounds-check_links-end-4 : goal.slice_bounds-check_links-end-4
slice_bounds-check_links-end-4 c = sym (stands-size (standing (goal.at.slice_bounds-check_links-end-4 c).After-fill_links)).2

pub check_links-requires : goal.check_links-requires
check_links-requires c =
    let (_, starts, ends) = stands-size (standing (goal.at.check_links-requires c).After-fill_links) in
    let range = same-range c.args.role _ _ (nodes_of ((in_edition c.args.edition c.args.file.now))) (links_of ((in_edition c.args.edition c.args.file.now))) (nodes-are (goal.at.check_links-requires c).After-field_at-m) (links-are (goal.at.check_links-requires c).After-field_at-m) (sized _ _ (none (goal.at.check_links-requires c).In_ok-check_size)).1 in
    (subst (λ (k : ℕ). T (in_range c.args.role c.field_at-n.result k)) (sym starts) range, starts ∙ sym ends)

pub returns : goal.returns
returns c =
    let at = goal.at.returns c in
    links-sound _ _ _ _ _ (standing at.After-fill_links) (none at.In_ok-check_size) c.check_links.ensures c.in_ok-radius.was

pub returns-in_err-radius : goal.returns-in_err-radius
returns-in_err-radius c =
    let e : c.from_residual-in_err-radius.result ≡ Err c.in_err-radius.field-0.0 = grind (arith, common_steps) in
    let at = goal.at.returns-in_err-radius c in
    rw e (links-turned _ _ _ _ _ (standing at.After-fill_links) (none at.In_ok-check_size) c.check_links.ensures c.in_err-radius.was)
