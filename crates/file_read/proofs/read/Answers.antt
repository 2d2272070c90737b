-- `file_read::read` meets its contract: the call is refused, or what fits is filled in. Assumes nothing.
use mathlib.Core.Path.{◌≡◌, sym, ap₂, ◌∙◌}
use Rattle.std.proofs.Common.{Err, arith}
use Rattle.std.proofs.lemmas.Grind.{common_steps}
use Rattle.file_format.specs.Layout.{length_of}
use Rattle.file_format.proofs.Reading.{reading-refused, loaded-accepted, loaded-refused, role-bounds}
use Rattle.file_format.proofs.Refusals.{accepted}
use Rattle.file_read.proofs.read.Goals as goal

pub returns-in_err-loaded : goal.returns-in_err-loaded
returns-in_err-loaded c = let e : c.from_residual.result ≡ Err c.in_err-loaded.field-0.0 = grind (arith, common_steps) in rw e (sym (reading-refused _ _ _ _ _ _ _ (loaded-refused c.load.ensures c.in_err-loaded.was)))

pub load-requires : goal.load-requires
load-requires c = let (n, m) = role-bounds c.args.role in record { for_kinds = n; for_starts = m; for_ends = m }

pub fill_fitting-requires : goal.fill_fitting-requires
fill_fitting-requires c =
    let s = (c.load.ensures.held _ c.in_ok-loaded.was).stands in
    (s.nodes, s.links, (accepted _ _ (loaded-accepted c.load.ensures c.in_ok-loaded.was)).size ∙ sym (ap₂ (length_of c.args.edition) s.nodes s.links))

pub returns : goal.returns
returns c = c.fill_fitting.ensures _ (loaded-accepted c.load.ensures c.in_ok-loaded.was)
