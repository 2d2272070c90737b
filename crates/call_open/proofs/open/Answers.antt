-- `call_open::open` meets its contract: both files are read and prepared, and what lines are put from is made. Assumes nothing.
use Rattle.std.proofs.Common.{◌≡◌, Err, arith}
use Rattle.std.proofs.lemmas.Grind.{common_steps}
use Rattle.base_lists.specs.Kit.{refl}
use Rattle.call_open.proofs.Opened.{opened-refused, opened-accepted}
use Rattle.call_open.proofs.open.Goals as goal

pub read_prepared-requires : goal.read_prepared-requires
read_prepared-requires c = record {
  as_pattern = record { nodes = refl; links = refl };
  pk_len = (refl, refl);
  masks_len = c.requires.masks_len;
}

pub fill_lines-requires : goal.fill_lines-requires
fill_lines-requires c =
    record {
      some_prepared = record { pattern = _; board = _; prepared = c.read_prepared.ensures.both _ c.in_ok-read.was };
      lines_room = c.requires.lines_room;
    }

pub shape_of-masks : goal.shape_of-masks
shape_of-masks c = c.read_prepared.auto.masks

pub shape_of-offsets : goal.shape_of-offsets
shape_of-offsets c = c.read_prepared.auto.offsets

pub shape_of-targets : goal.shape_of-targets
shape_of-targets c = c.read_prepared.auto.targets

pub returns-in_err-read : goal.returns-in_err-read
returns-in_err-read c =
    let e : c.from_residual.result ≡ Err c.in_err-read.field-0.0 = grind (arith, common_steps) in
    rw e (opened-refused c.read_prepared.ensures _ c.in_err-read.was)

pub returns : goal.returns
returns c =
    opened-accepted c.read_prepared.ensures _ c.in_ok-read.was (c.fill_lines.ensures _ _ (c.read_prepared.ensures.both _ c.in_ok-read.was))
