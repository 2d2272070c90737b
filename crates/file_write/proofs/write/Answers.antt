-- `file_write::write` meets its contract: the call is refused, is short of room, or fills the file in. Assumes nothing.
use Rattle.std.specs.Prelude.{◌≡◌, ◌≤◌}
use Rattle.std.proofs.Common.{Err}
use Rattle.std.proofs.lemmas.Grind.{common_steps}
use Rattle.base_lists.specs.Kit.{◌∙◌, sym, ap, ℕ, length, length-take-le, arith}
use Rattle.file_format.specs.Layout.{package_count}
use Rattle.file_format.specs.Refusals.{first, accept}
use Rattle.file_format.specs.Reply.{verdict_of}
use Rattle.file_format.proofs.Fields.{package-count-le}
use Rattle.file_format.proofs.Refusals.{range-bounds}
use Rattle.file_write.specs.Writing.{circuit_conditions}
use Rattle.file_write.proofs.Writing.{Sound, sound, writing-refused, writing-short, writing-filled}
use Rattle.file_write.proofs.write.Goals as goal
use Rattle.file_write.proofs.write.Goals.{After-check, In_ok-check}

told : (c : After-check) → first (circuit_conditions c.args.role c.args.edition c.args.kinds.now c.args.packages.now c.args.starts.now c.args.ends.now) ≡ verdict_of c.check.result
told c = sym c.check.ensures

sound-circuit : (c : In_ok-check) → first (circuit_conditions c.args.role c.args.edition c.args.kinds.now c.args.packages.now c.args.starts.now c.args.ends.now) ≡ accept
unfolding verdict_of
sound-circuit c = sym c.check.ensures ∙ ap verdict_of c.in_ok-check.was

pub returns-in_err-check : goal.returns-in_err-check
unfolding verdict_of
returns-in_err-check c =
    let e : c.from_residual.result ≡ Err c.in_err-check.field-0.0 = grind (arith, common_steps) in
    rw e (sym (writing-refused _ _ _ _ _ _ _ _ (told (goal.at.returns-in_err-check c).After-check ∙ ap verdict_of c.in_err-check.was)))

-- what is known of a circuit that no condition is about
known : (c : In_ok-check) → Sound c.args.role c.args.edition c.args.kinds.now c.args.packages.now c.args.starts.now c.args.ends.now
known c = sound _ _ _ _ _ _ (sound-circuit c)

-- there are as many packages as are written
enough : (c : In_ok-check) → (p : ℕ) → p ≡ package_count c.args.edition (length c.args.kinds.now) → p ≤ length c.args.packages.now
enough c p e = omega (arith, e, (known c).given, package-count-le c.args.edition (length c.args.packages.now))

pub length_of-size-requires : goal.length_of-size-requires
length_of-size-requires c =
    let b = range-bounds c.args.role (length c.args.kinds.now) (length c.args.starts.now) (known (goal.at.length_of-size-requires c).In_ok-check).range in
    (omega arith, omega arith)

pub returns-then-out-size : goal.returns-then-out-size
returns-then-out-size c = sym (writing-short _ _ _ _ _ _ _ (sound-circuit (goal.at.returns-then-out-size c).In_ok-check) (omega arith))

pub slice_bounds-put_fields-end : goal.slice_bounds-put_fields-end
slice_bounds-put_fields-end c = sym (length-take-le _ _ (enough (goal.at.slice_bounds-put_fields-end c).In_ok-check _ c.package_count-p.ensures.0))

pub put_fields-requires : goal.put_fields-requires
put_fields-requires c =
    let b = range-bounds c.args.role (length c.args.kinds.now) (length c.args.starts.now) (known (goal.at.put_fields-requires c).In_ok-check).range in
    let l = length-take-le _ c.args.packages.now (enough (goal.at.put_fields-requires c).In_ok-check _ c.package_count-p.ensures.0) in
    record {
      kinds_len_bound = (omega arith, omega arith, (known (goal.at.put_fields-requires c).In_ok-check).pairs);
      starts_in_bounds = omega arith;
    }

pub returns : goal.returns
returns c =
    rw (c.length_of-size.ensures, c.put_fields.ensures, c.package_count-p.ensures.0)
    (sym (writing-filled _ _ _ _ _ _ _ (sound-circuit (goal.at.returns c).In_ok-check) (omega arith)))
