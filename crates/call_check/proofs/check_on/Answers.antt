-- `call_check::check_on` meets its contract: the centre or the bytes are refused, or it is yes or no. Assumes nothing.
use mathlib.Core.Path.{◌≡◌}
use Rattle.std.proofs.Common.{Err, arith}
use Rattle.std.proofs.lemmas.Grind.{common_steps}
use Rattle.call_decide.proofs.Rooms.{bytes-hold}
use Rattle.call_check.proofs.Judging.{on-refused, on-judged}
use Rattle.call_check.proofs.check_on.Goals as goal

pub returns-in_err-bytes_verdict : goal.returns-in_err-bytes_verdict
returns-in_err-bytes_verdict c =
    let e : c.from_residual.result ≡ Err c.in_err-bytes_verdict.field-0.0 = grind (arith, common_steps) in
    rw e (on-refused _ _ _ _ _ _ c.bytes_verdict.ensures c.in_err-bytes_verdict.was)

pub overflow_cast-around : goal.overflow_cast-around
overflow_cast-around c =
    omega (arith, (bytes-hold _ _ _ _ _ c.bytes_verdict.ensures c.in_ok-bytes_verdict.was).0, c.requires.nodes.nodes)

pub check_circuits-requires : goal.check_circuits-requires
check_circuits-requires c =
    record {
      drawn = c.requires;
      centre_in_bounds = (bytes-hold _ _ _ _ _ c.bytes_verdict.ensures c.in_ok-bytes_verdict.was).0;
      nodes_len = (bytes-hold _ _ _ _ _ c.bytes_verdict.ensures c.in_ok-bytes_verdict.was).1;
    }

pub returns : goal.returns
returns c =
    on-judged _ _ _ _ _ _ c.bytes_verdict.ensures c.in_ok-bytes_verdict.was c.check_circuits.ensures
