-- `call_place::find_on` meets its contract: the centre or a table is refused, or the place is sought. Assumes nothing.
use mathlib.Core.Path.{◌≡◌}
use Rattle.std.specs.Prelude.{◌≤◌, ◌<◌}
use Rattle.std.proofs.Common.{Err, arith}
use Rattle.std.proofs.lemmas.Grind.{common_steps}
use Rattle.base_lists.specs.Kit.{length, get_or}
use Rattle.table.specs.Reply.{no_counts}
use Rattle.place.specs.Outcome.{place_reply}
use Rattle.place.proofs.Find.{drawn-tabled, tabled-links}
use Rattle.call_decide.proofs.Rooms.{place-holds}
use Rattle.call_place.proofs.Finding.{on-refused, on-placed}
use Rattle.call_place.proofs.find_on.Goals as goal
use Rattle.call_place.proofs.find_on.Goals.{In_ok-place_verdict}

pub offset_bounds-offsets-n : goal.offset_bounds-offsets-n
offset_bounds-offsets-n c = omega (arith, c.requires.drawn.nodes.nodes)

pub bounds-offsets-n : goal.bounds-offsets-n
bounds-offsets-n c =
    omega (arith, c.requires.drawn.nodes.nodes, c.requires.prepared.net.room.in_offsets)

pub overflow_cast-m : goal.overflow_cast-m
overflow_cast-m c = omega (arith, c.type_inv.offsets (length c.args.node_labels.now))

pub returns-in_err-place_verdict : goal.returns-in_err-place_verdict
unfolding place_reply
returns-in_err-place_verdict c =
    λ ps pe ns ne d p.
    let e : c.from_residual.result ≡ Err (record { refusal = c.in_err-place_verdict.field-0.0; counts = no_counts }) = grind (arith, common_steps) in
    rw e (on-refused _ _ _ _ _ _ _ _ (tabled-links (drawn-tabled d p)) c.place_verdict.ensures c.in_err-place_verdict.was)

enough : (c : In_ok-place_verdict) →
    let n = length c.args.node_labels.now in
    (c.args.asked.centre < n) ×
    (((n ≤ length c.args.nodes.now) × (get_or c.args.offsets.now n 0 ≤ length c.args.link_bytes.now)) ×
    ((n ≤ length c.args.table.now) × (n ≤ length c.args.distances.now)))
enough c = place-holds _ _ _ _ _ _ _ c.place_verdict.ensures c.in_ok-place_verdict.was

pub overflow_cast-around : goal.overflow_cast-around
overflow_cast-around c = omega (arith, (enough (goal.at.overflow_cast-around c).In_ok-place_verdict).0, c.requires.drawn.nodes.nodes)

pub place_circuits-requires : goal.place_circuits-requires
place_circuits-requires c = record {
  some_drawn = c.requires;
  centre_in_bounds = (enough (goal.at.place_circuits-requires c).In_ok-place_verdict).0;
  node_labels_in_bounds = (enough (goal.at.place_circuits-requires c).In_ok-place_verdict).1.0;
  node_labels_in_bounds_2 = (enough (goal.at.place_circuits-requires c).In_ok-place_verdict).1.1;
}

pub returns : goal.returns
returns c =
    λ ps pe ns ne d p.
    on-placed _ _ _ _ _ _ _ _ (tabled-links (drawn-tabled d p)) c.place_verdict.ensures c.in_ok-place_verdict.was
    (c.place_circuits.ensures ps pe ns ne d p)
