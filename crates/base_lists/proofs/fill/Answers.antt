-- `base_lists::fill` meets its contract. The loop's invariant: the entries passed are x, and the others as they were. Assumes nothing.
use Rattle.std.specs.Prelude.{◌++◌, ◌≡◌, ◌+◌, ◌<◌}
use Rattle.base_lists.specs.Kit.{List, ℕ, length, get_or, drop, set, replicate, set_at, length-replicate, arith}
use Rattle.std.proofs.lemmas.List.{drop_more, replicate_more}
use Rattle.std.proofs.lemmas.Grind.{common_steps}
use Rattle.base_lists.proofs.fill.Goals as goal

same_more : {X : Type 0} (x : X) (xs : List X) (i : ℕ) → i < length xs → set (replicate i x ++ drop i xs) i x ≡ replicate (i + 1) x ++ drop (i + 1) xs
same_more x xs i h =
    grind (arith, common_steps, drop_more xs i x h, set_at (replicate i x) (get_or xs i x) (drop (i + 1) xs) x i (length-replicate i x), replicate_more i x)

pub loop-entry-preserved : goal.loop-entry-preserved
loop-entry-preserved g c =
    rw c.loop-entry.invariant (same_more c.args.x c.args.s.now c.loop-entry.entry-index (omega arith))
