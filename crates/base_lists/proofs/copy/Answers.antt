-- `base_lists::copy` meets its contract. The loop's invariant: the first entries are copied, and the others as they were. Assumes nothing.
use Rattle.std.specs.Prelude.{◌++◌, ◌≡◌, ◌+◌, ◌<◌}
use Rattle.base_lists.specs.Kit.{List, ℕ, length, get_or, drop, take, set, set_at, length-take-le, arith}
use Rattle.std.proofs.lemmas.List.{drop_more, take_more}
use Rattle.std.proofs.lemmas.Grind.{common_steps}
use Rattle.base_lists.proofs.copy.Goals as goal

copied_more : {X : Type 0} (x : X) (part old : List X) (i : ℕ) → i < length part → i < length old → x ≡ get_or part i x
    → set (take i part ++ drop i old) i x ≡ take (i + 1) part ++ drop (i + 1) old
copied_more x part old i h k e =
    grind (arith, common_steps, drop_more old i x k, set_at (take i part) (get_or old i x) (drop (i + 1) old) x i (length-take-le i part (omega arith)), take_more part i x h, e)

pub loop-i-preserved : goal.loop-i-preserved
loop-i-preserved g c =
    rw c.loop-i.invariant (copied_more c.index-part-i.result c.args.part.now c.args.out.now c.loop-i.i (omega arith) (omega (arith, c.requires)) c.index-part-i.is)
