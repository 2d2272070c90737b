-- A reply that counts has the verdict that it was made from. Assumes nothing.
use Rattle.std.specs.Prelude.{◌≡◌}
use Rattle.base_lists.specs.Kit.{refl}
use Rattle.table.specs.declared.Counts.{Counts}
use Rattle.table.specs.Reply.{counts_reply}
use Rattle.file_format.specs.Refusals.{Verdict, accept, refuse}

pub replied-verdict : (v : Verdict) (counts : Counts) → (counts_reply v counts).verdict ≡ v
unfolding counts_reply
replied-verdict accept counts = refl
replied-verdict (refuse x) counts = refl
