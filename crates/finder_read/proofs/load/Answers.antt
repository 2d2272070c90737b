use Rattle.std.specs.Prelude.{Ok, Err, IfSome}
use Rattle.base_lists.specs.Kit.{sym, List, ℕ, length, length-take-le, arith}
use Rattle.input.specs.declared.ReadError.TheVariants.{Absent, Unreadable}
use Rattle.input.specs.Reading.{FileFound, IsPrefixLen, Within}
use Rattle.finder_read.specs.Held.{held_of}
use Rattle.finder_read.proofs.load.Goals as goal

-- no more bytes are held than the buffer has
holds : (x : FileFound) (bytes : List ℕ) → Within (length bytes) x → IfSome (held_of x) (λ size. IsPrefixLen size bytes)
unfolding held_of
holds (Ok size) bytes h = (h, sym (length-take-le size bytes h))
holds (Err Absent) bytes h = (omega arith, sym (length-take-le 0 bytes (omega arith)))
holds (Err Unreadable) bytes h = tt

pub returns : goal.returns
returns c = rw c.as_read.ensures (holds _ _ c.load.ensures)
