-- `file_check::check_size` meets its contract: the length is tested, and then what N and M ask. Assumes nothing.
use Rattle.base_lists.specs.Kit.{le-ltb, lt-ltb}
use Rattle.file_format.specs.Layout.{nodes_of, links_of}
use Rattle.file_format.specs.Refusals.{size_number, turned, by_number}
use Rattle.file_format.specs.Reply.{verdict_of}
use Rattle.file_check.proofs.check_size.Goals as goal

pub returns-then-file-lt4 : goal.returns-then-file-lt4
unfolding size_number verdict_of by_number turned
returns-then-file-lt4 c = rw (c.refusal.ensures, lt-ltb _ _ c.if-file-lt4.true)

pub returns : goal.returns
unfolding size_number nodes_of links_of
returns c =
    rw (c.check_counts.ensures, c.length_of.ensures, c.field_at-m.ensures, c.field_at-n.ensures, le-ltb _ _ c.if-file-lt4.false)
