-- How a run ends. Assumes nothing.
use Rattle.std.specs.Prelude.{◌≡◌, Some}
use Rattle.base_lists.specs.Kit.{Bool, false, true, List, ℕ, take}
use Rattle.file_format.specs.Layout.{first_edition}
use Rattle.finder_read.specs.declared.Files.{Files}
use Rattle.finder_pieces.specs.Handed.{ReportHanded}
use Rattle.finder.specs.Run.{report_end, ReportRan}

-- one in which both files could be read, and so many items were handed over
pub ran-begun : (pattern board : List ℕ) (k : ℕ) (files : Files) (parts nodes : ℕ) (whole : Bool) → files.pattern ≡ Some parts → files.board ≡ Some nodes
    → ReportHanded (first_edition (take parts pattern)) (first_edition (take nodes board)) k whole
    → ReportRan pattern board k files (report_end whole)
unfolding ReportRan report_end
ran-begun pattern board k files parts nodes true p b h = rw (p, b) h
ran-begun pattern board k files parts nodes false p b h = rw (p, b) h
