-- How a run of the program ends.
use Rattle.std.specs.Prelude.{◌≡◌, Result, Ok, Err, IsSome, IsNone, IsSomeAnd}
use Rattle.base_lists.specs.Kit.{Bool, false, true, List, ℕ, take}
use Rattle.file_format.specs.Layout.{first_edition}
use Rattle.finder_read.specs.declared.Files.{Files}
use Rattle.finder_pieces.specs.Handed.{ReportHanded}
use Rattle.finder.specs.declared.ReportError.{ReportError}
use Rattle.finder.specs.declared.ReportError.TheVariants.{Broken, NoPattern, NoBoard}

-- how a run ends: the report was handed over whole, or it was not
abbrev pub End : Type 0
End = Result (Unit {0}) ReportError

unfoldable pub report_end : Bool → End
report_end true = Ok tt
report_end false = Err Broken

-- Both files could be read, and so many items of the report of what is held of them were handed over, by whether it was handed over whole.
abbrev pub Reported : List ℕ → List ℕ → ℕ → Files → Bool → Type 0
Reported pattern board k files whole =
    IsSomeAnd files.pattern (λ parts. IsSomeAnd files.board (λ nodes. ReportHanded (first_edition (take parts pattern)) (first_edition (take nodes board)) k whole))

-- How a run may end that left this in the buffers, by what is held of the files, and by how many items of their report were handed over: all where both
-- could be read and no write failed, and none where one could not be.
unfoldable pub ReportRan : List ℕ → List ℕ → ℕ → Files → End → Type 0
ReportRan pattern board k files (Ok _) = Reported pattern board k files true
ReportRan pattern board k files (Err Broken) = Reported pattern board k files false
ReportRan pattern board k files (Err NoPattern) = IsNone files.pattern × (k ≡ 0)
ReportRan pattern board k files (Err NoBoard) = IsSome files.pattern × IsNone files.board × (k ≡ 0)
