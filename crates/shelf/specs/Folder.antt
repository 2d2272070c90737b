-- A folder, and what is to be printed in it: from the files' bytes alone.
use Rattle.std.specs.Prelude.{Err, Bool, true, false, cond, List, [], ◌∷◌, ◌≡◌, ℕ, length, take, drop}
use Rattle.file_format.specs.declared.Edition.TheVariants.{Second}
use Rattle.file_format.specs.declared.Role.TheVariants.{Pattern}
use Rattle.file_format.specs.Cut.{cut}
use Rattle.input.specs.declared.ReadError.TheVariants.{Absent, Unreadable}
use Rattle.shelf_files.specs.Reading.{noted}
use Rattle.shelf.specs.Printing.{shelf_text_of}

-- what there is under a name: a file with these bytes, be they none; no such name; or what cannot be read
pub data Entry : Type 0 where
  file : List ℕ → Entry
  absent : Entry
  unreadable : Entry

-- "stops at the first absent one": the files that are on the shelf, from what there is under `p00.cir`, `p01.cir`, ..
unfoldable pub on_shelf : List Entry → List (List ℕ)
on_shelf [] = []
on_shelf (file content ∷ later) = content ∷ on_shelf later
on_shelf (absent ∷ later) = []
on_shelf (unreadable ∷ later) = []

-- none ahead of the first absent one cannot be read
unfoldable pub all_readable : List Entry → Bool
all_readable [] = true
all_readable (file content ∷ later) = all_readable later
all_readable (absent ∷ later) = true
all_readable (unreadable ∷ later) = false

-- what is printed
unfoldable pub text_in : List Entry → List ℕ
text_in folder = cond (all_readable folder) (shelf_text_of (on_shelf folder)) []

-- What is noted of the files that are looked at, and the bytes read, are the folder's: of each file as much as is read at most.
unfoldable pub FolderTold : List Entry → List ℕ → List ℕ → Type 0
FolderTold [] [] bytes = Unit {0}
FolderTold [] (note ∷ notes) bytes = ⊥
FolderTold (entry ∷ later) [] bytes = ⊥
FolderTold (file content ∷ later) (note ∷ notes) bytes =
    (note ≡ length (cut Second Pattern content)) × (take note bytes ≡ cut Second Pattern content) × FolderTold later notes (drop note bytes)
FolderTold (absent ∷ later) (note ∷ notes) bytes = note ≡ noted (Err Absent)
FolderTold (unreadable ∷ later) (note ∷ notes) bytes = note ≡ noted (Err Unreadable)
