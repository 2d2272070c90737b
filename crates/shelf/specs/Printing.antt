-- What is handed to standard output.
use Rattle.std.specs.Prelude.{Result, Ok, Err, Bool, true, false, List, [], ◌≡◌, ℕ, length, take}
use Rattle.call_shelf.specs.Strings.{cut_into}
use Rattle.call_shelf.specs.Text.{shelf_text}
use Rattle.call_shelf.specs.Shelf.{shelf_of}
use Rattle.shelf.specs.declared.ShelfError.{ShelfError}
use Rattle.shelf.specs.declared.ShelfError.TheVariants.{Broken, NoFile}
use Rattle.shelf_files.specs.Reading.{Taken, shelf_end}

-- what is printed of files
unfoldable pub shelf_text_of : List (List ℕ) → List ℕ
shelf_text_of files = shelf_text (shelf_of files)

-- what is printed after the reading ended so: the text of the files that were read, which lie one after another, as long as is noted of each; where
-- one cannot be read, nothing
unfoldable pub printed_at : Taken → List ℕ → List ℕ → List ℕ
printed_at (Ok count) bytes notes = shelf_text_of (cut_into bytes (take count notes))
printed_at (Err file) bytes notes = []

-- from the bytes read and from what was noted of each file
unfoldable pub printed_of : List ℕ → List ℕ → List ℕ
printed_of bytes notes = printed_at (shelf_end notes) bytes notes

-- So many bytes were handed over: those at the front of the buffer, and they are the text; or a write failed, and none count.
unfoldable pub ShelfHanded : List ℕ → List ℕ → ℕ → Bool → Type 0
ShelfHanded text out k true = (k ≡ length text) × (take k out ≡ text)
ShelfHanded text out k false = k ≡ 0

-- how a run ends: so many files were read and their lines handed over whole, or they were not
abbrev pub End : Type 0
End = Result ℕ ShelfError

unfoldable pub shelf_ended : ℕ → Bool → End
shelf_ended count true = Ok count
shelf_ended count false = Err (Broken count)

-- How a run may end that left this in the tables and handed so many bytes over: the whole text of the files that were read, where no write failed, and
-- none where one of the files could not be read.
unfoldable pub ShelfRan : List ℕ → List ℕ → List ℕ → ℕ → End → Type 0
ShelfRan bytes notes out k (Ok count) = (shelf_end notes ≡ Ok count) × ShelfHanded (printed_of bytes notes) out k true
ShelfRan bytes notes out k (Err (Broken count)) = (shelf_end notes ≡ Ok count) × ShelfHanded (printed_of bytes notes) out k false
ShelfRan bytes notes out k (Err (NoFile i)) = (shelf_end notes ≡ Err (record { 0 = i })) × (k ≡ 0)
