-- How the files of the shelf are read: one after another, from what becomes of each. (document 02, a shelf in order)
use Rattle.std.specs.Prelude.{Result, Ok, Err, cond, List, [], ◌∷◌, map, ◌≡◌, ℕ, suc, ◌+◌, ◌/◌, ◌%◌, eqb, take}
use Rattle.file_format.specs.declared.Edition.TheVariants.{Second}
use Rattle.file_format.specs.declared.Role.TheVariants.{Pattern}
use Rattle.file_format.specs.Cut.{most, cut}
use Rattle.input.specs.declared.ReadError.TheVariants.{Absent, Unreadable}
use Rattle.input.specs.Reading.{FileFound}
use Rattle.shelf_files.specs.declared.Next.{Next}
use Rattle.shelf_files.specs.declared.Next.TheVariants as next
use Rattle.shelf_files.specs.declared.UnreadableFile.{UnreadableFile}

-- "named `p00.cir` to `p15.cir`": two digits, 48 being the byte of 0
abbrev pub shelf_name_of : ℕ → List ℕ
shelf_name_of i = 112 ∷ (48 + i / 10) ∷ (48 + i % 10) ∷ 46 ∷ 99 ∷ 105 ∷ 114 ∷ []

-- what is read of a file at most: a byte more than the longest that is accepted
abbrev pub most_bytes : ℕ
most_bytes = most Second Pattern

-- what is read of the files of a shelf so
abbrev pub cut_each : List (List ℕ) → List (List ℕ)
cut_each files = map (cut Second Pattern) files

-- ---- the notes: what became of each file, as a number

abbrev pub noted : FileFound → ℕ
noted (Ok size) = size
noted (Err Absent) = 65536
noted (Err Unreadable) = 65537

-- what a note says
unfoldable pub note_means : ℕ → FileFound
note_means note = cond (eqb note 65536) (Err Absent) (cond (eqb note 65537) (Err Unreadable) (Ok note))

abbrev pub answers : List ℕ → List FileFound
answers notes = map note_means notes

-- ---- how the reading goes on, and how it ends

-- the next file's bytes go behind those of this one
abbrev pub next_after : FileFound → ℕ → Next
next_after (Ok size) at = next.Further (at + size)
next_after (Err Absent) at = next.Ends
next_after (Err Unreadable) at = next.GivesUp

-- after a file more
unfoldable pub going_on : Next → FileFound → Next
going_on (next.Further at) x = next_after x at
going_on next.Ends x = next.Ends
going_on next.GivesUp x = next.GivesUp

-- after some files more
unfoldable pub standing : Next → List FileFound → Next
standing here [] = here
standing here (x ∷ xs) = standing (going_on here x) xs

-- the i-th file is looked at, and its bytes go to this place: all files before it are there
unfoldable pub FileReached : List ℕ → ℕ → ℕ → Type 0
FileReached notes i at = standing (next.Further 0) (answers (take i notes)) ≡ next.Further at

-- how it ended: so many files were read, or the one of this number could not be
abbrev pub Taken : Type 0
Taken = Result ℕ UnreadableFile

-- "reads up to 16 .. files .., stops at the first absent one": how many are read, from what becomes of each, the first of these being the i-th. Those
-- after the first that is absent, or that cannot be read, do not count. A file of 0 bytes is there.
unfoldable pub end_from : ℕ → List FileFound → Taken
end_from i [] = Ok i
end_from i (Ok size ∷ later) = end_from (suc i) later
end_from i (Err Absent ∷ later) = Ok i
end_from i (Err Unreadable ∷ later) = Err (record { 0 = i })

abbrev pub shelf_end : List ℕ → Taken
shelf_end notes = end_from 0 (answers notes)
