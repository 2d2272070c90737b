-- In any folder, where what was noted and read is what the folder has, what is printed is the text of its shelf. Assumes nothing.
use Rattle.std.specs.Prelude.{Ok, Err, Bool, List, [], cond, drop, false, length, suc, take, true, ℕ, ◌+◌, ◌∷◌, ◌≡◌}
use Rattle.std.proofs.Common.{ap, arith, length-take, refl, zero-add}
use Rattle.std.proofs.Math.Path.{ap₂, ◌∙◌}
use Rattle.file_format.specs.declared.Edition.TheVariants.{Second}
use Rattle.file_format.specs.declared.Role.TheVariants.{Pattern}
use Rattle.file_format.specs.Cut.{cut}
use Rattle.call_shelf.specs.Strings.{cut_into}
use Rattle.input.specs.declared.ReadError.TheVariants.{Absent, Unreadable}
use Rattle.input.specs.Reading.{FileFound}
use Rattle.shelf_files.specs.Reading.{most_bytes, note_means, answers, Taken, end_from, shelf_end, cut_each}
use Rattle.shelf.specs.Printing.{shelf_text_of, printed_at, printed_of}
use Rattle.shelf.specs.Folder.{Entry, file, absent, unreadable, on_shelf, all_readable, text_in, FolderTold}
use Rattle.shelf.proofs.Cut.{cut-text}
use Rattle.shelf_files.proofs.Reading.{answered-noted}

-- what is noted of a file says how long what is read of it is
said : (note : ℕ) (content : List ℕ) → note ≡ length (cut Second Pattern content) → note_means note ≡ Ok note
said note content e = answered-noted (Ok note) (omega (arith, e, length-take most_bytes content))

-- a note decides how the reading goes on
end-at : (k note : ℕ) (notes : List ℕ) (x : FileFound) → note_means note ≡ x → end_from k (answers (note ∷ notes)) ≡ end_from k (x ∷ answers notes)
end-at k note notes x e = ap (λ (y : FileFound). end_from k (y ∷ answers notes)) e

-- the files of the shelf are counted
counts : (k : ℕ) (folder : List Entry) (notes bytes : List ℕ) → FolderTold folder notes bytes → all_readable folder ≡ true
    → end_from k (answers notes) ≡ Ok (k + length (on_shelf folder))
unfolding FolderTold all_readable on_shelf end_from
counts k [] [] bytes h r = ap Ok (let same : k ≡ k + 0 = omega arith in same)
counts k [] (note ∷ notes) bytes h r = absurd h
counts k (file content ∷ later) [] bytes h r = absurd h
counts k (absent ∷ later) [] bytes h r = absurd h
counts k (unreadable ∷ later) [] bytes h r = absurd h
counts k (file content ∷ later) (note ∷ notes) bytes h r =
    let same : suc k + length (on_shelf later) ≡ k + suc (length (on_shelf later)) = omega arith in
    end-at k note notes (Ok note) (said note content h.0) ∙ counts (suc k) later notes (drop note bytes) h.2 r ∙ ap Ok same
counts k (absent ∷ later) (note ∷ notes) bytes h r =
    let same : k ≡ k + 0 = omega arith in
    end-at k note notes (Err Absent) (ap note_means h ∙ answered-noted (Err Absent) tt) ∙ ap Ok same
counts k (unreadable ∷ later) (note ∷ notes) bytes h r = let z : ◌≡◌ {A = ℕ} 0 1 = cc in absurd (omega arith)

-- and lie one after another
strings : (folder : List Entry) (notes bytes : List ℕ) → FolderTold folder notes bytes → cut_into bytes (take (length (on_shelf folder)) notes) ≡ cut_each (on_shelf folder)
unfolding FolderTold on_shelf cut_into
strings [] [] bytes h = refl
strings [] (note ∷ notes) bytes h = absurd h
strings (file content ∷ later) [] bytes h = absurd h
strings (absent ∷ later) [] bytes h = absurd h
strings (unreadable ∷ later) [] bytes h = absurd h
strings (file content ∷ later) (note ∷ notes) bytes h = ap₂ (λ (s : List ℕ) (l : List (List ℕ)). s ∷ l) h.1 (strings later notes (drop note bytes) h.2)
strings (absent ∷ later) (note ∷ notes) bytes h = refl
strings (unreadable ∷ later) (note ∷ notes) bytes h = refl

-- one that cannot be read is met
meets : (k : ℕ) (folder : List Entry) (notes bytes : List ℕ) → FolderTold folder notes bytes → all_readable folder ≡ false
    → (i : ℕ) × (end_from k (answers notes) ≡ Err (record { 0 = i }))
unfolding FolderTold all_readable end_from
meets k [] [] bytes h r = let z : ◌≡◌ {A = ℕ} 0 1 = cc in absurd (omega arith)
meets k [] (note ∷ notes) bytes h r = absurd h
meets k (file content ∷ later) [] bytes h r = absurd h
meets k (absent ∷ later) [] bytes h r = absurd h
meets k (unreadable ∷ later) [] bytes h r = absurd h
meets k (file content ∷ later) (note ∷ notes) bytes h r =
    let m = meets (suc k) later notes (drop note bytes) h.2 r in
    (m.0, end-at k note notes (Ok note) (said note content h.0) ∙ m.1)
meets k (absent ∷ later) (note ∷ notes) bytes h r = let z : ◌≡◌ {A = ℕ} 0 1 = cc in absurd (omega arith)
meets k (unreadable ∷ later) (note ∷ notes) bytes h r = (k, end-at k note notes (Err Unreadable) (ap note_means h ∙ answered-noted (Err Unreadable) tt))

-- "reads up to 16 second-edition pattern files .., stops at the first absent one, and prints ..": what is printed is the folder's text.
pub printed-folder : (folder : List Entry) (notes bytes : List ℕ) → FolderTold folder notes bytes → printed_of bytes notes ≡ text_in folder
unfolding printed_of printed_at text_in
printed-folder folder notes bytes h = go (all_readable folder) refl
  where
    go : (b : Bool) → all_readable folder ≡ b → printed_at (shelf_end notes) bytes notes ≡ cond b (shelf_text_of (on_shelf folder)) []
    go true r =
        let files = on_shelf folder in
        ap (λ (t : Taken). printed_at t bytes notes) (counts 0 folder notes bytes h r ∙ ap Ok (zero-add (length files)))
        ∙ ap shelf_text_of (strings folder notes bytes h)
        ∙ cut-text files
    go false r = ap (λ (t : Taken). printed_at t bytes notes) (meets 0 folder notes bytes h r).1
