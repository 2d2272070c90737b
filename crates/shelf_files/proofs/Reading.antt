-- What was read and noted, file by file, and how the reading ends. Assumes nothing.
use Rattle.std.proofs.Common.{Ok, Err, List, [], ◌∷◌, ◌++◌, ◌≡◌, refl, sym, ap, subst, ℕ, zero, suc, ◌+◌, ◌/◌, ◌%◌, ◌<◌, ◌≤◌, le_of_eq, zero-add, add-one, arith, ne_eqb, length, take, drop, set, length-take-le, take_all, take-suc-set}
use Rattle.std.proofs.Math.Path.{ap₂, ◌∙◌}
use mathlib.Core.List.{append-nil, map-append}
use Rattle.std.proofs.lemmas.List.{length-map, set_split}
use Rattle.input.specs.declared.ReadError.TheVariants.{Absent, Unreadable}
use Rattle.shelf_files.specs.declared.Next.{Next}
use Rattle.shelf_files.specs.declared.Next.TheVariants as next
use Rattle.input.specs.Reading.{FileFound, Within}
use Rattle.std.specs.Str.{IsAscii, IsUtf8}
use Rattle.std.proofs.lemmas.Str.{IsUtf8-from_ascii}
use Rattle.std.proofs.lemmas.Str.Ascii.{IsAscii-nil}
use Rattle.shelf_files.specs.Reading.{shelf_name_of, most_bytes, noted, note_means, answers, next_after, going_on, standing, FileReached, Taken, end_from, shelf_end}

-- ---- the notes

-- a note says what was noted
pub answered-noted : (x : FileFound) → Within most_bytes x → note_means (noted x) ≡ x
unfolding note_means
answered-noted (Ok size) w = rw (ne_eqb size 65536 (λ e. omega (arith, e)), ne_eqb size 65537 (λ e. omega (arith, e))) refl
answered-noted (Err Absent) w = refl
answered-noted (Err Unreadable) w = refl

-- where less has room, more has
pub within_more : (x : FileFound) (a b : ℕ) → a ≤ b → Within a x → Within b x
within_more (Ok size) a b h w = omega arith
within_more (Err error) a b h w = tt

-- ---- the names

ascii_more : (b : ℕ) (bs : List ℕ) → b < 128 → IsAscii bs → IsAscii (b ∷ bs)
ascii_more b bs h t zero = h
ascii_more b bs h t (suc i) = t i

-- a name is text
pub name_ascii : (i : ℕ) → i < 100 → IsAscii (shelf_name_of i)
name_ascii i h =
    ascii_more 112 ((48 + i / 10) ∷ (48 + i % 10) ∷ 46 ∷ 99 ∷ 105 ∷ 114 ∷ []) (omega arith)
    (ascii_more (48 + i / 10) ((48 + i % 10) ∷ 46 ∷ 99 ∷ 105 ∷ 114 ∷ []) (omega arith)
    (ascii_more (48 + i % 10) (46 ∷ 99 ∷ 105 ∷ 114 ∷ []) (omega arith)
    (ascii_more 46 (99 ∷ 105 ∷ 114 ∷ []) (omega arith)
    (ascii_more 99 (105 ∷ 114 ∷ []) (omega arith)
    (ascii_more 105 (114 ∷ []) (omega arith) (ascii_more 114 [] (omega arith) IsAscii-nil))))))

-- so it is read as it stands
pub text_utf8 : (bytes : List ℕ) → IsAscii bytes → IsUtf8 bytes
text_utf8 bytes h = IsUtf8-from_ascii bytes h

-- ---- how it goes on

standing-more : (here : Next) (xs : List FileFound) (x : FileFound) → standing here (xs ++ (x ∷ [])) ≡ going_on (standing here xs) x
unfolding standing
standing-more here [] x = refl
standing-more here (y ∷ ys) x = standing-more (going_on here y) ys x

pub reached-none : (notes : List ℕ) → FileReached notes 0 0
unfolding FileReached standing
reached-none notes = refl

-- after a file more
pub reached-more : (notes : List ℕ) (i at past : ℕ) (x : FileFound) → i < length notes → Within most_bytes x → FileReached notes i at → next_after x at ≡ next.Further past
    → FileReached (set notes i (noted x)) (i + 1) past
unfolding FileReached going_on
reached-more notes i at past x h w r e =
    rw (add-one i)
    (ap (λ (l : List ℕ). standing (next.Further 0) (answers l)) (take-suc-set notes i (noted x) h)
    ∙ ap (standing (next.Further 0)) (map-append note_means (take i notes) (noted x ∷ []))
    ∙ standing-more (next.Further 0) (answers (take i notes)) (note_means (noted x))
    ∙ ap₂ going_on r (answered-noted x w)
    ∙ e)

-- ---- how it ends

-- once it ended it stays so
ended : (xs : List FileFound) → standing next.Ends xs ≡ next.Ends
unfolding standing going_on
ended [] = refl
ended (x ∷ xs) = ended xs

given-up : (xs : List FileFound) → standing next.GivesUp xs ≡ next.GivesUp
unfolding standing going_on
given-up [] = refl
given-up (x ∷ xs) = given-up xs

-- as long as it goes on, the files are counted
counted : (k at past : ℕ) (xs later : List FileFound) → standing (next.Further at) xs ≡ next.Further past → end_from k (xs ++ later) ≡ end_from (k + length xs) later
unfolding standing going_on end_from
counted k at past [] later e = let same : k ≡ k + 0 = omega arith in ap (λ (n : ℕ). end_from n later) same
counted k at past (Ok size ∷ xs) later e =
    let same : suc k + length xs ≡ k + suc (length xs) = omega arith in
    counted (suc k) (at + size) past xs later e ∙ ap (λ (n : ℕ). end_from n later) same
counted k at past (Err Absent ∷ xs) later e =
    let no : next.Ends ≡ next.Further past = sym (ended xs) ∙ e in
    let z : ◌≡◌ {A = ℕ} 0 1 = cc in absurd (omega arith)
counted k at past (Err Unreadable ∷ xs) later e =
    let no : next.GivesUp ≡ next.Further past = sym (given-up xs) ∙ e in
    let z : ◌≡◌ {A = ℕ} 0 1 = cc in absurd (omega arith)

module _ (notes : List ℕ) (i at : ℕ) (x : FileFound) (h : i < length notes) (w : Within most_bytes x) (r : FileReached notes i at) where
  length-answers : length (answers (take i notes)) ≡ i
  length-answers = length-map (take i notes) note_means ∙ length-take-le i notes (omega arith)

  -- how it ends is decided by the files from this one on
  ends-from : shelf_end (set notes i (noted x)) ≡ end_from i (x ∷ answers (drop (suc i) notes))
  unfolding FileReached
  ends-from =
      ap shelf_end (set_split notes i (noted x) h)
      ∙ ap (end_from 0) (map-append note_means (take i notes) (noted x ∷ drop (suc i) notes))
      ∙ counted 0 0 at (answers (take i notes)) (answers (noted x ∷ drop (suc i) notes)) r
      ∙ ap₂ (λ (n : ℕ) (y : FileFound). end_from n (y ∷ answers (drop (suc i) notes))) (zero-add (length (answers (take i notes))) ∙ length-answers) (answered-noted x w)

-- it ends at the first that is absent,
pub absent-ends : (notes : List ℕ) (i at : ℕ) (x : FileFound) → i < length notes → Within most_bytes x → FileReached notes i at → next_after x at ≡ next.Ends
    → Ok i ≡ shelf_end (set notes i (noted x))
unfolding end_from
absent-ends notes i at (Ok size) h w r e = let z : ◌≡◌ {A = ℕ} 0 1 = cc in absurd (omega arith)
absent-ends notes i at (Err Absent) h w r e = sym (ends-from notes i at (Err Absent) h w r)
absent-ends notes i at (Err Unreadable) h w r e = let z : ◌≡◌ {A = ℕ} 0 1 = cc in absurd (omega arith)

-- or that cannot be read,
pub unreadable-ends : (notes : List ℕ) (i at : ℕ) (x : FileFound) → i < length notes → Within most_bytes x → FileReached notes i at → next_after x at ≡ next.GivesUp
    → Err (record { 0 = i }) ≡ shelf_end (set notes i (noted x))
unfolding end_from
unreadable-ends notes i at (Ok size) h w r e = let z : ◌≡◌ {A = ℕ} 0 1 = cc in absurd (omega arith)
unreadable-ends notes i at (Err Absent) h w r e = let z : ◌≡◌ {A = ℕ} 0 1 = cc in absurd (omega arith)
unreadable-ends notes i at (Err Unreadable) h w r e = sym (ends-from notes i at (Err Unreadable) h w r)

-- or after the last
pub all_read : (notes : List ℕ) (i at : ℕ) → length notes ≡ i → FileReached notes i at → Ok i ≡ shelf_end notes
unfolding FileReached end_from
all_read notes i at n r =
    let prefix : take i notes ≡ notes = take_all i notes (le_of_eq n) in
    ap Ok (sym n ∙ sym (length-map notes note_means) ∙ ap (λ (l : List ℕ). length (answers l)) (sym prefix) ∙ sym (zero-add (length (answers (take i notes)))))
    ∙ sym (counted 0 0 at (answers (take i notes)) [] r)
    ∙ ap (end_from 0) (append-nil (answers (take i notes)) ∙ ap answers prefix)

-- ---- how many there are

abbrev Under : ℕ → Taken → Type 0
Under n (Ok count) = count ≤ n
Under n (Err file) = file.0 < n

end-under : (k : ℕ) (xs : List FileFound) → Under (k + length xs) (end_from k xs)
unfolding end_from
end-under k [] = omega arith
end-under k (Ok size ∷ xs) =
    let same : suc k + length xs ≡ k + suc (length xs) = omega arith in
    subst (λ (n : ℕ). Under n (end_from (suc k) xs)) same (end-under (suc k) xs)
end-under k (Err Absent ∷ xs) = omega arith
end-under k (Err Unreadable ∷ xs) = omega arith

notes-under : (notes : List ℕ) (end : Taken) → shelf_end notes ≡ end → Under (length notes) end
notes-under notes end e = subst (λ (n : ℕ). Under n end) (zero-add (length (answers notes)) ∙ length-map notes note_means) (subst (Under (0 + length (answers notes))) e (end-under 0 (answers notes)))

pub few-files : (notes : List ℕ) (count : ℕ) → shelf_end notes ≡ Ok count → count ≤ length notes
few-files notes count e = notes-under notes (Ok count) e

pub unreadable-under : (notes : List ℕ) (i : ℕ) → shelf_end notes ≡ Err (record { 0 = i }) → i < length notes
unreadable-under notes i e = notes-under notes (Err (record { 0 = i })) e

-- ---- where the next file goes

pub further-place : (x : FileFound) (at past : ℕ) → Within most_bytes x → next_after x at ≡ next.Further past → past ≤ at + most_bytes
further-place (Ok size) at past w e = let same : at + size ≡ past = cc in omega (arith, same, w)
further-place (Err Absent) at past w e = let z : ◌≡◌ {A = ℕ} 0 1 = cc in absurd (omega arith)
further-place (Err Unreadable) at past w e = let z : ◌≡◌ {A = ℕ} 0 1 = cc in absurd (omega arith)
