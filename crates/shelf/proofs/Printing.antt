-- The numbers of a shelf and their text. Assumes nothing.
use Rattle.std.specs.Prelude.{Bool, List, [], cond, drop, false, length, take, true, ℕ, ◌*◌, ◌∷◌, ◌≡◌, ◌≤◌, Result, Ok}
use Rattle.std.proofs.Common.{ap, arith, length-append, length-take-le, sym, take_all, take_at}
use Rattle.std.proofs.Math.Path.{◌∙◌}
use Rattle.base_text.specs.Text.{Put, Fits}
use Rattle.base_text.proofs.Text.{put_whole}
use Rattle.file_format.specs.declared.Refusal.{Refusal}
use Rattle.file_format.specs.Reading.{filled}
use Rattle.file_format.specs.Refusals.{Verdict, accept, refuse, first, short_table}
use Rattle.file_format.specs.Reply.{Reply, reply, number_reply}
use Rattle.order.specs.Order.{is_less}
use Rattle.order.proofs.Sorting.{length-sort}
use Rattle.order.specs.Files.{compare_files}
use Rattle.call_shelf.specs.Strings.{cut_into}
use Rattle.call_shelf.proofs.Cutting.{length_cut}
use Rattle.call_shelf.specs.Text.{shelf_text}
use Rattle.call_shelf.proofs.Text.{length-text}
use Rattle.shelf_files.specs.Reading.{Taken, shelf_end}
use Rattle.shelf_files.proofs.Reading.{few-files}
use Rattle.shelf.specs.Printing.{shelf_text_of, printed_at, printed_of, ShelfHanded, shelf_ended, ShelfRan}
use Rattle.call_shelf.specs.Shelf.{most_files, file_at, accepted_in, shelf_of, ShelfOutcome, shelving_of, shelving}

-- as many numbers as files, at most
pub ordered-few : (bytes lengths : List ℕ) → length (shelf_of (cut_into bytes lengths)) ≤ length lengths
unfolding shelf_of
ordered-few bytes lengths =
    let files = cut_into bytes lengths in
    omega (arith, length-sort (accepted_in files) (λ i j. is_less (compare_files (file_at files i) (file_at files j))) (length files), length_cut bytes lengths)

-- an accepted call: the numbers stand at the front of the table
pub ordered-numbers : (bytes lengths order after : List ℕ) (answer : Result ℕ Refusal) → length lengths ≤ 16
    → record { reply = number_reply answer; order = after } ≡ shelving bytes lengths order → (count : ℕ) → answer ≡ Ok count
    → (count ≡ length (shelf_of (cut_into bytes lengths))) × (take count after ≡ shelf_of (cut_into bytes lengths))
unfolding shelving shelving_of number_reply reply filled
ordered-numbers bytes lengths order after answer few e count is =
    go (first (short_table (length numbers) (length order) ∷ [])) (rw (take_all 16 lengths few) at (ap (λ (o : ShelfOutcome). o.reply) (rw is at e))) (rw (take_all 16 lengths few) at (ap (λ (o : ShelfOutcome). o.order) e))
  where
    numbers : List ℕ
    numbers = shelf_of (cut_into bytes lengths)

    go : (v : Verdict) → record { verdict = accept; values = count ∷ [] } ≡ reply v (length numbers ∷ []) → after ≡ filled v numbers order
        → (count ≡ length numbers) × (take count after ≡ numbers)
    go accept r o =
        let told : count ∷ [] ≡ length numbers ∷ [] = ap (λ (x : Reply). x.values) r in
        let same : count ≡ length numbers = cc in
        (same, ap (take count) o ∙ take_at numbers (drop (length numbers) order) count (sym same))
    go (refuse x) r o =
        let told : accept ≡ refuse x = ap (λ (x : Reply). x.verdict) r in
        let z : ◌≡◌ {A = ℕ} 0 1 = cc in absurd (omega arith)

-- the text of at most 16 numbers has room
pub text-room : (out numbers : List ℕ) → 3 * length numbers ≤ length out → Fits out 0 (shelf_text numbers)
text-room out numbers h = record { room = omega (arith, length-text numbers) }

module _ {out after text : List ℕ} {size : ℕ} (p : Put out 0 text after size) (f : Fits out 0 text) where
  -- what was put stands at the front
  pub text-prefix : take size after ≡ text
  text-prefix = ap (take size) (put_whole p f) ∙ take_at text (drop (length text) out) size (omega (arith, p.end))

  pub text-size : size ≤ length after
  text-size = omega (arith, p.end, ap length (put_whole p f), length-append text (drop (length text) out))

-- ---- the call's answer, on the files that were read

module _ (bytes notes order after : List ℕ) (count ordered : ℕ) (answer : Result ℕ Refusal) (n : length notes ≡ most_files) (e : shelf_end notes ≡ Ok count)
    (a : record { reply = number_reply answer; order = after } ≡ shelving bytes (take count notes) order) (is : answer ≡ Ok ordered) where
  sixteen : length (take count notes) ≤ 16
  sixteen = let read = few-files notes count e in omega (arith, n, length-take-le count notes read)

  -- the numbers at the front of the table are the shelf's
  pub numbers : take ordered after ≡ shelf_of (cut_into bytes (take count notes))
  numbers = (ordered-numbers bytes (take count notes) order after answer sixteen a ordered is).1

  few : ordered ≡ length (shelf_of (cut_into bytes (take count notes)))
  few = (ordered-numbers bytes (take count notes) order after answer sixteen a ordered is).0

  pub numbers-size : length (take ordered after) ≡ ordered
  numbers-size = ap length numbers ∙ sym few

  pub numbers-room : most_files ≤ length order → length after ≡ length order → ordered ≤ length after
  numbers-room h l = omega (arith, l, few, ordered-few bytes (take count notes), sixteen)

  pub lines_fit : (out : List ℕ) → 3 * most_files ≤ length out → Fits out 0 (shelf_text (take ordered after))
  lines_fit out h = text-room out (take ordered after) (omega (arith, numbers-size, few, ordered-few bytes (take count notes), sixteen))

  -- the lines of these numbers are what is printed
  pub lines-printed : (lines : List ℕ) → lines ≡ shelf_text (take ordered after) → lines ≡ printed_of bytes notes
  unfolding shelf_text_of printed_at printed_of
  lines-printed lines l = l ∙ ap shelf_text numbers ∙ ap (λ (t : Taken). printed_at t bytes notes) (sym e)

-- ---- what is handed over

-- the front of a buffer that is a text, where it was taken
pub handed-prefix : (text out : List ℕ) (size k : ℕ) (r : Bool) → take size out ≡ text → size ≡ length (take size out) → k ≡ cond r (length (take size out)) 0 → ShelfHanded text out k r
unfolding ShelfHanded
handed-prefix text out size k true e s h = (h ∙ ap length e, ap (λ (n : ℕ). take n out) (h ∙ sym s) ∙ e)
handed-prefix text out size k false e s h = h

-- how a run ends in which so many files were read
pub ran-begun : (bytes notes out : List ℕ) (k count : ℕ) (whole : Bool) → shelf_end notes ≡ Ok count → ShelfHanded (printed_of bytes notes) out k whole
    → ShelfRan bytes notes out k (shelf_ended count whole)
unfolding ShelfRan shelf_ended
ran-begun bytes notes out k count true e h = (e, h)
ran-begun bytes notes out k count false e h = (e, h)
