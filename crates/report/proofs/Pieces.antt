-- The lines and their items piece by piece, as the program puts them, and the room that is left after a piece. Assumes nothing.
use Rattle.std.specs.Prelude.{◌≡◌, ◌++◌, ◌≤◌, ◌<◌, ◌+◌, ◌^◌}
use Rattle.base_lists.specs.Kit.{false, true, List, [], append_assoc, ℕ, suc, length, get_or, length-append, arith}
use Rattle.base_bits.specs.Bits.{union_over}
use Rattle.base_text.specs.Text.{bytes, decimal, Put, Fits}
use Rattle.base_text.proofs.Text.{put-length, length-decimal}
use Rattle.graph.specs.Net.{driven}
use Rattle.graph.specs.Search.{reached}
use Rattle.file_format.specs.declared.Refusal.{Refusal}
use Rattle.table.specs.Prepared.{succ_of, Tables}
use Rattle.place.specs.Bytes.{driven_by}
use Rattle.report_texts.specs.Texts.{nodes_text, driven_text, start_text, links_text, head_text, body_text, line_text}
use Rattle.report.specs.Report.{place_line, end_line, file_word, refusal_line}

module _ (t : Tables) (dist sets : List ℕ) (v : ℕ) where
  -- a node that the search missed starts no link of the place; one that it reached starts those of its stretch that match
  pub start-missed : reached (get_or dist v 0) ≡ false → start_text t dist sets v ≡ []
  unfolding start_text
  start-missed e = rw e

  pub start-reached : (parts : ℕ) (nodes : List ℕ) → reached (get_or dist v 0) ≡ true → parts ≡ union_over (succ_of t.masks) (get_or sets v 0) →
      nodes ≡ driven t.offsets t.targets v → start_text t dist sets v ≡ driven_text parts sets v nodes
  unfolding start_text driven_by
  start-reached parts nodes e d p = rw (e, d, p)

-- ---- lines, from the first piece to the last

pub line-place : (t : Tables) (dist sets : List ℕ) (c : ℕ) → line_text t dist sets c ≡ place_line c (nodes_text dist) (links_text t dist sets)
unfolding line_text head_text body_text place_line
line-place t dist sets c = simp append_assoc

pub end-pieces : (k n : ℕ) → end_line k n ≡ (bytes "end " ++ decimal k) ++ ((bytes " of " ++ decimal n) ++ bytes "\n")
unfolding end_line
end-pieces k n = simp append_assoc

pub refusal-pieces : (x : Refusal) → refusal_line x ≡ (bytes "refused " ++ decimal x.number) ++ (file_word x.file ++ bytes "\n")
unfolding refusal_line
refusal-pieces x = simp append_assoc

-- ---- room

-- a word and a number of some digits
pub numbered-length : (word : List ℕ) (d x : ℕ) → x < 10 ^ suc d → length (word ++ decimal x) ≤ length word + suc d
numbered-length word d x h = omega (arith, length-append word (decimal x), length-decimal d x h)

pub fits-numbered : {o : List ℕ} {at : ℕ} (word : List ℕ) (d x : ℕ) → x < 10 ^ suc d → at + (length word + suc d) ≤ length o → Fits o at (word ++ decimal x)
fits-numbered word d x h l = record { room = omega (arith, numbered-length word d x h) }

-- room for two texts is, when another text that is no longer stands for the first, room for the second
pub fits_after : {o o1 xs : List ℕ} {at p : ℕ} (zs ys : List ℕ) → length xs ≤ length zs → Put o at xs o1 p → Fits o at (zs ++ ys) → Fits o1 p ys
fits_after zs ys h f g = record { room = omega (arith, g.room, length-append zs ys, put-length f, f.end) }

-- a text of at most k bytes leaves the rest of the room
pub room-left : {o o1 xs : List ℕ} {at p : ℕ} (k m : ℕ) → Put o at xs o1 p → length xs ≤ k → at + (k + m) ≤ length o → p + m ≤ length o1
room-left k m f h l = omega (arith, put-length f, f.end)
