-- Pieces of a report: the lines of the centres from one on, as long as there is room for the longest line, and the last line; the line of a refused file; and
-- what putting a piece leaves.
use Rattle.std.specs.Prelude.{◌≡◌, ◌&&◌, ◌++◌, ◌+◌, ◌-◌}
use Rattle.base_lists.specs.Kit.{Bool, cond, not, List, [], ℕ, suc, eqb, leb, length}
use Rattle.base_lists.specs.Below.{count_below, least_below, concat_below}
use Rattle.base_text.specs.Text.{Put, Fits}
use Rattle.graph.specs.Circuit.{Circuit}
use Rattle.file_format.specs.declared.Refusal.{Refusal}
use Rattle.report.specs.Lines.{longest_line}
use Rattle.report.specs.Report.{has_place, centre_line, end_line, refusal_line}
use Rattle.report_pieces.specs.declared.PutPiece.{PutPiece}

-- ---- the lines of some centres

-- the lines of j centres from a centre on, and how many of those have a place
unfoldable pub lines_from : Circuit → Circuit → ℕ → ℕ → List ℕ
lines_from pattern board from j = concat_below j (λ i. centre_line pattern board (from + i))

unfoldable pub places_from : Circuit → Circuit → ℕ → ℕ → ℕ
places_from pattern board from j = count_below j (λ i. has_place pattern board (from + i))

-- after so many bytes there is room for the longest line
abbrev pub roomy : ℕ → ℕ → Bool
roomy room size = leb (size + longest_line) room

-- how many lines are put: those of the centres that are left, or fewer, where before one of them there is not room for the longest line
unfoldable pub lines_taken : Circuit → Circuit → ℕ → ℕ → ℕ
lines_taken pattern board from room =
    least_below (length board.labels - from) (λ j. not (roomy room (length (lines_from pattern board from j))))

-- ---- pieces of the report

-- a piece: its text, where to go on after it, and how many centres before that one have a place
pub record Piece : Type 0 where
  pub text : List ℕ
  pub next : ℕ
  pub found : ℕ

-- the lines that there is room for, from a centre before which some centres had a place
unfoldable pub centres_piece : Circuit → Circuit → ℕ → ℕ → ℕ → Piece
centres_piece pattern board from found room =
    let j = lines_taken pattern board from room in
    record { text = lines_from pattern board from j; next = from + j; found = found + places_from pattern board from j }

-- the last line follows: N is reached, and there is room for the longest line
unfoldable pub ends : ℕ → ℕ → ℕ → ℕ → Bool
ends n room next size = eqb next n && roomy room size

-- the piece with the last line, where that follows; N + 1 is past the end
unfoldable pub closed : ℕ → ℕ → Piece → Piece
closed n room p =
    cond (ends n room p.next (length p.text))
    (record { text = p.text ++ end_line p.found n; next = suc n; found = p.found })
    p

-- the piece of a pattern and a board
unfoldable pub lines_piece : Circuit → Circuit → ℕ → ℕ → ℕ → Piece
lines_piece pattern board from found room = closed (length board.labels) room (centres_piece pattern board from found room)

-- "A refused file gives one line": that is the whole report
unfoldable pub refusal_piece : Refusal → ℕ → ℕ → Piece
refusal_piece x from found =
    cond (eqb from 0) (record { text = refusal_line x; next = 1; found = found }) (record { text = []; next = from; found = found })

-- ---- what putting a piece leaves

-- the piece had room and stands at the front of the buffer, and the answer says so
pub record Wrote (before : List ℕ) (p : Piece) (after : List ℕ) (part : PutPiece) : Type 0 where
  pub fits : Fits before 0 p.text
  pub put : Put before 0 p.text after part.size
  pub next : part.next ≡ p.next
  pub found : part.found ≡ p.found

-- after a part that ended at a centre, the last line was put where it follows
pub record LastPut (before : List ℕ) (part : PutPiece) (n : ℕ) (after : List ℕ) (r : PutPiece) : Type 0 where
  pub put : Put before part.size (cond (ends n (length before) part.next part.size) (end_line part.found n) []) after r.size
  pub next : r.next ≡ cond (ends n (length before) part.next part.size) (suc n) part.next
  pub found : r.found ≡ part.found
