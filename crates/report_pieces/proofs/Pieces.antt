-- The last line after the lines of the centres, and nothing after that. Assumes nothing.
use Rattle.std.specs.Prelude.{◌≡◌, ◌++◌, ◌≤◌, ◌<◌, ◌+◌, ◌-◌}
use Rattle.base_lists.specs.Kit.{◌∙◌, refl, Bool, false, true, cond, List, [], append-nil, ℕ, suc, zero-add, add-one, eqb, leb, le→leb, leb→le, length, length-append, arith, eq-eqb, ne_eqb, le-ltb, leb-true, and-false}
use Rattle.base_lists.proofs.Tests.{both_right, true-T, same_test}
use Rattle.base_text.specs.Text.{Put}
use Rattle.base_text.proofs.Text.{put-nothing, put_then, put_same, put-length}
use Rattle.graph.specs.Circuit.{Circuit}
use Rattle.file_format.specs.declared.Role.TheVariants.{Board}
use Rattle.file_format.specs.Circuit.{Bounded}
use Rattle.report.specs.Lines.{longest_line}
use Rattle.report.specs.Report.{end_line}
use Rattle.report.proofs.Lengths.{end-length}
use Rattle.report_pieces.specs.declared.PutPiece.{PutPiece}
use Rattle.report_pieces.specs.Pieces.{roomy, Piece, ends, closed, lines_piece, Wrote, LastPut}
use Rattle.report_pieces.proofs.Progress.{progress_start, progress-end, piece-small}

-- ---- what is left of the room

pub room-left : (room at : ℕ) → at ≤ room → leb longest_line (room - at) ≡ roomy room at
room-left room at h =
    same_test (λ t. le→leb (at + longest_line) room (omega (arith, leb→le longest_line (room - at) t)))
    (λ t. le→leb longest_line (room - at) (omega (arith, leb→le (at + longest_line) room t)))

-- what is put lies within the buffer
pub wrote-within : {before after : List ℕ} {p : Piece} {part : PutPiece} → Wrote before p after part → part.size ≤ length after
wrote-within w = omega (arith, w.put.end, w.fits.room, put-length w.put)

-- ---- whether the last line follows

pub ends-elsewhere : (n room next size : ℕ) → (next ≡ n → ⊥) → ends n room next size ≡ false
unfolding ends
ends-elsewhere n room next size h = rw (ne_eqb next n h)

ends-full : (n room next size : ℕ) → roomy room size ≡ false → ends n room next size ≡ false
unfolding ends
ends-full n room next size h = rw h (and-false (eqb next n))

ends-here : (n room next size : ℕ) → next ≡ n → roomy room size ≡ true → ends n room next size ≡ true
unfolding ends
ends-here n room next size e h = rw (eq-eqb next n e, h)

ends-room : (n room next size : ℕ) → ends n room next size ≡ true → size + longest_line ≤ room
unfolding ends
ends-room n room next size e = leb→le (size + longest_line) room (both_right (eqb next n) (roomy room size) (true-T e))

module _ (out : List ℕ) (part : PutPiece) (n : ℕ) where
  kept : ends n (length out) part.next part.size ≡ false → LastPut out part n out part
  kept e = record { put = rw e put-nothing; next = rw e; found = refl }

  -- there is more to come before it,
  pub last-elsewhere : (part.next ≡ n → ⊥) → LastPut out part n out part
  last-elsewhere h = kept (ends-elsewhere n (length out) part.next part.size h)

  -- there is no room,
  pub last-full : roomy (length out) part.size ≡ false → LastPut out part n out part
  last-full h = kept (ends-full n (length out) part.next part.size h)

  -- or it is put
  pub last-put : {after : List ℕ} {end : ℕ} → part.next ≡ n → roomy (length out) part.size ≡ true
      → Put out part.size (end_line part.found n) after end → LastPut out part n after (record { next = n + 1; found = part.found; size = end })
  last-put e h p =
      let flag : ends n (length out) part.next part.size ≡ true = ends-here n (length out) part.next part.size e h in
      record { put = rw flag p; next = rw flag (add-one n); found = refl }

  -- there is room for it
  pub last-room : roomy (length out) part.size ≡ true → part.size + longest_line ≤ length out
  last-room h = leb-true (part.size + longest_line) (length out) h

-- ---- the lines of the centres and the last line are the piece

-- the same flag, by the answer and by the piece
same_ends : {before after : List ℕ} {p : Piece} {part : PutPiece} (n : ℕ) → Wrote before p after part
    → ends n (length after) part.next part.size ≡ ends n (length before) p.next (length p.text)
same_ends {p = p} n w = rw (put-length w.put, w.next, w.put.end, zero-add (length p.text))

pub closed-wrote : {before middle after : List ℕ} {p : Piece} {part r : PutPiece} (n : ℕ) → p.found < 100000 → n < 1000
    → Wrote before p middle part → LastPut middle part n after r → Wrote before (closed n (length before) p) after r
unfolding closed
closed-wrote {before} {middle} {after} {p} {part} {r} n few low w c =
    go (ends n (length before) p.next (length p.text)) refl (rw (same_ends n w) at c.put) (rw (same_ends n w) at c.next)
  where
    go : (b : Bool) → ends n (length before) p.next (length p.text) ≡ b
        → Put middle part.size (cond b (end_line part.found n) []) after r.size → r.next ≡ cond b (suc n) part.next
        → Wrote before (cond b (record { text = p.text ++ end_line p.found n; next = suc n; found = p.found }) p) after r
    go true e put next =
        let room : length p.text + longest_line ≤ length before = ends-room n (length before) p.next (length p.text) e in
        record {
          fits = record { room = omega (arith, length-append p.text (end_line p.found n), end-length p.found n few low) };
          put = put_then w.put (rw w.found at put);
          next = next;
          found = c.found ∙ w.found;
        }
    go false e put next =
        record { fits = w.fits; put = put_same (append-nil p.text) (put_then w.put put); next = next ∙ w.next; found = c.found ∙ w.found }

-- ---- past the last line nothing is put

pub past-wrote : (pattern board : Circuit) (from found : ℕ) (out : List ℕ) → Bounded Board board → found < 65536
    → length board.labels < from → Wrote out (lines_piece pattern board from found (length out)) out (record { next = from; found = found; size = 0 })
unfolding lines_piece
past-wrote pattern board from found out b few past =
    let n = length board.labels in
    closed-wrote n (piece-small pattern board from found b few (length out)) (omega (arith, b.nodes))
    (progress-end pattern board from found (progress_start pattern board from found out) false (rw (le-ltb from n (omega arith))) refl)
    (last-elsewhere out (record { next = from; found = found; size = 0 }) n (λ e. omega arith))
