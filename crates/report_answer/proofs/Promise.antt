-- What the report call's promise means: calls one after another, each with a buffer of any length that holds the longest line, put the report,
-- whole and once, and then nothing; only a shorter buffer is refused. Assumes nothing.
use Rattle.std.specs.Prelude.{◌≡◌, ◌↔◌, ◌∷◌, ◌++◌, ◌≤◌, ◌<◌, Result, Ok, Err}
use Rattle.base_lists.specs.Kit.{◌∙◌, sym, ap, refl, ap₂, List, [], ℕ, suc, zero, zero-le, le_refl, le_of_suc-le-suc, le_trans, le_antisymm, lt_of_not-le, lit≤, length, take, drop, length-append, take_at, drop_at, arith, le-ltb}
use Rattle.file_format.specs.declared.File.TheVariants.{Neither}
use Rattle.file_format.specs.declared.Refusal.{Refusal}
use Rattle.file_format.specs.declared.Role.TheVariants.{Pattern, Board}
use Rattle.file_format.specs.Circuit.{circuit_of, Bounded}
use Rattle.file_format.specs.Layout.{CircuitFile}
use Rattle.file_format.specs.Reading.{filled}
use Rattle.file_format.specs.Refusals.{Verdict, accept, refuse, first, file_conditions, short_table}
use Rattle.file_format.specs.Reply.{Reply, reply}
use Rattle.file_format.proofs.Accepted.{accepted-bounded}
use Rattle.file_format.proofs.Refusals.{accepted, first-parts}
use Rattle.file_pair.specs.Pair.{pair_conditions}
use Rattle.report.specs.Lines.{longest_line}
use Rattle.report.specs.Report.{report_of}
use Rattle.report_pieces.specs.declared.PutPiece.{PutPiece}
use Rattle.report_answer.specs.Call.{files_verdict, piece_of, report_reply, ReportOutcome, need_for, outcome_for, reporting}
use Rattle.report_pieces.specs.Pieces.{Piece}
use Rattle.report_answer.specs.Whole.{items_for, places_for, items_of, prefix_of, places_of, PieceFollows, piece_next, found_of, piece_size, piece_text, Stage, called}
use Rattle.report_answer.proofs.Whole.{piece-follows, piece-none, prefix-start, places-start, prefix-all, places-small}

-- ---- the two cases of the answer, told apart by what document 01 says of them

pub reply-put :
    (a : Result PutPiece Refusal) (next found size : ℕ) → report_reply a ≡ record { verdict = accept; values = next ∷ found ∷ size ∷ [] } →
    a ≡ Ok (record { next = next; found = found; size = size })
unfolding report_reply
reply-put (Ok p) next found size e =
    let v : p.next ∷ p.found ∷ p.size ∷ [] ≡ next ∷ found ∷ size ∷ [] = ap (λ (r : Reply). r.values) e in
    let a : p.next ≡ next = cc in
    let b : p.found ≡ found = cc in
    let c : p.size ≡ size = cc in
    rw (← a, ← b, ← c)
reply-put (Err x) next found size e = let apart : refuse x ≡ accept = ap (λ (r : Reply). r.verdict) e in cc

pub reply-refused : (a : Result PutPiece Refusal) (x : Refusal) → (report_reply a).verdict ≡ refuse x → a ≡ Err x
unfolding report_reply
reply-refused (Ok p) x e = cc
reply-refused (Err y) x e = cc

-- a line of a refused file is no longer than the longest line
pub need-most : (v : Verdict) → need_for v ≤ longest_line
unfolding need_for
need-most accept = le_refl longest_line
need-most (refuse x) = lit≤ tt

-- number 8, of neither file
abbrev pub eight : Refusal
eight = record { number = 8; file = Neither }

-- ---- a call

module _ (pattern board : CircuitFile) (from found : ℕ) (out : List ℕ) where
  -- what the call comes to, and the piece that it puts
  abbrev result : ReportOutcome
  result = reporting pattern board from found out

  abbrev piece : Piece
  piece = piece_of pattern board from found (length out)

  -- the room needed
  abbrev need : ℕ
  need = need_for (files_verdict pattern board)

  -- One that has room for the longest line is taken, whatever the files hold.
  module _ (room : longest_line ≤ length out) where
    result-is :
        result ≡ record {
          reply = record { verdict = accept; values = piece.next ∷ piece.found ∷ length piece.text ∷ [] };
          out = piece.text ++ drop (length piece.text) out;
        }
    unfolding reporting outcome_for reply filled first short_table
    result-is = rw (le-ltb (length out) need (le_trans (need-most (files_verdict pattern board)) room))

    pub accepts : result.reply.verdict ≡ accept
    accepts = ap (λ (r : ReportOutcome). r.reply.verdict) result-is

    pub next-is : piece_next result ≡ piece.next
    next-is = ap piece_next result-is

    found-is : found_of result ≡ piece.found
    found-is = ap found_of result-is

    size_is : piece_size result ≡ length piece.text
    size_is = ap piece_size result-is

    text-is : piece_text result ≡ piece.text
    text-is = ap piece_text result-is ∙ take_at piece.text (drop (length piece.text) out) (length piece.text) refl

    -- the bytes after those that were put keep their content
    pub rest-kept : drop (piece_size result) result.out ≡ drop (piece_size result) out
    rest-kept =
        ap₂ drop size_is (ap (λ (r : ReportOutcome). r.out) result-is)
        ∙ drop_at piece.text (drop (length piece.text) out) (length piece.text) refl
        ∙ ap (λ (k : ℕ). drop k out) (sym size_is)

    -- Nothing is put exactly when the report is at its end.
    pub none-iff : (piece_size result ≡ 0) ↔ (items_of pattern board ≤ from)
    unfolding piece_of
    none-iff = rw size_is (piece-none (circuit_of pattern) (circuit_of board) from found (length out) room (files_verdict pattern board))

    -- From an item on, told how many centres before it have a place, the call puts the items up to the one where it says to go on, and
    -- says how many centres before that one have a place.
    follows : from ≤ items_of pattern board → found ≡ places_of pattern board from → PieceFollows (files_verdict pattern board) (circuit_of pattern) (circuit_of board) from piece
    unfolding piece_of
    follows h e = piece-follows (circuit_of pattern) (circuit_of board) from found (length out) room (files_verdict pattern board) h e

    pub call-follows :
        from ≤ items_of pattern board → found ≡ places_of pattern board from →
        (prefix_of pattern board from ++ piece_text result ≡ prefix_of pattern board (piece_next result))
        × (found_of result ≡ places_of pattern board (piece_next result)) × (piece_next result ≤ items_of pattern board) × (from ≤ piece_next result)
        × (from < items_of pattern board → from < piece_next result)
    call-follows h e =
        let f = follows h e in
        (rw (text-is, next-is) f.text, rw (found-is, next-is) f.found, rw next-is f.within, rw next-is f.forth, rw next-is f.more)

-- ---- calls one after another

-- what two files' circuits have at most
module _ (pattern board : CircuitFile) where
  -- the board of two accepted files
  pub board-bounded : files_verdict pattern board ≡ accept → Bounded Board (circuit_of board)
  unfolding pair_conditions
  board-bounded e = accepted-bounded (accepted Board board (first-parts (file_conditions Pattern pattern) (file_conditions Board board) e).1)

  few : files_verdict pattern board ≡ accept → length (circuit_of board).labels ≤ 512
  few e = (board-bounded e).nodes

  -- There are at most 513 items: so many calls are enough.
  pub items-few : items_of pattern board ≤ 513
  unfolding items_for
  items-few = go (files_verdict pattern board) refl
    where
      go : (v : Verdict) → files_verdict pattern board ≡ v → items_for v (circuit_of board) ≤ 513
      go accept e = omega (arith, few e)
      go (refuse x) e = omega arith

  -- There are no more places than a board has nodes.
  pub places-few : (k : ℕ) → places_of pattern board k ≤ 512
  unfolding places_for
  places-few k = go (files_verdict pattern board) refl
    where
      go : (v : Verdict) → files_verdict pattern board ≡ v → places_for v (circuit_of pattern) (circuit_of board) k ≤ 512
      go accept e = le_trans (places-small accept (circuit_of pattern) (circuit_of board) k) (few e)
      go (refuse x) e = zero-le

-- all the items are the report
pub items-whole : (pattern board : CircuitFile) (k : ℕ) → k ≤ items_of pattern board → items_of pattern board ≤ k → prefix_of pattern board k ≡ report_of pattern board
unfolding report_of pair_conditions
items-whole pattern board k h l =
    ap (prefix_of pattern board) (le_antisymm h l) ∙ prefix-all (files_verdict pattern board) (circuit_of pattern) (circuit_of board)

module _ (pattern board : CircuitFile) (buffers : ℕ → List ℕ) (rooms : (k : ℕ) → longest_line ≤ length (buffers k)) where
  -- where k calls have come to
  abbrev stage : ℕ → Stage
  stage = called pattern board buffers

  record Reached (k : ℕ) (s : Stage) : Type 0 where
    text : s.text ≡ prefix_of pattern board s.next
    found : s.found ≡ places_of pattern board s.next
    within : s.next ≤ items_of pattern board
    far : s.next < items_of pattern board → k ≤ s.next

  reached : (k : ℕ) → Reached k (stage k)
  unfolding called
  reached zero =
      record {
        text = sym (prefix-start (files_verdict pattern board) (circuit_of pattern) (circuit_of board));
        found = sym (places-start (files_verdict pattern board) (circuit_of pattern) (circuit_of board));
        within = zero-le;
        far = λ l. zero-le;
      }
  reached (suc k) =
      let s = reached k in
      let (text, found, within, forth, more) = call-follows pattern board (stage k).next (stage k).found (buffers k) (rooms k) s.within s.found in
      record {
        text = ap (λ (xs : List ℕ). xs ++ piece_text (reporting pattern board (stage k).next (stage k).found (buffers k))) s.text ∙ text;
        found = found;
        within = within;
        far = λ l. omega (arith, more (omega arith), s.far (omega arith));
      }

  -- all items are put: that is the report
  whole : (k : ℕ) → items_of pattern board ≤ (stage k).next → (stage k).text ≡ report_of pattern board
  whole k h = (reached k).text ∙ items-whole pattern board (stage k).next (reached k).within h

  -- As many calls as there are items put the report, whole,
  pub report-whole : (k : ℕ) → items_of pattern board ≤ k → (stage k).text ≡ report_of pattern board
  report-whole k h = whole k (le_of_suc-le-suc (lt_of_not-le (λ l. omega (arith, (reached k).far l))))

  -- and it is whole as soon as a call puts nothing.
  pub report-done : (k : ℕ) → piece_size (reporting pattern board (stage k).next (stage k).found (buffers k)) ≡ 0 → (stage k).text ≡ report_of pattern board
  report-done k e = whole k ((none-iff pattern board (stage k).next (stage k).found (buffers k) (rooms k)).0 e)

-- ---- what a caller knows of an answer, and passes on

module _
    (pattern board : CircuitFile) (from found : ℕ) (out : List ℕ) {after : List ℕ} (part : PutPiece)
    (room : longest_line ≤ length out)
    (e : ◌≡◌ {A = ReportOutcome} (record { reply = report_reply (Ok part); out = after }) (reporting pattern board from found out))
  where
    -- the bytes that were put lie within it,
    pub put-within : part.size ≤ length after
    unfolding report_reply
    put-within =
        let p = piece_of pattern board from found (length out) in
        let same = e ∙ result-is pattern board from found out room in
        omega (arith, ap piece_size same, ap (λ (r : ReportOutcome). length r.out) same, length-append p.text (drop (length p.text) out))

    -- and where to go on and the count are again those of an item: of a later one, where bytes were put.
    pub put-follows :
        from ≤ items_of pattern board → found ≡ places_of pattern board from →
        (part.next ≤ items_of pattern board) × (part.found ≡ places_of pattern board part.next) × ((part.size ≡ 0 → ⊥) → from < part.next)
    unfolding report_reply
    put-follows h f =
        let next : part.next ≡ piece_next (reporting pattern board from found out) = ap piece_next e in
        let (_, places, within, _, more) = call-follows pattern board from found out room h f in (
          rw next within,
          rw next (ap found_of e ∙ places),
          λ some. rw next (more (lt_of_not-le (λ l. some (ap piece_size e ∙ (none-iff pattern board from found out room).1 l)))),
        )

    -- The bytes that were put go on with the report, from the item `from` up to the one where to go on,
    pub put-text :
        from ≤ items_of pattern board → found ≡ places_of pattern board from →
        prefix_of pattern board from ++ take part.size after ≡ prefix_of pattern board part.next
    unfolding report_reply
    put-text h f =
        ap (λ (xs : List ℕ). prefix_of pattern board from ++ xs) (ap piece_text e)
        ∙ (call-follows pattern board from found out room h f).0
        ∙ ap (prefix_of pattern board) (sym (ap piece_next e))

    -- and where none were put, the items before `from` are the report.
    pub put-none : from ≤ items_of pattern board → part.size ≡ 0 → prefix_of pattern board from ≡ report_of pattern board
    unfolding report_reply
    put-none h z = items-whole pattern board from h ((none-iff pattern board from found out room).0 (sym (ap piece_size e) ∙ z))
