-- A piece puts the items of the report from where it starts up to where it says to go on, and puts nothing exactly past the last item. Assumes
-- nothing.
use Rattle.std.specs.Prelude.{◌≡◌, ◌↔◌, ◌⊎◌, ◌&&◌, ◌++◌, ◌≤◌, ◌<◌, ◌+◌, ◌-◌}
use Rattle.base_lists.specs.Kit.{◌∙◌, sym, ap, refl, ap₂, inl, inr, Bool, false, true, cond, not, List, [], append-nil, append_assoc, ℕ, suc, zero, zero-le, le_refl, zero-lt-suc, le_trans, eq-or-lt_of_le, add-zero, lt_of_not-le, eqb, eqb→eq, leb, length, length-append, arith, eqb-true, not-true, eqb-false, le-leb, lt-leb, leb-true, leb-false}
use native.Mathlib.Decide.{dec_lt}
use Rattle.base_lists.specs.Below.{count_below, concat_below}
use Rattle.base_lists.proofs.Below.{count_below-le, least_below-le, least_below-at, count_below-add}
use Rattle.base_lists.proofs.Tests.{both_left, true-T, T_true}
use Rattle.base_lists.proofs.Concat.{concat_below-add}
use Rattle.base_text.specs.Text.{bytes}
use Rattle.graph.specs.Circuit.{Circuit}
use Rattle.file_format.specs.declared.Refusal.{Refusal}
use Rattle.file_format.specs.Refusals.{Verdict, accept, refuse}
use Rattle.report.specs.Lines.{longest_line}
use Rattle.report.specs.Report.{has_place, centre_line, end_line, refusal_line, lines_of, report_for}
use Rattle.report_answer.specs.Call.{piece_for}
use Rattle.report_pieces.specs.Pieces.{lines_from, places_from, roomy, lines_taken, Piece, centres_piece, ends, closed, lines_piece, refusal_piece}
use Rattle.report_answer.specs.Whole.{items_for, prefix_for, places_for, PieceFollows}

-- the lines that end a report are not empty
end-some : (k n : ℕ) → 0 < length (end_line k n)
unfolding end_line bytes
end-some k n = zero-lt-suc _

refusal-some : (x : Refusal) → 0 < length (refusal_line x)
unfolding refusal_line bytes
refusal-some x = zero-lt-suc _

-- ---- the first items

module _ (pattern board : Circuit) where
  abbrev n : ℕ
  n = length board.labels

  abbrev lines : ℕ → List ℕ
  lines k = concat_below k (centre_line pattern board)

  abbrev count : ℕ → ℕ
  count k = count_below k (has_place pattern board)

  prefix-low : (k : ℕ) → k ≤ n → prefix_for accept pattern board k ≡ lines k
  unfolding prefix_for
  prefix-low k h = rw (le-leb k n h)

  prefix-high : (k : ℕ) → n < k → prefix_for accept pattern board k ≡ lines_of pattern board
  unfolding prefix_for
  prefix-high k h = rw (lt-leb k n h)

  places-low : (k : ℕ) → k ≤ n → places_for accept pattern board k ≡ count k
  unfolding places_for
  places-low k h = rw (le-leb k n h)

  places-high : (k : ℕ) → n < k → places_for accept pattern board k ≡ count n
  unfolding places_for
  places-high k h = rw (lt-leb k n h)

  -- the lines of the first centres and those of further ones; and their places
  lines_join : (from j : ℕ) → lines from ++ lines_from pattern board from j ≡ lines (from + j)
  unfolding lines_from
  lines_join from j = sym (concat_below-add from j (centre_line pattern board))

  places-join : (from j : ℕ) → count from + places_from pattern board from j ≡ count (from + j)
  unfolding places_from
  places-join from j = sym (count_below-add from j (has_place pattern board))

  -- no lines of no centres
  no_lines : (from : ℕ) → lines_from pattern board from 0 ≡ []
  unfolding lines_from concat_below
  no_lines from = refl

  some-lines : (from i : ℕ) → 0 < length (lines_from pattern board from i) → 0 < i
  unfolding lines_from concat_below
  some-lines from zero h = h
  some-lines from (suc i) h = zero-lt-suc i

  -- ---- the piece of a pattern and a board

  module _ (from found room : ℕ) where
    abbrev j : ℕ
    j = lines_taken pattern board from room

    abbrev text : List ℕ
    text = lines_from pattern board from j

    abbrev places : ℕ
    places = found + places_from pattern board from j

    -- without the last line, and with it
    abbrev lined : Piece
    lined = record { text = text; next = from + j; found = places }

    abbrev whole : Piece
    whole = record { text = text ++ end_line places n; next = suc n; found = places }

    abbrev last : Bool
    last = ends n room (from + j) (length text)

    piece_is : lines_piece pattern board from found room ≡ cond last whole lined
    unfolding lines_piece closed centres_piece
    piece_is = refl

    taken-le : j ≤ n - from
    unfolding lines_taken
    taken-le = least_below-le (n - from) (λ i. not (roomy room (length (lines_from pattern board from i))))

    -- before the centres are done, the lines stop for want of room
    taken-full : j < n - from → roomy room (length text) ≡ false
    unfolding lines_taken
    taken-full h = not-true _ (T_true (least_below-at (n - from) (λ i. not (roomy room (length (lines_from pattern board from i)))) h))

    last-next : last ≡ true → from + j ≡ n
    unfolding ends
    last-next e = eqb→eq (from + j) n (both_left (eqb (from + j) n) (roomy room (length text)) (true-T e))

    -- so do they where the last line does not follow them
    lined-full : from ≤ n → last ≡ false → roomy room (length text) ≡ false
    unfolding ends
    lined-full h e = go (eqb (from + j) n) refl e
      where
        before : (eqb (from + j) n ≡ false) → (j ≡ n - from) ⊎ (j < n - from) → roomy room (length text) ≡ false
        before q (inl r) = absurd (eqb-false (from + j) n q (omega arith))
        before q (inr l) = taken-full l

        go : (b : Bool) → eqb (from + j) n ≡ b → (b && roomy room (length text)) ≡ false → roomy room (length text) ≡ false
        go true q f = f
        go false q f = before q (eq-or-lt_of_le taken-le)

    -- the places among the first centres and these
    places-whole : from ≤ n → found ≡ places_for accept pattern board from → places ≡ count (from + j)
    places-whole h e = ap (λ (k : ℕ). k + places_from pattern board from j) (e ∙ places-low from h) ∙ places-join from j

    -- ---- past the last item

    module _ (past : n < from) where
      past-none : j ≡ 0
      past-none = omega (arith, taken-le)

      past-text : text ≡ []
      past-text = ap (lines_from pattern board from) past-none ∙ no_lines from

      past-places : places_from pattern board from j ≡ 0
      unfolding places_from
      past-places = omega (arith, count_below-le j (λ i. has_place pattern board (from + i)), past-none)

      follows-past : from ≤ suc n → found ≡ places_for accept pattern board from → PieceFollows accept pattern board from lined
      unfolding items_for
      follows-past h e =
          let here : from + j ≡ from = omega (arith, past-none) in
          record {
            text = rw (past-text, here) (append-nil (prefix_for accept pattern board from));
            found = rw (past-places, here) (add-zero found ∙ e);
            within = rw here h;
            forth = rw here (le_refl from);
            more = λ l. absurd (omega arith);
          }

    -- ---- before

    module _ (enough : longest_line ≤ room) where
      lined-some : from ≤ n → last ≡ false → 0 < length text
      lined-some h e = omega (arith, leb-false (length text + longest_line) room (lined-full h e))

      follows-lined : from ≤ n → last ≡ false → found ≡ places_for accept pattern board from → PieceFollows accept pattern board from lined
      unfolding items_for
      follows-lined h e f =
          let some : 0 < j = some-lines from j (lined-some h e) in
          let low : from + j ≤ n = omega (arith, taken-le) in
          record {
            text = rw (prefix-low from h, prefix-low (from + j) low) (lines_join from j);
            found = rw (places-low (from + j) low) (places-whole h f);
            within = omega arith;
            forth = omega arith;
            more = λ l. omega arith;
          }

      follows-whole : last ≡ true → found ≡ places_for accept pattern board from → PieceFollows accept pattern board from whole
      unfolding items_for lines_of
      follows-whole e f =
          let here : from + j ≡ n = last-next e in
          let low : from ≤ n = omega arith in
          let all : places ≡ count n = places-whole low f ∙ ap count here in
          record {
            text =
                rw (prefix-low from low, prefix-high (suc n) (le_refl (suc n)))
                (sym (append_assoc (lines from) text (end_line places n))
                ∙ ap₂ (λ (xs : List ℕ) (k : ℕ). xs ++ end_line k n) (lines_join from j ∙ ap lines here) all);
            found = rw (places-high (suc n) (le_refl (suc n))) all;
            within = le_refl (suc n);
            forth = omega arith;
            more = λ l. omega arith;
          }

      lines-follow : from ≤ suc n → found ≡ places_for accept pattern board from → PieceFollows accept pattern board from (lines_piece pattern board from found room)
      lines-follow h e = rw piece_is (go last refl (dec_lt n from))
        where
          go : (b : Bool) → last ≡ b → Dec (n < from) → PieceFollows accept pattern board from (cond b whole lined)
          go true q d = follows-whole q e
          go false q (yes past) = follows-past past h e
          go false q (no inside) = follows-lined (omega arith) q e

      -- nothing is put exactly past the last item
      lines_none : (length (lines_piece pattern board from found room).text ≡ 0) ↔ (suc n ≤ from)
      lines_none = rw piece_is (go last refl (dec_lt n from))
        where
          go : (b : Bool) → last ≡ b → Dec (n < from) → (length (cond b whole lined).text ≡ 0) ↔ (suc n ≤ from)
          go true q d =
              (λ z. absurd (omega (arith, length-append text (end_line places n), end-some places n)), λ past. absurd (omega (arith, last-next q)))
          go false q (yes past) = (λ z. past, λ p. ap length (past-text past))
          go false q (no inside) = (λ z. absurd (omega (arith, lined-some (omega arith) q)), λ past. absurd (inside past))

-- ---- a refused file

module _ (x : Refusal) (pattern board : Circuit) (from found : ℕ) where
  refusal-follows : from ≤ 1 → found ≡ places_for (refuse x) pattern board from → PieceFollows (refuse x) pattern board from (refusal_piece x from found)
  unfolding refusal_piece items_for prefix_for places_for
  refusal-follows h e = go (eqb from 0) refl
    where
      go : (b : Bool) → eqb from 0 ≡ b
          → PieceFollows (refuse x) pattern board from (cond b (record { text = refusal_line x; next = 1; found = found }) (record { text = []; next = from; found = found }))
      go true q = record { text = rw q; found = e; within = le_refl 1; forth = h; more = λ l. l }
      go false q =
          record { text = append-nil _; found = e; within = h; forth = le_refl from; more = λ l. absurd (eqb-false from 0 q (omega arith)) }

  refusal-none : (length (refusal_piece x from found).text ≡ 0) ↔ (1 ≤ from)
  unfolding refusal_piece
  refusal-none = go (eqb from 0) refl
    where
      go : (b : Bool) → eqb from 0 ≡ b
          → (length (cond {A = Piece} b (record { text = refusal_line x; next = 1; found = found }) (record { text = []; next = from; found = found })).text ≡ 0) ↔ (1 ≤ from)
      go true q = (λ z. absurd (omega (arith, refusal-some x)), λ h. absurd (omega (arith, eqb-true from 0 q)))
      go false q = (λ z. lt_of_not-le (λ h. eqb-false from 0 q (omega arith)), λ h. refl)

-- ---- the two together

module _ (pattern board : Circuit) (from found room : ℕ) (enough : longest_line ≤ room) where
  pub piece-follows : (v : Verdict) → from ≤ items_for v board → found ≡ places_for v pattern board from → PieceFollows v pattern board from (piece_for v pattern board from found room)
  unfolding piece_for items_for
  piece-follows accept h e = lines-follow pattern board from found room enough h e
  piece-follows (refuse x) h e = refusal-follows x pattern board from found h e

  pub piece-none : (v : Verdict) → (length (piece_for v pattern board from found room).text ≡ 0) ↔ (items_for v board ≤ from)
  unfolding piece_for items_for
  piece-none accept = lines_none pattern board from found room enough
  piece-none (refuse x) = refusal-none x pattern board from found

-- no items are no text and no places; all of them are the report
pub prefix-start : (v : Verdict) (pattern board : Circuit) → prefix_for v pattern board 0 ≡ []
unfolding prefix_for concat_below
prefix-start accept pattern board = rw (le-leb 0 (length board.labels) zero-le)
prefix-start (refuse x) pattern board = refl

pub places-start : (v : Verdict) (pattern board : Circuit) → places_for v pattern board 0 ≡ 0
unfolding places_for count_below
places-start accept pattern board = rw (le-leb 0 (length board.labels) zero-le)
places-start (refuse x) pattern board = refl

pub prefix-all : (v : Verdict) (pattern board : Circuit) → prefix_for v pattern board (items_for v board) ≡ report_for v pattern board
unfolding prefix_for items_for report_for
prefix-all accept pattern board = rw (lt-leb (suc (length board.labels)) (length board.labels) (le_refl _))
prefix-all (refuse x) pattern board = refl

-- there are no more places than nodes
pub places-small : (v : Verdict) (pattern board : Circuit) (k : ℕ) → places_for v pattern board k ≤ length board.labels
unfolding places_for
places-small accept pattern board k = go (leb k (length board.labels)) refl
  where
    go : (b : Bool) → leb k (length board.labels) ≡ b → count_below (cond b k (length board.labels)) (has_place pattern board) ≤ length board.labels
    go true q = le_trans (count_below-le k (has_place pattern board)) (leb-true k (length board.labels) q)
    go false q = count_below-le (length board.labels) (has_place pattern board)
places-small (refuse x) pattern board k = zero-le
