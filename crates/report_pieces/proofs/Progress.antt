-- Where the loop over the centres stands, from its start to its end: the lines of the centres before c are put, each of which had room, and
-- those with a place are counted. Assumes nothing.
use Rattle.std.specs.Prelude.{◌≡◌, ◌⊎◌, ◌&&◌, ◌++◌, ◌≤◌, ◌<◌, ◌+◌, ◌-◌}
use Rattle.base_lists.specs.Kit.{◌∙◌, sym, ap, refl, inl, inr, Bool, false, true, cond, not, List, [], ℕ, suc, zero-le, le_refl, le_of_suc-le-suc, eq-or-lt_of_le, add-sub_of_le, sub_self, T, eqb, ltb, ltb→lt, length, arith, eq-eqb, ne_eqb, ltb-false, ltb-true, leb-true}
use Rattle.base_lists.specs.Below.{count_below, least_below, concat_below}
use Rattle.base_lists.proofs.Below.{count_below-suc, count_below-le, least_below-le, least_below-is, least_below-all}
use Rattle.base_lists.proofs.Tests.{both_left, both_right, true-T, T_true}
use Rattle.base_text.specs.Text.{Put}
use Rattle.base_text.proofs.Text.{put-nothing, put_then, put_same, put-length}
use Rattle.graph.specs.Circuit.{Circuit}
use Rattle.file_format.specs.declared.Role.TheVariants.{Board}
use Rattle.file_format.specs.Circuit.{Bounded}
use Rattle.report.specs.Lines.{longest_line}
use Rattle.report.specs.Report.{has_place, centre_line}
use Rattle.report.proofs.Centre.{centre-missed, centre-long}
use Rattle.report.proofs.Lengths.{centre-length}
use Rattle.report_pieces.specs.Pieces.{lines_from, places_from, roomy, lines_taken, centres_piece, Wrote}

-- something is put exactly where there is a place
line-counts : (pattern board : Circuit) (c : ℕ) {before after : List ℕ} {at next : ℕ} → Put before at (centre_line pattern board c) after next
    → ◌≡◌ {A = ℕ} (cond (eqb next at) 0 1) (cond (has_place pattern board c) 1 0)
line-counts pattern board c {at = at} {next = next} p = go (has_place pattern board c) refl
  where
    go : (b : Bool) → has_place pattern board c ≡ b → ◌≡◌ {A = ℕ} (cond (eqb next at) 0 1) (cond b 1 0)
    go true e = rw (ne_eqb next at (λ q. omega (arith, p.end, centre-long pattern board c e)))
    go false e = rw (eq-eqb next at (p.end ∙ rw (centre-missed pattern board c e) (omega arith)))

pub record Progress (pattern board : Circuit) (from found : ℕ) (before : List ℕ) (c count at : ℕ) (after : List ℕ) : Type 0 where
  pub begun : from ≤ c
  pub within : c - from ≤ length board.labels - from
  pub put : Put before 0 (lines_from pattern board from (c - from)) after at
  pub counted : count ≡ found + places_from pattern board from (c - from)
  pub room : (j : ℕ) → j < c - from → roomy (length before) (length (lines_from pattern board from j)) ≡ true
  pub fits : at ≤ length before

module _ (pattern board : Circuit) (from found : ℕ) where
  abbrev lines : ℕ → List ℕ
  lines = lines_from pattern board from

  abbrev n : ℕ
  n = length board.labels

  -- one line more
  lines_more : (j c : ℕ) → from + j ≡ c → lines j ++ centre_line pattern board c ≡ lines (suc j)
  unfolding lines_from concat_below
  lines_more j c e = rw e

  places-more : (j c : ℕ) → from + j ≡ c → places_from pattern board from j + cond (has_place pattern board c) 1 0 ≡ places_from pattern board from (suc j)
  unfolding places_from
  places-more j c e = rw (← e) (sym (count_below-suc j (λ i. has_place pattern board (from + i))))

  places-le : (j : ℕ) → places_from pattern board from j ≤ j
  unfolding places_from
  places-le j = count_below-le j (λ i. has_place pattern board (from + i))

  -- ---- the start

  none : lines 0 ≡ []
  unfolding lines_from concat_below
  none = refl

  no-places : places_from pattern board from 0 ≡ 0
  unfolding places_from count_below
  no-places = refl

  pub progress_start : (out : List ℕ) → Progress pattern board from found out from found 0 out
  progress_start out =
      record {
        begun = le_refl from;
        within = omega arith;
        put = rw (sub_self from) (put_same (sym none) put-nothing);
        counted = rw (sub_self from, no-places) (omega arith);
        room = λ j h. absurd (omega arith);
        fits = zero-le;
      }

  module _ {before after : List ℕ} {c count at : ℕ} (p : Progress pattern board from found before c count at after) where
    -- so many bytes are put
    size : length (lines (c - from)) ≡ at
    size = omega (arith, p.put.end)

    -- ---- a turn

    -- the counts stay small
    pub progress-small : Bounded Board board → found < 65536 → count < 100000
    progress-small b h = omega (arith, p.counted, places-le (c - from), p.within, b.nodes)

    -- the test says that there is a centre more, and room for the longest line
    pub progress-goes : (b : Bool) → b ≡ (ltb c n && roomy (length after) at) → b ≡ true → (c < n) × (roomy (length before) at ≡ true)
    progress-goes b e t =
        let both : T (ltb c n && roomy (length before) at) = rw (← put-length p.put) (true-T (sym e ∙ t)) in
        (ltb→lt c n (both_left (ltb c n) _ both), T_true (both_right (ltb c n) (roomy (length before) at) both))

    module _ (b : Bounded Board board) (more : c < n) (spacious : roomy (length before) at ≡ true) where
      enough : at + longest_line ≤ length before
      enough = leb-true _ _ spacious

      here : from + (c - from) ≡ c
      here = add-sub_of_le p.begun

      next-centre : (c + 1) - from ≡ suc (c - from)
      next-centre = omega (arith, p.begun)

      room-more : (j : ℕ) → j < suc (c - from) → roomy (length before) (length (lines j)) ≡ true
      room-more j h = go (eq-or-lt_of_le (le_of_suc-le-suc h))
        where
          go : (j ≡ c - from) ⊎ (j < c - from) → roomy (length before) (length (lines j)) ≡ true
          go (inl e) = rw (e, size) spacious
          go (inr l) = p.room j l

      pub progress_step : {more' : List ℕ} {count' next : ℕ} → Put after at (centre_line pattern board c) more' next
          → count' ≡ count + cond (eqb next at) 0 1 → Progress pattern board from found before (c + 1) count' next more'
      progress_step {more'} {count'} {next} q e =
          record {
            begun = omega (arith, p.begun);
            within = rw next-centre (omega (arith, p.begun));
            put = rw next-centre (put_same (lines_more (c - from) c here) (put_then p.put q));
            counted = rw next-centre (omega (arith, e, p.counted, line-counts pattern board c q, places-more (c - from) c here));
            room = rw next-centre room-more;
            fits = omega (arith, q.end, centre-length pattern board c b more, enough);
          }

    -- ---- the end

    -- as many lines are put as there is room for
    taken : (ltb c n && roomy (length before) at) ≡ false → lines_taken pattern board from (length before) ≡ c - from
    unfolding lines_taken
    taken e = go (ltb c n) refl e
      where
        full : (j : ℕ) → j < c - from → not (roomy (length before) (length (lines j))) ≡ false
        full j h = ap not (p.room j h)

        go : (b : Bool) → ltb c n ≡ b → (b && roomy (length before) at) ≡ false
            → least_below (n - from) (λ j. not (roomy (length before) (length (lines j)))) ≡ c - from
        go true h f =
            let low : c < n = ltb-true c n h in
            let tight : roomy (length before) (length (lines (c - from))) ≡ false = rw size f in
            least_below-is (n - from) _ (c - from) (omega (arith, p.begun)) (true-T {b = not (roomy (length before) (length (lines (c - from))))} (ap not tight)) full
        go false h f =
            let past : n ≤ c = ltb-false c n h in
            let e : n - from ≡ c - from = omega (arith, p.within, p.begun) in
            rw e (least_below-all (c - from) _ full)

    wrote : (ltb c n && roomy (length before) at) ≡ false
        → Wrote before (centres_piece pattern board from found (length before)) after (record { next = c; found = count; size = at })
    unfolding centres_piece
    wrote e =
        record {
          fits = rw (taken e) (record { room = omega (arith, size, p.fits) });
          put = rw (taken e) p.put;
          next = rw (taken e) (sym (add-sub_of_le p.begun));
          found = rw (taken e) p.counted;
        }

    pub progress-end : (b : Bool) → b ≡ (ltb c n && roomy (length after) at) → b ≡ false
        → Wrote before (centres_piece pattern board from found (length before)) after (record { next = c; found = count; size = at })
    progress-end b e f = wrote (rw (← put-length p.put) (sym e ∙ f))

  -- the count after the piece stays small
  pub piece-small : Bounded Board board → found < 65536 → (room : ℕ) → (centres_piece pattern board from found room).found < 100000
  unfolding centres_piece lines_taken
  piece-small b h room =
      let j = lines_taken pattern board from room in
      omega (arith, places-le j, least_below-le (n - from) (λ j. not (roomy room (length (lines j)))), b.nodes)
