-- The test board's circuit as the passes leave it, its file, and what the call comes to by cases. Assumes nothing.
use Rattle.std.specs.Prelude.{Ok, Err}
use Rattle.base_lists.specs.Kit.{◌≡◌, ◌∙◌, sym, ap, refl, ap₂, false, true, ◌&&◌, List, [], ◌++◌, ℕ, ◌≤◌, ◌<◌, ◌+◌, ◌*◌, le_trans, T, eqb, leb, le→leb, length, get_or, take, get_or-append, take_at, arith, le-ltb, lt-ltb}
use Rattle.base_lists.proofs.Tests.{T_true, both_true}
use Rattle.base_lists.proofs.Below.{any_below-same}
use Rattle.graph.specs.Circuit.{Circuit}
use Rattle.graph.specs.Pairs.{pair_starts, pair_ends}
use Rattle.graph.proofs.Pairs.{pairs-same}
use Rattle.file_format.specs.declared.Edition.TheVariants.{First}
use Rattle.file_format.specs.declared.File.TheVariants.{Neither}
use Rattle.file_format.specs.declared.Role.TheVariants.{Board}
use Rattle.file_format.specs.Layout.{length_of}
use Rattle.file_format.specs.Links.{links_below, rising}
use Rattle.file_format.specs.Reading.{filled}
use Rattle.file_format.specs.Refusals.{accept, first, link_conditions, asks_connected, short_table, number_outside}
use Rattle.file_format.specs.Reply.{reply, number_reply}
use Rattle.file_format.specs.Role.{in_range}
use Rattle.file_write.specs.Writing.{circuit_conditions, writing}
use Rattle.file_write.proofs.FileFields.{length-written}
use Rattle.file_write.proofs.Writing.{verdict-links, writing-filled}
use Rattle.test_board.specs.Generator.{stepped}
use Rattle.test_board.specs.Board as test_board
use Rattle.test_board.specs.Board.{InRange, kinds_drawn, pairs_drawn, is_pair, test_board}
use Rattle.test_board.proofs.Generator.{length-draws, draws-lt}
use Rattle.test_board.proofs.Board.{test_board-nodes, test_board-parallel, test_board-links, board-below, board-rises}
use Rattle.test_board_links.specs.Marks.{AllBelow}
use Rattle.call_test_board.specs.Call.{test_board_bytes, test_board_conditions, making_test_board, MadeFrom}

-- ---- the test board is a board

module _ (seed n m k : ℕ) (r : InRange n m k) where
  abbrev made : Circuit
  made = test_board seed n m k

  -- no condition on a circuit that is written as a board holds of it
  pub board-sound : first (circuit_conditions Board First made.labels [] made.starts made.ends) ≡ accept
  unfolding first link_conditions asks_connected
  board-sound =
      let size = test_board-nodes seed n m k in
      let few = test_board-links seed n m k in
      let nodes = length made.labels in
      let links = length made.starts in
      let below : links_below nodes made.starts made.ends ≡ true = T_true (board-below seed n m k r.some_nodes) in
      let rises : rising made.starts made.ends ≡ true = T_true (board-rises seed n m k r.some_nodes) in
      let range : T (in_range Board nodes links) =
      both_true (leb 0 nodes) (leb nodes 512 && leb links 4096) (le→leb 0 nodes (omega arith))
      (both_true (leb nodes 512) (leb links 4096) (le→leb nodes 512 (omega (arith, r.nodes))) (le→leb links 4096 (omega (arith, r.links)))) in
      verdict-links Board First made.labels [] made.starts made.ends (T_true range) (test_board-parallel seed n m k) refl ∙ simp (below, rises)

  -- its file is no longer than that of as many links as were drawn
  pub board-length-le : length_of First (length made.labels) (length made.starts) ≤ length_of First n m
  board-length-le = omega (arith, test_board-nodes seed n m k, test_board-links seed n m k)

  -- ---- what was drawn and collected, at the front of the tables

  module _ (pairs rest : List ℕ) (e : pairs ≡ pairs_drawn seed n m ++ rest) where
    pair-prefix : (i : ℕ) → i < 2 * m → get_or pairs i 0 ≡ get_or (pairs_drawn seed n m) i 0
    unfolding pairs_drawn
    pair-prefix i h = ap (λ (l : List ℕ). get_or l i 0) e ∙ get_or-append (pairs_drawn seed n m) rest 0 i (omega (arith, length-draws (stepped seed n) n (2 * m)))

    pub pairs_below : AllBelow n (2 * m) pairs
    unfolding AllBelow pairs_drawn
    pairs_below i h = rw (pair-prefix i h) (draws-lt _ n (2 * m) i r.some_nodes h)

    links-same : (pair_starts n (is_pair pairs m) ≡ made.starts) × (pair_ends n (is_pair pairs m) ≡ made.ends)
    unfolding test_board is_pair
    links-same =
        pairs-same n _ _
        (λ a b.
        any_below-same m _ _
        (λ j h. ap₂ (λ (x y : ℕ). eqb x a && eqb y b) (pair-prefix (2 * j) (omega arith)) (pair-prefix (2 * j + 1) (omega arith))))

    -- as many links as the test board has
    pub links-count : length (pair_starts n (is_pair pairs m)) ≡ length made.starts
    links-count = ap length links-same.0

    pub fronts :
        (kinds starts ends kindsRest startsRest endsRest : List ℕ) (links : ℕ) → kinds ≡ kinds_drawn seed n k ++ kindsRest →
        links ≡ length (pair_starts n (is_pair pairs m)) → starts ≡ pair_starts n (is_pair pairs m) ++ startsRest →
        ends ≡ pair_ends n (is_pair pairs m) ++ endsRest →
        (take n kinds ≡ made.labels) × (take links starts ≡ made.starts) × (take links ends ≡ made.ends)
    unfolding test_board
    fronts kinds starts ends kr sr er links ek el es ee =
        let count : length made.starts ≡ links = sym (el ∙ links-count) in (
          ap (take n) ek ∙ take_at (kinds_drawn seed n k) kr n (test_board-nodes seed n m k),
          ap (take links) es ∙ take_at _ sr links (sym el) ∙ links-same.0,
          ap (take links) ee ∙ take_at _ er links (ap length links-same.1 ∙ sym (test_board-parallel seed n m k) ∙ count) ∙ links-same.1,
        )

  -- ---- written, it is the test board's file

  pub written :
      (kinds starts ends out : List ℕ) → (kinds ≡ made.labels) × (starts ≡ made.starts) × (ends ≡ made.ends) → length_of First n m ≤ length out →
      writing Board First kinds [] starts ends out
      ≡ record {
        answer = Ok (length (test_board_bytes seed n m k));
        reply = number_reply (Ok (length (test_board_bytes seed n m k)));
        out = filled accept (test_board_bytes seed n m k) out;
      }
  unfolding test_board_bytes
  written kinds starts ends out e room =
      rw (e.0, e.1, e.2)
      (writing-filled Board First made.labels [] made.starts made.ends out board-sound (le_trans board-length-le room)
      ∙ rw (sym (length-written First made.labels [] made.starts made.ends refl (test_board-parallel seed n m k))))

-- ---- the call, by cases

module _ (seed n m k : ℕ) (out : List ℕ) where
  pub loading-outside : test_board.sizes_in_range n m k ≡ false
      → record { reply = number_reply (Err (record { number = 10; file = Neither })); out = out } ≡ making_test_board seed n m k out
  unfolding making_test_board test_board_conditions first number_outside number_reply reply filled
  loading-outside e = simp e

  module _ (e : test_board.sizes_in_range n m k ≡ true) where
    pub loading-short : length out < length_of First n m
        → record { reply = number_reply (Err (record { number = 8; file = Neither })); out = out } ≡ making_test_board seed n m k out
    unfolding making_test_board test_board_conditions first number_outside short_table number_reply reply filled
    loading-short h = simp (e, lt-ltb _ _ h)

    pub loading-made : (size : ℕ) (after : List ℕ) → length_of First n m ≤ length out → MadeFrom seed n m k size out after
        → record { reply = number_reply (Ok size); out = after } ≡ making_test_board seed n m k out
    unfolding making_test_board test_board_conditions first number_outside short_table number_reply reply
    loading-made size after h made = rw (made.sized, made.written) (simp (e, le-ltb _ _ h))
