-- What the promise of the call for a test board means, of its own reply and bytes. Assumes nothing.
use Rattle.std.specs.Prelude.{Ok}
use Rattle.base_lists.specs.Kit.{◌≡◌, ◌∙◌, sym, ap, refl, ◌↔◌, List, [], ◌∷◌, ◌++◌, ℕ, ◌≤◌, ◌<◌, length, take, drop, take_at, drop_at, arith, not-false, ltb-false}
use Rattle.base_lists.proofs.Tests.{true-T, T_true, T_false}
use Rattle.graph.specs.Circuit.{Circuit, HasLink}
use Rattle.file_format.specs.declared.Edition.TheVariants.{First}
use Rattle.file_format.specs.declared.File.TheVariants.{Neither}
use Rattle.file_format.specs.declared.Role.TheVariants.{Board}
use Rattle.file_format.specs.Circuit.{circuit_of}
use Rattle.file_format.specs.Layout.{first_edition, nodes_of, length_of, starts_of, ends_of, labels_of}
use Rattle.file_format.specs.Reading.{reading, filled}
use Rattle.file_format.specs.Refusals.{Verdict, accept, refuse, first, file_conditions, short_table, number_outside}
use Rattle.file_format.specs.Reply.{Reply, reply, read_reply, number_reply}
use Rattle.file_format.proofs.Labels.{labels-kinds}
use Rattle.file_format.proofs.Refusals.{first_holds}
use Rattle.file_write.specs.Writing.{WriteOutcome}
use Rattle.file_write.proofs.FileFields.{nodes-written, kinds-written, packages-written, starts-written, ends-written}
use Rattle.file_write.proofs.RoundTrip.{same-verdict, written-file, written-reads}
use Rattle.file_write.proofs.Writing.{sound}
use Rattle.test_board.specs.Board.{sizes_in_range, InRange, test_board, PairDrawn}
use Rattle.test_board.proofs.Board.{in-range, range-in, test_board-nodes, test_board-parallel, test_board-link}
use Rattle.call_test_board.specs.Call.{test_board_bytes, test_board_conditions, TestBoardOutcome, making_test_board}
use Rattle.call_test_board.proofs.Making.{board-sound, written, loading-outside, loading-short, loading-made}

-- the verdict and the value of a reply
replied-accept :
    (v w : Verdict) (value size : ℕ) → w ≡ v → reply v (value ∷ []) ≡ record { verdict = accept; values = size ∷ [] } → (w ≡ accept) × (size ≡ value)
unfolding reply
replied-accept accept w value size h e =
    let same : value ∷ [] ≡ size ∷ [] = ap (λ (x : Reply). x.values) e in
    (h, cc)
replied-accept (refuse x) w value size h e =
    let same : refuse x ≡ accept = ap (λ (x : Reply). x.verdict) e in
    (cc, cc)

-- ---- refused or made: one of three, for all numbers and all bytes lent

module _ (seed n m k : ℕ) (out : List ℕ) where
  -- "10, one of the four numbers out of its range, checked ahead of 8", whatever is lent; the seed never is
  pub board-outside :
      (InRange n m k → ⊥) →
      making_test_board seed n m k out ≡ record { reply = record { verdict = refuse (record { number = 10; file = Neither }); values = [] }; out = out }
  unfolding number_reply
  board-outside h = sym (loading-outside seed n m k out (T_false (λ t. h (in-range n m k t))))

  -- "An output under 4 + 2N + 4M bytes, M as given, is 8."
  pub board-short :
      InRange n m k → length out < length_of First n m →
      making_test_board seed n m k out ≡ record { reply = record { verdict = refuse (record { number = 8; file = Neither }); values = [] }; out = out }
  unfolding number_reply
  board-short r h = sym (loading-short seed n m k out (T_true (range-in n m k r)) h)

  -- "The reply is the file's length, and bytes past it stay." Nothing else is refused.
  pub board-made :
      InRange n m k → length_of First n m ≤ length out →
      making_test_board seed n m k out
      ≡ record {
        reply = record { verdict = accept; values = length (test_board_bytes seed n m k) ∷ [] };
        out = test_board_bytes seed n m k ++ drop (length (test_board_bytes seed n m k)) out;
      }
  unfolding number_reply filled
  board-made r h =
      sym
      (loading-made seed n m k out (T_true (range-in n m k r)) (length (test_board_bytes seed n m k)) (filled accept (test_board_bytes seed n m k) out) h
      (record { sized = refl; written = refl }))

  -- a call that replies with a length was given numbers in their ranges and enough bytes
  pub board-replied :
      (size : ℕ) → (making_test_board seed n m k out).reply ≡ record { verdict = accept; values = size ∷ [] } →
      InRange n m k × (length_of First n m ≤ length out) × (size ≡ length (test_board_bytes seed n m k))
  unfolding making_test_board test_board_conditions number_outside short_table
  board-replied size e =
      let (ok, is) = replied-accept (first (test_board_conditions n m k (length out))) (first (test_board_conditions n m k (length out))) (length (test_board_bytes seed n m k)) size refl e in
      let (fits, rest) = first_holds _ _ ok in
      (in-range n m k (true-T {b = sizes_in_range n m k} (not-false _ fits)), ltb-false _ _ (first_holds _ _ rest).0, is)

-- ---- the file

module _ (seed n m k : ℕ) (r : InRange n m k) where
  -- "The file made is always an accepted board"
  pub board-accepted : first (file_conditions Board (first_edition (test_board_bytes seed n m k))) ≡ accept
  unfolding test_board_bytes
  board-accepted =
      let made = test_board seed n m k in
      let s = sound Board First made.labels [] made.starts made.ends (board-sound seed n m k r) in
      sym (same-verdict Board First made.labels [] made.starts made.ends s.range s.pairs s.given) ∙ board-sound seed n m k r

  -- that holds the test board: N nodes, the kinds drawn,
  pub board-circuit : circuit_of (first_edition (test_board_bytes seed n m k)) ≡ test_board seed n m k
  unfolding test_board_bytes labels_of
  board-circuit =
      let made = test_board seed n m k in
      rw (
        kinds-written First made.labels [] made.starts made.ends,
        packages-written First made.labels [] made.starts made.ends refl,
        starts-written First made.labels [] made.starts made.ends refl,
        ends-written First made.labels [] made.starts made.ends refl (test_board-parallel seed n m k),
        labels-kinds made.labels,
      )

  pub board-file-nodes : nodes_of (first_edition (test_board_bytes seed n m k)) ≡ n
  unfolding test_board_bytes
  board-file-nodes = let made = test_board seed n m k in nodes-written First made.labels [] made.starts made.ends ∙ test_board-nodes seed n m k

  -- and a link exactly where that pair was drawn
  pub board-file-link : (a b : ℕ) → HasLink (starts_of (first_edition (test_board_bytes seed n m k))) (ends_of (first_edition (test_board_bytes seed n m k))) a b ↔ PairDrawn seed n m a b
  board-file-link a b =
      rw (ap (λ (c : Circuit). c.starts) board-circuit, ap (λ (c : Circuit). c.ends) board-circuit) (test_board-link seed n m k r.some_nodes a b)

-- ---- what a call leaves that replies with a length

module _ (seed n m k : ℕ) (out : List ℕ) (size : ℕ) (e : (making_test_board seed n m k out).reply ≡ record { verdict = accept; values = size ∷ [] }) where
  -- the test board's file at the front
  pub prefix-file : take size (making_test_board seed n m k out).out ≡ test_board_bytes seed n m k
  prefix-file =
      let (r, room, is) = board-replied seed n m k out size e in
      ap (λ (o : TestBoardOutcome). take size o.out) (board-made seed n m k out r room) ∙ take_at (test_board_bytes seed n m k) _ size (sym is)

  -- and past it what was lent
  pub rest-stays : drop size (making_test_board seed n m k out).out ≡ drop size out
  rest-stays =
      let (r, room, is) = board-replied seed n m k out size e in
      ap (λ (o : TestBoardOutcome). drop size o.out) (board-made seed n m k out r room)
      ∙ drop_at (test_board_bytes seed n m k) _ size (sym is)
      ∙ ap (λ (i : ℕ). drop i out) (sym is)

  -- It reads back as the test board's circuit.
  pub prefix-reads :
      (ks ps ss es : List ℕ) → n ≤ length ks → length (test_board seed n m k).starts ≤ length ss → length (test_board seed n m k).ends ≤ length es →
      reading Board (first_edition (take size (making_test_board seed n m k out).out)) ks ps ss es
      ≡ record {
        answer = Ok (record { nodes = n; links = length (test_board seed n m k).starts });
        reply = read_reply (Ok (record { nodes = n; links = length (test_board seed n m k).starts }));
        kinds = (test_board seed n m k).labels ++ drop n ks;
        packages = ps;
        starts = (test_board seed n m k).starts ++ drop (length (test_board seed n m k).starts) ss;
        ends = (test_board seed n m k).ends ++ drop (length (test_board seed n m k).ends) es;
      }
  unfolding test_board_bytes
  prefix-reads ks ps ss es a b d =
      let (r, room, is) = board-replied seed n m k out size e in
      let made = test_board seed n m k in
      let nodes = test_board-nodes seed n m k in
      let wrote =
      ap (λ (o : WriteOutcome). o.answer) (written seed n m k r made.labels made.starts made.ends out (refl, refl, refl) room)
      ∙ ap Ok (sym is) in
      ap (λ (file : List ℕ). reading Board (first_edition file) ks ps ss es) (prefix-file ∙ sym (written-file Board First made.labels [] made.starts made.ends out size wrote))
      ∙ written-reads Board First made.labels [] made.starts made.ends out size wrote ks ps ss es (omega arith) (omega arith) b d
      ∙ rw nodes

-- "equal numbers make equal files": whatever two calls with the same four numbers were lent, of whatever lengths, what they reply is the same
-- length and what they leave at the front the same file
pub equal-files :
    (seed n m k : ℕ) (out out' : List ℕ) (size size' : ℕ) →
    (making_test_board seed n m k out).reply ≡ record { verdict = accept; values = size ∷ [] } →
    (making_test_board seed n m k out').reply ≡ record { verdict = accept; values = size' ∷ [] } →
    (size ≡ size') × (take size (making_test_board seed n m k out).out ≡ take size' (making_test_board seed n m k out').out)
equal-files seed n m k out out' size size' e e' = (
  (board-replied seed n m k out size e).2 ∙ sym (board-replied seed n m k out' size' e').2,
  prefix-file seed n m k out size e ∙ sym (prefix-file seed n m k out' size' e'),
)
