-- For every list of cuts: each reply is the machine's, and afterwards the tables hold the machine after the list. Its table is the largest dual simulation in the
-- nodes with the links left. Assumes nothing.
use Rattle.std.specs.Prelude.{◌≡◌, ◌&&◌, ◌||◌, ◌∷◌}
use Rattle.base_lists.specs.Kit.{◌∙◌, sym, ap, refl, subst, ap₂, Bool, false, true, cond, not, and-true, List, [], ℕ, T, eqb, eqb→eq, length, eq-eqb, eqb-true}
use Rattle.base_lists.specs.List.{any}
use Rattle.base_lists.proofs.Tests.{T_true, true-T, same_test}
use Rattle.graph.specs.Chosen.{chosen}
use Rattle.graph.specs.Circuit.{circuit_graph}
use Rattle.graph.proofs.Ball.{within_all}
use Rattle.graph.proofs.Chosen.{chosen-iff, chosen-has}
use Rattle.file_format.specs.Circuit.{Bounded}
use Rattle.file_format.specs.Refusals.{Verdict, accept, refuse, first, link_gone}
use Rattle.file_format.specs.declared.Role.TheVariants as role
use Rattle.file_format.specs.declared.File.TheVariants.{Neither}
use Rattle.file_format.proofs.Accepted.{bounded-starts, bounded-ends}
use Rattle.simulation.specs.Simulation.{Largest}
use Rattle.table.specs.Fill.{listed}
use Rattle.table.specs.Host.{KindsMatch, everything}
use Rattle.table.specs.Row.{both_directions, InTable}
use Rattle.table.proofs.Answer.{answer-fits, board-along, along-dual}
use Rattle.table.proofs.Host.{within-joins}
use Rattle.session.specs.Machine.{Machine, is_left, take_out, cut_reply, cut_machine, replies, machine_after, board_left, machine_table}
use Rattle.session.specs.Session.{Cuts}
use Rattle.session.specs.State.{State, Holds}
use Rattle.session.proofs.Left.{left_out}

-- ---- the two kinds of cut

module _ (m : Machine) (linkIndex : ℕ) where
  -- "takes it out of the set. Its reply is then 'cut'."
  pub cut_left : T (is_left m linkIndex) → (cut_reply m linkIndex ≡ accept) × (cut_machine m linkIndex ≡ take_out m linkIndex)
  unfolding cut_reply cut_machine first link_gone
  cut_left t = let e : is_left m linkIndex ≡ true = T_true {b = is_left m linkIndex} t in (rw e, rw e)

  -- "A cut of a link already out, or of a place not below M, changes nothing and its reply is 14."
  pub cut-gone : is_left m linkIndex ≡ false → (cut_reply m linkIndex ≡ refuse (record { number = 14; file = Neither })) × (cut_machine m linkIndex ≡ m)
  unfolding cut_reply cut_machine first link_gone
  cut-gone e = (rw e, rw e)

-- ---- a list of cuts

-- "For every list of cuts from a fresh session, after it .. each reply in the list is the machine's": and so from any machine that the tables hold.
pub run_holds :
    (linkIndices : List ℕ) (rs : List Verdict) (m : Machine) {before after : State} → Holds m before → Cuts before linkIndices rs after →
    (rs ≡ replies m linkIndices) × Holds (machine_after m linkIndices) after
unfolding Cuts replies machine_after
run_holds [] [] m h e = (refl, subst (Holds m) (sym e) h)
run_holds [] (r ∷ rs) m h c = absurd c
run_holds (linkIndex ∷ linkIndices) [] m h c = absurd c
run_holds (linkIndex ∷ linkIndices) (r ∷ rs) m h (s, cut, rest) =
    let (e, after, content) = cut.machine m h in
    let (es, end) = run_holds linkIndices rs (cut_machine m linkIndex) after rest in
    (ap₂ (λ (x : Verdict) (xs : List Verdict). x ∷ xs) e es, end)

-- the links left after a list are those that are not in it
pub cut_keeps : (m : Machine) (linkIndex i : ℕ) → is_left (cut_machine m linkIndex) i ≡ is_left m i && not (eqb linkIndex i)
unfolding cut_machine
cut_keeps m linkIndex i = go (is_left m linkIndex) refl
  where
    apart : eqb i linkIndex ≡ eqb linkIndex i
    apart = same_test (λ t. true-T (eq-eqb linkIndex i (sym (eqb→eq i linkIndex t)))) (λ t. true-T (eq-eqb i linkIndex (sym (eqb→eq linkIndex i t))))

    stays : (c : Bool) → eqb linkIndex i ≡ c → is_left m linkIndex ≡ false → is_left m i ≡ is_left m i && not c
    stays true q e = let none : is_left m i ≡ false = ap (is_left m) (sym (eqb-true linkIndex i q)) ∙ e in rw none
    stays false q e = sym (and-true (is_left m i))

    go : (b : Bool) → is_left m linkIndex ≡ b → is_left (cond b (take_out m linkIndex) m) i ≡ is_left m i && not (eqb linkIndex i)
    go true e = left_out m linkIndex i ∙ ap (λ (b : Bool). is_left m i && not b) apart
    go false e = stays (eqb linkIndex i) refl e

pub left_after : (linkIndices : List ℕ) (m : Machine) (i : ℕ) → is_left (machine_after m linkIndices) i ≡ is_left m i && not (listed linkIndices i)
unfolding machine_after listed any
left_after [] m i = sym (and-true (is_left m i))
left_after (linkIndex ∷ linkIndices) m i =
    left_after linkIndices (cut_machine m linkIndex) i
    ∙ ap (λ (b : Bool). b && not (any (λ w. eqb w i) linkIndices)) (cut_keeps m linkIndex i)
    ∙ go (is_left m i) (eqb linkIndex i) (any (λ w. eqb w i) linkIndices)
  where
    go : (a b c : Bool) → (a && not b) && not c ≡ a && not (b || c)
    go true true c = refl
    go true false c = refl
    go false b c = refl

-- ---- what the table means

-- it has a set for each node
pub length-table : (m : Machine) → length (machine_table m) ≡ length m.board.labels
unfolding machine_table board_left chosen
length-table m = (answer-fits both_directions m.pattern (board_left m) (everything (board_left m))).size

-- a machine keeps its pattern and its board
pub after_same : (linkIndices : List ℕ) (m : Machine) → ((machine_after m linkIndices).pattern ≡ m.pattern) × ((machine_after m linkIndices).board ≡ m.board)
unfolding machine_after cut_machine take_out
after_same [] m = (refl, refl)
after_same (linkIndex ∷ linkIndices) m =
    let (p, b) = after_same linkIndices (cut_machine m linkIndex) in
    let (q, c) = one (is_left m linkIndex) in
    (p ∙ q, b ∙ c)
  where
    one : (b : Bool) → ((cond b (take_out m linkIndex) m).pattern ≡ m.pattern) × ((cond b (take_out m linkIndex) m).board ≡ m.board)
    one true = (refl, refl)
    one false = (refl, refl)

-- "the table is the largest dual simulation of the pattern in the nodes with the machine's links"
pub machine-largest :
    (m : Machine) → Bounded role.Pattern m.pattern → Bounded role.Board m.board →
    Largest (circuit_graph m.pattern) (KindsMatch m.pattern (board_left m)) (circuit_graph (board_left m)) (InTable (machine_table m))
unfolding machine_table board_left chosen
machine-largest m p b =
    let within = within_all (length m.board.labels) m.board.starts m.board.ends (bounded-starts b) (bounded-ends b) in
    along-dual
    (board-along both_directions m.pattern (board_left m) p.nodes
    (within-joins (board_left m)
    (record {
      starts = λ v w l. within.starts v w (chosen-has m.board m.left v w ((chosen-iff m.board m.left v w).0 l));
      ends = λ v w l. within.ends v w (chosen-has m.board m.left v w ((chosen-iff m.board m.left v w).0 l));
    })))
