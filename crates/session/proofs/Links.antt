-- The links of a machine as the tables hold them: they lead where the links left lead, and taking a link out leaves the others. Assumes nothing.
use Rattle.std.specs.Prelude.{◌≡◌, ◌↔◌, ◌∷◌, ◌≤◌, ◌<◌, ◌+◌}
use Rattle.base_lists.specs.Kit.{◌∙◌, sym, ap, refl, subst, ap₂, iff_trans, iff_symm, Bool, false, true, cond, List, [], ℕ, suc, zero, suc-le-suc, not-suc-le-zero, le_of_suc-le-suc, zero-lt-suc, T, eqb, ltb, length, get_or, take, drop, set, get_or-eq_default, get_or-set_other, get_or-set_same, set_out, take-set-le, drop-set-add, drop-set-lt, take-set-lt, arith, eqb-true, ltb-false, eqb-false, ltb-true}
use Rattle.base_lists.specs.List.{part, Occurs}
use Rattle.base_lists.proofs.Tables.{length-tabulate, get_d_tabulate}
use Rattle.base_lists.proofs.Tests.{T_true, true-T}
use Rattle.graph.specs.Chosen.{chosen, ChosenLink}
use Rattle.graph.specs.Circuit.{LinkAt, HasLink}
use Rattle.graph.specs.Neighbours.{select}
use Rattle.graph.specs.Net.{forward_targets, backward_targets, driven, driving}
use Rattle.graph.specs.Search.{inside, far}
use Rattle.graph.proofs.Chosen.{chosen-iff}
use Rattle.graph.proofs.Groups.{select-mem, select-mem-back, link-swap}
use Rattle.simulation.specs.Simulation.{Direction, forwards, backwards}
use Rattle.table.specs.Fill.{all_nodes}
use Rattle.table.specs.Row.{neighbours}
use Rattle.session_strike.specs.Moves.{beyond, moves_in}
use Rattle.session.specs.Machine.{Machine, is_left, take_out, board_left}
use Rattle.session.specs.State.{end_left, ends_without, Linked}
use Rattle.session.proofs.Left.{end-out, left-inside, below_left}

-- ---- the other ends of some links

-- what stands at the ends of the links of a list
occurs-beyond : (ends l : List ℕ) (w : ℕ) → Occurs (beyond ends l) w ↔ ((i : ℕ) × Occurs l i × (get_or ends i far ≡ w))
unfolding beyond
occurs-beyond ends l w = (there l, back l)
  where
    there : (l : List ℕ) → Occurs (beyond ends l) w → (i : ℕ) × Occurs l i × (get_or ends i far ≡ w)
    there [] (k, h, e) = absurd (not-suc-le-zero h)
    there (i ∷ l) (zero, h, e) = (i, (zero, zero-lt-suc _, refl), e)
    there (i ∷ l) (suc k, h, e) =
        let (x, (j, p, q), r) = there l (k, le_of_suc-le-suc h, e) in
        (x, (suc j, suc-le-suc p, q), r)

    back : (l : List ℕ) → (i : ℕ) × Occurs l i × (get_or ends i far ≡ w) → Occurs (beyond ends l) w
    back [] (i, (j, p, q), r) = absurd (not-suc-le-zero p)
    back (k ∷ l) (i, (zero, p, q), r) = (zero, zero-lt-suc _, ap (λ (x : ℕ). get_or ends x far) q ∙ r)
    back (k ∷ l) (i, (suc j, p, q), r) =
        let (x, h, e) = back l (i, (j, le_of_suc-le-suc p, q), r) in
        (suc x, suc-le-suc h, e)

-- taking an entry out does not change the ends of the other links
beyond-out : (ends l : List ℕ) (i : ℕ) → (Occurs l i → ⊥) → beyond (set ends i far) l ≡ beyond ends l
unfolding beyond
beyond-out ends [] i out = refl
beyond-out ends (k ∷ l) i out =
    ap₂ (λ (a : ℕ) (b : List ℕ). a ∷ b) (get_or-set_other ends i k far far (λ e. out (zero, zero-lt-suc _, e)))
    (beyond-out ends l i (λ (j, h, e). out (suc j, suc-le-suc h, e)))

entry-out : (ends : List ℕ) (linkIndex i : ℕ) → get_or (set ends linkIndex far) i far ≡ cond (eqb i linkIndex) far (get_or ends i far)
entry-out ends linkIndex i = go (eqb i linkIndex) refl (ltb linkIndex (length ends)) refl
  where
    go : (b : Bool) → eqb i linkIndex ≡ b → (a : Bool) → ltb linkIndex (length ends) ≡ a → get_or (set ends linkIndex far) i far ≡ cond b far (get_or ends i far)
    go true e true l = rw (eqb-true i linkIndex e) (get_or-set_same ends linkIndex far far (ltb-true _ _ l))
    go true e false l =
        let none : length ends ≤ linkIndex = ltb-false _ _ l in
        rw (eqb-true i linkIndex e, set_out ends linkIndex far none) (get_or-eq_default ends far none)
    go false e a l = get_or-set_other ends linkIndex i far far (eqb-false i linkIndex e)

-- ---- the numbers of the links of a node

numbers-mem : (keys : List ℕ) (v i : ℕ) → Occurs (select keys (all_nodes (length keys)) v) i ↔ ((i < length keys) × (get_or keys i 0 ≡ v))
unfolding all_nodes HasLink
numbers-mem keys v i = (
  λ o.
      let (j, l) = (select-mem keys (all_nodes (length keys)) v i).0 o in
      let e : j ≡ i = sym (get_d_tabulate (length keys) (λ v. v) j 0 l.in_starts) ∙ l.end in
      (subst (λ (x : ℕ). x < length keys) e l.in_starts, subst (λ (x : ℕ). get_or keys x 0 ≡ v) e l.start),
  λ (h, e).
      (select-mem keys (all_nodes (length keys)) v i).1
      (i, record { in_starts = h; in_ends = rw (length-tabulate (length keys) (λ v. v)) h; start = e; end = get_d_tabulate (length keys) (λ v. v) i 0 h }),
)

-- ---- where the links lead

module _ (m : Machine) (keys others : List ℕ) (long : length keys ≡ length m.board.starts) (parallel : length others ≡ length keys) (table : List ℕ)
    (entries : (i : ℕ) → get_or table i far ≡ end_left m others i) where
  -- from v to a node w: along the links that are left
  leads : (v w : ℕ) → w < 512 → Occurs (beyond table (select keys (all_nodes (length keys)) v)) w ↔ ((i : ℕ) × LinkAt keys others v w i × T (inside m.left i))
  unfolding end_left
  leads v w h = (to, from)
    where
      to : Occurs (beyond table (select keys (all_nodes (length keys)) v)) w → (i : ℕ) × LinkAt keys others v w i × T (inside m.left i)
      to o =
          let (i, n, e) = (occurs-beyond table (select keys (all_nodes (length keys)) v) w).0 o in
          let (l, s) = (numbers-mem keys v i).0 n in
          go i l s (is_left m i) refl (sym (entries i) ∙ e)
        where
          go : (i : ℕ) → i < length keys → get_or keys i 0 ≡ v → (b : Bool) → is_left m i ≡ b → cond b (get_or others i 0) far ≡ w →
              (i : ℕ) × LinkAt keys others v w i × T (inside m.left i)
          go i l s true p q = (i, record { in_starts = l; in_ends = omega arith; start = s; end = q }, left-inside m i (true-T p))
          go i l s false p q = absurd (omega arith)

      from : (i : ℕ) × LinkAt keys others v w i × T (inside m.left i) → Occurs (beyond table (select keys (all_nodes (length keys)) v)) w
      from (i, l, t) =
          let in_left : is_left m i ≡ true = T_true (below_left m i (rw long at l.in_starts) t) in
          (occurs-beyond table (select keys (all_nodes (length keys)) v) w).1
          (i, (numbers-mem keys v i).1 (l.in_starts, l.start), entries i ∙ ap (λ (b : Bool). cond b (get_or others i 0) far) in_left ∙ l.end)

module _ (m : Machine) {offsets numbers ends : List ℕ} (linked : Linked m offsets numbers ends) (parallel : length m.board.starts ≡ length m.board.ends)
    (few : length m.board.labels ≤ 512) where
  -- the moves lead where the links left lead
  pub linked-leads :
      (d : Direction) (v w : ℕ) → v < length m.board.labels → w < length m.board.labels →
      Occurs (moves_in offsets numbers ends d v) w ↔ Occurs (neighbours (board_left m) d v) w
  unfolding moves_in neighbours board_left ChosenLink
  linked-leads forwards v w h l =
      let n : w < 512 = omega arith in
      rw (linked.by_start v h)
      (iff_trans (leads m m.board.starts m.board.ends refl (sym parallel) (forward_targets ends) linked.at_ends v w n)
      (iff_trans (iff_symm (chosen-iff m.board m.left v w)) (iff_symm (select-mem (chosen m.board m.left).starts (chosen m.board m.left).ends v w))))
  linked-leads backwards v w h l =
      let n : w < 512 = omega arith in
      let along = leads m m.board.ends m.board.starts (sym parallel) parallel (backward_targets ends) linked.at_starts v w n in
      rw (linked.by_end v h, parallel)
      (iff_trans along
      (iff_trans ((λ (i, x, t). (i, link-swap _ _ _ _ _ x, t)), (λ (i, x, t). (i, link-swap _ _ _ _ _ x, t)))
      (iff_trans (iff_symm (chosen-iff m.board m.left w v)) (iff_symm (select-mem-back (chosen m.board m.left).starts (chosen m.board m.left).ends v w)))))

-- ---- a link taken out

module _ (ends : List ℕ) (linkIndex : ℕ) (h : linkIndex < 4096) where
  pub forward-out : forward_targets (ends_without ends linkIndex) ≡ set (forward_targets ends) linkIndex far
  unfolding part
  forward-out = take-set-le 4096 (set ends linkIndex far) (4096 + linkIndex) far (omega arith) ∙ take-set-lt 4096 ends linkIndex far h

  pub backward-out : backward_targets (ends_without ends linkIndex) ≡ set (backward_targets ends) linkIndex far
  unfolding part
  backward-out =
      ap (take 4096) (drop-set-add 4096 (set ends linkIndex far) linkIndex far ∙ ap (λ (l : List ℕ). set l linkIndex far) (drop-set-lt 4096 ends linkIndex far h))
      ∙ take-set-lt 4096 (drop 4096 ends) linkIndex far h

module _ (m : Machine) {offsets numbers ends : List ℕ} (linked : Linked m offsets numbers ends) (linkIndex : ℕ) (h : linkIndex < 4096) where
  pub linked-out : Linked (take_out m linkIndex) offsets numbers (ends_without ends linkIndex)
  unfolding take_out
  linked-out =
      record {
        by_start = linked.by_start;
        by_end = linked.by_end;
        at_ends =
            λ i.
            ap (λ (l : List ℕ). get_or l i far) (forward-out ends linkIndex h)
            ∙ entry-out (forward_targets ends) linkIndex i
            ∙ ap (λ (x : ℕ). cond (eqb i linkIndex) far x) (linked.at_ends i)
            ∙ sym (end-out m linkIndex m.board.ends i);
        at_starts =
            λ i.
            ap (λ (l : List ℕ). get_or l i far) (backward-out ends linkIndex h)
            ∙ entry-out (backward_targets ends) linkIndex i
            ∙ ap (λ (x : ℕ). cond (eqb i linkIndex) far x) (linked.at_starts i)
            ∙ sym (end-out m linkIndex m.board.starts i);
      }

  -- the moves of a node that is at neither end stay
  pub moves-apart :
      length m.board.starts ≡ length m.board.ends → (v : ℕ) → v < length m.board.labels →
      (get_or m.board.starts linkIndex 0 ≡ v → ⊥) → (get_or m.board.ends linkIndex 0 ≡ v → ⊥) → (d : Direction) →
      moves_in offsets numbers (ends_without ends linkIndex) d v ≡ moves_in offsets numbers ends d v
  unfolding moves_in
  moves-apart parallel v l start end forwards =
      ap (λ (x : List ℕ). beyond x (driven offsets numbers v)) (forward-out ends linkIndex h)
      ∙ beyond-out (forward_targets ends) (driven offsets numbers v) linkIndex
      (λ o. start ((numbers-mem m.board.starts v linkIndex).0 (rw (linked.by_start v l) at o)).1)
  moves-apart parallel v l start end backwards =
      ap (λ (x : List ℕ). beyond x (driving offsets numbers v)) (backward-out ends linkIndex h)
      ∙ beyond-out (backward_targets ends) (driving offsets numbers v) linkIndex
      (λ o. end ((numbers-mem m.board.ends v linkIndex).0 (rw (linked.by_end v l, parallel) at o)).1)
