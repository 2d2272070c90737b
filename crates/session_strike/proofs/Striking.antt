-- Striking node by node leads to the row's last table: the next set of a node by masks and moves is that of the row, a table to begin with stays one,
-- and a node none of whose neighbours changed keeps its set. Assumes nothing.
use Rattle.std.specs.Prelude.{◌≡◌, ◌↔◌, ◌⊎◌, ◌&&◌, ◌≤◌, ◌<◌, ◌*◌}
use Rattle.base_lists.specs.Kit.{◌∙◌, sym, ap, refl, subst, ap₂, ⊎_elim, inl, inr, Bool, false, true, and-true, List, ℕ, T, eqb, ltb, length, get_or, set, length-set, get_or-set_other, get_or-set_same, set_out, eqb-true, ltb-false, eqb-false, ltb-true}
use Rattle.base_lists.specs.List.{Occurs}
use Rattle.base_lists.proofs.Tables.{is-tabulate, get_d_tabulate}
use Rattle.base_lists.proofs.Tests.{any_at, at-any, same_test, T_false, false-T}
use Rattle.base_bits.specs.Bits.{bit, subset_of, union_at}
use Rattle.base_bits.proofs.Digits.{same_bits}
use Rattle.base_bits.proofs.Numbers.{number_same}
use Rattle.base_bits.proofs.Unions.{union_at-set}
use Rattle.graph.specs.Circuit.{Circuit}
use Rattle.graph.proofs.Groups.{select-mem, select-mem-back}
use Rattle.simulation.specs.Simulation.{Direction, forwards, backwards}
use Rattle.table_row.specs.Masks.{mask_of, covered, next_set, StepsWithin}
use Rattle.table_row.specs.Problem.{Problem}
use Rattle.table_row.specs.Row.{in_table, every, strike_of, last_of}
use Rattle.table_row.proofs.Begin.{begins-fits, begins-next, begins-rest}
use Rattle.table_row.proofs.Counting.{last-rests}
use Rattle.table_row.proofs.Masks.{bit-union, masks-strike}
use Rattle.table_row.proofs.Meaning.{last_fits}
use Rattle.table_row.proofs.Sets.{in-node}
use Rattle.table.specs.First.{Begins}
use Rattle.table.specs.Host.{everything}
use Rattle.table.specs.Prepared.{counting, masks_of, succ_of, pred_of}
use Rattle.table.specs.Row.{among, neighbours, problem_by, problem_of, last_table}
use Rattle.table_strike.specs.Strike.{survivors}
use Rattle.table.proofs.Masks.{neighbours-below}
use Rattle.table_strike.proofs.Survivors.{survivors-again}
use Rattle.session_strike.specs.Going.{MovesFollow, UnmarkedKept}
use Rattle.session_strike.specs.Moves.{node_marked, next_set_at, mark_beside, look_sets, look_marks}
use Rattle.session_strike.proofs.Looking.{length-look, next-out, look-same, look-other}
use Rattle.session_strike.proofs.Marking.{beside-keeps, beside-marks}

-- ---- unions over neighbours

-- two lists with the same nodes of the table have the same union
union-within : (old xs ys : List ℕ) → ((w : ℕ) → w < length old → Occurs xs w → Occurs ys w) → (u : ℕ) → T (bit (union_at old xs) u) → T (bit (union_at old ys) u)
union-within old xs ys same u t =
    let (i, h, m) = any_at (λ w. in_table old u w) xs (rw (bit-union old xs u) at t) in
    let (j, l, e) = same (get_or xs i 0) (in-node old u (get_or xs i 0) m) (i, h, refl) in
    rw (bit-union old ys u) (at-any (λ w. in_table old u w) ys j l (rw e m))

union-same :
    (old xs ys : List ℕ) → ((w : ℕ) → w < length old → Occurs xs w ↔ Occurs ys w) → union_at old xs ≡ union_at old ys
union-same old xs ys same =
    same_bits (union_at old xs) (union_at old ys)
    (λ u. same_test (union-within old xs ys (λ w h. (same w h).0) u) (union-within old ys xs (λ w h. (same w h).1) u))

-- ---- the next set of a node is the row's

module _ (pattern host : Circuit) {masks : List ℕ} {moves : Direction → ℕ → List ℕ} (f : MovesFollow pattern host masks moves) where
  abbrev P : Problem Direction
  P = problem_of pattern host (everything host)

  steps-within : StepsWithin P
  unfolding problem_by
  steps-within = record { below = λ d u h. neighbours-below (length pattern.labels) pattern f.starts f.ends d u }

  -- the test of two masks is that of every way
  survivors-next :
      (old : List ℕ) (v : ℕ) →
      survivors (mask_of P forwards) (mask_of P backwards) (union_at old (neighbours host forwards v)) (union_at old (neighbours host backwards v)) (get_or old v 0)
      ≡ next_set P old v
  unfolding survivors next_set covered every problem_by
  survivors-next old v =
      let there : ℕ → Bool = λ u. subset_of (get_or (mask_of P forwards) u 0) (union_at old (neighbours host forwards v)) in
      let back : ℕ → Bool = λ u. subset_of (get_or (mask_of P backwards) u 0) (union_at old (neighbours host backwards v)) in
      number_same 32 (λ u. bit (get_or old v 0) u && (there u && back u)) (λ u. bit (get_or old v 0) u && (there u && (back u && true)))
      (λ u h. ap (λ (b : Bool). bit (get_or old v 0) u && (there u && b)) (sym (and-true (back u))))

  module _ (old : List ℕ) (long : length old ≡ length host.labels) (v : ℕ) (h : v < length host.labels) where
    union-moves : (d : Direction) → union_at old (moves d v) ≡ union_at old (neighbours host d v)
    union-moves d = union-same old (moves d v) (neighbours host d v) (λ w l. f.leads d v w h (rw long at l))

    pub next_row : next_set_at masks moves old v ≡ next_set P old v
    unfolding next_set_at problem_by neighbours mask_of masks_of counting among
    next_row = rw (f.masked.succ, f.masked.pred, union-moves forwards, union-moves backwards) (survivors-next old v)

  -- ---- a table to begin with stays one

  most : P.parts ≤ 32
  unfolding problem_by
  most = f.parts

  module _ {old : List ℕ} (b : Begins pattern host (everything host) old) where
    long : length old ≡ length host.labels
    unfolding problem_by
    long = b.long

    abbrev struck : List ℕ
    struck = strike_of P old

    struck-at : (v : ℕ) → v < length host.labels → get_or struck v 0 ≡ next_set_at masks moves old v
    unfolding problem_by
    struck-at v h =
        ap (λ (t : List ℕ). get_or t v 0) (sym (masks-strike P most steps-within (begins-fits P b)))
        ∙ get_d_tabulate (length host.labels) (next_set P old) v 0 h
        ∙ sym (next_row old long v h)

    -- each set of the table after a look is the one before, or that after a round
    look-either : (v w : ℕ) → (get_or (look_sets masks moves old v) w 0 ≡ get_or struck w 0) ⊎ (get_or (look_sets masks moves old v) w 0 ≡ get_or old w 0)
    unfolding look_sets
    look-either v w = go (eqb w v) refl (ltb v (length old)) refl
      where
        go : (a : Bool) → eqb w v ≡ a → (c : Bool) → ltb v (length old) ≡ c →
            (get_or (set old v (next_set_at masks moves old v)) w 0 ≡ get_or struck w 0) ⊎ (get_or (set old v (next_set_at masks moves old v)) w 0 ≡ get_or old w 0)
        go true e true l =
            let h : v < length old = ltb-true _ _ l in
            inl (rw (eqb-true w v e, get_or-set_same old v (next_set_at masks moves old v) 0 h) (sym (struck-at v (rw long at h))))
        go true e false l = inr (rw (set_out old v (next_set_at masks moves old v) (ltb-false _ _ l)))
        go false e c l = inr (get_or-set_other old v w _ 0 (eqb-false w v e))

    pub look-begins : (v : ℕ) → Begins pattern host (everything host) (look_sets masks moves old v)
    unfolding in_table
    look-begins v =
        let next = begins-next P most b in
        let size : length (look_sets masks moves old v) ≡ length old = length-look masks moves old v in
        record {
          long = size ∙ b.long;
          within =
              λ u w m.
              ⊎_elim (λ e. next.within u w (subst (λ (x : ℕ). T (bit x u)) e m)) (λ e. b.within u w (subst (λ (x : ℕ). T (bit x u)) e m)) (look-either v w);
          contains =
              λ u w m.
              ⊎_elim (λ e. subst (λ (x : ℕ). T (bit x u)) (sym e) (next.contains u w m)) (λ e. subst (λ (x : ℕ). T (bit x u)) (sym e) (b.contains u w m)) (look-either v w);
        }

    -- where no node changes, it is the last
    pub rest-last : ((v : ℕ) → v < length old → next_set_at masks moves old v ≡ get_or old v 0) → old ≡ last_table pattern host (everything host)
    unfolding problem_by
    rest-last rests =
        begins-rest P most b
        (sym (masks-strike P most steps-within (begins-fits P b))
        ∙ sym (is-tabulate (length host.labels) (next_set P old) old long (λ v h. sym (rests v (rw (← long) at h)) ∙ next_row old long v h)))

  -- in the last table no node changes
  pub last_rest : (v : ℕ) → v < length host.labels → next_set_at masks moves (last_table pattern host (everything host)) v ≡ get_or (last_table pattern host (everything host)) v 0
  unfolding problem_by
  last_rest v h =
      let fits = last_fits P in
      next_row (last_of P) fits.size v h
      ∙ sym (get_d_tabulate (length host.labels) (next_set P (last_of P)) v 0 h)
      ∙ ap (λ (t : List ℕ). get_or t v 0) (masks-strike P most steps-within fits ∙ last-rests P most)

  -- ---- what follows a link is followed back

  back : (d : Direction) (v w : ℕ) → v < length host.labels → w < length host.labels → Occurs (moves d w) v → (e : Direction) × Occurs (moves e v) w
  unfolding neighbours
  back forwards v w h l o =
      (backwards, (f.leads backwards v w h l).1 ((select-mem-back host.starts host.ends v w).1 ((select-mem host.starts host.ends w v).0 ((f.leads forwards w v l h).0 o))))
  back backwards v w h l o =
      (forwards, (f.leads forwards v w h l).1 ((select-mem host.starts host.ends v w).1 ((select-mem-back host.starts host.ends w v).0 ((f.leads backwards w v l h).0 o))))

  -- ---- and each node that changes is marked

  module _ (old marks : List ℕ) (long : length old ≡ length host.labels) (v : ℕ)
      (covered : (w : ℕ) → w < length old → (w ≡ v → ⊥) → node_marked marks w ≡ false → next_set_at masks moves old w ≡ get_or old w 0) (room : length old ≤ 32 * length marks) where
    -- a node that is not beside v sees the same unions
    next-apart : (w y : ℕ) → ((d : Direction) → Occurs (moves d w) v → ⊥) →
        next_set_at masks moves (set old v y) w
        ≡ survivors (succ_of masks) (pred_of masks) (union_at old (moves forwards w)) (union_at old (moves backwards w)) (get_or (set old v y) w 0)
    unfolding next_set_at
    next-apart w y out =
        ap₂ (λ (a b : ℕ). survivors (succ_of masks) (pred_of masks) a b (get_or (set old v y) w 0)) (union_at-set old v y (moves forwards w) (out forwards))
        (union_at-set old v y (moves backwards w) (out backwards))

    -- the set stays
    same-covered : next_set_at masks moves old v ≡ get_or old v 0 → UnmarkedKept masks moves old marks
    unfolding UnmarkedKept
    same-covered e w h q = go (eqb w v) refl
      where
        go : (b : Bool) → eqb w v ≡ b → next_set_at masks moves old w ≡ get_or old w 0
        go true p = rw (eqb-true w v p) e
        go false p = covered w h (eqb-false w v p) q

    -- what survived survives again
    next-again :
        survivors (succ_of masks) (pred_of masks) (union_at old (moves forwards v)) (union_at old (moves backwards v)) (next_set_at masks moves old v)
        ≡ next_set_at masks moves old v
    unfolding next_set_at
    next-again = survivors-again (succ_of masks) (pred_of masks) _ _ (get_or old v 0)

    -- the table after the look
    abbrev new : List ℕ
    new = set old v (next_set_at masks moves old v)

    again : v < length old → ((d : Direction) → Occurs (moves d v) v → ⊥) → next_set_at masks moves new v ≡ get_or new v 0
    again h out =
        let at = get_or-set_same old v (next_set_at masks moves old v) 0 h in
        next-apart v (next_set_at masks moves old v) out
        ∙ ap (survivors (succ_of masks) (pred_of masks) (union_at old (moves forwards v)) (union_at old (moves backwards v))) at
        ∙ next-again
        ∙ sym at

    elsewhere : (w : ℕ) → (w ≡ v → ⊥) → ((d : Direction) → Occurs (moves d w) v → ⊥) → next_set_at masks moves old w ≡ get_or old w 0 → next_set_at masks moves new w ≡ get_or new w 0
    unfolding next_set_at
    elsewhere w other out e =
        let at = get_or-set_other old v w (next_set_at masks moves old v) 0 other in
        next-apart w (next_set_at masks moves old v) out
        ∙ ap (survivors (succ_of masks) (pred_of masks) (union_at old (moves forwards w)) (union_at old (moves backwards w))) at
        ∙ e
        ∙ sym at

    -- or it is another: then the nodes beside it are marked
    other-covered : v < length old → UnmarkedKept masks moves new (mark_beside (length old) moves marks v)
    unfolding UnmarkedKept
    other-covered inside w l q = go (eqb w v) refl
      where
        h : w < length old
        h = rw (length-set old v (next_set_at masks moves old v)) at l

        apart : (d : Direction) → Occurs (moves d w) v → ⊥
        apart d o =
            let (e, m) = back d v w (rw long at inside) (rw long at h) o in
            false-T q (beside-marks (length old) moves marks v e w room h m)

        unmarked : node_marked marks w ≡ false
        unmarked = T_false (λ t. false-T q (beside-keeps (length old) moves marks v w t))

        go : (b : Bool) → eqb w v ≡ b → next_set_at masks moves new w ≡ get_or new w 0
        go true p =
            let e : w ≡ v = eqb-true w v p in
            subst (λ (x : ℕ). next_set_at masks moves new x ≡ get_or new x 0) (sym e) (again inside (λ d o. apart d (subst (λ (x : ℕ). Occurs (moves d x) v) (sym e) o)))
        go false p = elsewhere w (eqb-false w v p) apart (covered w h (eqb-false w v p) unmarked)

    pub look-covered : UnmarkedKept masks moves (look_sets masks moves old v) (look_marks masks moves old marks v)
    look-covered = go (eqb (next_set_at masks moves old v) (get_or old v 0)) refl (ltb v (length old)) refl
      where
        go :
            (b : Bool) → eqb (next_set_at masks moves old v) (get_or old v 0) ≡ b → (a : Bool) → ltb v (length old) ≡ a →
            UnmarkedKept masks moves (look_sets masks moves old v) (look_marks masks moves old marks v)
        go true e a l =
            let s = look-same masks moves old v marks (eqb-true _ _ e) in
            subst (λ (x : List ℕ). UnmarkedKept masks moves x (look_marks masks moves old marks v)) s.0
            (subst (λ (x : List ℕ). UnmarkedKept masks moves old x) s.1 (same-covered (eqb-true _ _ e)))
        go false e true l =
            let s = look-other masks moves old v marks (eqb-false _ _ e) in
            subst (λ (x : List ℕ). UnmarkedKept masks moves x (look_marks masks moves old marks v)) s.0
            (subst (λ (x : List ℕ). UnmarkedKept masks moves new x) s.1 (other-covered (ltb-true _ _ l)))
        go false e false l = absurd (eqb-false _ _ e (next-out masks moves old v (ltb-false _ _ l)))
