-- Laws of the links that are left: all of a fresh machine's, and what a cut takes out. Assumes nothing.
use Rattle.std.specs.Prelude.{◌≡◌, ◌&&◌, ◌≤◌, ◌<◌}
use Rattle.base_lists.specs.Kit.{◌∙◌, sym, ap, refl, Bool, false, true, cond, not, List, ℕ, T, eqb, ltb, length, get_or, set, get_or-eq_default, get_or-set_other, get_or-set_same, set_out, lt-ltb, eqb-true, ltb-false, eqb-false, ltb-true, and-false, and-true}
use Rattle.base_lists.proofs.Tables.{get_d_tabulate}
use Rattle.base_lists.proofs.Tests.{both_true, both_left, both_right, T_true, true-T}
use Rattle.graph.specs.Circuit.{Circuit}
use Rattle.graph.specs.Search.{inside, far}
use Rattle.session.specs.Machine.{Machine, fresh, is_left, take_out}
use Rattle.session.specs.State.{end_left}

-- an entry that is set to 0 is not 1
inside-out : (left : List ℕ) (linkIndex i : ℕ) → inside (set left linkIndex 0) i ≡ inside left i && not (eqb i linkIndex)
unfolding inside
inside-out left linkIndex i = go (eqb i linkIndex) refl (ltb linkIndex (length left)) refl
  where
    go : (b : Bool) → eqb i linkIndex ≡ b → (a : Bool) → ltb linkIndex (length left) ≡ a → eqb (get_or (set left linkIndex 0) i 0) 1 ≡ eqb (get_or left i 0) 1 && not b
    go true e true l = rw (eqb-true i linkIndex e, get_or-set_same left linkIndex 0 0 (ltb-true _ _ l)) (sym (and-false (eqb (get_or left linkIndex 0) 1)))
    go true e false l =
        let out : length left ≤ linkIndex = ltb-false _ _ l in
        rw (eqb-true i linkIndex e, set_out left linkIndex 0 out, get_or-eq_default left 0 out)
    go false e a l = rw (get_or-set_other left linkIndex i 0 0 (eqb-false i linkIndex e)) (sym (and-true (eqb (get_or left i 0) 1)))

module _ (m : Machine) (linkIndex : ℕ) where
  pub left_out : (i : ℕ) → is_left (take_out m linkIndex) i ≡ is_left m i && not (eqb i linkIndex)
  unfolding is_left take_out
  left_out i = ap (λ (b : Bool). ltb i (length m.board.starts) && b) (inside-out m.left linkIndex i) ∙ go (ltb i (length m.board.starts))
    where
      go : (a : Bool) → a && (inside m.left i && not (eqb i linkIndex)) ≡ (a && inside m.left i) && not (eqb i linkIndex)
      go true = refl
      go false = refl

  -- the entries of the link that is taken out become no node's
  pub end-out : (ends : List ℕ) (i : ℕ) → end_left (take_out m linkIndex) ends i ≡ cond (eqb i linkIndex) far (end_left m ends i)
  unfolding end_left
  end-out ends i = ap (λ (b : Bool). cond b (get_or ends i 0) far) (left_out i) ∙ go (is_left m i) (eqb i linkIndex)
    where
      go : (a b : Bool) → cond (a && not b) (get_or ends i 0) far ≡ cond b far (cond a (get_or ends i 0) far)
      go true true = refl
      go true false = refl
      go false true = refl
      go false false = refl

  -- fewer are left
  pub left-fewer : (i : ℕ) → T (inside (take_out m linkIndex).left i) → T (inside m.left i)
  unfolding take_out
  left-fewer i t = both_left (inside m.left i) _ (rw (inside-out m.left linkIndex i) at t)

-- a link that is left is one of the file
pub left_below : (m : Machine) (i : ℕ) → T (is_left m i) → i < length m.board.starts
unfolding is_left
left_below m i t = ltb-true i _ (T_true (both_left (ltb i (length m.board.starts)) (inside m.left i) t))

pub left-inside : (m : Machine) (i : ℕ) → T (is_left m i) → T (inside m.left i)
unfolding is_left
left-inside m i t = both_right (ltb i (length m.board.starts)) (inside m.left i) t

pub below_left : (m : Machine) (i : ℕ) → i < length m.board.starts → T (inside m.left i) → T (is_left m i)
unfolding is_left
below_left m i h t = both_true (ltb i (length m.board.starts)) (inside m.left i) (true-T (lt-ltb i _ h)) t

-- ---- a fresh machine

module _ (pattern board : Circuit) where
  pub fresh-inside : (i : ℕ) → i < length board.starts → T (inside (fresh pattern board).left i)
  unfolding fresh inside
  fresh-inside i h = rw get_d_tabulate tt

  pub fresh-left : (i : ℕ) → is_left (fresh pattern board) i ≡ ltb i (length board.starts)
  unfolding is_left fresh
  fresh-left i = go (ltb i (length (fresh pattern board).board.starts)) refl
    where
      go : (b : Bool) → ltb i (length (fresh pattern board).board.starts) ≡ b → b && inside (fresh pattern board).left i ≡ b
      go true e = T_true (fresh-inside i (ltb-true i _ e))
      go false e = refl
