-- Laws of tables that are written at the nodes of a list. Assumes nothing.
use Rattle.std.specs.Prelude.{◌≡◌, ◌||◌, ◌∷◌, ◌<◌}
use Rattle.base_lists.specs.Kit.{◌∙◌, sym, ap, refl, subst, Bool, false, true, cond, List, [], ℕ, T, eqb, eqb→eq, length, get_or, set, length-set, replicate, length-replicate, get_or-replicate, get_or-set_other, get_or-set_same, eq-eqb, eqb-true, eqb-false}
use Rattle.base_lists.specs.List.{any, Occurs}
use Rattle.base_lists.proofs.Tables.{is-tabulate, length-tabulate, get_d_tabulate}
use Rattle.base_lists.proofs.Tests.{true-T, any_at, at-any}
use Rattle.table.specs.Fill.{listed, Cleared, fill_at, table_at}

-- ---- lists of nodes

pub listed-occurs : (xs : List ℕ) (v : ℕ) → T (listed xs v) → Occurs xs v
unfolding listed
listed-occurs xs v t = let o = any_at (λ x. eqb x v) xs t in (o.0, o.1, eqb→eq _ _ o.2)

pub occurs-listed : (xs : List ℕ) (v : ℕ) → Occurs xs v → T (listed xs v)
unfolding listed
occurs-listed xs v o = at-any (λ x. eqb x v) xs o.0 o.1 (true-T (eq-eqb _ _ o.2))

-- ---- what is written

pub length-fill : (f : ℕ → ℕ) (nodes xs : List ℕ) → length (fill_at f nodes xs) ≡ length xs
unfolding fill_at
length-fill f [] xs = refl
length-fill f (w ∷ ws) xs = length-fill f ws (set xs w (f w)) ∙ length-set xs w (f w)

get_d_set : (f : ℕ → ℕ) (xs : List ℕ) (w v : ℕ) → v < length xs → get_or (set xs w (f w)) v 0 ≡ cond (eqb w v) (f v) (get_or xs v 0)
get_d_set f xs w v h = go (eqb w v) refl
  where
    go : (b : Bool) → eqb w v ≡ b → get_or (set xs w (f w)) v 0 ≡ cond b (f v) (get_or xs v 0)
    go true e = rw (eqb-true w v e) (get_or-set_same xs v (f v) 0 h)
    go false e = get_or-set_other xs w v (f w) 0 (λ d. eqb-false w v e (sym d))

-- at a node of the list the rule's set, elsewhere what was there
pub get_or-fill : (f : ℕ → ℕ) (nodes xs : List ℕ) (v : ℕ) → v < length xs → get_or (fill_at f nodes xs) v 0 ≡ cond (listed nodes v) (f v) (get_or xs v 0)
unfolding fill_at listed any
get_or-fill f [] xs v h = refl
get_or-fill f (w ∷ ws) xs v h =
    get_or-fill f ws (set xs w (f w)) v (rw length-set h)
    ∙ ap (λ (x : ℕ). cond (listed ws v) (f v) x) (get_d_set f xs w v h)
    ∙ go (listed ws v) (eqb w v)
  where
    go : (a b : Bool) → cond a (f v) (cond b (f v) (get_or xs v 0)) ≡ cond (b || a) (f v) (get_or xs v 0)
    go true true = refl
    go true false = refl
    go false true = refl
    go false false = refl

-- ---- tables that are empty outside the list

pub length-table : (n : ℕ) (f : ℕ → ℕ) (nodes : List ℕ) → length (table_at n f nodes) ≡ n
unfolding table_at
length-table n f nodes = length-tabulate n (λ v. cond (listed nodes v) (f v) 0)

pub get_or-table : (n : ℕ) (f : ℕ → ℕ) (nodes : List ℕ) (v : ℕ) → v < n → get_or (table_at n f nodes) v 0 ≡ cond (listed nodes v) (f v) 0
unfolding table_at
get_or-table n f nodes v h = get_d_tabulate n (λ v. cond (listed nodes v) (f v) 0) v 0 h

pub cleared-none : (n : ℕ) (nodes xs : List ℕ) → xs ≡ replicate n 0 → Cleared nodes xs
unfolding Cleared
cleared-none n nodes xs q v h e =
    ap (λ (l : List ℕ). get_or l v 0) q ∙ get_or-replicate n v 0 0 (subst (λ (m : ℕ). v < m) (ap length q ∙ length-replicate n 0) h)

-- writing into such a table makes the table of the rule
pub fill-table : (f : ℕ → ℕ) (nodes xs : List ℕ) → Cleared nodes xs → fill_at f nodes xs ≡ table_at (length xs) f nodes
unfolding table_at Cleared
fill-table f nodes xs k =
    is-tabulate (length xs) (λ v. cond (listed nodes v) (f v) 0) (fill_at f nodes xs) (length-fill f nodes xs)
    (λ v h. get_or-fill f nodes xs v h ∙ go v h (listed nodes v) refl)
  where
    go : (v : ℕ) → v < length xs → (b : Bool) → listed nodes v ≡ b → cond b (f v) (get_or xs v 0) ≡ cond b (f v) 0
    go v h true e = refl
    go v h false e = k v h e
