-- What the tests over labels mean, and what supports a pair. Assumes nothing.
use Rattle.std.specs.Prelude.{◌≡◌, ◌↔◌, ◌&&◌, ◌∷◌}
use Rattle.base_lists.specs.Kit.{sym, refl, subst, ap₂, inl, inr, Bool, List, [], ℕ, T}
use Rattle.base_lists.specs.List.{any}
use Rattle.base_lists.proofs.Tests.{both_true, both_left, both_right}
use Rattle.base_lists.proofs.Entries.{all-occurs, any-occurs}
use Rattle.simulation.specs.Closed.{Relation}
use Rattle.table_row.specs.Problem.{Problem, Way, StepOf, MoveOf}
use Rattle.table_row.specs.Row.{in_table, answered, every, supported}
use Rattle.table_row.specs.Reading.{InTable}

-- ---- labels of a list

pub every-at : {D : Type 0} (test : D → Bool) (ds : List D) → T (every test ds) → (d : D) → Way ds d → T (test d)
unfolding every Way
every-at test [] t d w = absurd w
every-at test (e ∷ es) t d (inl q) = subst (λ x. T (test x)) (sym q) (both_left (test e) (every test es) t)
every-at test (e ∷ es) t d (inr w) = every-at test es (both_right (test e) (every test es) t) d w

pub at_every : {D : Type 0} (test : D → Bool) (ds : List D) → ((d : D) → Way ds d → T (test d)) → T (every test ds)
unfolding every Way
at_every test [] f = tt
at_every test (e ∷ es) f = both_true (test e) (every test es) (f e (inl refl)) (at_every test es (λ d w. f d (inr w)))

-- two tests that say the same of each label
pub every-same : {D : Type 0} (f g : D → Bool) (ds : List D) → ((d : D) → f d ≡ g d) → every f ds ≡ every g ds
unfolding every
every-same f g [] e = refl
every-same f g (d ∷ ds) e = ap₂ (λ (a b : Bool). a && b) (e d) (every-same f g ds e)

-- ---- a pair's steps and their answers

-- each step from u is answered by a move from v to a partner in the table
abbrev pub Supported : {D : Type 0} → Problem D → List ℕ → Relation
Supported {D} p t u v = (d : D) (u' : ℕ) → StepOf p d u u' → (v' : ℕ) × MoveOf p d v v' × InTable t u' v'

pub supported-iff : {D : Type 0} (p : Problem D) (t : List ℕ) (u v : ℕ) → T (supported p t u v) ↔ Supported p t u v
unfolding supported answered
supported-iff {D} p t u v = (
  λ s d u' l.
      let (v', m, r) = (any-occurs (λ x. in_table t u' x) (p.moves d v)).0 ((all-occurs (partner d) (p.steps d u)).0 (every-at test p.ways s d l.way) u' l.step) in
      (v', record { move = m }, r),
  λ f.
      at_every test p.ways
      (λ d w.
      (all-occurs (partner d) (p.steps d u)).1
      (λ u' l.
      let (v', m, r) = f d u' (record { way = w; step = l }) in
      (any-occurs (λ x. in_table t u' x) (p.moves d v)).1 (v', m.move, r))),
)
  where
    partner : D → ℕ → Bool
    partner d u' = any (λ v'. in_table t u' v') (p.moves d v)

    test : D → Bool
    test d = answered (p.steps d) (p.moves d) t u v
