-- A round in two halves: the nodes that change are listed, each with its next set, and then these sets are written.
use Rattle.std.specs.Prelude.{◌≡◌, ◌∷◌, ◌≤◌, ◌+◌}
use Rattle.base_lists.specs.Kit.{cond, List, [], map, ℕ, eqb, length, get_or, take, set}
use Rattle.table.specs.Row.{pairs}

-- those nodes of a list to which a rule gives another set than they have
unfoldable pub changing : (ℕ → ℕ) → List ℕ → List ℕ → List ℕ
changing f old [] = []
changing f old (v ∷ vs) = cond (eqb (f v) (get_or old v 0)) (changing f old vs) (v ∷ changing f old vs)

-- the first k entries of two lists are those nodes, and the rule's sets for them
pub record Pending (f : ℕ → ℕ) (old todo changed next : List ℕ) (k : ℕ) : Type 0 where
  pub within : k ≤ length todo
  pub nodes : take k changed ≡ changing f old todo
  pub sets : take k next ≡ map f (changing f old todo)

-- one node more: it is listed with its next set where that is not the set that it has
pub record ChangeNoted (v x y k : ℕ) (changed next changed' next' : List ℕ) (k' : ℕ) : Type 0 where
  pub count : k' ≡ k + cond (eqb x y) 0 1
  pub nodes : changed' ≡ cond (eqb x y) changed (set changed k v)
  pub sets : next' ≡ cond (eqb x y) next (set next k x)

-- the table with sets written at nodes, one after another
unfoldable pub put_at : List ℕ → List ℕ → List ℕ → List ℕ
put_at [] xs table = table
put_at (v ∷ vs) [] table = table
put_at (v ∷ vs) (x ∷ xs) table = put_at vs xs (set table v x)

-- that table, and how many pairs it has
pub record SetsPut (nodes sets before after : List ℕ) (count : ℕ) : Type 0 where
  pub table : after ≡ put_at nodes sets before
  pub size : count ≡ pairs after
