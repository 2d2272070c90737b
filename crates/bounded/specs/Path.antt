-- Directed paths: every link is followed from its start to its end. (graph/specs/Graph `Walk` is the other one, which ignores directions.)
use Rattle.std.specs.Prelude.{◌≤◌}
use Rattle.base_lists.specs.Kit.{ℕ, suc, zero}
use Rattle.simulation.specs.Closed.{Relation}

-- "a directed path of .. board links, end to end": of n links, from v to w. "which may pass a node more than once and may end where it
-- began": nothing is asked of the nodes.
pub data Path (Link : Relation) : ℕ → ℕ → ℕ → Type 0 where
  end : {v : ℕ} → Path Link v v zero
  link : {v w x n : ℕ} → Link v w → Path Link w x n → Path Link v x (suc n)

-- "a directed path of 1 to h board links"
pub record PathWithin (Link : Relation) (h v w : ℕ) : Type 0 where
  pub links : ℕ
  pub some : 1 ≤ links
  pub most : links ≤ h
  pub path : Path Link v w links
