-- A breadth-first search that goes on from where it stands, and one that stops where it has reached enough, over any adjacency function: what the contracts of
-- the searches cite. Both say what they find by `bfs`.
use Rattle.std.specs.Prelude.{◌≡◌, ◌++◌, ◌≤◌, ◌<◌, ◌-◌}
use Rattle.base_lists.specs.Kit.{List, ℕ, length, take, drop}
use Rattle.graph.specs.Bfs.{SearchState, level, levels, bfs}
use Rattle.graph_search.specs.declared.Frontier.{Frontier}

-- what is left of a search up to distance m: to look at the neighbours of the rest of a level, and the levels after it
unfoldable pub onward : (ℕ → List ℕ) → ℕ → Frontier → SearchState → SearchState
onward adj m f s = levels adj (m - f.depth) f.depth f.level (level adj f.depth s (drop f.looked (take f.level s.reached)))

-- a search up to distance r stands there: each level so far has reached a node
pub record Standing (r : ℕ) (f : Frontier) : Type 0 where
  pub inside : f.looked ≤ f.level
  pub reached : f.level ≤ f.tail
  pub early : f.depth ≤ f.level
  pub within : f.depth ≤ r

-- From f and the state s a search has come to g and the state t, with the same nodes first: the same is left, however far it goes; and where it has reached less than so many nodes, nothing
-- is left up to distance r.
pub record Advanced (adj : ℕ → List ℕ) (r size : ℕ) (f : Frontier) (s : SearchState) (g : Frontier) (t : SearchState) : Type 0 where
  pub standing : Standing r g
  pub further : f.depth ≤ g.depth
  pub longer : take (length s.reached) t.reached ≡ s.reached
  pub same : (m : ℕ) → g.depth ≤ m → onward adj m g t ≡ onward adj m f s
  pub all : g.tail < size → t ≡ onward adj r f s

-- A search from c among n nodes up to distance r that may stop where there is enough: it has reached the first of the nodes up to some distance, which is at most
-- r; and all that there is to reach, where there was not enough.
pub record Until (adj : ℕ → List ℕ) (n c r : ℕ) (Enough : Type 0) (s : SearchState) : Type 0 where
  pub depth : ℕ
  pub rest : List ℕ
  pub within : depth ≤ r
  pub first : s.reached ++ rest ≡ (bfs adj n c depth).reached
  pub all : (Enough → ⊥) → s ≡ bfs adj n c r
