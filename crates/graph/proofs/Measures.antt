-- What the search finds over the neighbour tables of a circuit are the distances. Assumes nothing.
use Rattle.std.specs.Prelude.{◌≡◌, ◌<◌}
use Rattle.base_lists.specs.Kit.{inl, inr, List, ℕ, arith}
use Rattle.graph.specs.Bfs.{Adjacency, Measured, bfs, adjacent}
use Rattle.graph.specs.Circuit.{HasLink, graph_of}
use Rattle.graph.specs.Net.{NetOf}
use Rattle.graph.specs.Search.{far, distances}
use Rattle.graph.proofs.Ball.{Within}
use Rattle.graph.proofs.Bfs.{bfs-measured, bfs-ready}
use Rattle.graph.proofs.Distance.{distances-unique, DistanceUpTo}
use Rattle.graph.proofs.Net.{net-of, net-few, net-adjacency}

-- what a search finds along the links that an adjacency function lists are the distances
pub search-distances :
    {n : ℕ} {ss es : List ℕ} → Within n ss es → (adj : ℕ → List ℕ) → Adjacency n adj (HasLink ss es) → (c : ℕ) → c < n → n < far → (r : ℕ) →
    (bfs adj n c r).dist ≡ distances n ss es c r
unfolding graph_of
search-distances {n} {ss} {es} links adj a c h few r =
    distances-unique links c r (bfs adj n c r).dist
    (bfs-ready n c adj (HasLink ss es) few h a r).size
    (λ v l. up_to v _ (bfs-measured n c adj (HasLink ss es) few h a r v l))
  where
    up_to : (v x : ℕ) → Measured (HasLink ss es) c r v x → DistanceUpTo (graph_of n ss es) c r v x
    up_to v x (inl m) = inl m
    up_to v x (inr m) = inr (record { walk = m.0; shortest = m.1 }, m.2)

-- and the neighbour tables list them
pub net-distances :
    {n : ℕ} {ss es offsets links : List ℕ} → NetOf n ss es offsets links → Within n ss es → (c : ℕ) → c < n → (r : ℕ) →
    (bfs (adjacent offsets links) n c r).dist ≡ distances n ss es c r
net-distances {n} {offsets = offsets} {links = links} t nodes c h r =
    search-distances nodes (adjacent offsets links) (net-adjacency t) c h (let few = net-few (net-of t) in omega arith) r
