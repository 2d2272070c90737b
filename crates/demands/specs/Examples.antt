-- Document 01's examples E1 to E9, and those of the requests that came after, as statements about the definitions, in a
-- single list. proofs/Examples proves the list.
use Rattle.std.specs.Prelude.{◌≡◌, ◌∷◌, ◌<◌}
use Rattle.base_lists.specs.Kit.{List, [], ℕ, T}
use Rattle.graph.specs.Circuit.{Circuit}
use Rattle.file_format.specs.declared.File.TheVariants.{Neither}
use Rattle.file_format.specs.Refusals.{refuse}
use Rattle.table.specs.Examples.{circuit_t, circuit_b, two_way, ring, any_to20}
use Rattle.table.specs.Host.{everything}
use Rattle.table.specs.Refine.{counts_of}
use Rattle.table.specs.Row.{last_table}
use Rattle.place.specs.Examples.{circuit_y, circuit_one_link, any_part}
use Rattle.place.specs.Match.{radius_of, distances_of, found, place_nodes, place_links}
use Rattle.place.specs.Outcome.{place_verdict, place_around}
use Rattle.merge.specs.Examples.{circuit_e8, ten_and_any}
use Rattle.merge.specs.Merged.{self_table, classes, merged}

-- there is a place around w, at the pattern's radius, with these bytes for its nodes and its links
unfoldable pub PlaceIs : Circuit → Circuit → ℕ → List ℕ → List ℕ → Type 0
PlaceIs pattern board w nodes links =
    T (found pattern board w (radius_of pattern)) × (place_nodes pattern board w (radius_of pattern) ≡ nodes) × (place_links pattern board w (radius_of pattern) ≡ links)

-- there is none: number 9
unfoldable pub NoPlace : Circuit → Circuit → ℕ → Type 0
NoPlace pattern board w = place_verdict pattern board w (radius_of pattern) ≡ refuse (record { number = 9; file = Neither })

-- one part of a kind, without a link or with a link to itself
unfoldable pub one_part : ℕ → Circuit
one_part kind = record { labels = kind ∷ []; starts = []; ends = [] }

unfoldable pub one_part_looped : ℕ → Circuit
one_part_looped kind = record { labels = kind ∷ []; starts = 0 ∷ []; ends = 0 ∷ [] }

-- "T has radius 2; one part has 0."
unfoldable pub E1 : Type 0
E1 = (radius_of circuit_t ≡ 2) × ((kind : ℕ) → radius_of (one_part kind) ≡ 0) × ((kind : ℕ) → radius_of (one_part_looped kind) ≡ 0)

-- "T on all of B: table 1, 2, 4, 0, 0, 0; started 6, kept 3, struck 3, rounds 2."
unfoldable pub E2 : Type 0
E2 =
    (last_table circuit_t circuit_b (everything circuit_b) ≡ 1 ∷ 2 ∷ 4 ∷ 0 ∷ 0 ∷ 0 ∷ [])
    × (counts_of circuit_t circuit_b (everything circuit_b) ≡ record { started = 6; kept = 3; struck = 3; rounds = 2 })

-- "T on B at 0, 1 and 2: nodes 0, 1, 2 and both their links."
unfoldable pub E3 : Type 0
E3 =
    PlaceIs circuit_t circuit_b 0 (1 ∷ 1 ∷ 1 ∷ 0 ∷ 0 ∷ 0 ∷ []) (1 ∷ 1 ∷ 0 ∷ [])
    × PlaceIs circuit_t circuit_b 1 (1 ∷ 1 ∷ 1 ∷ 0 ∷ 0 ∷ 0 ∷ []) (1 ∷ 1 ∷ 0 ∷ [])
    × PlaceIs circuit_t circuit_b 2 (1 ∷ 1 ∷ 1 ∷ 0 ∷ 0 ∷ 0 ∷ []) (1 ∷ 1 ∷ 0 ∷ [])

-- "T on B at 3: 9, started 2, kept 0, rounds 2.", whatever tables are lent
unfoldable pub E4 : Type 0
E4 =
    (nodes links table distances : List ℕ) →
    (place_around circuit_t circuit_b 3 (radius_of circuit_t) nodes links table distances).reply
    ≡ record { verdict = refuse (record { number = 9; file = Neither }); counts = record { started = 2; kept = 0; struck = 2; rounds = 2 } }

-- "Pattern 0:10, 1:20, links 0-1, 1-0, on the ring ..: table 1, 2, 1, 2, yet 9 at each centre."
unfoldable pub E5 : Type 0
E5 =
    (last_table two_way ring (everything ring) ≡ 1 ∷ 2 ∷ 1 ∷ 2 ∷ []) × NoPlace two_way ring 0 × NoPlace two_way ring 1 × NoPlace two_way ring 2
    × NoPlace two_way ring 3

-- "Y: 0:10, 1:20, 2:20, links 0-1, 0-2: classes 0, 1, 1; the merged radius is 1, Y's is 2."
unfoldable pub E6 : Type 0
E6 = (classes circuit_y ≡ 0 ∷ 1 ∷ 1 ∷ []) × (radius_of (merged circuit_y) ≡ 1) × (radius_of circuit_y ≡ 2)

-- "Y on itself at 1, radius 2: nodes 0, 1, 2. The merged pattern at radius 1 would give 0, 1."
unfoldable pub E7 : Type 0
E7 =
    (T (found circuit_y circuit_y 1 2) × (place_nodes circuit_y circuit_y 1 2 ≡ 1 ∷ 1 ∷ 1 ∷ []))
    × (T (found (merged circuit_y) circuit_y 1 1) × (place_nodes (merged circuit_y) circuit_y 1 1 ≡ 1 ∷ 1 ∷ 0 ∷ []))

-- "0:10, 1:20, 2:20, 3:30, links 0-1, 0-2, 2-3: no merging."
unfoldable pub E8 : Type 0
E8 = (classes circuit_e8 ≡ 0 ∷ 1 ∷ 2 ∷ 3 ∷ []) × (merged circuit_e8 ≡ circuit_e8)

-- "Pattern 0:10, 1:20, link 0-1, on a board that also has 1-0: nodes 0, 1, link 0-1 only."
unfoldable pub E9 : Type 0
E9 = PlaceIs circuit_one_link two_way 0 (1 ∷ 1 ∷ []) (1 ∷ 0 ∷ []) × PlaceIs circuit_one_link two_way 1 (1 ∷ 1 ∷ []) (1 ∷ 0 ∷ [])

-- A pattern with a part of kind 0, "some part, I don't care which", that drives one of kind 20, on all of B.
unfoldable pub AnyOnB : Type 0
AnyOnB =
    (last_table any_to20 circuit_b (everything circuit_b) ≡ 1 ∷ 2 ∷ 0 ∷ 0 ∷ 0 ∷ 0 ∷ [])
    × (counts_of any_to20 circuit_b (everything circuit_b) ≡ record { started = 8; kept = 2; struck = 6; rounds = 1 })

-- A node of kind 0, "which means unidentified, is matched by such a part only": not by one of kind 10.
unfoldable pub ZeroOnBoard : Type 0
ZeroOnBoard = PlaceIs any_to20 any_to20 0 (1 ∷ 1 ∷ []) (1 ∷ []) × NoPlace circuit_one_link any_to20 0 × NoPlace circuit_one_link any_to20 1

-- Parts of kinds 0 and 10 with the same links: only one matches the other, and they do not merge.
unfoldable pub AnyNotMerged : Type 0
AnyNotMerged = (self_table ten_and_any ≡ 1 ∷ 2 ∷ 6 ∷ []) × (classes ten_and_any ≡ 0 ∷ 1 ∷ 2 ∷ [])

-- One part of kind 0 has a place around every node of B.
unfoldable pub AnyAround : Type 0
AnyAround = (w : ℕ) → w < 6 → T (found any_part circuit_b w (radius_of any_part))

-- A pattern of one link from kind 10 to kind 20 around node 0 of B at radius 2: its place has nodes 0 and 1, and node 2
-- has its distance, "whether a node is in the place or not"; at radius 1 it has 65,535.
unfoldable pub Probed : Type 0
Probed =
    (place_nodes circuit_one_link circuit_b 0 2 ≡ 1 ∷ 1 ∷ 0 ∷ 0 ∷ 0 ∷ 0 ∷ [])
    × (distances_of circuit_b 0 2 ≡ 0 ∷ 1 ∷ 2 ∷ 65535 ∷ 65535 ∷ 65535 ∷ [])
    × (distances_of circuit_b 0 1 ≡ 0 ∷ 1 ∷ 65535 ∷ 65535 ∷ 65535 ∷ 65535 ∷ [])

-- "Proved of the definitions, as a single list that one theorem covers"
pub data Statements : Type 1 where
  done : Statements
  ◌also◌ : Type 0 → Statements → Statements

infixr 3 ◌also◌
unfoldable pub examples : Statements
examples =
    E1 also E2 also E3 also E4 also E5 also E6 also E7 also E8 also E9 also AnyOnB also ZeroOnBoard also AnyNotMerged also AnyAround also
    Probed also done

-- every statement of a list holds
unfoldable pub AllHold : Statements → Type 0
AllHold done = Unit {0}
AllHold (s also rest) = s × AllHold rest
