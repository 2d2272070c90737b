-- What is written into the lent tables: from the entries that the search for the component leaves, `far` outside it, and the same from the
-- list of the nodes that it reached, which the contracts of the marking functions cite. proofs/Bytes ties the first to the place's bytes and
-- its table, proofs/Listed the second to the first.
use Rattle.std.specs.Prelude.{◌&&◌, ◌∷◌, ◌≤◌, ◌<◌}
use Rattle.base_lists.specs.Kit.{Bool, cond, List, [], ℕ, suc, eqb, ltb, leb, length, get_or}
use Rattle.base_lists.specs.List.{any, tabulate}
use Rattle.base_bits.specs.Bits.{intersects, union_over}
use Rattle.graph.specs.Net.{forward_offsets, forward_targets}
use Rattle.graph.specs.Search.{far}
use Rattle.table.specs.Prepared.{succ_of, Tables}

-- 0 for an entry `far`, else what is given
abbrev pub unless_far : ℕ → ℕ → ℕ
unless_far distance x = cond (eqb distance far) 0 x

-- a byte per node
unfoldable pub bytes_of_nodes : List ℕ → List ℕ
bytes_of_nodes dist = tabulate (length dist) (λ v. unless_far (get_or dist v 0) 1)

-- a set per node
unfoldable pub node_sets : List ℕ → List ℕ → List ℕ
node_sets dist sets = tabulate (length dist) (λ v. unless_far (get_or dist v 0) (get_or sets v 0))

-- what the parts of node v's set drive
unfoldable pub driven_by : List ℕ → List ℕ → ℕ → ℕ
driven_by succ sets v = union_over succ (get_or sets v 0)

-- the byte of the i-th link: its start is in the component, and what its start's parts drive has a part of its end's set
unfoldable pub link_byte : List ℕ → List ℕ → List ℕ → List ℕ → List ℕ → ℕ → ℕ
link_byte starts ends succ dist sets i =
    unless_far (get_or dist (get_or starts i 0) 0) (cond (intersects (driven_by succ sets (get_or starts i 0)) (get_or sets (get_or ends i 0) 0)) 1 0)

-- a byte per link
unfoldable pub bytes_of_links : List ℕ → List ℕ → List ℕ → List ℕ → List ℕ → List ℕ
bytes_of_links starts ends succ dist sets = tabulate (length starts) (link_byte starts ends succ dist sets)

-- ---- the same from a list of nodes

-- the i-th entry of the forward link table is a link of node v that matches: it stands in v's stretch, and what v's parts drive has a part of
-- its end's set
unfoldable pub marks_link : Tables → List ℕ → ℕ → ℕ → Bool
marks_link t sets i v =
    (leb (get_or (forward_offsets t.offsets) v 0) i && ltb i (get_or (forward_offsets t.offsets) (suc v) 0))
    && intersects (driven_by (succ_of t.masks) sets v) (get_or sets (get_or (forward_targets t.targets) i 0) 0)

-- the bytes of a node's links, where those whose ends have a part of the set are marked
unfoldable pub marked_ends : ℕ → List ℕ → List ℕ → List ℕ → List ℕ
marked_ends set sets ends bytes = tabulate (length ends) (λ k. cond (intersects set (get_or sets (get_or ends k 0) 0)) 1 (get_or bytes k 0))

-- the bytes of all links, where those that node v marks are marked; the same for each node of a list
unfoldable pub mark_start : Tables → List ℕ → ℕ → List ℕ → List ℕ
mark_start t sets v bytes = tabulate (length bytes) (λ i. cond (marks_link t sets i v) 1 (get_or bytes i 0))

unfoldable pub mark_starts : Tables → List ℕ → List ℕ → List ℕ → List ℕ
mark_starts t sets [] bytes = bytes
mark_starts t sets (v ∷ vs) bytes = mark_starts t sets vs (mark_start t sets v bytes)

-- a byte for each of m links, 1 for those that start at a node of the list and match
unfoldable pub link_marks : ℕ → Tables → List ℕ → List ℕ → List ℕ
link_marks m t sets nodes = tabulate m (λ i. cond (any (marks_link t sets i) nodes) 1 0)

-- the bytes have one for each link of n nodes
abbrev pub LinksFit : ℕ → List ℕ → List ℕ → Type 0
LinksFit n offsets bytes = (v : ℕ) → v < n → get_or (forward_offsets offsets) (suc v) 0 ≤ length bytes
