-- The line of a found centre as the program puts it, node by node, from what the search for the component leaves: the entries `dist`, `far`
-- outside it, the ball's sets, and what matching looks up. What the contracts of the inner functions cite; report/proofs/Centre ties it to
-- the report's text.
use Rattle.std.specs.Prelude.{◌++◌, ◌+◌}
use Rattle.base_lists.specs.Kit.{cond, List, [], ℕ, ltb, length, get_or, set}
use Rattle.base_lists.specs.Below.{concat_below}
use Rattle.base_bits.specs.Bits.{intersects}
use Rattle.base_text.specs.Text.{bytes, decimal}
use Rattle.graph.specs.Net.{driven}
use Rattle.graph.specs.Search.{reached}
use Rattle.table.specs.Prepared.{succ_of, Tables}
use Rattle.place.specs.Bytes.{driven_by}
use Rattle.report_texts.specs.declared.Span.{Span}

-- "each link as its start, a hyphen and its end"
unfoldable pub link_item : ℕ → ℕ → List ℕ
link_item v w = decimal v ++ bytes "-" ++ decimal w

-- each node
unfoldable pub node_text : List ℕ → ℕ → List ℕ
node_text dist v = cond (reached (get_or dist v 0)) (bytes " " ++ decimal v) []

unfoldable pub nodes_text : List ℕ → List ℕ
nodes_text dist = concat_below (length dist) (node_text dist)

-- the link from v to w, where what the parts of v's set drive has a part of w's set
unfoldable pub link_text : ℕ → ℕ → ℕ → ℕ → List ℕ
link_text driven set v w = cond (intersects driven set) (bytes " " ++ link_item v w) []

-- the links from v to the nodes of a list
unfoldable pub driven_text : ℕ → List ℕ → ℕ → List ℕ → List ℕ
driven_text driven sets v nodes = concat_below (length nodes) (λ i. link_text driven (get_or sets (get_or nodes i 0) 0) v (get_or nodes i 0))

-- the links that start at v
unfoldable pub start_text : Tables → List ℕ → List ℕ → ℕ → List ℕ
start_text t dist sets v =
    cond (reached (get_or dist v 0)) (driven_text (driven_by (succ_of t.masks) sets v) sets v (driven t.offsets t.targets v)) []

-- each link, by its start
unfoldable pub links_text : Tables → List ℕ → List ℕ → List ℕ
links_text t dist sets = concat_below (length dist) (start_text t dist sets)

-- a line in two parts: up to its colon, by the centre alone, and what follows, by the place alone
unfoldable pub head_text : ℕ → List ℕ
head_text c = bytes "place " ++ decimal c ++ bytes ":"

unfoldable pub body_text : Tables → List ℕ → List ℕ → List ℕ
body_text t dist sets = nodes_text dist ++ (bytes " /" ++ (links_text t dist sets ++ bytes "\n"))

unfoldable pub line_text : Tables → List ℕ → List ℕ → ℕ → List ℕ
line_text t dist sets c = head_text c ++ body_text t dist sets

-- where the text stands that a table has under a number,
abbrev pub under : List ℕ → ℕ → Span
under texts number = record { from = get_or texts number 0; to = get_or texts (512 + number) 0 }

-- the table with a text more, where its end is a number of 32 bits
unfoldable pub noting : List ℕ → ℕ → Span → List ℕ
noting texts number x = cond (ltb 4294967295 x.to) texts (set (set texts number x.from) (512 + number) x.to)
