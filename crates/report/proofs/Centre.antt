-- The line that the program puts for a centre with a place is the centre's line of the report, and where there is none the report has no line.
-- Assumes nothing.
use Rattle.std.specs.Prelude.{◌≡◌, ◌++◌, ◌<◌}
use Rattle.base_lists.specs.Kit.{◌∙◌, sym, ap, refl, subst, ap₂, Bool, false, true, cond, not, List, [], ℕ, zero-lt-suc, eqb, length, get_or}
use Rattle.base_lists.specs.Below.{concat_below}
use Rattle.base_lists.specs.List.{tabulate, Below}
use Rattle.base_lists.proofs.Tables.{length-tabulate, get_d_tabulate}
use Rattle.base_lists.proofs.Concat.{concat_below-none, concat_below-same}
use Rattle.base_bits.specs.Bits.{intersects}
use Rattle.base_text.specs.Text.{bytes, decimal}
use Rattle.graph.specs.Circuit.{Circuit}
use Rattle.graph.specs.Neighbours.{select}
use Rattle.graph.specs.Net.{driven}
use Rattle.graph.specs.Rising.{LinksRise}
use Rattle.graph.specs.Search.{far, reached, inside}
use Rattle.graph.proofs.Sorted.{rise-sorted}
use Rattle.table.specs.Prepared.{succ_of, Tables, Prepared}
use Rattle.place.specs.Bytes.{bytes_of_nodes, driven_by, link_byte, bytes_of_links}
use Rattle.place.specs.Match.{radius_of}
use Rattle.place.specs.Find.{Located}
use Rattle.report_texts.specs.Texts.{link_item, node_text, nodes_text, link_text, driven_text, start_text, links_text, line_text}
use Rattle.report.specs.Report.{marked_items, node_items, link_items, place_line, has_place, centre_line}
use Rattle.report.proofs.Order.{from, links-by-start}
use Rattle.report.proofs.Pieces.{line-place}

-- ---- marked items, by a test

chosen : (far : Bool) (x : List ℕ) → cond (eqb (cond far 0 1) 1) x [] ≡ cond (not far) x []
chosen true x = refl
chosen false x = refl

both-chosen : (far meets : Bool) (x : List ℕ) → cond (eqb (cond far 0 (cond meets 1 0)) 1) x [] ≡ cond (not far) (cond meets x []) []
both-chosen true meets x = refl
both-chosen false true x = refl
both-chosen false false x = refl

-- the items that a rule marks
marked-rule : (n : ℕ) (byte : ℕ → ℕ) (item g : ℕ → List ℕ) → ((i : ℕ) → i < n → cond (eqb (byte i) 1) (bytes " " ++ item i) [] ≡ g i)
    → marked_items (tabulate n byte) item ≡ concat_below n g
unfolding marked_items inside
marked-rule n byte item g h =
    rw (length-tabulate n byte) (concat_below-same n _ g (λ i l. rw (get_d_tabulate n byte i 0 l) (h i l)))

-- each node that the search reached
nodes-text : (dist : List ℕ) → node_items (bytes_of_nodes dist) ≡ nodes_text dist
unfolding node_items bytes_of_nodes nodes_text node_text
nodes-text dist = marked-rule (length dist) _ decimal _ (λ v l. chosen (eqb (get_or dist v 0) far) (bytes " " ++ decimal v))

-- ---- the links, by their starts

-- the link from v to w, if the search reached v
abbrev reached_link : List ℕ → List ℕ → List ℕ → ℕ → ℕ → List ℕ
reached_link succ dist sets v w = cond (reached (get_or dist v 0)) (link_text (driven_by succ sets v) (get_or sets w 0) v w) []

links-text : (starts ends succ dist sets : List ℕ) →
    link_items starts ends (bytes_of_links starts ends succ dist sets)
    ≡ concat_below (length starts) (λ i. reached_link succ dist sets (get_or starts i 0) (get_or ends i 0))
unfolding link_items bytes_of_links link_byte link_text
links-text starts ends succ dist sets =
    marked-rule (length starts) _ _ _
    (λ i l.
    both-chosen (eqb (get_or dist (get_or starts i 0) 0) far) (intersects (driven_by succ sets (get_or starts i 0)) (get_or sets (get_or ends i 0) 0))
    (bytes " " ++ link_item (get_or starts i 0) (get_or ends i 0)))

-- the test on the start is one test for all its links
start-text : (t : Tables) (dist sets : List ℕ) (v : ℕ) →
    start_text t dist sets v ≡ from (reached_link (succ_of t.masks) dist sets) v (driven t.offsets t.targets v)
unfolding start_text driven_text
start-text t dist sets v = go (reached (get_or dist v 0)) (driven t.offsets t.targets v)
  where
    text : List ℕ → ℕ → List ℕ
    text ends i = link_text (driven_by (succ_of t.masks) sets v) (get_or sets (get_or ends i 0) 0) v (get_or ends i 0)

    go : (b : Bool) (ends : List ℕ) → cond b (concat_below (length ends) (text ends)) [] ≡ concat_below (length ends) (λ i. cond b (text ends i) [])
    go true ends = refl
    go false ends = sym (concat_below-none (length ends) _ (λ i l. refl))

-- neighbour tables of a file's links give the links in the file's order
links-order : (starts ends : List ℕ) (t : Tables) (dist sets : List ℕ) → length starts ≡ length ends → Below (length dist) starts → LinksRise starts ends
    → ((v : ℕ) → v < length dist → driven t.offsets t.targets v ≡ select starts ends v)
    → link_items starts ends (bytes_of_links starts ends (succ_of t.masks) dist sets) ≡ links_text t dist sets
unfolding links_text
links-order starts ends t dist sets e below rise grouped =
    let text = reached_link (succ_of t.masks) dist sets in
    links-text starts ends (succ_of t.masks) dist sets
    ∙ links-by-start text (length dist) starts ends e below (rise-sorted starts ends rise)
    ∙ concat_below-same (length dist) _ _ (λ v l. ap (from text v) (sym (grouped v l)) ∙ sym (start-text t dist sets v))

-- ---- the centre's line

-- no place: no line
pub centre-missed : (pattern board : Circuit) (c : ℕ) → has_place pattern board c ≡ false → centre_line pattern board c ≡ []
unfolding centre_line
centre-missed pattern board c e = rw e

-- a line is not empty
pub centre-long : (pattern board : Circuit) (c : ℕ) → has_place pattern board c ≡ true → 0 < length (centre_line pattern board c)
unfolding centre_line place_line bytes
centre-long pattern board c e = rw e (zero-lt-suc _)

-- the line that is put from the entries and the sets that are left where there is a place
pub centre-located :
    {pattern board : Circuit} {t : Tables} (p : Prepared pattern board t) → length board.starts ≡ length board.ends →
    Below (length board.labels) board.starts → LinksRise board.starts board.ends → (c : ℕ) {dist sets place : List ℕ} →
    has_place pattern board c ≡ true → Located pattern board t c (radius_of pattern) dist sets place →
    line_text t dist sets c ≡ centre_line pattern board c
unfolding centre_line
centre-located {pattern} {board} {t} p parallel starts rise c {dist} {sets} e l =
    rw e
    (line-place t dist sets c ∙ ap₂ (place_line c) (sym (nodes-text dist) ∙ ap node_items l.bytes)
    (sym
    (links-order board.starts board.ends t dist sets parallel (rw l.size starts) rise
    (λ v h. p.net.drives v (subst (λ m. v < m) l.size h)))
    ∙ ap (link_items board.starts board.ends) l.links))
