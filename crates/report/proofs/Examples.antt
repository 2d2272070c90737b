-- Document 01's example of a report, T on B, from the bytes of the two files; and the two lines of refused files that it implies. Assumes
-- nothing.
use Rattle.std.specs.Prelude.{◌≡◌, ◌∷◌, ◌++◌}
use Rattle.base_lists.specs.Kit.{◌∙◌, ap, refl, ap₂, Bool, false, true, List, [], ℕ, T}
use Rattle.base_lists.specs.List.{all, all_below, any_below, tabulate, maximum}
use Rattle.base_lists.specs.Below.{count_below, concat_below, keep_from}
use Rattle.base_lists.proofs.Tests.{T_true, T_false}
use Rattle.base_text.specs.Text.{bytes, digits, decimal}
use Rattle.graph.specs.Search.{beside, inside, ball, misses, distances, connected, radius}
use Rattle.file_format.specs.Circuit.{circuit_of}
use Rattle.file_format.specs.declared.Role.TheVariants.{Pattern, Board}
use Rattle.file_format.specs.Examples.{file_t, file_b, file_one}
use Rattle.file_format.specs.Label.{label, labels}
use Rattle.file_format.specs.Layout.{CircuitFile, first_edition, field, fields, nodes_of, links_of, kinds_of, packages_of, starts_of, ends_of, labels_of}
use Rattle.file_format.specs.Links.{links_below, earlier, rising}
use Rattle.file_format.specs.Refusals.{Verdict, accept, first, link_conditions, file_conditions, asks_connected}
use Rattle.table.specs.Examples.{row_computed, circuit_t, circuit_b}
use Rattle.place.specs.Match.{radius_of, ball_of, ball_table, found, matches, link_matches, match_starts, match_ends, component, place_nodes, place_links}
use Rattle.place.proofs.Examples.{Shows, radius-T, E3-0, E3-1, E3-2, E4-none}
use Rattle.report_texts.specs.Texts.{link_item}
use Rattle.report.specs.Report.{marked_items, node_items, link_items, place_line, has_place, centre_line, end_line, file_word, refusal_line, lines_of, report_for, report_of}

-- both files are accepted, and hold T and B
T-and-B : first (file_conditions Pattern (first_edition file_t) ++ file_conditions Board (first_edition file_b)) ≡ accept
unfolding file_t file_b first file_conditions link_conditions asks_connected links_below rising earlier nodes_of links_of starts_of ends_of fields field connected radius maximum distances misses ball tabulate inside beside all all_below
T-and-B = refl

holds-T : circuit_of (first_edition file_t) ≡ circuit_t
unfolding file_t circuit_t kinds_of packages_of starts_of ends_of labels_of labels label nodes_of links_of fields field tabulate
holds-T = refl

holds-B : circuit_of (first_edition file_b) ≡ circuit_b
unfolding file_b circuit_b kinds_of packages_of starts_of ends_of labels_of labels label nodes_of links_of fields field tabulate
holds-B = refl

-- all that is opened where a place is computed
opened : Unit {0}
unfolding row_computed any_below beside ball ball_of ball_table found
opened = tt

-- ---- the centres

-- whether there is a place around the centre, and its line
record Line (c : ℕ) (on : Bool) (text : List ℕ) : Type 0 where
  place : has_place circuit_t circuit_b c ≡ on
  line : centre_line circuit_t circuit_b c ≡ text

-- with nodes 0, 1, 2 and both their links
shown : (c : ℕ) (text : List ℕ) → Shows circuit_t circuit_b c 2 (1 ∷ 1 ∷ 1 ∷ 0 ∷ 0 ∷ 0 ∷ []) (1 ∷ 1 ∷ 0 ∷ [])
    → place_line c (node_items (1 ∷ 1 ∷ 1 ∷ 0 ∷ 0 ∷ 0 ∷ [])) (link_items circuit_b.starts circuit_b.ends (1 ∷ 1 ∷ 0 ∷ [])) ≡ text → Line c true text
unfolding centre_line has_place
shown c text (t, n, l) e = record { place = rw radius-T (T_true {b = found circuit_t circuit_b c 2} t); line = rw (radius-T, T_true {b = found circuit_t circuit_b c 2} t, n, l) e }

-- without a place
empty : (c : ℕ) → (T (found circuit_t circuit_b c 2) → ⊥) → Line c false []
unfolding centre_line has_place
empty c t = record { place = rw radius-T (T_false {b = found circuit_t circuit_b c 2} t); line = rw (radius-T, T_false {b = found circuit_t circuit_b c 2} t) }

line-0 : Line 0 true (bytes "place 0: 0 1 2 / 0-1 1-2\n")
unfolding circuit_b place_line node_items link_items link_item marked_items concat_below inside bytes decimal digits
line-0 = shown 0 _ E3-0 refl

line-1 : Line 1 true (bytes "place 1: 0 1 2 / 0-1 1-2\n")
unfolding circuit_b place_line node_items link_items link_item marked_items concat_below inside bytes decimal digits
line-1 = shown 1 _ E3-1 refl

line-2 : Line 2 true (bytes "place 2: 0 1 2 / 0-1 1-2\n")
unfolding circuit_b place_line node_items link_items link_item marked_items concat_below inside bytes decimal digits
line-2 = shown 2 _ E3-2 refl

line-4 : Line 4 false []
unfolding opened circuit_t circuit_b
line-4 = empty 4 (λ t. t)

line-5 : Line 5 false []
unfolding opened circuit_t circuit_b
line-5 = empty 5 (λ t. t)

T-on-B-lines : lines_of circuit_t circuit_b
    ≡ bytes "place 0: 0 1 2 / 0-1 1-2\nplace 1: 0 1 2 / 0-1 1-2\nplace 2: 0 1 2 / 0-1 1-2\nend 3 of 6\n"
unfolding circuit_b lines_of concat_below count_below end_line decimal digits bytes
T-on-B-lines =
    let line-3 = empty 3 E4-none in
    rw (line-0.line, line-1.line, line-2.line, line-3.line, line-4.line, line-5.line, line-0.place, line-1.place, line-2.place, line-3.place, line-4.place, line-5.place)

-- "For T on B": the four lines
pub T-on-B : report_of (first_edition file_t) (first_edition file_b)
    ≡ bytes "place 0: 0 1 2 / 0-1 1-2\nplace 1: 0 1 2 / 0-1 1-2\nplace 2: 0 1 2 / 0-1 1-2\nend 3 of 6\n"
unfolding report_of report_for
T-on-B =
    ap (λ (v : Verdict). report_for v (circuit_of (first_edition file_t)) (circuit_of (first_edition file_b))) T-and-B ∙ ap₂ lines_of holds-T holds-B ∙ T-on-B-lines

-- "Every line ends with one byte `0A`."
pub line-end : bytes "\n" ≡ 0x0A ∷ []
unfolding bytes
line-end = refl

-- ---- refused files: "as `refused 3 pattern`", whatever the board; "absent counts as empty"

-- all that is opened where files are read
reading : Unit {0}
unfolding first file_conditions link_conditions asks_connected links_below rising earlier nodes_of links_of kinds_of packages_of starts_of ends_of labels_of labels label fields field connected radius maximum distances misses ball tabulate inside beside all all_below
reading = tt

-- all that is opened where a report is put together
writing : Unit {0}
unfolding report_of report_for lines_of refusal_line file_word concat_below count_below end_line decimal digits bytes
writing = tt

pub refused-pattern : (board : CircuitFile) → report_of (first_edition (1 ∷ 0 ∷ 0 ∷ 0 ∷ [])) board ≡ bytes "refused 3 pattern\n"
unfolding reading writing
refused-pattern board = refl

pub absent-pattern : (board : CircuitFile) → report_of (first_edition []) board ≡ bytes "refused 1 pattern\n"
unfolding reading writing
absent-pattern board = refl

pub absent-board : report_of (first_edition file_t) (first_edition []) ≡ bytes "refused 1 board\n"
unfolding reading writing file_t
absent-board = refl

-- ---- a board without nodes, and a place without links

pub empty-board : report_of (first_edition file_t) (first_edition (0 ∷ 0 ∷ 0 ∷ 0 ∷ [])) ≡ bytes "end 0 of 0\n"
unfolding reading writing file_t
empty-board = refl

pub no-links : report_of (first_edition file_one) (first_edition file_one) ≡ bytes "place 0: 0 /\nend 1 of 1\n"
unfolding reading writing opened file_one radius_of radius distances misses maximum matches keep_from link_matches match_starts match_ends component place_nodes place_links any_below place_line node_items link_items link_item marked_items has_place centre_line
no-links = refl
