-- The report's text, from the bytes of the two files. The quoted sentences are document 01's.
use Rattle.std.specs.Prelude.{◌++◌}
use Rattle.base_lists.specs.Kit.{Bool, cond, List, [], ℕ, length, get_or}
use Rattle.base_lists.specs.Below.{count_below, concat_below}
use Rattle.base_text.specs.Text.{bytes, decimal}
use Rattle.graph.specs.Circuit.{Circuit}
use Rattle.graph.specs.Search.{inside}
use Rattle.file_format.specs.declared.File.{File}
use Rattle.file_format.specs.declared.File.TheVariants as file
use Rattle.file_format.specs.declared.Refusal.{Refusal}
use Rattle.file_format.specs.declared.Role.TheVariants.{Pattern, Board}
use Rattle.file_format.specs.Circuit.{circuit_of}
use Rattle.file_format.specs.Layout.{CircuitFile}
use Rattle.file_format.specs.Refusals.{Verdict, accept, refuse, first, file_conditions}
use Rattle.place.specs.Match.{radius_of, found, place_nodes, place_links}
use Rattle.report_texts.specs.Texts.{link_item}

-- the items whose bytes are 1, in their order: "a space stands before each item but the first and the colon"
unfoldable pub marked_items : List ℕ → (ℕ → List ℕ) → List ℕ
marked_items marks item = concat_below (length marks) (λ i. cond (inside marks i) (bytes " " ++ item i) [])

-- "each node", from a byte per node: "nodes rise"
unfoldable pub node_items : List ℕ → List ℕ
node_items nodes = marked_items nodes decimal

-- each link, from a byte per link: "links are in file order"
unfoldable pub link_items : List ℕ → List ℕ → List ℕ → List ℕ
link_items starts ends links = marked_items links (λ i. link_item (get_or starts i 0) (get_or ends i 0))

-- "`place`, the centre, a colon, each node, a slash, each link"; "Every line ends with one byte `0A`." The nodes and the links are given as
-- texts.
unfoldable pub place_line : ℕ → List ℕ → List ℕ → List ℕ
place_line c nodes links = bytes "place " ++ decimal c ++ bytes ":" ++ nodes ++ bytes " /" ++ links ++ bytes "\n"

-- there is a place around the centre, at the pattern's radius
unfoldable pub has_place : Circuit → Circuit → ℕ → Bool
has_place pattern board c = found pattern board c (radius_of pattern)

-- the line of a centre: "Per centre with a place"
unfoldable pub centre_line : Circuit → Circuit → ℕ → List ℕ
centre_line pattern board c =
    let r = radius_of pattern in
    cond (has_place pattern board c)
    (place_line c (node_items (place_nodes pattern board c r)) (link_items board.starts board.ends (place_links pattern board c r)))
    []

-- "Last: `end`, how many centres have a place, `of`, N."
unfoldable pub end_line : ℕ → ℕ → List ℕ
end_line k n = bytes "end " ++ decimal k ++ bytes " of " ++ decimal n ++ bytes "\n"

-- "A refused file gives one line, as `refused 3 pattern`."
unfoldable pub file_word : File → List ℕ
file_word file.Pattern = bytes " pattern"
file_word file.Board = bytes " board"
file_word file.Neither = []

unfoldable pub refusal_line : Refusal → List ℕ
refusal_line x = bytes "refused " ++ decimal x.number ++ file_word x.file ++ bytes "\n"

-- the report where neither file is refused: the lines of the centres, "rising", and the last line
unfoldable pub lines_of : Circuit → Circuit → List ℕ
lines_of pattern board =
    let n = length board.labels in
    concat_below n (centre_line pattern board) ++ end_line (count_below n (has_place pattern board)) n

-- the report, by whether a file is refused; "the pattern's 1 to 6 before the board's"
unfoldable pub report_for : Verdict → Circuit → Circuit → List ℕ
report_for accept pattern board = lines_of pattern board
report_for (refuse x) pattern board = refusal_line x

unfoldable pub report_of : CircuitFile → CircuitFile → List ℕ
report_of pattern board = report_for (first (file_conditions Pattern pattern ++ file_conditions Board board)) (circuit_of pattern) (circuit_of board)
