-- Document 01's examples of files, T and B as bytes, and the table of refusals; T in the editions that document 02
-- adds, an example of each number that it adds, and of the numbers that a host program tells. As statements about the
-- definitions, in a single list: proofs/Files proves the list.
use Rattle.std.specs.Prelude.{◌≡◌, ◌∷◌, ◌++◌}
use Rattle.base_lists.specs.Kit.{false, true, List, [], ℕ}
use Rattle.file_format.specs.declared.Edition.TheVariants.{First, Second}
use Rattle.file_format.specs.declared.File.{File}
use Rattle.file_format.specs.declared.File.TheVariants as file
use Rattle.file_format.specs.declared.Role.TheVariants.{Pattern, Board}
use Rattle.file_format.specs.Circuit.{circuit_of}
use Rattle.file_format.specs.Examples.{file_t, file_b, file_one}
use Rattle.file_format.specs.Layout.{first_edition, in_edition, kinds_of, packages_of, starts_of, ends_of, links_of}
use Rattle.file_format.specs.Reading.{reading}
use Rattle.file_format.specs.Refusals.{Verdict, accept, refuse, first, file_conditions}
use Rattle.table.specs.Examples.{circuit_t, circuit_b}
use Rattle.file_write.specs.Bytes.{file_bytes}
use Rattle.file_bounds.specs.Third.{before_bounds, bounds_of, third_conditions}
use Rattle.graph_neighbours.specs.Lookup.{neighbours_of}
use Rattle.call_convert.specs.Call.{converting}
use Rattle.call_test_board.specs.Call.{making_test_board}
use Rattle.call_distance.specs.Calls.{ball_conditions}
use Rattle.call_bounded.specs.Call.{bounded_matching}
use Rattle.call_barring.specs.Call.{bar_call}
use Rattle.heronditch_told.specs.Told.{told, is_third, role_of, direction_of, as_role}
use Rattle.demands.specs.Cutting.{cut_replies}
use Rattle.demands.specs.Examples.{Statements, done, ◌also◌}

-- number and file
unfoldable pub refused : ℕ → File → Verdict
refused k f = refuse (record { number = k; file = f })

-- the bytes of T and of B are those of their circuits, and their circuits those of the bytes
unfoldable pub ReadT : Type 0
ReadT = (circuit_of (first_edition file_t) ≡ circuit_t) × (file_bytes First circuit_t.labels [] circuit_t.starts circuit_t.ends ≡ file_t)

unfoldable pub ReadB : Type 0
ReadB = (circuit_of (first_edition file_b) ≡ circuit_b) × (file_bytes First circuit_b.labels [] circuit_b.starts circuit_b.ends ≡ file_b)

-- 1 "file under 4 bytes": `02 00 01`
unfoldable pub R1 : Type 0
R1 = (first (file_conditions Pattern (first_edition (2 ∷ 0 ∷ 1 ∷ []))) ≡ refused 1 file.Pattern) × (first (file_conditions Board (first_edition (2 ∷ 0 ∷ 1 ∷ []))) ≡ refused 1 file.Board)

-- 2 "N or M outside its role's range": pattern `00 00 00 00`
unfoldable pub R2 : Type 0
R2 = first (file_conditions Pattern (first_edition (0 ∷ 0 ∷ 0 ∷ 0 ∷ []))) ≡ refused 2 file.Pattern

-- 3 "length not 4 + 2N + 4M": `01 00 00 00`
unfoldable pub R3 : Type 0
R3 = first (file_conditions Pattern (first_edition (1 ∷ 0 ∷ 0 ∷ 0 ∷ []))) ≡ refused 3 file.Pattern

-- 4 "a link end or start not below N": `01 00 01 00 0A 00 00 00 01 00`
unfoldable pub R4 : Type 0
R4 = first (file_conditions Board (first_edition (1 ∷ 0 ∷ 1 ∷ 0 ∷ 10 ∷ 0 ∷ 0 ∷ 0 ∷ 1 ∷ 0 ∷ []))) ≡ refused 4 file.Board

-- 5 "links not strictly rising": `01 00 02 00 0A 00 00 00 00 00 00 00 00 00`
unfoldable pub R5 : Type 0
R5 = first (file_conditions Board (first_edition (1 ∷ 0 ∷ 2 ∷ 0 ∷ 10 ∷ 0 ∷ 0 ∷ 0 ∷ 0 ∷ 0 ∷ 0 ∷ 0 ∷ 0 ∷ 0 ∷ []))) ≡ refused 5 file.Board

-- 6 "pattern not connected": `02 00 00 00 0A 00 14 00`
unfoldable pub R6 : Type 0
R6 = first (file_conditions Pattern (first_edition (2 ∷ 0 ∷ 0 ∷ 0 ∷ 10 ∷ 0 ∷ 20 ∷ 0 ∷ []))) ≡ refused 6 file.Pattern

-- 7 "centre not below the board's N": "B below, centre 6", with whatever table
unfoldable pub R7 : Type 0
R7 = (lent : ℕ) → first (ball_conditions (first_edition file_b) 6 lent) ≡ refused 7 file.Neither

-- 8 "a lent output table too short": "2 kinds for N = 3"
unfoldable pub R8 : Type 0
R8 = (reading Pattern (first_edition file_t) (0 ∷ 0 ∷ []) [] (0 ∷ 0 ∷ []) (0 ∷ 0 ∷ [])).reply.verdict ≡ refused 8 file.Neither

-- 9 is E4's

-- ---- the other editions

-- T "of the second edition": the packages 1, 2, 3 "between kinds and starts"
unfoldable pub second_t : List ℕ
second_t = 3 ∷ 0 ∷ 2 ∷ 0 ∷ 10 ∷ 0 ∷ 20 ∷ 0 ∷ 30 ∷ 0 ∷ 1 ∷ 0 ∷ 2 ∷ 0 ∷ 3 ∷ 0 ∷ 0 ∷ 0 ∷ 1 ∷ 0 ∷ 1 ∷ 0 ∷ 2 ∷ 0 ∷ []

unfoldable pub ReadSecond : Type 0
ReadSecond =
    let file = in_edition Second second_t in
    (kinds_of file ≡ circuit_t.labels) × (packages_of file ≡ 1 ∷ 2 ∷ 3 ∷ []) × (starts_of file ≡ circuit_t.starts) × (ends_of file ≡ circuit_t.ends)
    × (file_bytes Second circuit_t.labels (1 ∷ 2 ∷ 3 ∷ []) circuit_t.starts circuit_t.ends ≡ second_t) × (first (file_conditions Pattern file) ≡ accept)

-- "of a third edition": the bounds 1 and 4 "after the ends"
unfoldable pub third_t : List ℕ
third_t = 3 ∷ 0 ∷ 2 ∷ 0 ∷ 10 ∷ 0 ∷ 20 ∷ 0 ∷ 30 ∷ 0 ∷ 1 ∷ 0 ∷ 2 ∷ 0 ∷ 3 ∷ 0 ∷ 0 ∷ 0 ∷ 1 ∷ 0 ∷ 1 ∷ 0 ∷ 2 ∷ 0 ∷ 1 ∷ 0 ∷ 4 ∷ 0 ∷ []

unfoldable pub ReadThird : Type 0
ReadThird = (before_bounds third_t ≡ in_edition Second second_t) × (bounds_of third_t ≡ 1 ∷ 4 ∷ []) × (first (third_conditions third_t) ≡ accept)

-- ---- the numbers that document 02 adds

-- one part of kind 10 and package 1, and the same with a link to itself
unfoldable pub packed_file : List ℕ
packed_file = 1 ∷ 0 ∷ 0 ∷ 0 ∷ 10 ∷ 0 ∷ 1 ∷ 0 ∷ []

unfoldable pub looped : List ℕ
looped = 1 ∷ 0 ∷ 1 ∷ 0 ∷ 10 ∷ 0 ∷ 1 ∷ 0 ∷ 0 ∷ 0 ∷ 0 ∷ 0 ∷ []

-- 3 "its length is 4 + 4N + 4M": one part without a package; "The length is 4 + 4N + 6M": a link without a bound
unfoldable pub R3Editions : Type 0
R3Editions = (first (file_conditions Board (in_edition Second file_one)) ≡ refused 3 file.Board) × (first (third_conditions looped) ≡ refused 3 file.Pattern)

-- 10 "one of the four numbers out of its range, checked ahead of 8": N = 513, and no byte lent
unfoldable pub R10 : Type 0
R10 = (seed : ℕ) → (making_test_board seed 513 0 1 []).reply.verdict ≡ refused 10 file.Neither

-- 11 "pattern radius above 12": 14 parts in a row
unfoldable pub row_of14 : List ℕ
row_of14 =
    14 ∷ 0 ∷ 13 ∷ 0 ∷ 1 ∷ 0 ∷ 1 ∷ 0 ∷ 1 ∷ 0 ∷ 1 ∷ 0 ∷ 1 ∷ 0 ∷ 1 ∷ 0 ∷ 1 ∷ 0 ∷ 1 ∷ 0 ∷ 1 ∷ 0 ∷ 1 ∷ 0 ∷ 1 ∷ 0 ∷ 1 ∷ 0 ∷ 1 ∷ 0 ∷ 1 ∷ 0 ∷
    0 ∷ 0 ∷ 1 ∷ 0 ∷ 2 ∷ 0 ∷ 3 ∷ 0 ∷ 4 ∷ 0 ∷ 5 ∷ 0 ∷ 6 ∷ 0 ∷ 7 ∷ 0 ∷ 8 ∷ 0 ∷ 9 ∷ 0 ∷ 10 ∷ 0 ∷ 11 ∷ 0 ∷ 12 ∷ 0 ∷
    1 ∷ 0 ∷ 2 ∷ 0 ∷ 3 ∷ 0 ∷ 4 ∷ 0 ∷ 5 ∷ 0 ∷ 6 ∷ 0 ∷ 7 ∷ 0 ∷ 8 ∷ 0 ∷ 9 ∷ 0 ∷ 10 ∷ 0 ∷ 11 ∷ 0 ∷ 12 ∷ 0 ∷ 13 ∷ 0 ∷ []

unfoldable pub R11 : Type 0
R11 = first (file_conditions Pattern (first_edition row_of14)) ≡ refused 11 file.Pattern

-- 12 "converting to the first edition a file with a package other than 0, .. ahead of 8": no byte lent
unfoldable pub R12 : Type 0
R12 = (converting Board First (in_edition Second packed_file) []).reply.verdict ≡ refused 12 file.Board

-- 13 "a bound outside 1 to 4, .. before the board's 1": 5, and a board of no byte
unfoldable pub R13 : Type 0
R13 = (bounded_matching (looped ++ (5 ∷ 0 ∷ [])) (first_edition []) []).reply.verdict ≡ refused 13 file.Pattern

-- 14 "A cut of a link already out, or of a place not below M": links 1, 1 again and 3 of B
unfoldable pub R14 : Type 0
R14 = cut_replies (links_of (first_edition file_b)) [] (1 ∷ 1 ∷ 3 ∷ []) ≡ accept ∷ refused 14 file.Neither ∷ refused 14 file.Neither ∷ []

-- 15 "the centre has a place": one part on a board of one node
unfoldable pub R15 : Type 0
R15 = (bar_call (first_edition file_one) (first_edition file_one) 0 []).reply.verdict ≡ refused 15 file.Neither

-- ---- the numbers by which a host program tells an edition, a role and a direction: 0, 1, 2, 3, 4

-- what reading a pattern comes to by the number of its edition
unfoldable pub by_edition : List ℕ → List Verdict
by_edition bytes =
    let asked : ℕ → Verdict = λ e. first (file_conditions Pattern (told bytes e)) in
    asked 0 ∷ asked 1 ∷ asked 2 ∷ asked 3 ∷ asked 4 ∷ []

-- 0 and 1 the first edition, the others the second
unfoldable pub ToldEdition : Type 0
ToldEdition =
    let three = refused 3 file.Pattern in
    (by_edition file_t ≡ accept ∷ accept ∷ three ∷ three ∷ three ∷ []) × (by_edition second_t ≡ three ∷ three ∷ accept ∷ accept ∷ accept ∷ [])

-- of the whole-board call's pattern 3 and 4 are the third edition, which neither a first nor a second is
unfoldable pub ToldThird : Type 0
ToldThird =
    (is_third 0 ∷ is_third 1 ∷ is_third 2 ∷ is_third 3 ∷ is_third 4 ∷ [] ≡ false ∷ false ∷ false ∷ true ∷ true ∷ [])
    × (first (third_conditions file_t) ≡ refused 3 file.Pattern) × (first (third_conditions second_t) ≡ refused 3 file.Pattern)

-- 0 and 1 a pattern, the others a board: of no node
unfoldable pub ToldRole : Type 0
ToldRole =
    let asked : ℕ → Verdict = λ r. first (file_conditions (as_role (role_of r)) (first_edition (0 ∷ 0 ∷ 0 ∷ 0 ∷ []))) in
    let two = refused 2 file.Pattern in
    asked 0 ∷ asked 1 ∷ asked 2 ∷ asked 3 ∷ asked 4 ∷ [] ≡ two ∷ two ∷ accept ∷ accept ∷ accept ∷ []

-- 0 and 1 what T's node 1 drives, the others what drives it
unfoldable pub ToldDirection : Type 0
ToldDirection =
    let asked : ℕ → List ℕ = λ d. neighbours_of (direction_of d) (0 ∷ 1 ∷ 2 ∷ 2 ∷ []) (1 ∷ 2 ∷ []) (0 ∷ 0 ∷ 1 ∷ 2 ∷ []) (0 ∷ 1 ∷ []) 1 in
    asked 0 ∷ asked 1 ∷ asked 2 ∷ asked 3 ∷ asked 4 ∷ [] ≡ (2 ∷ []) ∷ (2 ∷ []) ∷ (0 ∷ []) ∷ (0 ∷ []) ∷ (0 ∷ []) ∷ []

unfoldable pub file_examples : Statements
file_examples =
    ReadT also ReadB also R1 also R2 also R3 also R4 also R5 also R6 also R7 also R8 also ReadSecond also ReadThird also R3Editions also R10 also R11 also
    R12 also R13 also R14 also R15 also ToldEdition also ToldThird also ToldRole also ToldDirection also done
