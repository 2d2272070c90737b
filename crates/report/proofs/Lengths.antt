-- How long the lines get: a centre's line of an accepted board has at most 34,829 bytes, the last line 17, a refusal 20. Assumes nothing.
use Rattle.std.specs.Prelude.{◌++◌, ◌≤◌, ◌<◌, ◌+◌, ◌*◌}
use Rattle.base_lists.specs.Kit.{Bool, false, true, cond, List, [], ℕ, le_trans, mul-le-mul_right, length, get_or, length-append, arith}
use Rattle.base_lists.proofs.Concat.{concat_below-bound}
use Rattle.base_lists.proofs.Entries.{all-below-at}
use Rattle.base_text.specs.Text.{bytes, decimal, Fits}
use Rattle.base_text.proofs.Text.{length-decimal}
use Rattle.graph.specs.Circuit.{Circuit}
use Rattle.graph.specs.Search.{inside}
use Rattle.file_format.specs.declared.File.{File}
use Rattle.file_format.specs.declared.File.TheVariants as file
use Rattle.file_format.specs.declared.Refusal.{Refusal}
use Rattle.file_format.specs.declared.Role.TheVariants.{Board}
use Rattle.file_format.specs.Circuit.{Bounded}
use Rattle.file_format.proofs.Accepted.{starts-below, ends-below}
use Rattle.place.specs.Match.{radius_of, place_nodes, place_links}
use Rattle.place.proofs.Marks.{nodes-marks, links-marks}
use Rattle.report.specs.Lines.{longest_line}
use Rattle.report_texts.specs.Texts.{link_item}
use Rattle.report.specs.Report.{marked_items, node_items, link_items, place_line, has_place, centre_line, end_line, file_word, refusal_line}

-- a space before an item
space : {b : ℕ} (text : List ℕ) → length text ≤ b → length (bytes " " ++ text) ≤ 1 + b
unfolding bytes
space text h = omega arith

-- at most n marks, each for an item of at most b bytes
marked-length : (n b : ℕ) (marks : List ℕ) (item : ℕ → List ℕ) → length marks ≤ n → ((i : ℕ) → i < length marks → length (item i) ≤ b)
    → length (marked_items marks item) ≤ n * (1 + b)
unfolding marked_items
marked-length n b marks item h l =
    le_trans (concat_below-bound (length marks) (1 + b) _ (λ i m. go (inside marks i) (item i) (l i m))) (mul-le-mul_right (1 + b) h)
  where
    go : (on : Bool) (text : List ℕ) → length text ≤ b → length (cond on (bytes " " ++ text) []) ≤ 1 + b
    go true text k = space text k
    go false text k = omega arith

-- 512 nodes: a space and at most three digits each
nodes-length : (nodes : List ℕ) → length nodes ≤ 512 → length (node_items nodes) ≤ 2048
unfolding node_items
nodes-length nodes h = marked-length 512 3 nodes decimal h (λ v l. length-decimal 2 v (omega arith))

-- 4,096 links: a space, two numbers of at most three digits, and a hyphen each
link-length : (v w : ℕ) → v < 1000 → w < 1000 → length (link_item v w) ≤ 7
unfolding link_item bytes
link-length v w h l = simp length-append (omega (arith, length-decimal 2 v h, length-decimal 2 w l))

links-length : (starts ends links : List ℕ) → length links ≤ 4096 → ((i : ℕ) → i < length links → get_or starts i 0 < 1000)
    → ((i : ℕ) → i < length links → get_or ends i 0 < 1000) → length (link_items starts ends links) ≤ 32768
unfolding link_items
links-length starts ends links h s e = marked-length 4096 7 links _ h (λ i l. link-length (get_or starts i 0) (get_or ends i 0) (s i l) (e i l))

-- the pieces together
line-length : (c : ℕ) (nodes links : List ℕ) → c < 1000 → length nodes ≤ 2048 → length links ≤ 32768 → length (place_line c nodes links) ≤ longest_line
unfolding place_line bytes
line-length c nodes links h n l = simp length-append (omega (arith, length-decimal 2 c h))

-- the centre's line: "a board has 0 to 512 nodes and at most 4,096 links"
pub centre-length : (pattern board : Circuit) (c : ℕ) → Bounded Board board → c < length board.labels → length (centre_line pattern board c) ≤ longest_line
unfolding centre_line
centre-length pattern board c b h = go (has_place pattern board c)
  where
    nodes : length (node_items (place_nodes pattern board c (radius_of pattern))) ≤ 2048
    nodes = nodes-length (place_nodes pattern board c (radius_of pattern)) (omega (arith, b.nodes, (nodes-marks pattern board c (radius_of pattern)).size))

    links : length (link_items board.starts board.ends (place_links pattern board c (radius_of pattern))) ≤ 32768
    links =
        let m = (links-marks pattern board c (radius_of pattern)).size in
        links-length board.starts board.ends (place_links pattern board c (radius_of pattern)) (omega (arith, b.links))
        (λ i l. omega (arith, b.nodes, all-below-at (length board.labels) board.starts i (starts-below _ _ _ b.below) (omega arith)))
        (λ i l. omega (arith, b.nodes, all-below-at (length board.labels) board.ends i (ends-below _ _ _ b.below) (omega (arith, b.parallel))))

    go : (found : Bool) →
        length (cond found
        (place_line c (node_items (place_nodes pattern board c (radius_of pattern))) (link_items board.starts board.ends (place_links pattern board c (radius_of pattern))))
        []) ≤ longest_line
    go true = line-length c _ _ (omega (arith, b.nodes)) nodes links
    go false = omega arith

-- the last line and a refusal
pub end-length : (k n : ℕ) → k < 100000 → n < 1000 → length (end_line k n) ≤ 17
unfolding end_line bytes
end-length k n h l = simp length-append (omega (arith, length-decimal 4 k h, length-decimal 2 n l))

pub word-length : (f : File) → length (file_word f) ≤ 8
unfolding file_word bytes
word-length file.Pattern = omega arith
word-length file.Board = omega arith
word-length file.Neither = omega arith

pub refusal-length : (x : Refusal) → x.number < 1000 → length (refusal_line x) ≤ 20
unfolding refusal_line bytes
refusal-length x h = simp length-append (omega (arith, length-decimal 2 x.number h, word-length x.file))

-- so there is room for a centre's line wherever there is room for the longest
pub centre-fits : {out : List ℕ} {at : ℕ} (pattern board : Circuit) (c : ℕ) → Bounded Board board → c < length board.labels → at + longest_line ≤ length out
    → Fits out at (centre_line pattern board c)
centre-fits pattern board c b h room = record { room = omega (arith, centre-length pattern board c b h) }
