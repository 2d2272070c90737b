-- What the place's outcome comes to, by cases of whether the centre is found. Assumes nothing.
use Rattle.std.specs.Prelude.{◌≡◌, ◌++◌, Ok, Err}
use Rattle.base_lists.specs.Kit.{◌∙◌, sym, ap, false, true, List, ℕ, length, get_or, drop, eq-eqb, ne_eqb}
use Rattle.graph.specs.Circuit.{Circuit}
use Rattle.file_format.specs.declared.File.TheVariants.{Neither}
use Rattle.file_format.specs.Reading.{filled}
use Rattle.file_format.specs.Refusals.{accept}
use Rattle.table.specs.declared.Counts.{Counts}
use Rattle.table.specs.Refine.{counts_of}
use Rattle.place.specs.Match.{ball_of, distances_of, ball_table, found, place_nodes, place_links, place_table}
use Rattle.place.specs.Outcome.{place_reply, place_verdict, place_around}
use Rattle.place.proofs.Marks.{nodes-marks, links-marks, length-table, length-ball_distances}

-- whether the centre is found is whether its set in the ball's table is not empty
pub found_none : (pattern board : Circuit) (w r : ℕ) (sets : List ℕ) → sets ≡ ball_table pattern board w r → get_or sets w 0 ≡ 0 → found pattern board w r ≡ false
unfolding found
found_none pattern board w r sets e z = rw (eq-eqb _ 0 (ap (λ (l : List ℕ). get_or l w 0) (sym e) ∙ z))

pub found_some : (pattern board : Circuit) (w r : ℕ) (sets : List ℕ) → sets ≡ ball_table pattern board w r → (get_or sets w 0 ≡ 0 → ⊥) → found pattern board w r ≡ true
unfolding found
found_some pattern board w r sets e f = rw (ne_eqb _ 0 (λ q. f (ap (λ (l : List ℕ). get_or l w 0) e ∙ q)))

-- The centre is not found: number 9 with the ball's counts, and the tables as they were.
pub around-none :
    (pattern board : Circuit) (w r : ℕ) (counts : Counts) → counts ≡ counts_of pattern board (ball_of board w r) → found pattern board w r ≡ false →
    (nodes links table distances : List ℕ) →
    record {
      reply = place_reply (Err (record { refusal = record { number = 9; file = Neither }; counts = counts }));
      nodes = nodes;
      links = links;
      table = table;
      distances = distances;
    }
    ≡ place_around pattern board w r nodes links table distances
unfolding place_around place_verdict place_reply filled
around-none pattern board w r counts k e nodes links table distances = rw (e, k)

-- entries that stand at the front of a table have filled it
prefix : (values old : List ℕ) {left : List ℕ} {n : ℕ} → length values ≡ n → left ≡ values ++ drop n old → left ≡ filled accept values old
unfolding filled
prefix values old size e = e ∙ ap (λ (k : ℕ). values ++ drop k old) (sym size)

-- It is found: the place is written at the front of three tables, and the distances in the ball at the front of the fourth.
pub around-some :
    (pattern board : Circuit) (w r : ℕ) (counts : Counts) → counts ≡ counts_of pattern board (ball_of board w r) → found pattern board w r ≡ true →
    (nodes links table distances : List ℕ) {nodes' links' table' distances' : List ℕ} →
    nodes' ≡ place_nodes pattern board w r ++ drop (length board.labels) nodes →
    links' ≡ place_links pattern board w r ++ drop (length board.starts) links →
    table' ≡ place_table pattern board w r ++ drop (length board.labels) table →
    distances' ≡ distances_of board w r ++ drop (length board.labels) distances →
    record { reply = place_reply (Ok counts); nodes = nodes'; links = links'; table = table'; distances = distances' }
    ≡ place_around pattern board w r nodes links table distances
unfolding place_around place_verdict place_reply
around-some pattern board w r counts k e nodes links table distances en el et ed =
    rw (
      e,
      k,
      prefix (place_nodes pattern board w r) nodes (nodes-marks pattern board w r).size en,
      prefix (place_links pattern board w r) links (links-marks pattern board w r).size el,
      prefix (place_table pattern board w r) table (length-table pattern board w r) et,
      prefix (distances_of board w r) distances (length-ball_distances board w r) ed,
    )
