-- What opening two files comes to, by cases, and what a piece knows of files that were opened. Assumes nothing.
use Rattle.std.specs.Prelude.{◌≡◌, ◌++◌, ◌≤◌, ◌<◌, Result, Ok, Err}
use Rattle.base_lists.specs.Kit.{◌∙◌, sym, ap, subst, List, ℕ, le_trans, length, take, drop, length-append, length-drop, length-take-le, take_at, arith}
use Rattle.file_format.specs.declared.Refusal.{Refusal}
use Rattle.file_format.specs.declared.Role.TheVariants.{Pattern}
use Rattle.file_format.specs.Circuit.{circuit_of}
use Rattle.file_format.specs.Layout.{CircuitFile, labels_of}
use Rattle.file_format.specs.Reply as Reply
use Rattle.file_format.specs.Refusals.{accept, refuse, first}
use Rattle.file_pair.specs.declared.Pair.{Pair}
use Rattle.file_pair.specs.Pair.{pair_conditions}
use Rattle.table.specs.declared.Counts.{Counts}
use Rattle.table.specs.Prepared.{Tables}
use Rattle.table.specs.Row.{both_directions}
use Rattle.table_whole.specs.Kinds.{SomeLinks, EveryMatched}
use Rattle.place.specs.Match.{radius_of}
use Rattle.place.specs.Spread.{matched}
use Rattle.place_components.specs.Components.{Components}
use Rattle.report_locate.specs.Source.{Source}
use Rattle.call_prepare.specs.Read.{BothPrepared, PairPrepared}
use Rattle.call_prepare.proofs.Ready.{turned_pair, ready-verdict, ready-prepared, ready-radius}
use Rattle.call_open.specs.Opened.{Lines, OpenedBoth, LinesRoom, Opened}

-- ---- two files that were read and prepared

module _ {pattern board : CircuitFile} {read : Pair} {part_labels nodeLabels : List ℕ} {t : Tables} (b : BothPrepared Pattern both_directions pattern board read part_labels nodeLabels t) where
  -- what matching starts from
  pub opened-links : SomeLinks (take read.parts part_labels) (take read.nodes nodeLabels) t
  opened-links = record { ways = both_directions; part_starts = _; part_ends = _; node_starts = _; node_ends = _; prepared = ready-prepared b }

  -- the board's N
  pub opened-count : read.nodes ≡ length (labels_of board)
  opened-count = sym (length-take-le _ _ b.nodes.room) ∙ ap length b.nodes.content

  pub opened-few : read.nodes ≤ 512
  opened-few = rw opened-count b.drawn.nodes.nodes

  -- lines can be put from the whole board's table
  pub opened-source : {whole : List ℕ} {counts : Counts} → EveryMatched (take read.parts part_labels) (take read.nodes nodeLabels) t whole counts
      → Source (circuit_of pattern) (circuit_of board) t whole read.radius
  unfolding radius_of
  opened-source every =
      record {
        drawn = b.drawn;
        ready = b.prepared;
        whole = rw (b.parts.content, b.nodes.content) at (every _ _ _ _ _ (ready-prepared b)).last;
        own = ready-radius b;
      }

  -- ---- the tables that have it at their fronts

  module _ (from : ℕ) (whole componentOf sizes : List ℕ) where
    both-opened : LinesRoom whole componentOf sizes
        → (from ≤ read.nodes
        → Lines (circuit_of pattern) (circuit_of board) read.radius t (take read.nodes whole) (take read.nodes componentOf) (take read.nodes sizes))
        → OpenedBoth from (circuit_of pattern) (circuit_of board) read t whole componentOf sizes
    both-opened long lines =
        record {
          drawn = b.drawn;
          nodes = opened-count;
          room = (omega (arith, opened-few, long.0), omega (arith, opened-few, long.1), omega (arith, opened-few, long.2));
          lines = lines;
        }

  module _ (from : ℕ) where
    -- no lines are left,
    pub opened-past : {whole componentOf sizes : List ℕ} → read.nodes < from → LinesRoom whole componentOf sizes
        → OpenedBoth from (circuit_of pattern) (circuit_of board) read t whole componentOf sizes
    opened-past past long = both-opened _ _ _ _ long (λ h. absurd (omega arith))

    -- or what they are put from was made
    pub opened-lines : {whole componentOf sizes : List ℕ} (ws ls ss : List ℕ) {counts : Counts} → LinesRoom ws ls ss
        → (length whole ≡ read.nodes) × (length componentOf ≡ read.nodes) × (length sizes ≡ read.nodes)
        → EveryMatched (take read.parts part_labels) (take read.nodes nodeLabels) t whole counts → Components (length whole) (matched t whole) whole componentOf sizes
        → OpenedBoth from (circuit_of pattern) (circuit_of board) read t (whole ++ drop read.nodes ws) (componentOf ++ drop read.nodes ls) (sizes ++ drop read.nodes ss)
    opened-lines {whole} {componentOf} {sizes} ws ls ss long size every components =
        both-opened _ _ _ _ (longer whole ws size.0 long.0, longer componentOf ls size.1 long.1, longer sizes ss size.2 long.2)
        (λ h.
        rw (take_at whole (drop read.nodes ws) _ size.0, take_at componentOf (drop read.nodes ls) _ size.1, take_at sizes (drop read.nodes ss) _ size.2)
        (record { source = opened-source every; components = components }))
      where
        longer : (xs old : List ℕ) → length xs ≡ read.nodes → length old ≡ 512 → length (xs ++ drop read.nodes old) ≡ 512
        longer xs old e l = simp (length-append, length-drop) (omega (arith, opened-few))

-- ---- the two files

module _ {pattern board : CircuitFile} {read : Result Pair Refusal} {part_labels nodeLabels : List ℕ} {t : Tables} (p : PairPrepared Pattern both_directions pattern board read part_labels nodeLabels t) (from : ℕ)
    {whole componentOf sizes : List ℕ} where
  -- one is refused,
  pub opened-refused : {x : Refusal} → read ≡ Err x → Opened from pattern board (Err x) t whole componentOf sizes
  unfolding Reply.verdict_of
  opened-refused e = record { verdict = sym (turned_pair p e); both = λ pair q. cc }

  -- or both are accepted
  pub opened-accepted : {pair : Pair} → read ≡ Ok pair → OpenedBoth from (circuit_of pattern) (circuit_of board) pair t whole componentOf sizes
      → Opened from pattern board (Ok pair) t whole componentOf sizes
  unfolding Reply.verdict_of
  opened-accepted {pair} e o =
      record {
        verdict = sym (ready-verdict p e);
        both = λ other q.
            let is : pair ≡ other = cc in
            subst (λ (k : Pair). OpenedBoth from (circuit_of pattern) (circuit_of board) k t whole componentOf sizes) is o;
      }

-- ---- what a piece knows

-- files that were opened from a centre on are opened from a later one on
pub opened-later : {from later : ℕ} {pattern board : CircuitFile} {read : Result Pair Refusal} {t : Tables} {whole componentOf sizes : List ℕ} → from ≤ later
    → Opened from pattern board read t whole componentOf sizes → Opened later pattern board read t whole componentOf sizes
opened-later h o =
    record {
      verdict = o.verdict;
      both = λ pair e. let b = o.both pair e in record { drawn = b.drawn; nodes = b.nodes; room = b.room; lines = λ l. b.lines (le_trans h l) };
    }

module _ {from : ℕ} {pattern board : CircuitFile} {read : Result Pair Refusal} {t : Tables} {whole componentOf sizes : List ℕ} (o : Opened from pattern board read t whole componentOf sizes) where
  pub opened-turned : {x : Refusal} → read ≡ Err x → first (pair_conditions Pattern pattern board) ≡ refuse x
  unfolding Reply.verdict_of
  opened-turned e = sym o.verdict ∙ ap Reply.verdict_of e

  pub opened-verdict : {pair : Pair} → read ≡ Ok pair → first (pair_conditions Pattern pattern board) ≡ accept
  unfolding Reply.verdict_of
  opened-verdict e = sym o.verdict ∙ ap Reply.verdict_of e
