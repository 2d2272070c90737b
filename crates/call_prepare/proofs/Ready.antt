-- What reading two files for a search comes to, by cases, and what a call knows of it. Assumes nothing.
use mathlib.Core.List.{List}
use mathlib.Core.Path.{◌≡◌, sym, ap, subst, ◌∙◌}
use Rattle.std.specs.Prelude.{Result, Ok, Err}
use Prim.Native.Nat.{ℕ}
use lib.ListN.{length, take}
use Rattle.graph.specs.Circuit.{Circuit, circuit}
use Rattle.graph.specs.Search.{radius}
use Rattle.simulation.specs.Simulation.{Direction}
use Rattle.file_format.specs.declared.Role.{Role}
use Rattle.file_format.specs.declared.Role.TheVariants.{Pattern}
use Rattle.file_format.specs.declared.Refusal.{Refusal}
use Rattle.file_format.specs.Circuit.{Bounded}
use Rattle.file_format.specs.Layout.{CircuitFile, labels_of, starts_of, ends_of}
use Rattle.file_format.specs.Reading.{prefix}
use Rattle.file_format.specs.Reply.{verdict_of}
use Rattle.file_format.specs.Refusals.{accept, refuse, first, asks_connected}
use Rattle.file_format.proofs.Fields.{length-labels}
use Rattle.file_format.proofs.Reading.{stands-room}
use Rattle.file_pair.specs.declared.Pair.{Pair}
use Rattle.file_pair.specs.Pair.{pair_conditions, PairRead}
use Rattle.file_pair.proofs.Both.{refused-pair, pattern-bounded, board-bounded, board-rises}
use Rattle.table.specs.Prepared.{Tables, PreparedBy}
use Rattle.call_prepare.specs.Read.{AsPattern, BothPrepared, PairPrepared}

-- ---- as the reading goes

-- what is read as a pattern is within a pattern's maxima
pub as-pattern : {r : Role} {c : Circuit} → AsPattern r → Bounded r c → Bounded Pattern c
as-pattern a b = record { nodes = rw a.nodes at b.nodes; links = rw a.links at b.links; parallel = b.parallel; below = b.below }

module _ {r : Role} {ways : List Direction} {pattern board : CircuitFile} {read : Result Pair Refusal} {parts nodes : Circuit} (p : PairRead r pattern board read parts nodes) where
  -- a file is refused
  pub pair-turned : {part_labels nodeLabels : List ℕ} {t : Tables} {x : Refusal} → read ≡ Err x
      → PairPrepared r ways pattern board (Err x) part_labels nodeLabels t
  unfolding verdict_of
  pair-turned e = record { verdict = sym (refused-pair p e); both = λ pair q. cc }

  -- both are accepted, and their links were prepared
  module _ {pair : Pair} (e : read ≡ Ok pair) {t : Tables} (same : AsPattern r)
      (made : PreparedBy ways (prefix pair.parts pair.joins parts) (prefix pair.nodes pair.links nodes) t) where
    both-prepared : BothPrepared r ways pattern board pair parts.labels nodes.labels t
    both-prepared =
        let both = p.both pair e in
        record {
          parts = record { room = (stands-room both.drawn).0; content = ap (λ (c : Circuit). c.labels) both.drawn.content };
          nodes = record { room = (stands-room both.given).0; content = ap (λ (c : Circuit). c.labels) both.given.content };
          measured = both.measured;
          drawn =
              rw (← both.drawn.content, ← both.given.content)
              (record { parts = as-pattern same (pattern-bounded both); nodes = board-bounded both; rise = board-rises both });
          prepared = rw (← both.drawn.content, ← both.given.content) made;
        }

    pub pair-ready : PairPrepared r ways pattern board (Ok pair) parts.labels nodes.labels t
    unfolding verdict_of
    pair-ready =
        record {
          verdict = sym (p.both pair e).verdict;
          both = λ other q.
              let is : pair ≡ other = cc in
              subst (λ (k : Pair). BothPrepared r ways pattern board k parts.labels nodes.labels t) is both-prepared;
        }

-- ---- what a call knows of the two files

module _
    {r : Role} {ways : List Direction} {pattern board : CircuitFile} {read : Result Pair Refusal} {part_labels nodeLabels : List ℕ} {t : Tables}
    (p : PairPrepared r ways pattern board read part_labels nodeLabels t) where
  -- what is passed up is the first refusal
  pub turned_pair : {x : Refusal} → read ≡ Err x → first (pair_conditions r pattern board) ≡ refuse x
  unfolding verdict_of
  turned_pair e = sym p.verdict ∙ ap verdict_of e

  pub ready-verdict : {pair : Pair} → read ≡ Ok pair → first (pair_conditions r pattern board) ≡ accept
  unfolding verdict_of
  ready-verdict e = sym p.verdict ∙ ap verdict_of e

-- what was prepared, by the labels at the fronts of the tables
pub ready-prepared :
    {r : Role} {ways : List Direction} {pattern board : CircuitFile} {read : Pair} {part_labels nodeLabels : List ℕ} {t : Tables} →
    BothPrepared r ways pattern board read part_labels nodeLabels t →
    PreparedBy ways (circuit (take read.parts part_labels) (starts_of pattern) (ends_of pattern)) (circuit (take read.nodes nodeLabels) (starts_of board) (ends_of board)) t
ready-prepared b = rw (b.parts.content, b.nodes.content) b.prepared

-- the radius of a pattern, which is connected
pub ready-radius :
    {ways : List Direction} {pattern board : CircuitFile} {read : Pair} {part_labels nodeLabels : List ℕ} {t : Tables} →
    BothPrepared Pattern ways pattern board read part_labels nodeLabels t → read.radius ≡ radius (length (labels_of pattern)) (starts_of pattern) (ends_of pattern)
unfolding asks_connected
ready-radius {pattern = pattern} b = b.measured tt ∙ sym (ap (λ (n : ℕ). radius n (starts_of pattern) (ends_of pattern)) (length-labels pattern))
