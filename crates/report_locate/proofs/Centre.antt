-- The line of one centre: none where the whole board's table leaves the centre empty, else from the place that was
-- found. Assumes nothing.
use Rattle.std.specs.Prelude.{◌≡◌, ◌≤◌}
use Rattle.base_lists.specs.Kit.{◌∙◌, sym, ap, refl, Bool, false, true, List, [], ℕ, length, get_or}
use Rattle.base_lists.proofs.Tests.{T_false, false-T}
use Rattle.base_bits.specs.Bits.{bit}
use Rattle.base_bits.proofs.Digits.{bit-of-zero, no_bits}
use Rattle.graph.specs.Circuit.{Circuit}
use Rattle.graph.specs.Net.{Net}
use Rattle.table.specs.Host.{everything}
use Rattle.table.specs.Row.{in_table, InTable}
use Rattle.table.specs.Prepared.{Tables}
use Rattle.table.proofs.Host.{everything-taken}
use Rattle.table.proofs.Meaning.{last_fits}
use Rattle.table.proofs.Narrow.{last_wider}
use Rattle.place.specs.Match.{radius_of, ball_of, ball_table, found}
use Rattle.place.specs.Find.{Tabled, Located}
use Rattle.place.proofs.Ball.{ball-fits}
use Rattle.place.proofs.Find.{drawn-tabled, tabled-net}
use Rattle.place.proofs.Outcome.{found_none}
use Rattle.report.specs.Lines.{line_text}
use Rattle.report.specs.Report.{has_place, centre_line}
use Rattle.report.proofs.Centre.{centre-missed, centre-located}
use Rattle.report_locate.specs.Source.{Source}

module _ {pattern board : Circuit} {t : Tables} {table : List ℕ} {r : ℕ} (s : Source pattern board t table r) where
  pub source-tabled : Tabled pattern board t
  source-tabled = drawn-tabled s.drawn s.ready

  -- the whole board's table has an entry for each node
  pub source-long : length table ≡ length board.labels
  source-long = ap length s.whole ∙ (last_fits pattern board (everything board)).size

  pub source-few : length table ≤ 512
  source-few = rw source-long s.drawn.nodes.nodes

  -- the neighbour tables are over its entries
  pub source-net : {n : ℕ} → n ≡ length table → Net n t.offsets t.targets
  source-net e = rw (e ∙ source-long) (tabled-net source-tabled)

  -- ---- the line

  -- a ball's table lies inside the whole board's
  ball-inside : (c u : ℕ) → InTable (ball_table pattern board c (radius_of pattern)) u c → InTable table u c
  unfolding ball_table
  ball-inside c u m =
      rw s.whole
      (last_wider pattern board (ball_of board c (radius_of pattern)) (everything board) s.drawn.parts.nodes (λ v h. everything-taken board v h.below) u c m)

  -- so a centre that this leaves empty has no place, and no line
  pub whole-missed : (c : ℕ) → get_or table c 0 ≡ 0 → centre_line pattern board c ≡ []
  unfolding has_place in_table
  whole-missed c z =
      let ball = ball_table pattern board c (radius_of pattern) in
      centre-missed pattern board c
      (found_none pattern board c (radius_of pattern) ball refl
      (no_bits (length pattern.labels) (get_or ball c 0) ((ball-fits pattern board c (radius_of pattern)).small c)
      (λ u l. T_false (λ m. false-T (ap (λ (x : ℕ). bit x u) z ∙ bit-of-zero u) (ball-inside c u m)))))

  -- What finding answers is whether there is a place: where there is none, the report has no line,
  pub source-missed : (c : ℕ) (b : Bool) → b ≡ found pattern board c r → b ≡ false → centre_line pattern board c ≡ []
  unfolding has_place
  source-missed c b e f = centre-missed pattern board c (rw (← s.own) (sym e ∙ f))

  -- and where there is one, the line that is put is the centre's
  pub source-line : (c : ℕ) (b : Bool) {dist sets place : List ℕ} → b ≡ found pattern board c r → b ≡ true
      → Located pattern board t c r dist sets place → line_text t dist sets c ≡ centre_line pattern board c
  unfolding has_place
  source-line c b e f l =
      centre-located s.ready s.drawn.nodes.parallel source-tabled.starts s.drawn.rise c (rw (← s.own) (sym e ∙ f)) (rw s.own at l)
