-- Striking over masks, neighbour tables and a list of nodes is the striking of the row. Assumes nothing.
use Rattle.std.specs.Prelude.{◌≡◌, ◌&&◌, ◌<◌}
use Rattle.base_lists.specs.Kit.{◌∙◌, sym, ap, refl, ap₂, Bool, List, ℕ, suc, zero, length, get_or}
use Rattle.base_lists.specs.List.{tabulate}
use Rattle.base_lists.proofs.Tests.{T_false, false-T}
use Rattle.base_lists.proofs.Tables.{tabulate-same}
use Rattle.base_bits.specs.Bits.{bit, subset_of, union_at}
use Rattle.base_bits.proofs.Digits.{bit-of-zero, same_bits}
use Rattle.base_bits.proofs.Numbers.{number_same}
use Rattle.graph.specs.Circuit.{Circuit}
use Rattle.simulation.specs.Simulation.{Direction, forwards, backwards}
use Rattle.table_row.specs.Problem.{Problem}
use Rattle.table_row.specs.Row.{strike_of, every, row_from}
use Rattle.table_row.specs.Masks.{mask_of, covered, next_set, StepsWithin}
use Rattle.table_row.proofs.Masks.{masks-strike}
use Rattle.table_row.proofs.Begin.{begins-fits, begins-times}
use Rattle.table.specs.Host.{host_graph}
use Rattle.table.specs.Row.{in_table, neighbours, problem_by}
use Rattle.table.specs.Fill.{marks_of, Cleared}
use Rattle.table.specs.Prepared.{masks_of, counting, Tables, PreparedBy}
use Rattle.table.specs.First.{BeginsBy}
use Rattle.table_strike.specs.Strike.{survivors, strike_node}
use Rattle.table_largest.specs.Rounds.{strike_table, strike_times}
use Rattle.table.proofs.Begun.{inside-marks}
use Rattle.table.proofs.Row.{Table, start-for}
use Rattle.table.proofs.Masks.{neighbours-below}
use Rattle.table.proofs.Directions.{counting-covered, every-among}

-- ---- one node, one round

-- the test of two masks, of the directions that count, is that of every way
survivors-next :
    (ways : List Direction) (pattern host : Circuit) (taken old : List ℕ) (v : ℕ) →
    survivors (masks_of 32 (counting ways forwards pattern.starts) (counting ways forwards pattern.ends))
    (masks_of 32 (counting ways backwards pattern.ends) (counting ways backwards pattern.starts))
    (union_at old (neighbours host forwards v)) (union_at old (neighbours host backwards v)) (get_or old v 0)
    ≡ next_set (problem_by ways pattern host taken) old v
unfolding survivors next_set covered problem_by neighbours mask_of masks_of
survivors-next ways pattern host taken old v =
    let f : ℕ = union_at old (neighbours host forwards v) in
    let b : ℕ = union_at old (neighbours host backwards v) in
    let there : ℕ → Bool = λ u. subset_of (get_or (masks_of 32 (counting ways forwards pattern.starts) (counting ways forwards pattern.ends)) u 0) f in
    let back : ℕ → Bool = λ u. subset_of (get_or (masks_of 32 (counting ways backwards pattern.ends) (counting ways backwards pattern.starts)) u 0) b in
    let each : ℕ → Direction → Bool = λ u. covered (problem_by ways pattern host taken) old u v in
    number_same 32 (λ u. bit (get_or old v 0) u && (there u && back u)) (λ u. bit (get_or old v 0) u && every (each u) ways)
    (λ u h.
    ap (λ (c : Bool). bit (get_or old v 0) u && c)
    (ap₂ ◌&&◌ (counting-covered ways forwards pattern.starts pattern.ends u f h) (counting-covered ways backwards pattern.ends pattern.starts u b h)
    ∙ sym (every-among ways (each u))))

module _ (ways : List Direction) (pattern host : Circuit) (t : Tables) (p : PreparedBy ways pattern host t) (taken : List ℕ) where
  abbrev problem : Problem Direction
  problem = problem_by ways pattern host taken

  steps-within : StepsWithin problem
  unfolding problem_by
  steps-within = record { below = λ d u h. neighbours-below (length pattern.labels) pattern p.starts p.ends d u }

  node-next : (old : List ℕ) (v : ℕ) → v < length host.labels → strike_node t old v ≡ next_set problem old v
  unfolding strike_node problem_by neighbours mask_of masks_of
  node-next old v l = rw (p.masked.succ, p.masked.pred, p.net.drives v l, p.net.driven_by v l) (survivors-next ways pattern host taken old v)

  -- a round is one step of the row
  pub strike-row : (old : List ℕ) → Table pattern host old → strike_table t old ≡ strike_of problem old
  unfolding strike_table problem_by
  strike-row old fits =
      ap (λ (m : ℕ). tabulate m (strike_node t old)) fits.size
      ∙ tabulate-same (length host.labels) (strike_node t old) (next_set problem old) (node-next old)
      ∙ masks-strike problem p.parts steps-within fits

-- ---- the first table

-- a table to begin with is empty outside the list
pub begins-cleared :
    (ways : List Direction) (pattern host : Circuit) (nodes : List ℕ) {first : List ℕ} → BeginsBy ways pattern host (marks_of (length host.labels) nodes) first → Cleared nodes first
unfolding Cleared in_table host_graph problem_by
begins-cleared ways pattern host nodes {first} b v h e =
    let marks : List ℕ = marks_of (length host.labels) nodes in
    same_bits (get_or first v 0) 0
    (λ u.
    T_false
    (λ m.
    false-T (inside-marks (length host.labels) nodes v (rw b.long at h) ∙ e) ((start-for ways pattern host marks u v).0 (b.within u v m)).node.marked)
    ∙ sym (bit-of-zero u))

-- ---- the row

module _ (ways : List Direction) (pattern host : Circuit) (t : Tables) (p : PreparedBy ways pattern host t) (nodes : List ℕ) {first : List ℕ}
    (b : BeginsBy ways pattern host (marks_of (length host.labels) nodes) first) where
  abbrev marks : List ℕ
  marks = marks_of (length host.labels) nodes

  -- k rounds from a table to begin with are k steps of the row from it
  pub times-row : (k : ℕ) → strike_times t first k ≡ row_from (problem_by ways pattern host marks) first k
  unfolding strike_times row_from problem_by
  times-row zero = refl
  times-row (suc k) =
      let old = begins-times (problem_by ways pattern host marks) p.parts b k in
      ap (strike_table t) (times-row k)
      ∙ strike-row ways pattern host t p marks (row_from (problem_by ways pattern host marks) first k) (begins-fits (problem_by ways pattern host marks) old)
