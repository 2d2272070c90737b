-- What preparing and listing every node come to. Assumes nothing.
use Rattle.std.specs.Prelude.{◌≡◌}
use Rattle.base_lists.specs.Kit.{◌∙◌, sym, ap, refl, subst, ap₂, Bool, cond, List, [], ℕ, length, replicate, arith}
use Rattle.base_lists.proofs.Parts.{halved, part-first, part-second, length-halved}
use Rattle.graph.specs.Circuit.{Circuit}
use Rattle.graph.specs.Net.{NetOf}
use Rattle.file_format.specs.declared.Role.TheVariants.{Pattern}
use Rattle.file_format.specs.Circuit.{Bounded}
use Rattle.file_format.proofs.Accepted.{bounded-starts, bounded-ends}
use Rattle.table.specs.declared.Counts.{Counts}
use Rattle.base_lists.specs.List.{any, tabulate}
use Rattle.base_lists.proofs.Entries.{all-below}
use Rattle.base_bits.specs.Bits.{number_of}
use Rattle.graph.specs.Neighbours.{select}
use Rattle.simulation.specs.Simulation.{Direction, forwards, backwards}
use Rattle.table.specs.Fill.{listed, marks_of, all_nodes}
use Rattle.table.specs.Host.{everything}
use Rattle.table.specs.Refine.{RefinedBy, MatchedBy}
use Rattle.table.specs.Prepared.{masks_of, succ_of, pred_of, counting, MaskedBy, Masked, Tables, PreparedBy}
use Rattle.table.specs.Row.{ways_of, among}
use Rattle.table.specs.declared.Ways.{Ways}
use Rattle.table.proofs.NodeLists.{all-marks}
use Rattle.table.proofs.PreparedMasks.{length-masks}
use Rattle.table.proofs.Directions.{counting-both, counting-forwards}

-- A list of masks that is filled in two halves: the first by the masks of the links followed forwards, the second by those of the links
-- followed backwards, where that direction counts, and of none where it does not.
pub masked : (ways : Ways) (starts ends old : List ℕ) {back : Bool} {xs ys : List ℕ} → length old ≡ 64
    → back ≡ among (ways_of ways) backwards → xs ≡ masks_of 32 starts ends → ys ≡ masks_of 32 (cond back ends []) (cond back starts [])
    → MaskedBy (ways_of ways) starts ends (halved 32 xs ys old)
unfolding counting
masked ways starts ends old {back} {xs} {ys} room counts isSucc isPred =
    let first : length xs ≡ 32 = ap length isSucc ∙ length-masks 32 starts ends in
    let second : length ys ≡ 32 = ap length isPred ∙ length-masks 32 (cond back ends []) (cond back starts []) in
    record {
      room = length-halved 32 xs ys old first second (omega arith) ∙ room;
      succ = part-first 32 xs ys old first ∙ isSucc ∙ ap₂ (masks_of 32) (sym (counting-forwards ways starts)) (sym (counting-forwards ways ends));
      pred = part-second 32 xs ys old first second ∙ isPred ∙ ap (λ (b : Bool). masks_of 32 (cond b ends []) (cond b starts [])) counts;
    }

pub masked-succ : {starts ends masks : List ℕ} → Masked starts ends masks → succ_of masks ≡ masks_of 32 starts ends
masked-succ {starts} {ends} m = m.succ ∙ ap₂ (masks_of 32) (counting-both forwards starts) (counting-both forwards ends)

pub masked-pred : {starts ends masks : List ℕ} → Masked starts ends masks → pred_of masks ≡ masks_of 32 ends starts
masked-pred {starts} {ends} m = m.pred ∙ ap₂ (masks_of 32) (counting-both backwards ends) (counting-both backwards starts)

-- the masks of no links are empty
pub none-masks : replicate 32 0 ≡ masks_of 32 [] []
unfolding masks_of tabulate select listed any number_of
none-masks = refl

-- Masks and neighbour tables as `prepare` leaves them are those of the pattern and the circuit.
pub prepared :
    {ways : List Direction} {pattern host : Circuit} {t : Tables} → Bounded Pattern pattern → MaskedBy ways pattern.starts pattern.ends t.masks →
    NetOf (length host.labels) host.starts host.ends t.offsets t.targets → PreparedBy ways pattern host t
prepared {pattern = pattern} p masked net =
    record {
      parts = p.nodes;
      starts = all-below _ pattern.starts (bounded-starts p);
      ends = all-below _ pattern.ends (bounded-ends p);
      masked = masked;
      net = net;
    }

-- ---- every node listed

-- the list of all nodes, where it has a place for each
pub listed-all : {m n : ℕ} {nodes : List ℕ} → m ≡ n → nodes ≡ all_nodes m → nodes ≡ all_nodes n
listed-all long e = e ∙ ap all_nodes long

-- what is refined over it is refined over the whole board
pub refined-everything :
    {ways : List Direction} {pattern board : Circuit} {nodes table : List ℕ} {counts : Counts} → nodes ≡ all_nodes (length board.labels) →
    RefinedBy ways pattern board (marks_of (length board.labels) nodes) table counts → MatchedBy ways pattern board table counts
unfolding everything
refined-everything {ways} {pattern} {board} {nodes} {table} {counts} e r =
    subst (λ (taken : List ℕ). RefinedBy ways pattern board taken table counts) (ap (marks_of (length board.labels)) e ∙ all-marks (length board.labels)) r
