-- Ask 6: what equal is, and the converter. Assumes nothing.
use Rattle.std.specs.Prelude.{◌≡◌, ◌≤◌, ◌<◌}
use Rattle.base_lists.specs.Kit.{◌∙◌, ap, refl, Bool, false, true, List, ℕ, ltb, length, get_or, take, get_or-eq_default, take_at, arith, ltb-false, ltb-true}
use Rattle.base_lists.specs.List.{Below}
use Rattle.base_lists.proofs.Tables.{get_d_tabulate}
use Rattle.base_lists.proofs.Entries.{below-get_or, below_all}
use Rattle.file_format.specs.Circuit.{circuit_of}
use Rattle.file_format.specs.Label.{label, labels}
use Rattle.file_format.specs.Layout.{CircuitFile, in_edition, length_of, nodes_of, links_of, kinds_of, packages_of, labels_of}
use Rattle.file_format.proofs.Fields.{package-count-le, length-kinds, length-packages, length-labels}
use Rattle.file_format.proofs.FirstEdition.{first-packages, kinds-low}
use Rattle.file_format.proofs.Labels.{label-kind, label-package}
use Rattle.table.specs.Host.{KindsMatch}
use Rattle.call_convert.specs.Call.{converted_bytes, ConvertOutcome, converting}
use Rattle.call_convert.proofs.Promise.{converted-length, converted-circuit, convert-sound, convert-accepts, there_and_back}
use Rattle.demands.specs.Packages.{kind_at, package_at, Ask6}

-- ---- which part and node are equal

-- a node's label, past the last node too
label_at : (file : CircuitFile) (v : ℕ) → get_or (labels_of file) v 0 ≡ label (kind_at file v) (package_at file v)
unfolding labels_of labels label
label_at file v = go (ltb v (nodes_of file)) refl
  where
    go : (t : Bool) → ltb v (nodes_of file) ≡ t → get_or (labels_of file) v 0 ≡ label (kind_at file v) (package_at file v)
    go true e = get_d_tabulate (length (kinds_of file)) _ v 0 (rw (length-kinds file) (ltb-true v (nodes_of file) e))
    go false e =
        let past = ltb-false v (nodes_of file) e in
        let enough = package-count-le file.edition (nodes_of file) in
        let inLabels : length (labels_of file) ≤ v = rw (length-labels file) past in
        let inKinds : length (kinds_of file) ≤ v = rw (length-kinds file) past in
        let inPackages : length (packages_of file) ≤ v = rw (length-packages file) (omega arith) in
        rw (get_or-eq_default (labels_of file) 0 inLabels, get_or-eq_default (kinds_of file) 0 inKinds, get_or-eq_default (packages_of file) 0 inPackages)

kind-low : (file : CircuitFile) → Below 256 file.bytes → (v : ℕ) → kind_at file v < 65536
kind-low file low = below-get_or 65536 (kinds_of file) (omega arith) (kinds-low file (below-get_or 256 file.bytes (omega arith) low))

-- "Packages": the equality, and the converter.
pub ask-6 : Ask6
unfolding KindsMatch
ask-6 =
    record {
      long = λ n m. omega arith;
      none = first-packages;
      equals = λ pattern board p b u v.
          rw (
            label_at pattern u,
            label_at board v,
            label-kind (kind_at pattern u) (package_at pattern u) (kind-low pattern p u),
            label-kind (kind_at board v) (package_at board v) (kind-low board b v),
            label-package (kind_at pattern u) (package_at pattern u) (kind-low pattern p u),
            label-package (kind_at board v) (package_at board v) (kind-low board b v),
          ) (λ m. m, λ m. m);
      converts = λ role to file out out' bytes ok room.
          let s = convert-sound role to file out ok in
          let o = convert-accepts role to file out s in
          let size : get_or (converting role to file out).reply.values 0 0 ≡ length_of to (nodes_of file) (links_of file) = ap (λ (o : ConvertOutcome). get_or o.reply.values 0 0) o in
          let prefix : take (length_of to (nodes_of file) (links_of file)) (converting role to file out).out ≡ converted_bytes to file =
          ap (λ (o : ConvertOutcome). take (length_of to (nodes_of file) (links_of file)) o.out) o
          ∙ take_at (converted_bytes to file) _ _ (converted-length role to file s.content) in
          rw size (
            ap (λ (b : List ℕ). circuit_of (in_edition to b)) prefix ∙ converted-circuit role to file s.content s.kept,
            ap (λ (o : ConvertOutcome). take (length file.bytes) o.out) (there_and_back role to file out out' (below_all 256 file.bytes bytes) ok room)
                ∙ take_at file.bytes _ (length file.bytes) refl,
          );
    }
