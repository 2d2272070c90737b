-- For files of the first edition all is as it was before there were packages: `first-edition`. Assumes nothing.
use Rattle.std.specs.Prelude.{◌≡◌, ◌∷◌, ◌++◌, ◌+◌, ◌*◌}
use Rattle.base_lists.specs.Kit.{◌∙◌, ap, refl, false, not, and-true, List, [], ℕ, eqb, length, drop, arith, le-ltb}
use Rattle.graph.specs.Circuit.{Circuit}
use Rattle.file_format.specs.declared.Edition.TheVariants.{First}
use Rattle.file_format.specs.declared.Role.{Role}
use Rattle.file_format.specs.Circuit.{circuit_of}
use Rattle.file_format.specs.Layout.{first_edition, field, fields, nodes_of, links_of, kinds_of, labels_of, starts_of, ends_of}
use Rattle.file_format.specs.Reading.{filled, read_conditions, reading}
use Rattle.file_format.specs.Refusals.{Condition, Verdict, accept, refuse, first, link_conditions, file_conditions, short_table}
use Rattle.file_format.specs.Role.{in_range, file_of}
use Rattle.file_format.proofs.FirstEdition.{first-packages, first-labels, first-length}
use Rattle.file_write.specs.Bytes.{stretch_bytes, kinds_for, circuit_bytes}
use Rattle.file_write.specs.Writing.{packages_given, circuit_conditions, write_conditions, writing}
use Rattle.merge.specs.Merged.{merged}
use Rattle.call_merge.specs.Call.{merged_bytes}
use Rattle.demands.specs.FirstEdition.{circuit_before, file_before, reading_before, bytes_before, writing_before, FirstEdition}

-- ---- what a file holds

module _ (file : List ℕ) where
  kinds-before : labels_of (first_edition file) ≡ (circuit_before file).labels
  unfolding circuit_before kinds_of nodes_of
  kinds-before = first-labels file

  starts-before : starts_of (first_edition file) ≡ (circuit_before file).starts
  unfolding circuit_before starts_of nodes_of links_of
  starts-before =
      let at : 4 + 2 * field file 0 + 2 * 0 ≡ 4 + 2 * field file 0 = omega arith in
      ap (λ (k : ℕ). fields (drop k file) (field file 2)) at

  ends-before : ends_of (first_edition file) ≡ (circuit_before file).ends
  unfolding circuit_before ends_of nodes_of links_of
  ends-before =
      let at : 4 + 2 * field file 0 + 2 * 0 + 2 * field file 2 ≡ 4 + 2 * field file 0 + 2 * field file 2 = omega arith in
      ap (λ (k : ℕ). fields (drop k file) (field file 2)) at

  held-before : circuit_of (first_edition file) ≡ circuit_before file
  held-before = rw (kinds-before, starts-before, ends-before)

  asked-before : (role : Role) → file_conditions role (first_edition file) ≡ file_before role file
  unfolding file_conditions file_before nodes_of links_of
  asked-before role =
      rw (first-length (field file 0) (field file 2), starts-before, ends-before)

-- ---- reading

-- a condition that does not hold may be left out
left_out : (cs : List Condition) (a c : Condition) (ds : List Condition) → c.holds ≡ false → first (cs ++ (a ∷ c ∷ ds)) ≡ first (cs ++ (a ∷ ds))
unfolding first
left_out [] a c ds e = rw e
left_out (x ∷ cs) a c ds e = rw (left_out cs a c ds e)

filled_none : (v : Verdict) (l : List ℕ) → filled v [] l ≡ l
unfolding filled
filled_none accept l = refl
filled_none (refuse x) l = refl

-- no table is too short for no entries
none-asked : (lent : ℕ) → (short_table 0 lent).holds ≡ false
unfolding short_table
none-asked lent = le-ltb lent 0 (omega arith)

verdict-before : (role : Role) (file : List ℕ) (k p s e : ℕ)
    → first (read_conditions role (first_edition file) k p s e)
    ≡ first (file_before role file ++ (short_table (field file 0) k ∷ short_table (field file 2) s ∷ short_table (field file 2) e ∷ []))
unfolding read_conditions nodes_of links_of
verdict-before role file k p s e =
    let n = field file 0 in
    let m = field file 2 in
    ap (λ (cs : List Condition). first (cs ++ (short_table n k ∷ short_table 0 p ∷ short_table m s ∷ short_table m e ∷ []))) (asked-before file role)
    ∙ left_out (file_before role file) (short_table n k) (short_table 0 p) (short_table m s ∷ short_table m e ∷ []) (none-asked p)

-- ---- writing

module _ (role : Role) (kinds packages starts ends : List ℕ) where
  circuit-before :
      circuit_conditions role First kinds packages starts ends
      ≡ record { number = 2; file = file_of role; holds = not (in_range role (length kinds) (length starts)) } ∷
      record { number = 3; file = file_of role; holds = not (eqb (length starts) (length ends)) } ∷
      link_conditions role (length kinds) starts ends
  unfolding circuit_conditions packages_given
  circuit-before = rw (and-true (eqb (length starts) (length ends)))

  writes-before : (out : List ℕ) → writing role First kinds packages starts ends out ≡ writing_before role (record { labels = kinds; starts = starts; ends = ends }) out
  unfolding writing writing_before write_conditions bytes_before stretch_bytes
  writes-before out = rw (circuit-before, first-length (length kinds) (length starts))

-- "a first-edition file counts as having all packages 0": nothing moved for it
pub first-edition : FirstEdition
unfolding reading reading_before nodes_of links_of kinds_of circuit_before merged_bytes circuit_bytes kinds_for stretch_bytes bytes_before
first-edition =
    record {
      asked = λ role file. asked-before file role;
      held = held-before;
      reads = λ role file kinds packages starts ends.
          rw (verdict-before role file (length kinds) (length packages) (length starts) (length ends), first-packages file, filled_none, starts-before file, ends-before file);
      writes = writes-before;
      merges = λ file. ap (λ (c : Circuit). bytes_before (merged c)) (held-before file);
    }
