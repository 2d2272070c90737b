-- From a pattern's table on itself the passes make its classes and its quotient by them, the merged pattern. Assumes nothing.
use Rattle.std.specs.Prelude.{◌≡◌, ◌≤◌, ◌<◌}
use Rattle.base_lists.specs.Kit.{◌∙◌, sym, ap, List, [], ℕ, le_trans, lt_of_lt_of_le, length, get_or, take, sets, arith, ltb-false}
use Rattle.base_lists.proofs.Tests.{not-true-false}
use Rattle.base_lists.specs.List.{Below}
use Rattle.base_lists.proofs.Entries.{all-below}
use Rattle.base_lists.proofs.Parts.{take-sets}
use Rattle.graph.specs.Circuit.{Circuit, circuit}
use Rattle.graph.specs.Search.{connected}
use Rattle.file_format.specs.declared.Edition.TheVariants.{First}
use Rattle.file_format.specs.declared.Role.TheVariants.{Pattern}
use Rattle.file_format.specs.Links.{links_below, rising}
use Rattle.file_format.specs.Refusals.{accept, first, link_conditions, asks_connected}
use Rattle.file_format.proofs.Refusals.{first_holds}
use Rattle.table.specs.declared.Counts.{Counts}
use Rattle.table.specs.Refine.{MatchedOn}
use Rattle.file_format.proofs.Accepted.{bounded-starts, bounded-ends}
use Rattle.file_write.specs.Writing.{circuit_conditions}
use Rattle.file_write.proofs.Writing.{sound}
use Rattle.merge.specs.Merged.{self_table, class_of, class_count, classes, merged}
use Rattle.merge.specs.Steps.{marks, scanned_starts, scanned_ends}
use Rattle.merge.proofs.Content.{PatternContent, most-parts, most-links, content-bounded}
use Rattle.merge.proofs.Classes.{self-fits, length-classes, class-at, class-lt, class_count-le}
use Rattle.merge.proofs.Merging.{length-merged-kinds, merged-kinds}
use Rattle.merge.proofs.Accepted.{merged-content, merged-links-le}
use Rattle.merge.proofs.Steps.{self-led, marks-classes, merged-starts, merged-ends}
use Rattle.merge_classes.specs.Passes.{SelfTable, leader_count, class_numbers, leader_labels}

-- ---- a circuit that writing does not refuse as a pattern is a pattern's content

pub sound-content :
    (kinds starts ends : List ℕ) → first (circuit_conditions Pattern First kinds [] starts ends) ≡ accept → PatternContent (circuit kinds starts ends)
unfolding link_conditions asks_connected
sound-content kinds starts ends ok =
    let s = sound Pattern First kinds [] starts ends ok in
    let n = length kinds in
    let h4 = first_holds _ _ s.links in
    let h5 = first_holds _ _ h4.1 in
    let h6 = first_holds _ _ h5.1 in
    let h11 = first_holds _ _ h6.1 in
    record {
      range = s.range;
      parallel = s.pairs;
      below = not-true-false (links_below n starts ends) h4.0;
      rises = not-true-false (rising starts ends) h5.0;
      joined = not-true-false (connected n starts ends) h6.0;
      narrow = ltb-false _ _ h11.0;
    }

-- ---- what was stored at the front

same-circuit : (q : Circuit) {kinds starts ends : List ℕ} → kinds ≡ q.labels → starts ≡ q.starts → ends ≡ q.ends → circuit kinds starts ends ≡ q
same-circuit q k s e = rw (k, s, e)

-- 32 rows in which all links between classes are marked
abbrev pub Rows : Circuit → List ℕ → Type 0
Rows p rows = rows ≡ marks 32 (class_of p) p.starts p.ends (length p.starts)

module _ {p : Circuit} (c : PatternContent p) where
  -- ---- the table

  pub matched-self : (t : List ℕ) (counts : Counts) → MatchedOn p p t counts → t ≡ self_table p
  unfolding self_table
  matched-self t counts m = m.last

  module _ (t : List ℕ) (self : t ≡ self_table p) where
    pub table-size : length t ≡ length p.labels
    table-size = ap length self ∙ (self-fits p).size

    pub table-ready : SelfTable t
    table-ready =
        rw self
        (record {
          few = rw (self-fits p).size (most-parts c);
          small = λ v. rw (self-fits p).size ((self-fits p).small v);
          led = rw (self-fits p).size (self-led c);
        })

    pub count-is : leader_count t ≡ class_count p
    unfolding leader_count class_count
    count-is = rw (table-size, self)

    pub numbers-are : class_numbers t ≡ classes p
    unfolding class_numbers classes class_of
    numbers-are = rw (table-size, self)

    pub kinds-are : leader_labels t p.labels ≡ (merged p).labels
    unfolding leader_labels
    kinds-are = rw (table-size, self) (sym (merged-kinds c))

  -- ---- the rows

  -- what the marking of rows asks
  pub starts-classed : (bytes : List ℕ) → bytes ≡ classes p → Below (length bytes) p.starts × Below (length bytes) p.ends
  starts-classed bytes e =
      let n = length p.labels in
      rw (e, length-classes p) (all-below n p.starts (bounded-starts (content-bounded c)), all-below n p.ends (bounded-ends (content-bounded c)))

  pub classes-below : (bytes : List ℕ) → bytes ≡ classes p → Below 32 bytes
  unfolding Below
  classes-below bytes e u h =
      let below : u < length p.labels = omega (arith, ap length e, length-classes p) in
      rw (e, class-at p u below) (lt_of_lt_of_le (class-lt c u below) (le_trans (class_count-le c) (most-parts c)))

  -- what it leaves
  pub rows_are :
      (bytes rows : List ℕ) (m : ℕ) → bytes ≡ classes p → m ≡ 32 →
      rows ≡ marks m (λ u. get_or bytes u 0) p.starts p.ends (length p.starts) → Rows p rows
  rows_are bytes rows m e w r = r ∙ rw (e, w) (marks-classes c 32)

  module _ (rows : List ℕ) (count : ℕ) (marked : Rows p rows) (all : count ≡ class_count p) where
    pub starts-are : scanned_starts count rows ≡ (merged p).starts
    starts-are = rw (all, marked) (sym (merged-starts c 32 (le_trans (class_count-le c) (most-parts c))))

    pub ends-are : scanned_ends count rows ≡ (merged p).ends
    ends-are = rw (all, marked) (sym (merged-ends c 32 (le_trans (class_count-le c) (most-parts c))))

    -- as many as the merged pattern has
    pub links-count : length (scanned_ends count rows) ≡ length (merged p).starts
    links-count = ap length ends-are ∙ sym (merged-content c).parallel

    -- the links have room in tables for a pattern's
    pub links-fit : length (scanned_ends count rows) ≤ 256
    links-fit = rw links-count (le_trans (merged-links-le c) (most-links c))

  pub classes-few : class_count p ≤ 32
  classes-few = le_trans (class_count-le c) (most-parts c)

  -- ---- the merged pattern, at the front of the three tables

  pub tables-merged :
      (k m : ℕ) (mk ms me mk₀ ms₀ me₀ t rows : List ℕ) → k ≡ class_count p → m ≡ length (scanned_ends k rows) → t ≡ self_table p → Rows p rows →
      mk ≡ sets mk₀ 0 (leader_labels t p.labels) → ms ≡ sets ms₀ 0 (scanned_starts k rows) → me ≡ sets me₀ 0 (scanned_ends k rows) →
      32 ≤ length mk₀ → 256 ≤ length ms₀ → 256 ≤ length me₀ → circuit (take k mk) (take m ms) (take m me) ≡ merged p
  tables-merged k m mk ms me mk₀ ms₀ me₀ t rows isK isM self marked ek es ee hk hs he =
      let kinds = kinds-are t self in
      let starts = starts-are rows k marked isK in
      let ends = ends-are rows k marked isK in
      let few : k ≤ 32 = rw isK classes-few in
      let short : m ≤ 256 = rw isM (links-fit rows k marked isK) in
      same-circuit (merged p)
      (ap (take k) ek ∙ take-sets mk₀ _ k (ap length kinds ∙ length-merged-kinds p ∙ sym isK) (le_trans few hk) ∙ kinds)
      (ap (take m) es ∙ take-sets ms₀ _ m (ap length starts ∙ sym (isM ∙ links-count rows k marked isK)) (le_trans short hs) ∙ starts)
      (ap (take m) ee ∙ take-sets me₀ _ m (sym isM) (le_trans short he) ∙ ends)
