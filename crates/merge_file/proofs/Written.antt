-- The merged pattern, made at the front of three tables: writing it as a pattern of either edition gives its file, and is not refused. Assumes nothing.
use Rattle.std.specs.Prelude.{◌≡◌, ◌≤◌, ◌<◌, Result, Ok}
use Rattle.base_lists.specs.Kit.{◌∙◌, sym, ap, refl, subst, true, List, [], ℕ, le_trans, T, le_of_eq, lit≤, length, get_or, take, get_or-eq_default, arith, le-ltb}
use native.Mathlib.Decide.{dec_lt}
use Rattle.base_lists.proofs.Tests.{T_true}
use Rattle.base_lists.specs.List.{Below}
use Rattle.base_lists.proofs.Tables.{length-tabulate, get_d_tabulate}
use Rattle.graph.specs.Circuit.{Circuit, circuit}
use Rattle.graph.specs.Search.{connected, radius}
use Rattle.file_format.specs.declared.Edition.{Edition}
use Rattle.file_format.specs.declared.Edition.TheVariants.{First, Second}
use Rattle.file_format.specs.declared.Size.{Size}
use Rattle.file_format.specs.declared.Refusal.{Refusal}
use Rattle.file_format.specs.declared.Role.TheVariants.{Pattern}
use Rattle.file_format.specs.Label.{packages_in}
use Rattle.file_format.specs.Layout.{length_of}
use Rattle.file_format.specs.Role.{in_range}
use Rattle.file_format.specs.Links.{links_below, rising}
use Rattle.file_format.specs.Reading.{filled}
use Rattle.file_format.specs.Refusals.{accept, first, widest, link_conditions, asks_connected}
use Rattle.file_format.specs.Reply.{number_reply}
use Rattle.file_write.specs.Bytes.{kinds_for, circuit_bytes, LabelsFit}
use Rattle.file_write.specs.Writing.{circuit_conditions, WriteOutcome, writing}
use Rattle.file_write.proofs.FileFields.{length-written}
use Rattle.file_write.proofs.RoundTrip.{length-kinds-for, packages-in-given}
use Rattle.file_write.proofs.Writing.{verdict-links, writing-filled}
use Rattle.merge.specs.Merged.{class_of, class_count, first_member, grouped, merged}
use Rattle.merge.proofs.Content.{PatternContent}
use Rattle.merge.proofs.Merging.{length-merged-kinds}
use Rattle.merge.proofs.Accepted.{merged-content, merged-length-le}
use Rattle.merge_classes.specs.Passes.{Quotient}
use Rattle.merge_quotient.proofs.Passes.{classes-few}
use Rattle.merge_file.specs.Merged.{MergedFrom}

-- ---- a pattern's content is a circuit that writing does not refuse as a pattern

-- no condition on the links holds
content-links : {p : Circuit} → PatternContent p → first (link_conditions Pattern (length p.labels) p.starts p.ends) ≡ accept
unfolding first link_conditions asks_connected
content-links {p} c =
    let n = length p.labels in
    let below : links_below n p.starts p.ends ≡ true = T_true c.below in
    let rises : rising p.starts p.ends ≡ true = T_true c.rises in
    let joined : connected n p.starts p.ends ≡ true = T_true c.joined in
    simp (below, rises, joined, le-ltb widest (radius n p.starts p.ends) c.narrow)

pub content-sound : {p : Circuit} → PatternContent p → first (circuit_conditions Pattern First p.labels [] p.starts p.ends) ≡ accept
content-sound {p} c = verdict-links Pattern First p.labels [] p.starts p.ends (T_true c.range) c.parallel refl ∙ content-links c

-- the same of its kinds and packages, in either edition
pub content-range : (e : Edition) {p : Circuit} → PatternContent p → T (in_range Pattern (length (kinds_for e p.labels)) (length p.starts))
content-range e {p} c = rw (length-kinds-for e p.labels) c.range

pub content-sound-in : (e : Edition) {p : Circuit} → PatternContent p
    → first (circuit_conditions Pattern e (kinds_for e p.labels) (packages_in p.labels) p.starts p.ends) ≡ accept
content-sound-in e {p} c =
    verdict-links Pattern e (kinds_for e p.labels) (packages_in p.labels) p.starts p.ends (T_true (content-range e c)) c.parallel (packages-in-given e p)
    ∙ rw (length-kinds-for e p.labels) (content-links c)

-- an entry of a list whose entries are of 16 bits, or 0 past its end
label-low : (ls : List ℕ) → ((i : ℕ) → i < length ls → get_or ls i 0 < 65536) → (i : ℕ) → get_or ls i 0 < 65536
label-low ls low i = go (dec_lt i (length ls))
  where
    go : Dec (i < length ls) → get_or ls i 0 < 65536
    go (yes h) = low i h
    go (no h) = rw (get_or-eq_default ls 0 {n = i} (omega arith)) (omega arith)

-- ---- the merged pattern, as the quotient leaves it

module _ {p : Circuit} (c : PatternContent p) where
  -- each front has the size that was counted
  pub quotient-size :
      {bytes kinds starts ends : List ℕ} {size : Size} → Quotient p bytes kinds starts ends size →
      (length (take size.nodes kinds) ≡ size.nodes) × (length (take size.links starts) ≡ size.links) × (length (take size.links ends) ≡ size.links)
  quotient-size q = (
    ap (λ (x : Circuit). length x.labels) q.content ∙ length-merged-kinds p ∙ sym q.counted,
    ap (λ (x : Circuit). length x.starts) q.content ∙ sym q.linked,
    ap (λ (x : Circuit). length x.ends) q.content ∙ sym (merged-content c).parallel ∙ sym q.linked,
  )

  -- ---- its labels are among the pattern's

  labels-fit : (e : Edition) → LabelsFit e p.labels → LabelsFit e (merged p).labels
  unfolding LabelsFit Below merged grouped
  labels-fit Second fit = tt
  labels-fit First fit = λ a h.
      rw (get_d_tabulate (class_count p) _ a 0 (subst (λ (k : ℕ). a < k) (length-tabulate (class_count p) _) h)) (label-low p.labels fit (first_member p (class_of p) a))

  -- ---- written, it is the merged file

  module _ (e : Edition) where
    written :
        (kinds starts ends out : List ℕ) → circuit kinds starts ends ≡ merged p → length_of e (length p.labels) (length p.starts) ≤ length out →
        writing Pattern e (kinds_for e kinds) (packages_in kinds) starts ends out
        ≡ record { answer = Ok (length (circuit_bytes e (merged p))); reply = number_reply (Ok (length (circuit_bytes e (merged p)))); out = filled accept (circuit_bytes e (merged p)) out }
    unfolding circuit_bytes
    written kinds starts ends out is room =
        let q = merged p in
        let k : kinds ≡ q.labels = ap (λ (x : Circuit). x.labels) is in
        let s : starts ≡ q.starts = ap (λ (x : Circuit). x.starts) is in
        let t : ends ≡ q.ends = ap (λ (x : Circuit). x.ends) is in
        let long : length_of e (length (kinds_for e q.labels)) (length q.starts) ≤ length out = rw (length-kinds-for e q.labels) (le_trans (merged-length-le c e) room) in
        rw (k, s, t)
        (writing-filled Pattern e (kinds_for e q.labels) (packages_in q.labels) q.starts q.ends out (content-sound-in e (merged-content c)) long
        ∙ rw (sym (length-written e (kinds_for e q.labels) (packages_in q.labels) q.starts q.ends (packages-in-given e q) (merged-content c).parallel)))

    module _ {bytes kinds starts ends : List ℕ} {size : Size} (q : Quotient p bytes kinds starts ends size) where
      -- what writing it asks: few parts, whose labels are among the pattern's
      pub asked : LabelsFit e p.labels → (length (take size.nodes kinds) ≤ 512) × LabelsFit e (take size.nodes kinds)
      asked fit = (
        le_trans (le_of_eq ((quotient-size q).0 ∙ q.counted)) (le_trans (classes-few c) (lit≤ tt)),
        rw (ap (λ (x : Circuit). x.labels) q.content) (labels-fit e fit),
      )

      -- it is written,
      pub written-answer :
          {answer : Result ℕ Refusal} {after : List ℕ} (before : List ℕ) → length_of e (length p.labels) (length p.starts) ≤ length before →
          record { answer = answer; reply = number_reply answer; out = after }
          ≡ writing Pattern e (kinds_for e (take size.nodes kinds)) (packages_in (take size.nodes kinds)) (take size.links starts) (take size.links ends) before →
          answer ≡ Ok (length (circuit_bytes e (merged p)))
      written-answer before room wrote = ap (λ (o : WriteOutcome). o.answer) (wrote ∙ written _ _ _ before q.content room)

      -- and that is what it leaves
      pub merged-from :
          {answer : Result ℕ Refusal} {after : List ℕ} (before : List ℕ) → length_of e (length p.labels) (length p.starts) ≤ length before →
          record { answer = answer; reply = number_reply answer; out = after }
          ≡ writing Pattern e (kinds_for e (take size.nodes kinds)) (packages_in (take size.nodes kinds)) (take size.links starts) (take size.links ends) before →
          {long : ℕ} → answer ≡ Ok long → MergedFrom e p (record { classes = size.nodes; size = long }) bytes before after
      merged-from {answer} before room wrote {long} told =
          let made : answer ≡ Ok (length (circuit_bytes e (merged p))) = written-answer before room wrote in
          record {
            counted = q.counted;
            sized = cc;
            numbered = q.numbered;
            stored = ap (λ (o : WriteOutcome). o.out) (wrote ∙ written _ _ _ before q.content room);
          }
