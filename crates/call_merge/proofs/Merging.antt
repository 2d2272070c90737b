-- What the merging call comes to, by cases: a refused pattern, a short table of classes, too few bytes for the file, or the merged pattern.
-- Assumes nothing.
use Rattle.std.specs.Prelude.{◌≡◌, ◌++◌, ◌≤◌, ◌<◌, Ok, Err}
use Rattle.base_lists.specs.Kit.{◌∙◌, sym, ap, subst, List, [], ℕ, length, get_or, take, drop, le-ltb, lt-ltb}
use Rattle.graph.specs.Circuit.{Circuit}
use Rattle.file_format.specs.declared.Edition.{Edition}
use Rattle.file_format.specs.declared.Edition.TheVariants.{First, Second}
use Rattle.file_format.specs.declared.File.TheVariants.{Neither}
use Rattle.file_format.specs.declared.Refusal.{Refusal}
use Rattle.file_format.specs.declared.Role.TheVariants.{Pattern}
use Rattle.file_format.specs.Circuit.{circuit_of}
use Rattle.file_format.specs.Layout.{CircuitFile, in_edition, nodes_of, length_of, labels_of}
use Rattle.file_format.specs.Reading.{filled, prefix, Stands}
use Rattle.file_format.specs.Refusals.{accept, refuse, first, file_conditions, short_table}
use Rattle.file_format.specs.Reply.{reply}
use Rattle.file_format.proofs.FirstEdition.{first-labels-low}
use Rattle.file_format.proofs.Fields.{length-labels}
use Rattle.file_format.proofs.Refusals.{accepted, first-accept, first-refuse}
use Rattle.file_format.proofs.Reading.{stands-size}
use Rattle.file_write.specs.Bytes.{LabelsFit}
use Rattle.file_write.specs.Writing.{circuit_conditions}
use Rattle.merge.specs.Merged.{classes}
use Rattle.merge.proofs.Content.{accepted-content}
use Rattle.merge.proofs.Classes.{length-classes}
use Rattle.merge_file.specs.declared.Merged.{Merged}
use Rattle.merge_file.specs.Merged.{MergedFrom}
use Rattle.call_merge.specs.Call.{merge_conditions, merge_reply, merged_bytes, merging}
use Rattle.merge_file.proofs.Written.{content-sound}

-- ---- the pattern that was read

module _ {file : CircuitFile} {n m : ℕ} {t : Circuit} (sound : first (file_conditions Pattern file) ≡ accept) (s : Stands file n m t) where
  -- writing it as a pattern would not be refused,
  pub prefix-sound : first (circuit_conditions Pattern First (take n t.labels) [] (take m t.starts) (take m t.ends)) ≡ accept
  prefix-sound =
      subst (λ (c : Circuit). first (circuit_conditions Pattern First c.labels [] c.starts c.ends) ≡ accept) (sym s.content)
      (content-sound (accepted-content (accepted Pattern file sound)))

  -- and its file has the length of the one that was read
  pub prefix-length : length_of file.edition (length (take n t.labels)) (length (take m t.starts)) ≡ length file.bytes
  prefix-length =
      let (k, a, _) = stands-size s in
      rw (k, a, s.nodes, s.links) (sym (accepted Pattern file sound).size)

-- its labels fit the edition, where the file is of bytes
fit-edition : (e : Edition) (bytes : List ℕ) → ((i : ℕ) → get_or bytes i 0 < 256) → LabelsFit e (labels_of (in_edition e bytes))
unfolding LabelsFit
fit-edition First bytes low = first-labels-low bytes low
fit-edition Second bytes low = tt

pub prefix-fits : (e : Edition) (bytes : List ℕ) {n m : ℕ} {t : Circuit} → Stands (in_edition e bytes) n m t → ((i : ℕ) → get_or bytes i 0 < 256) → LabelsFit e (take n t.labels)
prefix-fits e bytes s low = rw (ap (λ (c : Circuit). c.labels) s.content) (fit-edition e bytes low)

-- ---- the verdict

module _ (file : CircuitFile) (lent out : List ℕ) where
  verdict-file : (x : Refusal) → first (file_conditions Pattern file) ≡ refuse x → first (merge_conditions file (length lent) (length out)) ≡ refuse x
  unfolding merge_conditions
  verdict-file x e = first-refuse _ _ x e

  module _ (sound : first (file_conditions Pattern file) ≡ accept) where
    verdict-classes :
        length lent < nodes_of file → first (merge_conditions file (length lent) (length out)) ≡ refuse (record { number = 8; file = Neither })
    unfolding merge_conditions first short_table
    verdict-classes h = rw (first-accept _ _ sound) (simp (lt-ltb _ _ h))

    module _ (enough : nodes_of file ≤ length lent) where
      verdict-out : length out < length file.bytes → first (merge_conditions file (length lent) (length out)) ≡ refuse (record { number = 8; file = Neither })
      unfolding merge_conditions first short_table
      verdict-out h = rw (first-accept _ _ sound) (simp (le-ltb _ _ enough, lt-ltb _ _ h))

      pub verdict-accept : length file.bytes ≤ length out → first (merge_conditions file (length lent) (length out)) ≡ accept
      unfolding merge_conditions first short_table
      verdict-accept h = rw (first-accept _ _ sound) (simp (le-ltb _ _ enough, le-ltb _ _ h))

  -- ---- the outcome

  refused :
      (x : Refusal) → first (merge_conditions file (length lent) (length out)) ≡ refuse x →
      record { reply = merge_reply (Err x); classes = lent; out = out } ≡ merging file lent out
  unfolding merging merge_reply reply filled
  refused x e = rw e

  merged :
      first (merge_conditions file (length lent) (length out)) ≡ accept →
      {made : Merged} {bytes after : List ℕ} → MergedFrom file.edition (circuit_of file) made bytes out after →
      record { reply = merge_reply (Ok made); classes = bytes ++ drop (nodes_of file) lent; out = after } ≡ merging file lent out
  unfolding merging merge_reply merged_bytes reply filled
  merged e m =
      let size : length (classes (circuit_of file)) ≡ nodes_of file = length-classes (circuit_of file) ∙ length-labels file in
      rw (e, m.counted, m.sized, m.numbered, m.stored, size)

  -- ---- as the call goes

  pub merging-file :
      (x : Refusal) → first (file_conditions Pattern file) ≡ refuse x →
      record { reply = merge_reply (Err x); classes = lent; out = out } ≡ merging file lent out
  merging-file x e = refused x (verdict-file x e)

  -- The file was read.
  module _ {n m : ℕ} {t : Circuit} (sound : first (file_conditions Pattern file) ≡ accept) (drawn : Stands file n m t) where
    pub merging-classes :
        length lent < n →
        record { reply = merge_reply (Err (record { number = 8; file = Neither })); classes = lent; out = out } ≡ merging file lent out
    merging-classes h = refused _ (verdict-classes sound (rw (← drawn.nodes) h))

    module _ (enough : n ≤ length lent) where
      pub merging-out :
          length out < length file.bytes →
          record { reply = merge_reply (Err (record { number = 8; file = Neither })); classes = lent; out = out } ≡ merging file lent out
      merging-out h = refused _ (verdict-out sound (rw (← drawn.nodes) enough) h)

      pub merging-merged :
          length file.bytes ≤ length out → {made : Merged} {bytes after : List ℕ} →
          MergedFrom file.edition (prefix n m t) made bytes out after →
          record { reply = merge_reply (Ok made); classes = bytes ++ drop n lent; out = after } ≡ merging file lent out
      merging-merged h made =
          rw drawn.nodes
          (merged (verdict-accept sound (rw (← drawn.nodes) enough) h) (rw drawn.content at made))
