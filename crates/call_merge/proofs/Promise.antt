-- What the merging call's promise means, of its own reply and bytes: a refusal is one of the conditions and keeps both tables; else the
-- merged file is an accepted pattern file that holds the merged pattern, and the class bytes are the classes of mutual matching, numbered
-- by their smallest part. Assumes nothing.
use Rattle.std.specs.Prelude.{◌≡◌, ◌↔◌, ◌&&◌, ◌∷◌, ◌++◌, ◌≤◌, ◌<◌, Result, Ok, Err}
use Rattle.base_lists.specs.Kit.{◌∙◌, sym, ap, refl, true, List, [], ℕ, le_antisymm, leb, le→leb, length, take, drop, get_or-append, take_at, drop_at, arith, eq-eqb, le-ltb}
use Rattle.base_lists.proofs.Tests.{T_true, both_true}
use Rattle.graph.specs.Circuit.{Circuit, circuit_graph}
use Rattle.simulation.specs.Closed.{Relation}
use Rattle.simulation.specs.Simulation.{Largest}
use Rattle.simulation.specs.Quotient.{Mutual}
use Rattle.simulation.proofs.Simulation.{largest-unique}
use Rattle.file_format.specs.declared.Edition.{Edition}
use Rattle.file_format.specs.declared.Refusal.{Refusal}
use Rattle.file_format.specs.declared.Role.TheVariants.{Pattern, Board}
use Rattle.file_format.specs.Circuit.{circuit_of}
use Rattle.file_format.specs.Layout.{CircuitFile, in_edition, nodes_of, links_of, starts_of, ends_of}
use Rattle.file_format.specs.Links.{links_below, rising}
use Rattle.file_format.specs.Reading.{filled}
use Rattle.file_format.specs.Refusals.{accept, refuse, first, file_conditions, link_conditions, asks_connected, Accepted}
use Rattle.file_format.specs.Reply.{Reply, reply}
use Rattle.file_format.specs.Role.{in_range}
use Rattle.file_format.proofs.Fields.{length-labels}
use Rattle.file_format.proofs.Refusals.{accepted, accepted-any, first-parts, range-orders, reply-verdict}
use Rattle.table.specs.Host.{KindsMatch}
use Rattle.table.specs.Row.{both_directions, InTable}
use Rattle.call_match.specs.Call.{matching}
use Rattle.call_match.proofs.Promise as matched
use Rattle.file_write.specs.Bytes.{circuit_bytes}
use Rattle.file_write.proofs.RoundTrip.{same-verdict, packages-in-given, circuit-again}
use Rattle.merge.specs.Merged.{class_of, class_count, classes, merged}
use Rattle.merge.proofs.Content.{PatternContent, accepted-content}
use Rattle.merge.proofs.Classes.{leader_of, self-largest, length-classes, class-at, class-iff, class-lt, class-rises, class-onto, equivalent-iff, leader-lt, leader-member, leader-min}
use Rattle.merge.proofs.Accepted.{merged-content}
use Rattle.merge_file.specs.declared.Merged.{Merged}
use Rattle.call_merge.specs.Call.{merge_conditions, merge_reply, merged_bytes, merging}
use Rattle.call_merge.specs.Classes.{class_byte, Smallest}
use Rattle.merge_file.proofs.Written.{content-range, content-sound-in}
use Rattle.call_merge.proofs.Merging.{verdict-accept}

-- ---- the two cases of the answer, told apart by what document 01 says of them

pub reply-merged : (r : Result Merged Refusal) (count size : ℕ) → merge_reply r ≡ record { verdict = accept; values = count ∷ size ∷ [] }
    → r ≡ Ok (record { classes = count; size = size })
unfolding merge_reply
reply-merged (Ok made) count size e =
    let v : made.classes ∷ made.size ∷ [] ≡ count ∷ size ∷ [] = ap (λ (p : Reply). p.values) e in
    let k : made.classes ≡ count = cc in
    let n : made.size ≡ size = cc in
    rw (← k, ← n) refl
reply-merged (Err x) count size e = let apart : refuse x ≡ accept = ap (λ (p : Reply). p.verdict) e in cc

pub reply-refused : (r : Result Merged Refusal) (x : Refusal) → (merge_reply r).verdict ≡ refuse x → r ≡ Err x
unfolding merge_reply
reply-refused (Ok made) x e = cc
reply-refused (Err y) x e = cc

-- ---- the file of a circuit that can be the content of a pattern file, in either edition

module _ (e : Edition) {q : Circuit} (c : PatternContent q) where
  -- it is accepted as a pattern file,
  content-verdict : first (file_conditions Pattern (in_edition e (circuit_bytes e q))) ≡ accept
  unfolding circuit_bytes
  content-verdict = sym (same-verdict Pattern e _ _ _ _ (content-range e c) c.parallel (packages-in-given e q)) ∙ content-sound-in e c

  pub content-accepted : Accepted Pattern (in_edition e (circuit_bytes e q))
  content-accepted = accepted Pattern _ content-verdict

  -- and holds the circuit
  pub content-circuit : circuit_of (in_edition e (circuit_bytes e q)) ≡ q
  content-circuit = circuit-again e q c.parallel

-- ---- the merged file of an accepted pattern file

module _ {file : CircuitFile} (a : Accepted Pattern file) where
  content : PatternContent (circuit_of file)
  content = accepted-content a

  -- "the merged file has the pattern's edition"
  abbrev merged_file : CircuitFile
  merged_file = in_edition file.edition (merged_bytes file.edition (circuit_of file))

  -- it is accepted as a pattern file,
  pub merged-verdict : first (file_conditions Pattern merged_file) ≡ accept
  unfolding merged_bytes
  merged-verdict = content-verdict file.edition (merged-content content)

  pub merged-accepted : Accepted Pattern merged_file
  merged-accepted = accepted Pattern _ merged-verdict

  -- holds the merged pattern,
  pub merged-circuit : circuit_of merged_file ≡ merged (circuit_of file)
  unfolding merged_bytes
  merged-circuit = content-circuit file.edition (merged-content content)

-- ---- an accepted pattern file is accepted as a board too, so that it can be matched on itself

board-verdict : {file : CircuitFile} → Accepted Pattern file → first (file_conditions Board file) ≡ accept
unfolding first file_conditions link_conditions asks_connected
board-verdict {file} a =
    let n = nodes_of file in
    let m = links_of file in
    let (some, parts, links) = range-orders Pattern n m a.range in
    let range : in_range Board n m ≡ true =
    T_true (both_true (leb 0 n) (leb n 512 && leb m 4096) (le→leb 0 n (omega arith)) (both_true (leb n 512) (leb m 4096) (le→leb n 512 (omega arith)) (le→leb m 4096 (omega arith)))) in
    let below : links_below n (starts_of file) (ends_of file) ≡ true = T_true a.below in
    let rises : rising (starts_of file) (ends_of file) ≡ true = T_true a.rises in
    simp (le-ltb _ _ a.bytes, range, eq-eqb _ _ a.size, below, rises)

pub pattern-board : {file : CircuitFile} → Accepted Pattern file → Accepted Board file
pattern-board {file} a = accepted Board file (board-verdict a)

matches-itself :
    (file : CircuitFile) → first (file_conditions Pattern file) ≡ accept → (table : List ℕ) → nodes_of file ≤ length table →
    (matching file file table).reply.verdict ≡ accept
matches-itself file sound table room =
    let a = accepted Pattern file sound in
    matched.accepts both_directions file file table (accepted-any a) (pattern-board a) room

module _ (file : CircuitFile) (lent out : List ℕ) where
  verdict-is : (merging file lent out).reply.verdict ≡ first (merge_conditions file (length lent) (length out))
  unfolding merging
  verdict-is = reply-verdict _ _

  -- ---- refusals

  -- and then "All lent tables keep their content", and it replies with no values.
  pub refused-keeps :
      (x : Refusal) → (merging file lent out).reply.verdict ≡ refuse x →
      ((merging file lent out).reply.values ≡ []) × ((merging file lent out).classes ≡ lent) × ((merging file lent out).out ≡ out)
  unfolding merging reply filled
  refused-keeps x e =
      let v : first (merge_conditions file (length lent) (length out)) ≡ refuse x = sym verdict-is ∙ e in
      (rw v, rw v, rw v)

  -- An accepted pattern file is not refused where N class bytes are lent and as many bytes as the file has.
  pub accepts :
      first (file_conditions Pattern file) ≡ accept → nodes_of file ≤ length lent → length file.bytes ≤ length out →
      (merging file lent out).reply.verdict ≡ accept
  accepts sound n l = verdict-is ∙ verdict-accept file lent out sound n l

  -- ---- an accepted call

  module _ (ok : (merging file lent out).reply.verdict ≡ accept) where
    sound : first (merge_conditions file (length lent) (length out)) ≡ accept
    sound = sym verdict-is ∙ ok

    pub pattern-sound : first (file_conditions Pattern file) ≡ accept
    unfolding merge_conditions
    pattern-sound = (first-parts (file_conditions Pattern file) _ sound).0

    pub pattern-accepted : Accepted Pattern file
    pattern-accepted = accepted Pattern file pattern-sound

    -- it "replies with the number of classes and that file's length",
    pub values-are : (merging file lent out).reply.values ≡ class_count (circuit_of file) ∷ length (merged_bytes file.edition (circuit_of file)) ∷ []
    unfolding merging reply
    values-are = rw sound

    classes-are : (merging file lent out).classes ≡ classes (circuit_of file) ++ drop (nodes_of file) lent
    unfolding merging filled
    classes-are = rw (sound, length-classes (circuit_of file), length-labels file)

    out-is : (merging file lent out).out ≡ merged_bytes file.edition (circuit_of file) ++ drop (length (merged_bytes file.edition (circuit_of file))) out
    unfolding merging filled
    out-is = rw sound

    classes-size : length (classes (circuit_of file)) ≡ nodes_of file
    classes-size = length-classes (circuit_of file) ∙ length-labels file

    -- gives "the class of each part, a byte each, and the merged file",
    pub classes-prefix : take (nodes_of file) (merging file lent out).classes ≡ classes (circuit_of file)
    classes-prefix = rw classes-are (take_at _ _ (nodes_of file) classes-size)

    pub out-prefix : take (length (merged_bytes file.edition (circuit_of file))) (merging file lent out).out ≡ merged_bytes file.edition (circuit_of file)
    out-prefix = rw out-is (take_at _ _ _ refl)

    -- and the bytes behind both keep their content.
    pub classes-rest : drop (nodes_of file) (merging file lent out).classes ≡ drop (nodes_of file) lent
    classes-rest = rw classes-are (drop_at (classes (circuit_of file)) _ (nodes_of file) classes-size)

    pub out-rest :
        drop (length (merged_bytes file.edition (circuit_of file))) (merging file lent out).out ≡ drop (length (merged_bytes file.edition (circuit_of file))) out
    out-rest = rw out-is (drop_at (merged_bytes file.edition (circuit_of file)) _ _ refl)

    -- ---- the class bytes

    below_parts : (u : ℕ) → u < nodes_of file → u < length (circuit_of file).labels
    below_parts u h = rw (length-labels file) h

    -- each is the class of its part
    pub byte-is : (u : ℕ) → u < nodes_of file → class_byte file lent out u ≡ class_of (circuit_of file) u
    byte-is u h =
        let p = circuit_of file in
        rw classes-are (get_or-append (classes p) _ 0 u (rw classes-size h) ∙ class-at p u (below_parts u h))

    -- "Two parts share a class exactly when each matches the other": in the largest dual simulation of the pattern in itself,
    pub share-iff :
        {S : Relation} → Largest (circuit_graph (circuit_of file)) (KindsMatch (circuit_of file) (circuit_of file)) (circuit_graph (circuit_of file)) S →
        (u v : ℕ) → u < nodes_of file → v < nodes_of file → (class_byte file lent out u ≡ class_byte file lent out v) ↔ Mutual S u v
    share-iff {S} l u v h k =
        let c = content pattern-accepted in
        let own = self-largest c in
        let same = class-iff c u v (below_parts u h) (below_parts v k) in
        let pairs = equivalent-iff c u v in
        rw (byte-is u h, byte-is v k) (
          λ e. let (there, back) = pairs.0 (same.0 e) in (largest-unique own l u v there, largest-unique own l v u back),
          λ (there, back). same.1 (pairs.1 (largest-unique l own u v there, largest-unique l own v u back)),
        )

    -- which is "the pattern's table on itself", as the match-table call leaves it.
    pub share-table :
        (table : List ℕ) → nodes_of file ≤ length table → (u v : ℕ) → u < nodes_of file → v < nodes_of file →
        (class_byte file lent out u ≡ class_byte file lent out v) ↔ Mutual (InTable (matching file file table).table) u v
    share-table table room u v h k =
        let own = self-largest (content pattern-accepted) in
        let same = share-iff own u v h k in
        let called = matches-itself file pattern-sound table room in
        let there = matched.entry-bit file file table called own u v k in
        let back = matched.entry-bit file file table called own v u h in (
          λ e. let (s, t) = same.0 e in (there.1 s, back.1 t),
          λ (s, t). same.1 (there.0 s, back.0 t),
        )

    -- "Classes are numbered by their smallest part, rising": a smaller byte is that of the class with the smaller smallest part,
    leader-smallest : (u : ℕ) → u < nodes_of file → Smallest file lent out u (leader_of (circuit_of file) u)
    leader-smallest u h =
        let p = circuit_of file in
        let c = content pattern-accepted in
        let inside = below_parts u h in
        let low : leader_of p u < nodes_of file = rw (← length-labels file) (leader-lt c u inside) in
        let member = leader-member c u inside in
        record {
          below = low;
          same = byte-is (leader_of p u) low ∙ sym ((class-iff c u (leader_of p u) inside (below_parts (leader_of p u) low)).1 member) ∙ sym (byte-is u h);
          least = λ v k e.
              leader-min c u inside v ((class-iff c u v inside (below_parts v k)).0 (sym (byte-is u h) ∙ sym e ∙ byte-is v k));
        }

    smallest-leader : (u s : ℕ) → u < nodes_of file → Smallest file lent out u s → s ≡ leader_of (circuit_of file) u
    smallest-leader u s h m =
        let l = leader-smallest u h in
        le_antisymm (m.least _ l.below l.same) (l.least s m.below m.same)

    pub bytes-rise :
        (u v s t : ℕ) → u < nodes_of file → v < nodes_of file → Smallest file lent out u s → Smallest file lent out v t →
        (class_byte file lent out u < class_byte file lent out v) ↔ (s < t)
    bytes-rise u v s t h k m n =
        rw (byte-is u h, byte-is v k, smallest-leader u s h m, smallest-leader v t k n)
        (class-rises (content pattern-accepted) u v (below_parts u h))

    -- and the numbers are those below the number of classes replied with, all of them
    pub byte-below : (u : ℕ) → u < nodes_of file → class_byte file lent out u < class_count (circuit_of file)
    byte-below u h = rw (byte-is u h) (class-lt (content pattern-accepted) u (below_parts u h))

    pub byte-onto : (a : ℕ) → a < class_count (circuit_of file) → (u : ℕ) × (u < nodes_of file) × (class_byte file lent out u ≡ a)
    byte-onto a h =
        let (u, l, _, e) = class-onto (content pattern-accepted) a h in
        let k : u < nodes_of file = rw (← length-labels file) l in
        (u, k, byte-is u k ∙ e)
