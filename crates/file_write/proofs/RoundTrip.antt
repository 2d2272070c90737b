-- Reading and writing undo each other, over all inputs: what was written reads back as the same circuit, what was read writes back to
-- the same bytes, and a circuit has one file. Assumes nothing.
use Rattle.std.specs.Prelude.{◌≡◌, ◌↔◌, ◌++◌, ◌≤◌, Ok}
use Rattle.base_lists.specs.Kit.{◌∙◌, sym, ap, refl, ap₂, List, ℕ, le_of_eq, T, ltb, length, get_or, take, drop, take_at, take_all, arith}
use Rattle.base_lists.specs.List.{all, Below}
use Rattle.base_lists.proofs.Tests.{T_true}
use Rattle.graph.specs.Circuit.{Circuit, HasLink}
use Rattle.file_format.specs.Circuit.{circuit_of}
use Rattle.file_format.specs.Label.{labels, kinds_in, packages_in}
use Rattle.file_format.proofs.Labels.{length-kinds-in, length-packages-in, plain-package, labels-kinds, labels-again, kinds-again}
use Rattle.graph.proofs.RisingLinks.{rising-determined}
use Rattle.file_format.specs.declared.Edition.{Edition}
use Rattle.file_format.specs.declared.Edition.TheVariants.{First, Second}
use Rattle.file_format.specs.declared.Role.{Role}
use Rattle.file_format.specs.Layout.{CircuitFile, in_edition, package_count, kinds_of, packages_of, starts_of, ends_of, labels_of, length_of}
use Rattle.file_format.specs.Reading.{ReadOutcome, reading, filled}
use Rattle.file_format.specs.Refusals.{accept, first, file_conditions, by_number}
use Rattle.file_format.specs.Reply.{read_reply, number_reply}
use Rattle.file_format.specs.Role.{in_range}
use Rattle.file_format.proofs.Fields.{length-kinds, length-packages, length-starts, length-ends, count-again}
use Rattle.file_format.proofs.Reading.{reading-filled, reading-accepted}
use Rattle.file_format.proofs.Refusals.{accepted}
use Rattle.file_format.proofs.Refusals as file
use Rattle.file_format.proofs.Rising.{rising-links}
use Rattle.file_write.specs.Bytes.{file_bytes, kinds_for, circuit_bytes, LabelsFit}
use Rattle.file_write.specs.Writing.{circuit_conditions, WriteOutcome, writing}
use Rattle.file_write.proofs.FileFields.{nodes-written, links-written, kinds-written, packages-written, starts-written, ends-written, length-written, file-again}
use Rattle.file_write.proofs.Writing.{verdict-links, sound, writing-filled, writing-accepted}

-- ---- one verdict

-- Of a circuit in the role's range with as many starts as ends, and in the second edition as many packages as kinds, writing finds what
-- reading finds in its file: the same refusal, 4, 5 or 6, or none.
pub same-verdict : (r : Role) (e : Edition) (kinds packages starts ends : List ℕ) → T (in_range r (length kinds) (length starts)) → length starts ≡ length ends
    → package_count e (length packages) ≡ package_count e (length kinds)
    → first (circuit_conditions r e kinds packages starts ends) ≡ first (file_conditions r (in_edition e (file_bytes e kinds packages starts ends)))
same-verdict r e kinds packages starts ends t pairs given =
    let written = in_edition e (file_bytes e kinds packages starts ends) in
    let n = nodes-written e kinds packages starts ends in
    let m = links-written e kinds packages starts ends in
    let long = length-written e kinds packages starts ends given pairs in
    let size = file.size-0 r written (length kinds) (length starts) (sym n) (sym m) (omega arith) (T_true t) long in
    verdict-links r e kinds packages starts ends (T_true t) pairs given
    ∙ file.verdict-number r (length kinds) starts ends
    ∙ ap (by_number r) (rw (n, starts-written e kinds packages starts ends given, ends-written e kinds packages starts ends given pairs))
    ∙ sym (file.verdict-links r written size)

-- ---- what was written reads back

module _ (r : Role) (e : Edition) (kinds packages starts ends out : List ℕ) (size : ℕ) (w : (writing r e kinds packages starts ends out).answer ≡ Ok size) where
  ok : first (circuit_conditions r e kinds packages starts ends) ≡ accept
  ok = (writing-accepted r e kinds packages starts ends out size w).0

  -- the first `size` bytes are the circuit's file
  pub written-file : take size (writing r e kinds packages starts ends out).out ≡ file_bytes e kinds packages starts ends
  unfolding filled
  written-file =
      let (_, room) = writing-accepted r e kinds packages starts ends out size w in
      let o = writing-filled r e kinds packages starts ends out ok room in
      let long : Ok (length_of e (length kinds) (length starts)) ≡ Ok size = sym (ap (λ (o : WriteOutcome). o.answer) o) ∙ w in
      let is : length_of e (length kinds) (length starts) ≡ size = cc in
      let h = sound r e kinds packages starts ends ok in
      ap (λ (o : WriteOutcome). take size o.out) o
      ∙ take_at (file_bytes e kinds packages starts ends) _ size (length-written e kinds packages starts ends h.given h.pairs ∙ is)

  -- which reading in the same role and edition accepts
  pub written-accepted : first (file_conditions r (in_edition e (take size (writing r e kinds packages starts ends out).out))) ≡ accept
  written-accepted =
      let s = sound r e kinds packages starts ends ok in
      ap (λ (f : List ℕ). first (file_conditions r (in_edition e f))) written-file ∙ sym (same-verdict r e kinds packages starts ends s.range s.pairs s.given) ∙ ok

  -- and reads as the same N, M, kinds, packages where the edition has them, starts and ends
  pub written-reads : (ks ps ss es : List ℕ) → length kinds ≤ length ks → package_count e (length kinds) ≤ length ps → length starts ≤ length ss → length ends ≤ length es
      → reading r (in_edition e (take size (writing r e kinds packages starts ends out).out)) ks ps ss es
      ≡ record {
        answer = Ok (record { nodes = length kinds; links = length starts });
        reply = read_reply (Ok (record { nodes = length kinds; links = length starts }));
        kinds = kinds ++ drop (length kinds) ks;
        packages = take (package_count e (length kinds)) packages ++ drop (package_count e (length kinds)) ps;
        starts = starts ++ drop (length starts) ss;
        ends = ends ++ drop (length ends) es;
      }
  written-reads ks ps ss es a b c d =
      let pairs = (sound r e kinds packages starts ends ok).pairs in
      let given = (sound r e kinds packages starts ends ok).given in
      let n = nodes-written e kinds packages starts ends in
      let m = links-written e kinds packages starts ends in
      let written = in_edition e (file_bytes e kinds packages starts ends) in
      rw written-file
      (reading-filled r written ks ps ss es (rw written-file at written-accepted) (omega arith) (rw n b) (omega arith) (omega arith)
      ∙ rw (kinds-written e kinds packages starts ends, packages-written e kinds packages starts ends given, starts-written e kinds packages starts ends given, ends-written e kinds packages starts ends given pairs, n, m, pairs))

-- ---- what was read writes back

module _ (r : Role) (file : CircuitFile) (bytes : T (all (λ b. ltb b 256) file.bytes)) where
  module _ (a : first (file_conditions r file) ≡ accept) where
    -- the file of an accepted file's circuit is that file
    pub accepted-file : file_bytes file.edition (kinds_of file) (packages_of file) (starts_of file) (ends_of file) ≡ file.bytes
    accepted-file = file-again file bytes (accepted r file a).size

    -- as many packages as there should be
    packages-given : package_count file.edition (length (packages_of file)) ≡ package_count file.edition (length (kinds_of file))
    packages-given = rw (length-kinds file, length-packages file) (count-again file.edition _)

    -- whose circuit is sound
    pub accepted-circuit : first (circuit_conditions r file.edition (kinds_of file) (packages_of file) (starts_of file) (ends_of file)) ≡ accept
    accepted-circuit =
        let range : T (in_range r (length (kinds_of file)) (length (starts_of file))) = rw (length-kinds file, length-starts file) (accepted r file a).range in
        same-verdict r file.edition _ _ _ _ range (length-starts file ∙ sym (length-ends file)) packages-given
        ∙ ap (λ (f : List ℕ). first (file_conditions r (in_edition file.edition f))) accepted-file
        ∙ a

    -- so that, with room, writing gives the same bytes back
    pub accepted-writes : (out : List ℕ) → length file.bytes ≤ length out
        → writing r file.edition (kinds_of file) (packages_of file) (starts_of file) (ends_of file) out
        ≡ record { answer = Ok (length file.bytes); reply = number_reply (Ok (length file.bytes)); out = file.bytes ++ drop (length file.bytes) out }
    unfolding filled
    accepted-writes out room =
        let size : length_of file.edition (length (kinds_of file)) (length (starts_of file)) ≡ length file.bytes = rw (length-kinds file, length-starts file) (sym (accepted r file a).size) in
        writing-filled r file.edition _ _ _ _ out accepted-circuit (omega arith) ∙ rw (size, accepted-file)

  -- the same of the tables that the reading call fills
  pub read-writes : (ks ps ss es out : List ℕ) (n m : ℕ) → (reading r file ks ps ss es).answer ≡ Ok (record { nodes = n; links = m }) → length file.bytes ≤ length out
      → let o = reading r file ks ps ss es in
      writing r file.edition (take n o.kinds) (take (package_count file.edition n) o.packages) (take m o.starts) (take m o.ends) out
      ≡ record { answer = Ok (length file.bytes); reply = number_reply (Ok (length file.bytes)); out = file.bytes ++ drop (length file.bytes) out }
  read-writes ks ps ss es out n m a room =
      let f = reading-accepted r file ks ps ss es n m a in
      let o = reading-filled r file ks ps ss es f.sound f.kinds_fit f.packages_fit f.starts_fit f.ends_fit in
      let k : take n (reading r file ks ps ss es).kinds ≡ kinds_of file = ap (λ (o : ReadOutcome). take n o.kinds) o ∙ take_at (kinds_of file) _ n (length-kinds file ∙ sym f.nodes) in
      let p : take (package_count file.edition n) (reading r file ks ps ss es).packages ≡ packages_of file =
      ap (λ (o : ReadOutcome). take (package_count file.edition n) o.packages) o
      ∙ take_at (packages_of file) _ (package_count file.edition n) (length-packages file ∙ sym (ap (package_count file.edition) f.nodes)) in
      let s : take m (reading r file ks ps ss es).starts ≡ starts_of file = ap (λ (o : ReadOutcome). take m o.starts) o ∙ take_at (starts_of file) _ m (length-starts file ∙ sym f.links) in
      let t : take m (reading r file ks ps ss es).ends ≡ ends_of file = ap (λ (o : ReadOutcome). take m o.ends) o ∙ take_at (ends_of file) _ m (length-ends file ∙ sym f.links) in
      rw (k, p, s, t) (accepted-writes f.sound out room)

-- ---- a circuit has one file of each edition

module _ (r r' : Role) (e : Edition) (file file' : List ℕ) (bytes : T (all (λ b. ltb b 256) file)) (bytes' : T (all (λ b. ltb b 256) file'))
    (a : first (file_conditions r (in_edition e file)) ≡ accept) (a' : first (file_conditions r' (in_edition e file')) ≡ accept)
    (kinds : kinds_of (in_edition e file) ≡ kinds_of (in_edition e file')) (packages : packages_of (in_edition e file) ≡ packages_of (in_edition e file')) where
  abbrev one : CircuitFile
  one = in_edition e file

  abbrev other : CircuitFile
  other = in_edition e file'

  -- two accepted files of one edition, in whatever roles, with the same kinds, packages, starts and ends are equal byte for byte
  pub same-file : starts_of one ≡ starts_of other → ends_of one ≡ ends_of other → file ≡ file'
  same-file starts ends =
      sym (accepted-file r one bytes a)
      ∙ ap₂ (λ (k p : List ℕ). file_bytes e k p (starts_of one) (ends_of one)) kinds packages
      ∙ ap₂ (file_bytes e (kinds_of other) (packages_of other)) starts ends
      ∙ accepted-file r' other bytes' a'

  -- "Links rise strictly by start, then by end, so a circuit has one file": the same kinds, packages and links, in whatever order they are
  -- named, leave one file
  pub one-file : ((v w : ℕ) → HasLink (starts_of one) (ends_of one) v w ↔ HasLink (starts_of other) (ends_of other) v w) → file ≡ file'
  one-file same =
      let (starts, ends) =
      rising-determined (starts_of one) (ends_of one) (starts_of other) (ends_of other)
      (length-starts one ∙ sym (length-ends one)) (length-starts other ∙ sym (length-ends other))
      (rising-links _ _ (accepted r one a).rises) (rising-links _ _ (accepted r' other a').rises)
      (λ v w. (same v w).0) (λ v w. (same v w).1) in
      same-file starts ends

-- ---- the file of a circuit, whose labels have kinds and packages

pub length-kinds-for : (e : Edition) (ls : List ℕ) → length (kinds_for e ls) ≡ length ls
unfolding kinds_for
length-kinds-for First ls = refl
length-kinds-for Second ls = length-kinds-in ls

-- labels that fit an edition have the kinds that it writes
pub kinds-for : (e : Edition) (ls : List ℕ) → LabelsFit e ls → kinds_in ls ≡ kinds_for e ls
unfolding kinds_for LabelsFit Below
kinds-for First ls fit = kinds-again ls (λ v h. plain-package (get_or ls v 0) (fit v h))
kinds-for Second ls fit = refl

-- kinds and packages as an edition writes them, put together again
labels-for : (e : Edition) (ls : List ℕ) → labels (kinds_for e ls) (take (package_count e (length (kinds_for e ls))) (packages_in ls)) ≡ ls
unfolding kinds_for
labels-for First ls = labels-kinds ls
labels-for Second ls =
    ap (labels (kinds_in ls)) (take_all _ (packages_in ls) (le_of_eq (length-packages-in ls ∙ sym (length-kinds-in ls)))) ∙ labels-again ls

module _ (e : Edition) (c : Circuit) where
  pub packages-in-given : package_count e (length (packages_in c.labels)) ≡ package_count e (length (kinds_for e c.labels))
  packages-in-given = ap (package_count e) (length-packages-in c.labels ∙ sym (length-kinds-for e c.labels))

  -- what is read of it is the circuit
  pub circuit-again : length c.starts ≡ length c.ends → circuit_of (in_edition e (circuit_bytes e c)) ≡ c
  unfolding circuit_bytes labels_of
  circuit-again pairs =
      let ks = kinds_for e c.labels in
      let ps = packages_in c.labels in
      rw (kinds-written e ks ps c.starts c.ends, packages-written e ks ps c.starts c.ends packages-in-given, starts-written e ks ps c.starts c.ends packages-in-given, ends-written e ks ps c.starts c.ends packages-in-given pairs)
      (ap (λ (l : List ℕ). record { labels = l; starts = c.starts; ends = c.ends }) (labels-for e c.labels))
