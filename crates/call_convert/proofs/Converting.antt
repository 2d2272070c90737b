-- What the converter comes to, by cases: a refused file, a package that would be lost, too few bytes lent, or the new file. Assumes nothing.
use Rattle.std.specs.Prelude.{◌≡◌, ◌++◌, ◌≤◌, ◌<◌, Result, Ok, Err}
use Rattle.base_lists.specs.Kit.{◌∙◌, sym, ap, refl, false, true, List, ℕ, le_trans, length, get_or, take, drop, length-take-le, take_at, get_or-take, arith, le-ltb, lt-ltb}
use native.Mathlib.Decide.{dec_lt}
use Rattle.base_lists.specs.List.{Below}
use Rattle.base_lists.proofs.Tables.{length-tabulate, is-tabulate}
use Rattle.base_lists.proofs.Tests.{T_true}
use Rattle.file_format.specs.declared.Edition.{Edition}
use Rattle.file_format.specs.declared.Edition.TheVariants.{First, Second}
use Rattle.file_format.specs.declared.File.TheVariants.{Neither}
use Rattle.file_format.specs.declared.Refusal.{Refusal}
use Rattle.file_format.specs.declared.Role.{Role}
use Rattle.file_format.specs.declared.Size.{Size}
use Rattle.file_format.specs.Layout.{CircuitFile, in_edition, first_edition, package_count, length_of, nodes_of, links_of, kinds_of, packages_of, starts_of, ends_of}
use Rattle.file_format.specs.Reading.{ReadOutcome, reading, filled}
use Rattle.file_format.specs.Refusals.{Verdict, accept, refuse, first, file_conditions, lost_package, package_lost, short_table}
use Rattle.file_format.specs.Reply.{reply, read_reply, number_reply}
use Rattle.file_format.specs.Role.{file_of}
use Rattle.file_format.proofs.FirstEdition.{first-packages}
use Rattle.file_format.proofs.Fields.{length-kinds, length-packages, length-starts, length-ends, package-count-le}
use Rattle.file_format.proofs.Reading.{Filled, reading-refused, reading-filled, reading-accepted}
use Rattle.file_format.proofs.Refusals.{accepted, first-accept, first-refuse, first_holds, range-bounds}
use Rattle.file_write.specs.Bytes.{file_bytes}
use Rattle.file_write.specs.Writing.{circuit_conditions, WriteOutcome, writing}
use Rattle.file_write.proofs.Writing.{verdict-links, writing-short, writing-filled}
use Rattle.call_convert.specs.Call.{every_package, converted_bytes, convert_conditions, ConvertOutcome, converted_by, convert_on, converting}

-- ---- a circuit that was read

module _ (role : Role) (to : Edition) (kinds packages starts ends out : List ℕ) where
  pub on-lost : lost_package to packages ≡ true
      → record { reply = number_reply (Err (record { number = 12; file = file_of role })); out = out } ≡ convert_on role to kinds packages starts ends out
  unfolding convert_on first package_lost number_reply reply filled
  on-lost e = simp e

  on-short : lost_package to packages ≡ false → length out < length_of to (length kinds) (length starts)
      → record { reply = number_reply (Err (record { number = 8; file = Neither })); out = out } ≡ convert_on role to kinds packages starts ends out
  unfolding convert_on first package_lost short_table number_reply reply filled
  on-short e h = simp (e, lt-ltb _ _ h)

  on-filled : lost_package to packages ≡ false → length_of to (length kinds) (length starts) ≤ length out
      → record { reply = number_reply (Ok (length_of to (length kinds) (length starts))); out = filled accept (file_bytes to kinds packages starts ends) out }
      ≡ convert_on role to kinds packages starts ends out
  unfolding convert_on first package_lost short_table number_reply reply
  on-filled e h = simp (e, le-ltb _ _ h)

  -- what writing leaves is what the converter does
  pub on-written : lost_package to packages ≡ false → first (circuit_conditions role to kinds packages starts ends) ≡ accept
      → (a : Result ℕ Refusal) (after : List ℕ) → record { answer = a; reply = number_reply a; out = after } ≡ writing role to kinds packages starts ends out
      → record { reply = number_reply a; out = after } ≡ convert_on role to kinds packages starts ends out
  on-written kept sound a after e = go (dec_lt (length out) (length_of to (length kinds) (length starts)))
    where
      by : {w : WriteOutcome} → writing role to kinds packages starts ends out ≡ w
          → record { reply = number_reply w.answer; out = w.out } ≡ convert_on role to kinds packages starts ends out
          → record { reply = number_reply a; out = after } ≡ convert_on role to kinds packages starts ends out
      by q r = ap (λ (o : WriteOutcome). record { reply = number_reply o.answer; out = o.out }) (e ∙ q) ∙ r

      go : Dec (length out < length_of to (length kinds) (length starts))
          → record { reply = number_reply a; out = after } ≡ convert_on role to kinds packages starts ends out
      go (yes h) = by (writing-short role to kinds packages starts ends out sound h) (on-short kept h)
      go (no h) = by (writing-filled role to kinds packages starts ends out sound (omega arith)) (on-filled kept (omega arith))

-- ---- a file

-- a package for each node
pub every-length : (file : CircuitFile) → length (every_package file) ≡ nodes_of file
unfolding every_package
every-length file = length-tabulate (nodes_of file) _

module _ (role : Role) (to : Edition) (file : CircuitFile) where
  pub every_given : package_count to (length (every_package file)) ≡ package_count to (length (kinds_of file))
  every_given = ap (package_count to) (every-length file ∙ sym (length-kinds file))

  -- an accepted file's circuit can be written in either edition
  pub file-sound : first (file_conditions role file) ≡ accept
      → first (circuit_conditions role to (kinds_of file) (every_package file) (starts_of file) (ends_of file)) ≡ accept
  unfolding file_conditions
  file-sound a =
      let links = (first_holds _ _ (first_holds _ _ (first_holds _ _ a).1).1).1 in
      verdict-links role to (kinds_of file) (every_package file) (starts_of file) (ends_of file)
      (rw (length-kinds file, length-starts file) (T_true (accepted role file a).range)) (length-starts file ∙ sym (length-ends file)) every_given
      ∙ rw (length-kinds file) links

  module _ (out : List ℕ) where
    pub converting-refused : (x : Refusal) → first (file_conditions role file) ≡ refuse x
        → record { reply = number_reply (Err x); out = out } ≡ converting role to file out
    unfolding converting convert_conditions number_reply reply filled
    converting-refused x e =
        ap (λ (v : Verdict). converted_by v (length_of to (nodes_of file) (links_of file)) (converted_bytes to file) out) (sym (first-refuse (file_conditions role file) _ x e))

    pub converting-on : first (file_conditions role file) ≡ accept
        → convert_on role to (kinds_of file) (every_package file) (starts_of file) (ends_of file) out ≡ converting role to file out
    unfolding convert_on converting convert_conditions converted_bytes
    converting-on a = rw (first-accept _ _ a, length-kinds file, length-starts file)

-- ---- a file that was read into tables for any circuit

-- packages and, where the edition has none, the zeros of the table
packages-prefix : (e : Edition) (bytes ps : List ℕ) → Below 1 ps → nodes_of (in_edition e bytes) ≤ length ps
    → take (nodes_of (in_edition e bytes)) (packages_of (in_edition e bytes) ++ drop (package_count e (nodes_of (in_edition e bytes))) ps) ≡ every_package (in_edition e bytes)
unfolding every_package Below
packages-prefix First bytes ps zero room =
    let n = nodes_of (first_edition bytes) in
    rw (first-packages bytes)
    (is-tabulate n _ (take n ps) (length-take-le n ps room)
    (λ v h. get_or-take n ps v 0 h ∙ (let z : get_or ps v 0 < 1 = zero v (omega arith) in omega arith)))
packages-prefix Second bytes ps zero room =
    let f = in_edition Second bytes in
    take_at (packages_of f) _ (nodes_of f) (length-packages f) ∙ is-tabulate (nodes_of f) _ (packages_of f) (length-packages f) (λ v h. refl)

module _ (role : Role) (e : Edition) (bytes ks ps ss es : List ℕ) (k : 512 ≤ length ks) (p : 512 ≤ length ps) (s : 4096 ≤ length ss) (t : 4096 ≤ length es) where
  abbrev file : CircuitFile
  file = in_edition e bytes

  -- the tables are never too short
  filled-whole : first (file_conditions role file) ≡ accept → (reading role file ks ps ss es).answer ≡ Ok (record { nodes = nodes_of file; links = links_of file })
  filled-whole a =
      let (n, m) = range-bounds role (nodes_of file) (links_of file) (accepted role file a).range in
      ap (λ (o : ReadOutcome). o.answer)
      (reading-filled role file ks ps ss es a (le_trans n k) (le_trans (package-count-le e (nodes_of file)) (le_trans n p)) (le_trans m s) (le_trans m t))

  -- so that what reading refuses, its conditions on the file do
  pub whole-refused : (x : Refusal) → (reading role file ks ps ss es).answer ≡ Err x → first (file_conditions role file) ≡ refuse x
  whole-refused x q = go (first (file_conditions role file)) refl
    where
      go : (v : Verdict) → first (file_conditions role file) ≡ v → first (file_conditions role file) ≡ refuse x
      go accept a = let z : (reading role file ks ps ss es).answer ≡ Ok (record { nodes = nodes_of file; links = links_of file }) = filled-whole a in cc
      go (refuse y) a =
          let w : (reading role file ks ps ss es).answer ≡ Err y = ap (λ (o : ReadOutcome). o.answer) (reading-refused role file ks ps ss es y a) in
          let same : x ≡ y = cc in
          a ∙ ap refuse (sym same)

  -- and what it reads stands at the front of the tables
  module _ (zero : Below 1 ps) (n m : ℕ) (q : (reading role file ks ps ss es).answer ≡ Ok (record { nodes = n; links = m })) where
    f : Filled role file ks ps ss es n m
    f = reading-accepted role file ks ps ss es n m q

    outcome : reading role file ks ps ss es ≡ record {
      answer = Ok (record { nodes = nodes_of file; links = links_of file });
      reply = read_reply (Ok (record { nodes = nodes_of file; links = links_of file }));
      kinds = kinds_of file ++ drop (nodes_of file) ks;
      packages = packages_of file ++ drop (package_count e (nodes_of file)) ps;
      starts = starts_of file ++ drop (links_of file) ss;
      ends = ends_of file ++ drop (links_of file) es;
    }
    outcome = reading-filled role file ks ps ss es f.sound f.kinds_fit f.packages_fit f.starts_fit f.ends_fit

    pub whole_kinds : take n (reading role file ks ps ss es).kinds ≡ kinds_of file
    whole_kinds = ap (λ (o : ReadOutcome). take n o.kinds) outcome ∙ take_at (kinds_of file) _ n (length-kinds file ∙ sym f.nodes)

    pub whole-packages : take n (reading role file ks ps ss es).packages ≡ every_package file
    whole-packages =
        let (few, _) = range-bounds role (nodes_of file) (links_of file) (accepted role file f.sound).range in
        ap (λ (o : ReadOutcome). take n o.packages) outcome
        ∙ ap (λ (k : ℕ). take k (packages_of file ++ drop (package_count e (nodes_of file)) ps)) f.nodes
        ∙ packages-prefix e bytes ps zero (le_trans few p)

    pub whole-starts : take m (reading role file ks ps ss es).starts ≡ starts_of file
    whole-starts = ap (λ (o : ReadOutcome). take m o.starts) outcome ∙ take_at (starts_of file) _ m (length-starts file ∙ sym f.links)

    pub whole-ends : take m (reading role file ks ps ss es).ends ≡ ends_of file
    whole-ends = ap (λ (o : ReadOutcome). take m o.ends) outcome ∙ take_at (ends_of file) _ m (length-ends file ∙ sym f.links)

-- what is known of a file that was read so
pub record Whole (role : Role) (e : Edition) (bytes : List ℕ) (n m : ℕ) (k p s t : List ℕ) : Type 0 where
  pub sound : first (file_conditions role (in_edition e bytes)) ≡ accept
  pub nodes : n ≡ nodes_of (in_edition e bytes)
  pub links : m ≡ links_of (in_edition e bytes)
  pub kinds : take n k ≡ kinds_of (in_edition e bytes)
  pub packages : take n p ≡ every_package (in_edition e bytes)
  pub starts : take m s ≡ starts_of (in_edition e bytes)
  pub ends : take m t ≡ ends_of (in_edition e bytes)

module _ (role : Role) (e : Edition) (bytes ks ps ss es : List ℕ)
    (long : (512 ≤ length ks) × (512 ≤ length ps) × (4096 ≤ length ss) × (4096 ≤ length es)) {a : Result Size Refusal} {k p s t : List ℕ}
    (o : record { answer = a; reply = read_reply a; kinds = k; packages = p; starts = s; ends = t } ≡ reading role (in_edition e bytes) ks ps ss es) where
  pub whole-turned : {x : Refusal} → a ≡ Err x → first (file_conditions role (in_edition e bytes)) ≡ refuse x
  whole-turned {x} q =
      whole-refused role e bytes ks ps ss es long.0 long.1 long.2 long.3 x (sym (ap (λ (o : ReadOutcome). o.answer) o) ∙ q)

  pub whole-read : Below 1 ps → {size : Size} → a ≡ Ok size → Whole role e bytes size.nodes size.links k p s t
  whole-read zero {size} q =
      let n = size.nodes in
      let m = size.links in
      let is : (reading role (in_edition e bytes) ks ps ss es).answer ≡ Ok size = sym (ap (λ (o : ReadOutcome). o.answer) o) ∙ q in
      let f = reading-accepted role (in_edition e bytes) ks ps ss es n m is in
      record {
        sound = f.sound;
        nodes = f.nodes;
        links = f.links;
        kinds = ap (λ (o : ReadOutcome). take n o.kinds) o ∙ whole_kinds role e bytes ks ps ss es long.0 long.1 long.2 long.3 zero n m is;
        packages = ap (λ (o : ReadOutcome). take n o.packages) o ∙ whole-packages role e bytes ks ps ss es long.0 long.1 long.2 long.3 zero n m is;
        starts = ap (λ (o : ReadOutcome). take m o.starts) o ∙ whole-starts role e bytes ks ps ss es long.0 long.1 long.2 long.3 zero n m is;
        ends = ap (λ (o : ReadOutcome). take m o.ends) o ∙ whole-ends role e bytes ks ps ss es long.0 long.1 long.2 long.3 zero n m is;
      }

module _ {role : Role} {e : Edition} {bytes : List ℕ} {n m : ℕ} {k p s t : List ℕ} (w : Whole role e bytes n m k p s t) where
  -- each front has the size that was read
  pub whole-sizes : (length (take n k) ≡ n) × (length (take n p) ≡ n) × (length (take m s) ≡ m) × (length (take m t) ≡ m)
  whole-sizes = (
    ap length w.kinds ∙ length-kinds (in_edition e bytes) ∙ sym w.nodes,
    ap length w.packages ∙ every-length (in_edition e bytes) ∙ sym w.nodes,
    ap length w.starts ∙ length-starts (in_edition e bytes) ∙ sym w.links,
    ap length w.ends ∙ length-ends (in_edition e bytes) ∙ sym w.links,
  )

  pub whole-circuit : (to : Edition) → first (circuit_conditions role to (take n k) (take n p) (take m s) (take m t)) ≡ accept
  whole-circuit to = rw (w.kinds, w.packages, w.starts, w.ends) (file-sound role to (in_edition e bytes) w.sound)

  pub whole-converted : (to : Edition) (out : List ℕ) {o : ConvertOutcome} → o ≡ convert_on role to (take n k) (take n p) (take m s) (take m t) out
      → o ≡ converting role to (in_edition e bytes) out
  whole-converted to out q = (rw (w.kinds, w.packages, w.starts, w.ends) at q) ∙ converting-on role to (in_edition e bytes) out w.sound
