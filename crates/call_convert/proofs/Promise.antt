-- What the converter's promise means: the new file is accepted, holds the circuit of the old one, and there and back again gives the same
-- bytes. Assumes nothing.
use Rattle.std.specs.Prelude.{◌≡◌, ◌∷◌, ◌++◌, ◌≤◌, ◌<◌}
use Rattle.base_lists.specs.Kit.{◌∙◌, sym, ap, refl, ap₂, false, List, [], ℕ, le_of_eq, T, ltb, length, get_or, take, drop, take_at, take_all, arith, le-ltb, ltb-false}
use Rattle.base_lists.specs.List.{all, tabulate}
use Rattle.base_lists.proofs.Tables.{get_d_tabulate, is-tabulate, tabulate-same}
use Rattle.file_format.specs.declared.Edition.{Edition}
use Rattle.file_format.specs.declared.Edition.TheVariants.{First, Second}
use Rattle.file_format.specs.declared.Role.{Role}
use Rattle.file_format.specs.Circuit.{circuit_of}
use Rattle.file_format.specs.Layout.{CircuitFile, in_edition, first_edition, package_count, length_of, nodes_of, links_of, kinds_of, packages_of, starts_of, ends_of, labels_of}
use Rattle.file_format.specs.Reading.{filled}
use Rattle.file_format.specs.Refusals.{accept, first, file_conditions, lost_package, package_lost, short_table}
use Rattle.file_format.specs.Reply.{reply}
use Rattle.file_format.specs.Role.{in_range}
use Rattle.file_format.proofs.FirstEdition.{labels-same, first-packages}
use Rattle.file_format.proofs.Fields.{length-kinds, length-packages, length-starts, length-ends}
use Rattle.file_format.proofs.Refusals.{accepted, first-accept, first-parts, first_holds, reply-verdict}
use Rattle.file_write.specs.Bytes.{stretch_bytes}
use Rattle.file_write.proofs.FileFields.{nodes-written, links-written, kinds-written, packages-written, starts-written, ends-written, length-written}
use Rattle.file_write.proofs.RoundTrip.{same-verdict, accepted-file}
use Rattle.call_convert.specs.Call.{every_package, converted_bytes, convert_conditions, ConvertOutcome, converting}
use Rattle.call_convert.proofs.Packages.{lost-none, none-lost, second-kept}
use Rattle.call_convert.proofs.Converting.{every-length, every_given, file-sound}

-- ---- the packages of a file, one for each node

every-at : (file : CircuitFile) (v : ℕ) → v < nodes_of file → get_or (every_package file) v 0 ≡ get_or (packages_of file) v 0
unfolding every_package
every-at file v h = get_d_tabulate (nodes_of file) _ v 0 h

-- as many of them as the edition has are the file's own
every-own : (e : Edition) (bytes : List ℕ) → let f = in_edition e bytes in take (package_count e (nodes_of f)) (every_package f) ≡ packages_of f
unfolding every_package
every-own First bytes = sym (first-packages bytes)
every-own Second bytes =
    let f = in_edition Second bytes in
    take_all (nodes_of f) (every_package f) (le_of_eq (every-length f)) ∙ sym (is-tabulate (nodes_of f) _ (packages_of f) (length-packages f) (λ v h. refl))

-- a first-edition file has none that could be lost
first-kept : (to : Edition) (bytes : List ℕ) → lost_package to (every_package (first_edition bytes)) ≡ false
first-kept to bytes =
    none-lost to (every_package (first_edition bytes))
    (λ v h. every-at (first_edition bytes) v (omega (arith, every-length (first_edition bytes))) ∙ ap (λ (l : List ℕ). get_or l v 0) (first-packages bytes))

-- ---- the new file

module _ (role : Role) (to : Edition) (file : CircuitFile) (sound : first (file_conditions role file) ≡ accept) where
  -- the new file, in its edition
  abbrev pub converted : CircuitFile
  converted = in_edition to (converted_bytes to file)

  given : package_count to (length (every_package file)) ≡ package_count to (length (kinds_of file))
  given = every_given role to file

  pairs : length (starts_of file) ≡ length (ends_of file)
  pairs = length-starts file ∙ sym (length-ends file)

  -- "keeps the circuit": N, M, the kinds, the starts and the ends are those of the old file,
  pub converted-nodes : nodes_of converted ≡ nodes_of file
  unfolding converted_bytes
  converted-nodes = nodes-written to (kinds_of file) (every_package file) (starts_of file) (ends_of file) ∙ length-kinds file

  pub converted-links : links_of converted ≡ links_of file
  unfolding converted_bytes
  converted-links = links-written to (kinds_of file) (every_package file) (starts_of file) (ends_of file) ∙ length-starts file

  pub converted-kinds : kinds_of converted ≡ kinds_of file
  unfolding converted_bytes
  converted-kinds = kinds-written to (kinds_of file) (every_package file) (starts_of file) (ends_of file)

  pub converted-starts : starts_of converted ≡ starts_of file
  unfolding converted_bytes
  converted-starts = starts-written to (kinds_of file) (every_package file) (starts_of file) (ends_of file) given

  pub converted-ends : ends_of converted ≡ ends_of file
  unfolding converted_bytes
  converted-ends = ends-written to (kinds_of file) (every_package file) (starts_of file) (ends_of file) given pairs

  -- and the packages, where the new edition has them, are a package for each node: 0 where the old file had none
  pub converted-packages : packages_of converted ≡ take (package_count to (nodes_of file)) (every_package file)
  unfolding converted_bytes
  converted-packages =
      packages-written to (kinds_of file) (every_package file) (starts_of file) (ends_of file) given
      ∙ ap (λ (n : ℕ). take (package_count to n) (every_package file)) (length-kinds file)

  pub converted-length : length (converted_bytes to file) ≡ length_of to (nodes_of file) (links_of file)
  unfolding converted_bytes
  converted-length =
      length-written to (kinds_of file) (every_package file) (starts_of file) (ends_of file) given pairs
      ∙ ap₂ (length_of to) (length-kinds file) (length-starts file)

  -- reading in the role accepts it
  pub converted-accepted : first (file_conditions role converted) ≡ accept
  unfolding converted_bytes
  converted-accepted =
      let range : T (in_range role (length (kinds_of file)) (length (starts_of file))) = rw (length-kinds file, length-starts file) (accepted role file sound).range in
      sym (same-verdict role to (kinds_of file) (every_package file) (starts_of file) (ends_of file) range pairs given) ∙ file-sound role to file sound

  module _ (kept : lost_package to (every_package file) ≡ false) where
    -- each node has the package that it had
    package-kept : (v : ℕ) → v < nodes_of file → get_or (packages_of converted) v 0 ≡ get_or (packages_of file) v 0
    package-kept v h = ap (λ (l : List ℕ). get_or l v 0) converted-packages ∙ go to kept
      where
        go : (e : Edition) → lost_package e (every_package file) ≡ false → get_or (take (package_count e (nodes_of file)) (every_package file)) v 0 ≡ get_or (packages_of file) v 0
        go First k = sym (lost-none (every_package file) k v) ∙ every-at file v h
        go Second k = ap (λ (l : List ℕ). get_or l v 0) (take_all (nodes_of file) (every_package file) (le_of_eq (every-length file))) ∙ every-at file v h

    pub converted-every : every_package converted ≡ every_package file
    unfolding every_package
    converted-every =
        ap (λ (n : ℕ). tabulate n (λ v. get_or (packages_of converted) v 0)) converted-nodes ∙ tabulate-same (nodes_of file) _ _ package-kept

    -- so that what is read of the new file is the circuit that was read of the old
    pub converted-circuit : circuit_of converted ≡ circuit_of file
    unfolding labels_of
    converted-circuit =
        rw (converted-kinds, converted-starts, converted-ends)
        (ap (λ (l : List ℕ). record { labels = l; starts = starts_of file; ends = ends_of file })
        (labels-same (kinds_of file) (packages_of converted) (packages_of file) (λ v h. package-kept v (rw (← length-kinds file) h))))

    -- ---- there and back again

    -- the converter gives the old bytes back
    pub converted-back : T (all (λ b. ltb b 256) file.bytes) → converted_bytes file.edition converted ≡ file.bytes
    unfolding converted_bytes
    converted-back bytes =
        rw (converted-kinds, converted-starts, converted-ends, converted-every)
        (ap (λ (n : ℕ). stretch_bytes (kinds_of file) (take (package_count file.edition n) (every_package file)) (starts_of file) (ends_of file)) (length-kinds file)
        ∙ ap (λ (l : List ℕ). stretch_bytes (kinds_of file) l (starts_of file) (ends_of file))
        (every-own file.edition file.bytes ∙ sym (take_all (package_count file.edition (nodes_of file)) (packages_of file) (le_of_eq (length-packages file))))
        ∙ ap (λ (n : ℕ). stretch_bytes (kinds_of file) (take (package_count file.edition n) (packages_of file)) (starts_of file) (ends_of file)) (sym (length-kinds file))
        ∙ accepted-file role file bytes sound)

    -- and nothing is lost on the way back
    pub back-kept : lost_package file.edition (every_package converted) ≡ false
    back-kept = rw converted-every (go file.edition file.bytes)
      where
        go : (e : Edition) (bytes : List ℕ) → lost_package e (every_package (in_edition e bytes)) ≡ false
        go First bytes = first-kept First bytes
        go Second bytes = second-kept (every_package (in_edition Second bytes))

-- "Told the same edition twice it copies."
pub copied : (role : Role) (file : CircuitFile) → first (file_conditions role file) ≡ accept → T (all (λ b. ltb b 256) file.bytes)
    → converted_bytes file.edition file ≡ file.bytes
unfolding converted_bytes
copied role file sound bytes =
    ap (λ (n : ℕ). stretch_bytes (kinds_of file) (take (package_count file.edition n) (every_package file)) (starts_of file) (ends_of file)) (length-kinds file)
    ∙ ap (λ (l : List ℕ). stretch_bytes (kinds_of file) l (starts_of file) (ends_of file))
    (every-own file.edition file.bytes ∙ sym (take_all (package_count file.edition (nodes_of file)) (packages_of file) (le_of_eq (length-packages file))))
    ∙ ap (λ (n : ℕ). stretch_bytes (kinds_of file) (take (package_count file.edition n) (packages_of file)) (starts_of file) (ends_of file)) (sym (length-kinds file))
    ∙ accepted-file role file bytes sound

-- ---- the call

-- what a call that is not refused leaves
module _ (role : Role) (to : Edition) (file : CircuitFile) (out : List ℕ) where
  -- no condition holds: the file is accepted, no package is lost, and there is room
  pub record Sound : Type 0 where
    pub content : first (file_conditions role file) ≡ accept
    pub kept : lost_package to (every_package file) ≡ false
    pub room : length_of to (nodes_of file) (links_of file) ≤ length out

  pub convert-sound : (converting role to file out).reply.verdict ≡ accept → Sound
  unfolding converting convert_conditions package_lost short_table
  convert-sound e =
      let (content, rest) = first-parts (file_conditions role file) _ (sym (reply-verdict _ _) ∙ e) in
      let (kept, last) = first_holds _ _ rest in
      record { content = content; kept = kept; room = ltb-false _ _ (first_holds _ _ last).0 }

  pub convert-accepts : Sound → converting role to file out
      ≡ record {
        reply = record { verdict = accept; values = length_of to (nodes_of file) (links_of file) ∷ [] };
        out = converted_bytes to file ++ drop (length (converted_bytes to file)) out;
      }
  unfolding converting convert_conditions first package_lost short_table reply filled
  convert-accepts s = rw (first-accept _ _ s.content) (simp (s.kept, le-ltb _ _ s.room))

-- "There and back again gives the same bytes, for every file that 12 does not stop": a call, and another on what it left, with whatever was lent
pub there_and_back :
    (role : Role) (to : Edition) (file : CircuitFile) (out out' : List ℕ) → T (all (λ b. ltb b 256) file.bytes) →
    (converting role to file out).reply.verdict ≡ accept → length file.bytes ≤ length out' →
    let size = length_of to (nodes_of file) (links_of file) in
    let new = in_edition to (take size (converting role to file out).out) in
    converting role file.edition new out'
    ≡ record {
      reply = record { verdict = accept; values = length file.bytes ∷ [] };
      out = file.bytes ++ drop (length file.bytes) out';
    }
there_and_back role to file out out' bytes ok room =
    let s = convert-sound role to file out ok in
    let sound = s.content in
    let size = (accepted role file sound).size in
    let prefix : take (length_of to (nodes_of file) (links_of file)) (converting role to file out).out ≡ converted_bytes to file =
    ap (λ (o : ConvertOutcome). take (length_of to (nodes_of file) (links_of file)) o.out) (convert-accepts role to file out s)
    ∙ take_at (converted_bytes to file) _ _ (converted-length role to file sound) in
    let long : length_of file.edition (nodes_of (converted role to file sound)) (links_of (converted role to file sound)) ≡ length file.bytes =
    ap₂ (length_of file.edition) (converted-nodes role to file sound) (converted-links role to file sound) ∙ sym size in
    ap (λ (b : List ℕ). converting role file.edition (in_edition to b) out') prefix
    ∙ convert-accepts role file.edition (converted role to file sound) out'
    (record {
      content = converted-accepted role to file sound;
      kept = back-kept role to file sound s.kept;
      room = rw long room;
    })
    ∙ rw (long, converted-back role to file sound s.kept bytes)
