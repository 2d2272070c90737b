-- The fields of a written file, and the bytes of a file's fields: writing and reading undo each other. Assumes nothing.
use Rattle.std.specs.Prelude.{◌≡◌, ◌∷◌, ◌++◌, ◌<◌, ◌+◌, ◌*◌, ◌/◌, ◌%◌}
use Rattle.base_lists.specs.Kit.{◌∙◌, sym, ap, refl, ap₂, List, [], append-nil, append_assoc, ℕ, suc, zero, le_of_eq, T, ltb, ltb→lt, length, get_or, take, drop, length-append, length-take-le, take_all, drop_at, get_or-drop, arith}
use Rattle.base_lists.specs.List.{all, tabulate}
use Rattle.base_lists.proofs.Tables.{tabulate-same, tabulate-append}
use Rattle.base_lists.proofs.Tests.{both_left, both_right}
use Rattle.file_format.specs.declared.Edition.{Edition}
use Rattle.file_format.specs.Layout.{CircuitFile, in_edition, field, fields, nodes_of, links_of, kinds_of, packages_of, starts_of, ends_of, length_of, packages_at, package_count, starts_at, ends_at}
use Rattle.file_format.proofs.Fields.{length-kinds, length-packages, length-starts, package-count-le}
use Rattle.file_write.specs.Bytes.{bytes_of, stretch_bytes, file_bytes}
use Rattle.file_bytes.proofs.Stores.{length-bytes, bytes-append}

-- ---- a stretch, field by field

field-later : (a b : ℕ) (s : List ℕ) (i : ℕ) → field (a ∷ b ∷ s) (2 * suc i) ≡ field s (2 * i)
unfolding field
field-later a b s i =
    let low : 2 * suc i ≡ suc (suc (2 * i)) = omega arith in
    let high : 2 * suc i + 1 ≡ suc (suc (2 * i + 1)) = omega arith in
    ap₂ (λ (x y : ℕ). x + 256 * y) (ap (λ (k : ℕ). get_or (a ∷ b ∷ s) k 0) low) (ap (λ (k : ℕ). get_or (a ∷ b ∷ s) k 0) high)

-- the first field, and those of the rest
fields-cons : (a b : ℕ) (s : List ℕ) (k : ℕ) → fields (a ∷ b ∷ s) (suc k) ≡ (a + 256 * b) ∷ fields s k
unfolding fields field tabulate
fields-cons a b s k = ap (λ (l : List ℕ). (a + 256 * b) ∷ l) (tabulate-same k _ _ (λ i h. field-later a b s i))

-- the fields of numbers' bytes are the numbers
fields-bytes : (xs rest : List ℕ) → fields (bytes_of xs ++ rest) (length xs) ≡ xs
unfolding bytes_of fields tabulate
fields-bytes [] rest = refl
fields-bytes (x ∷ xs) rest =
    let e : x % 256 + 256 * (x / 256) ≡ x = omega arith in
    fields-cons (x % 256) (x / 256) (bytes_of xs ++ rest) (length xs) ∙ ap₂ (λ (y : ℕ) (l : List ℕ). y ∷ l) e (fields-bytes xs rest)

-- the stretch that begins behind the bytes of other numbers
fields-behind : (xs ys zs : List ℕ) (at k : ℕ) → at ≡ 2 * length xs → k ≡ length ys → fields (drop at (bytes_of (xs ++ (ys ++ zs)))) k ≡ ys
fields-behind xs ys zs at k e f =
    let split : bytes_of (xs ++ (ys ++ zs)) ≡ bytes_of xs ++ (bytes_of ys ++ bytes_of zs) = bytes-append xs (ys ++ zs) ∙ ap (λ (l : List ℕ). bytes_of xs ++ l) (bytes-append ys zs) in
    ap₂ fields (ap (drop at) split ∙ drop_at (bytes_of xs) (bytes_of ys ++ bytes_of zs) at (length-bytes xs ∙ sym e)) f ∙ fields-bytes ys (bytes_of zs)

-- ---- the fields of a circuit's file

-- of the packages given, those that the edition has
pub packs-length : (e : Edition) (kinds packages : List ℕ) → package_count e (length packages) ≡ package_count e (length kinds)
    → length (take (package_count e (length kinds)) packages) ≡ package_count e (length kinds)
packs-length e kinds packages given =
    length-take-le (package_count e (length kinds)) packages (omega (arith, package-count-le e (length packages)))

module _ (e : Edition) (kinds packages starts ends : List ℕ) where
  -- the file, and the packages in it
  abbrev file : CircuitFile
  file = in_edition e (file_bytes e kinds packages starts ends)

  abbrev packs : List ℕ
  packs = take (package_count e (length kinds)) packages

  pub nodes-written : nodes_of file ≡ length kinds
  unfolding nodes_of field stretch_bytes bytes_of
  nodes-written = omega arith

  pub links-written : links_of file ≡ length starts
  unfolding links_of field stretch_bytes bytes_of
  links-written = omega arith

  pub kinds-written : kinds_of file ≡ kinds
  unfolding kinds_of stretch_bytes
  kinds-written = fields-behind (length kinds ∷ length starts ∷ []) kinds (packs ++ (starts ++ ends)) _ _ refl nodes-written

  module _ (given : package_count e (length packages) ≡ package_count e (length kinds)) where
    packs-stretch : fields (drop (packages_at (length kinds)) file.bytes) (package_count e (length kinds)) ≡ packs
    unfolding stretch_bytes
    packs-stretch =
        fields-behind (length kinds ∷ length starts ∷ kinds) packs (starts ++ ends) (packages_at (length kinds)) (package_count e (length kinds)) (omega arith)
        (sym (packs-length e kinds packages given))

    pub packages-written : packages_of file ≡ packs
    unfolding packages_of
    packages-written = ap (λ (n : ℕ). fields (drop (packages_at n) file.bytes) (package_count e n)) nodes-written ∙ packs-stretch

    starts-stretch : fields (drop (starts_at e (length kinds)) file.bytes) (length starts) ≡ starts
    unfolding stretch_bytes
    starts-stretch =
        let prefix : List ℕ = length kinds ∷ length starts ∷ kinds in
        ap (λ (l : List ℕ). fields (drop (starts_at e (length kinds)) (bytes_of l)) (length starts)) (sym (append_assoc prefix packs (starts ++ ends)))
        ∙ fields-behind (prefix ++ packs) starts ends (starts_at e (length kinds)) (length starts)
        (omega (arith, length-append prefix packs, packs-length e kinds packages given)) refl

    pub starts-written : starts_of file ≡ starts
    unfolding starts_of
    starts-written = ap₂ (λ (n m : ℕ). fields (drop (starts_at e n) file.bytes) m) nodes-written links-written ∙ starts-stretch

    module _ (pairs : length starts ≡ length ends) where
      ends-stretch : fields (drop (ends_at e (length kinds) (length starts)) file.bytes) (length starts) ≡ ends
      unfolding stretch_bytes
      ends-stretch =
          let prefix : List ℕ = length kinds ∷ length starts ∷ kinds in
          ap (λ (l : List ℕ). fields (drop (ends_at e (length kinds) (length starts)) (bytes_of l)) (length starts))
          (sym (append_assoc prefix packs (starts ++ ends)) ∙ sym (append_assoc (prefix ++ packs) starts ends) ∙ ap (λ (l : List ℕ). ((prefix ++ packs) ++ starts) ++ l) (sym (append-nil ends)))
          ∙ fields-behind ((prefix ++ packs) ++ starts) ends [] (ends_at e (length kinds) (length starts)) (length starts)
          (omega (arith, length-append (prefix ++ packs) starts, length-append prefix packs, packs-length e kinds packages given)) pairs

      pub ends-written : ends_of file ≡ ends
      unfolding ends_of
      ends-written = ap₂ (λ (n m : ℕ). fields (drop (ends_at e n m) file.bytes) m) nodes-written links-written ∙ ends-stretch

      pub length-written : length (file_bytes e kinds packages starts ends) ≡ length_of e (length kinds) (length starts)
      unfolding stretch_bytes
      length-written =
          omega
          (arith, length-bytes (length kinds ∷ length starts ∷ kinds ++ (packs ++ (starts ++ ends))), length-append kinds (packs ++ (starts ++ ends)), length-append packs (starts ++ ends), length-append starts ends, packs-length e kinds packages given)

-- ---- the bytes of a file's fields

-- the bytes of the fields of bytes are the bytes
bytes-fields : (k : ℕ) (s : List ℕ) → T (all (λ b. ltb b 256) s) → length s ≡ 2 * k → bytes_of (fields s k) ≡ s
unfolding bytes_of fields tabulate all
bytes-fields zero [] t e = refl
bytes-fields zero (a ∷ s) t e = absurd (omega arith)
bytes-fields (suc k) [] t e = absurd (omega arith)
bytes-fields (suc k) (a ∷ []) t e = absurd (omega arith)
bytes-fields (suc k) (a ∷ b ∷ s) t e =
    let a_byte : a < 256 = ltb→lt a 256 (both_left (ltb a 256) _ t) in
    let rest = both_right (ltb a 256) _ t in
    let low : (a + 256 * b) % 256 ≡ a = omega arith in
    let high : (a + 256 * b) / 256 ≡ b = omega arith in
    ap bytes_of (fields-cons a b s k)
    ∙ ap₂ (λ (x y : ℕ). x ∷ y ∷ bytes_of (fields s k)) low high
    ∙ ap (λ (l : List ℕ). a ∷ b ∷ l) (bytes-fields k s (both_right (ltb b 256) _ rest) (omega arith))

-- fields from an offset on, in two stretches
fields-append : (s : List ℕ) (at i j : ℕ) → fields (drop at s) (i + j) ≡ fields (drop at s) i ++ fields (drop (at + 2 * i) s) j
unfolding fields field
fields-append s at i j =
    let low : (k : ℕ) → at + 2 * (i + k) ≡ at + 2 * i + 2 * k = λ k. omega arith in
    let high : (k : ℕ) → at + (2 * (i + k) + 1) ≡ at + 2 * i + (2 * k + 1) = λ k. omega arith in
    tabulate-append i j _
    ∙ ap (λ (l : List ℕ). fields (drop at s) i ++ l)
    (tabulate-same j _ _
    (λ k h.
    ap₂ (λ (x y : ℕ). x + 256 * y)
    (get_or-drop at s (2 * (i + k)) 0 ∙ ap (λ (p : ℕ). get_or s p 0) (low k) ∙ sym (get_or-drop (at + 2 * i) s (2 * k) 0))
    (get_or-drop at s (2 * (i + k) + 1) 0 ∙ ap (λ (p : ℕ). get_or s p 0) (high k) ∙ sym (get_or-drop (at + 2 * i) s (2 * k + 1) 0))))

head-fields : (file : CircuitFile) → fields file.bytes 2 ≡ nodes_of file ∷ links_of file ∷ []
unfolding nodes_of links_of fields tabulate
head-fields file = refl

-- the fields of a file that has the right length, all of them: N, M, and the stretches
pub all-fields : (file : CircuitFile) → let n = nodes_of file in
    let m = links_of file in
    fields file.bytes (2 + (n + (package_count file.edition n + (m + m))))
    ≡ n ∷ m ∷ kinds_of file ++ (packages_of file ++ (starts_of file ++ ends_of file))
unfolding kinds_of packages_of starts_of ends_of
all-fields file =
    let n = nodes_of file in
    let m = links_of file in
    let p = package_count file.edition n in
    let s = file.bytes in
    fields-append s 0 2 (n + (p + (m + m)))
    ∙ ap (λ (l : List ℕ). l ++ fields (drop 4 s) (n + (p + (m + m)))) (head-fields file)
    ∙ ap (λ (l : List ℕ). n ∷ m ∷ l)
    (fields-append s 4 n (p + (m + m))
    ∙ ap (λ (l : List ℕ). fields (drop 4 s) n ++ l)
    (fields-append s (4 + 2 * n) p (m + m) ∙ ap (λ (l : List ℕ). fields (drop (4 + 2 * n) s) p ++ l) (fields-append s (4 + 2 * n + 2 * p) m m)))

-- the file of an accepted file's circuit is the file
pub file-again : (file : CircuitFile) → T (all (λ b. ltb b 256) file.bytes) → length file.bytes ≡ length_of file.edition (nodes_of file) (links_of file)
    → file_bytes file.edition (kinds_of file) (packages_of file) (starts_of file) (ends_of file) ≡ file.bytes
unfolding stretch_bytes
file-again file t e =
    let n = nodes_of file in
    let m = links_of file in
    let p = package_count file.edition n in
    ap₂ (λ (k l : ℕ). bytes_of (k ∷ l ∷ kinds_of file ++ (take (package_count file.edition k) (packages_of file) ++ (starts_of file ++ ends_of file)))) (length-kinds file) (length-starts file)
    ∙ ap (λ (l : List ℕ). bytes_of (n ∷ m ∷ kinds_of file ++ (l ++ (starts_of file ++ ends_of file)))) (take_all p (packages_of file) (le_of_eq (length-packages file)))
    ∙ ap bytes_of (sym (all-fields file))
    ∙ bytes-fields (2 + (n + (p + (m + m)))) file.bytes t (omega arith)
