-- The order on circuits and their second-edition files: a file's numbers are its circuit's, and circuits rank equal exactly when their files are the same
-- bytes. Assumes nothing.
use Rattle.std.specs.Prelude.{◌≡◌, ◌↔◌, ◌∷◌, ◌++◌, ◌+◌, ◌/◌, ◌%◌}
use Rattle.base_lists.specs.Kit.{◌∙◌, sym, ap, refl, ap₂, List, [], ℕ, le_of_eq, T, ltb, length, take_all, arith}
use Rattle.base_lists.specs.List.{all}
use Rattle.file_format.specs.declared.Edition.TheVariants.{Second}
use Rattle.file_format.specs.declared.Role.{Role}
use Rattle.file_format.specs.Layout.{fields, nodes_of, links_of, kinds_of, packages_of, starts_of, ends_of}
use Rattle.file_format.specs.Refusals.{accept, first, file_conditions}
use Rattle.file_format.proofs.Fields.{length-kinds, length-packages, length-starts, length-ends}
use Rattle.file_format.proofs.Refusals.{accepted}
use Rattle.file_write.specs.Bytes.{bytes_of, stretch_bytes, file_bytes}
use Rattle.file_write.proofs.FileFields.{all-fields}
use Rattle.file_write.proofs.RoundTrip.{same-file}
use Rattle.std.specs.declared.cmp.Ordering.TheVariants.{Equal}
use Rattle.order.specs.Order.{Whole, Parallel, numbers_of, compare_lists, compare_whole}
use Rattle.order.proofs.Laws.{lists-order, whole-order, numbers-order}
use Rattle.order.specs.Files.{second_edition, whole_of, compare_files, numbers_in}

-- ---- a file's circuit

pub file-parallel : (a : List ℕ) → Parallel (whole_of a)
file-parallel a =
    let file = second_edition a in
    record { packages = length-packages file ∙ sym (length-kinds file); ends = length-ends file ∙ sym (length-starts file) }

module _ (r : Role) (a : List ℕ) (e : first (file_conditions r (second_edition a)) ≡ accept) where
  -- the numbers of an accepted file are N, M and those of its circuit
  pub file-numbers : numbers_in a ≡ numbers_of (whole_of a)
  unfolding numbers_in numbers_of
  file-numbers =
      let file = second_edition a in
      let n = nodes_of file in
      let m = links_of file in
      let half : length a / 2 ≡ 2 + (n + (n + (m + m))) = omega (arith, (accepted r file e).size) in
      ap (fields a) half
      ∙ all-fields file
      ∙ ap₂ (λ (k l : ℕ). k ∷ l ∷ kinds_of file ++ (packages_of file ++ (starts_of file ++ ends_of file))) (sym (length-kinds file)) (sym (length-starts file))

-- so that comparing the numbers of two accepted files compares their circuits
pub fields-order : (r r' : Role) (a b : List ℕ) → first (file_conditions r (second_edition a)) ≡ accept → first (file_conditions r' (second_edition b)) ≡ accept
    → compare_lists (numbers_in a) (numbers_in b) ≡ compare_files a b
unfolding compare_files
fields-order r r' a b e f = ap₂ compare_lists (file-numbers r a e) (file-numbers r' b f) ∙ numbers-order (file-parallel a) (file-parallel b)

-- ---- equal exactly when the files are the same

-- "two circuits rank equal exactly when their second-edition files are the same bytes": of accepted files, in whatever roles
module _ (r r' : Role) (a b : List ℕ) (bytes : T (all (λ x. ltb x 256) a)) (bytes' : T (all (λ x. ltb x 256) b))
    (e : first (file_conditions r (second_edition a)) ≡ accept) (f : first (file_conditions r' (second_edition b)) ≡ accept) where
  pub equal-files : compare_files a b ≡ Equal ↔ (a ≡ b)
  unfolding compare_files
  equal-files = (
    λ q.
        let w = (whole-order.same (whole_of a) (whole_of b)).0 q in
        same-file r r' Second a b bytes bytes' e f (ap (λ (c : Whole). c.kinds) w) (ap (λ (c : Whole). c.packages) w) (ap (λ (c : Whole). c.starts) w) (ap (λ (c : Whole). c.ends) w),
    λ q. (whole-order.same (whole_of a) (whole_of b)).1 (ap whole_of q),
  )

-- the bytes of numbers are those of no other numbers
bytes_one : (xs ys : List ℕ) → bytes_of xs ≡ bytes_of ys → xs ≡ ys
unfolding bytes_of
bytes_one [] [] e = refl
bytes_one [] (y ∷ ys) e = let z : ◌≡◌ {A = ℕ} 0 1 = cc in absurd (omega arith)
bytes_one (x ∷ xs) [] e = let z : ◌≡◌ {A = ℕ} 0 1 = cc in absurd (omega arith)
bytes_one (x ∷ xs) (y ∷ ys) e =
    let low : x % 256 ≡ y % 256 = cc in
    let high : x / 256 ≡ y / 256 = cc in
    let rest : bytes_of xs ≡ bytes_of ys = cc in
    let same : x ≡ y = omega arith in
    ap₂ (λ (z : ℕ) (zs : List ℕ). z ∷ zs) same (bytes_one xs ys rest)

-- the second-edition file of a circuit
abbrev pub file_of : Whole → List ℕ
file_of c = file_bytes Second c.kinds c.packages c.starts c.ends

file-of-numbers : (c : Whole) → Parallel c → file_of c ≡ bytes_of (numbers_of c)
unfolding stretch_bytes numbers_of
file-of-numbers c p =
    ap (λ (l : List ℕ). bytes_of (length c.kinds ∷ length c.starts ∷ c.kinds ++ (l ++ (c.starts ++ c.ends))))
    (take_all (length c.kinds) c.packages (le_of_eq p.packages))

-- the same of any two circuits with a package for each node and an end for each start
pub equal-circuits : (c d : Whole) → Parallel c → Parallel d → compare_whole c d ≡ Equal ↔ (file_of c ≡ file_of d)
equal-circuits c d p q = (
  λ e. ap file_of ((whole-order.same c d).0 e),
  λ e.
      let same = bytes_one (numbers_of c) (numbers_of d) (sym (file-of-numbers c p) ∙ e ∙ file-of-numbers d q) in
      sym (numbers-order p q) ∙ (lists-order.same (numbers_of c) (numbers_of d)).1 same,
)
