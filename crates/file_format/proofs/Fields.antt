-- Laws of the fields of a stretch, for the loops that go through them. Assumes nothing.
use Rattle.std.specs.Prelude.{◌≡◌, ◌++◌, ◌≤◌, ◌<◌, ◌+◌, ◌-◌, ◌*◌}
use Rattle.base_lists.specs.Kit.{◌∙◌, ap, refl, ap₂, List, ℕ, add-sub_cancel_left, length, get_or, take, drop, set, take_at, get_or-take, arith}
use Rattle.file_format.specs.declared.Edition.{Edition}
use Rattle.file_format.specs.declared.Edition.TheVariants.{First, Second}
use Rattle.file_format.specs.Label.{labels}
use Rattle.base_lists.proofs.Tables.{length-tabulate, get_d_tabulate, tabulate-same, filled_none, filled_more}
use Rattle.file_format.specs.Layout.{CircuitFile, field, fields, package_count, nodes_of, links_of, kinds_of, packages_of, starts_of, ends_of, labels_of, labels_from}

pub length_fields : (s : List ℕ) (k : ℕ) → length (fields s k) ≡ k
unfolding fields
length_fields s k = length-tabulate k (λ i. field s (2 * i))

pub length-kinds : (file : CircuitFile) → length (kinds_of file) ≡ nodes_of file
unfolding kinds_of
length-kinds file = length_fields _ (nodes_of file)

pub length-labels : (file : CircuitFile) → length (labels_of file) ≡ nodes_of file
unfolding labels_of labels
length-labels file = length-tabulate _ _ ∙ length-kinds file

pub length-labels-from : (e : Edition) (bytes : List ℕ) (n : ℕ) → length (labels_from e bytes n) ≡ n
unfolding labels_from labels
length-labels-from e bytes n = length-tabulate _ _ ∙ length_fields _ n

-- as many packages as the edition has
pub length-packages : (file : CircuitFile) → length (packages_of file) ≡ package_count file.edition (nodes_of file)
unfolding packages_of
length-packages file = length_fields _ (package_count file.edition (nodes_of file))

pub package-count-le : (e : Edition) (n : ℕ) → package_count e n ≤ n
package-count-le First n = omega arith
package-count-le Second n = omega arith

pub count-again : (e : Edition) (n : ℕ) → package_count e (package_count e n) ≡ package_count e n
count-again First n = refl
count-again Second n = refl

pub length-starts : (file : CircuitFile) → length (starts_of file) ≡ links_of file
unfolding starts_of
length-starts file = length_fields _ (links_of file)

pub length-ends : (file : CircuitFile) → length (ends_of file) ≡ links_of file
unfolding ends_of
length-ends file = length_fields _ (links_of file)

pub get_or-fields : (s : List ℕ) (k i : ℕ) → i < k → get_or (fields s k) i 0 ≡ field s (2 * i)
unfolding fields
get_or-fields s k i h = get_d_tabulate k (λ i. field s (2 * i)) i 0 h

-- the first k fields lie in the first 2 k bytes
pub fields-take : (s : List ℕ) (k : ℕ) → fields (take (2 * k) s) k ≡ fields s k
unfolding fields field
fields-take s k =
    tabulate-same k _ _
    (λ i h.
    ap₂ (λ (a b : ℕ). a + 256 * b) (get_or-take (2 * k) s (2 * i) 0 (omega arith)) (get_or-take (2 * k) s (2 * i + 1) 0 (omega arith)))

-- the same of a part that runs from one offset to another, 2 k bytes on
pub fields-part : (s : List ℕ) (at k : ℕ) → fields (take (at + 2 * k - at) s) k ≡ fields s k
fields-part s at k = rw (add-sub_cancel_left at (2 * k)) (fields-take s k)

-- ---- the fields stored one after another

pub stored-none : (s d : List ℕ) → d ≡ fields s 0 ++ drop 0 d
unfolding fields
stored-none s d = filled_none _ d

pub stored_more : (s d : List ℕ) (i : ℕ) → i < length d → set (fields s i ++ drop i d) i (field s (2 * i)) ≡ fields s (i + 1) ++ drop (i + 1) d
unfolding fields
stored_more s d i h = filled_more i (λ j. field s (2 * j)) d h

-- what was stored stands at the front
pub stored-prefix : (s d l : List ℕ) (k : ℕ) → l ≡ fields s k ++ drop k d → take k l ≡ fields s k
stored-prefix s d l k e = ap (take k) e ∙ take_at (fields s k) (drop k d) k (length_fields s k)

-- ---- fields of bytes are of 16 bits

pub field-low : (s : List ℕ) → ((i : ℕ) → get_or s i 0 < 256) → (at : ℕ) → field s at < 65536
unfolding field
field-low s low at = omega (arith, low at, low (at + 1))
