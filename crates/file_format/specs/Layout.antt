-- The layout of a circuit file: its fields, and where each stretch begins, in every edition. Reading and writing both cite this.
use Rattle.std.specs.Prelude.{◌+◌, ◌*◌}
use Rattle.base_lists.specs.Kit.{List, ℕ, get_or, drop}
use Rattle.base_lists.specs.List.{tabulate}
use Rattle.file_format.specs.declared.Edition.{Edition}
use Rattle.file_format.specs.declared.Edition.TheVariants.{First, Second}
use Rattle.file_format.specs.Label.{labels}

-- "Every field is 16 bits unsigned, low byte first": the field at a byte offset.
unfoldable pub field : List ℕ → ℕ → ℕ
field file at = get_or file at 0 + 256 * get_or file (at + 1) 0

-- the first k fields of a stretch
unfoldable pub fields : List ℕ → ℕ → List ℕ
fields stretch k = tabulate k (λ i. field stretch (2 * i))

-- A circuit file: its bytes, and which edition they are said to be. "Calls say which edition each file is"
pub record CircuitFile : Type 0 where
  pub edition : Edition
  pub bytes : List ℕ

abbrev pub in_edition : Edition → List ℕ → CircuitFile
in_edition edition bytes = record { edition = edition; bytes = bytes }

abbrev pub first_edition : List ℕ → CircuitFile
first_edition bytes = in_edition First bytes

-- ---- where each stretch begins

-- "N, M, then N kinds, then two parallel arrays, M link starts and M link ends. The length is 4 + 2N + 4M bytes."
-- "A second edition of the circuit file has N packages, 16 bits each, between kinds and starts; its length is 4 + 4N + 4M."
abbrev pub kinds_at : ℕ
kinds_at = 4

abbrev pub packages_at : ℕ → ℕ
packages_at n = 4 + 2 * n

-- all that the edition says: how many packages a file of n nodes has
abbrev pub package_count : Edition → ℕ → ℕ
package_count First n = 0
package_count Second n = n

abbrev pub starts_at : Edition → ℕ → ℕ
starts_at e n = 4 + 2 * n + 2 * package_count e n

abbrev pub ends_at : Edition → ℕ → ℕ → ℕ
ends_at e n m = 4 + 2 * n + 2 * package_count e n + 2 * m

abbrev pub length_of : Edition → ℕ → ℕ → ℕ
length_of e n m = 4 + 2 * n + 2 * package_count e n + 4 * m

-- ---- what stands there

unfoldable pub nodes_of : CircuitFile → ℕ
nodes_of file = field file.bytes 0

unfoldable pub links_of : CircuitFile → ℕ
links_of file = field file.bytes 2

-- "The kinds, the starts and the ends are each read as a stretch of the file from its own offset."
unfoldable pub kinds_of : CircuitFile → List ℕ
kinds_of file = fields (drop kinds_at file.bytes) (nodes_of file)

unfoldable pub packages_of : CircuitFile → List ℕ
packages_of file = fields (drop (packages_at (nodes_of file)) file.bytes) (package_count file.edition (nodes_of file))

unfoldable pub starts_of : CircuitFile → List ℕ
starts_of file = fields (drop (starts_at file.edition (nodes_of file)) file.bytes) (links_of file)

unfoldable pub ends_of : CircuitFile → List ℕ
ends_of file = fields (drop (ends_at file.edition (nodes_of file) (links_of file)) file.bytes) (links_of file)

-- each node's kind and package as one number; "a first-edition file counts as having all packages 0"
unfoldable pub labels_of : CircuitFile → List ℕ
labels_of file = labels (kinds_of file) (packages_of file)

-- the same, from N and the bytes
unfoldable pub labels_from : Edition → List ℕ → ℕ → List ℕ
labels_from e bytes n = labels (fields (drop kinds_at bytes) n) (fields (drop (packages_at n) bytes) (package_count e n))
