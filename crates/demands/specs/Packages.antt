-- Ask 6, "Packages", quoted over what is proved of it: `Ask6`. proofs/Packages proves it. "What the shops were told
-- about tables, places and merging covers both editions, shown over the finer equality": the demands are over circuit
-- files of either edition, in every mixture. "The merged part takes its class's package, and the merged file has the
-- pattern's edition.": specs/Demands `Made`, `merged_file`. The numbers 3 and 12: `writes`, `converts` there. That
-- nothing moved for the first edition: specs/FirstEdition. The layout as bytes: specs/Files.
use Rattle.std.specs.Prelude.{◌≡◌, ◌↔◌, ◌≤◌, ◌+◌, ◌*◌}
use Rattle.base_lists.specs.Kit.{List, [], ℕ, length, get_or, take}
use Rattle.base_lists.specs.List.{Below}
use Rattle.file_format.specs.declared.Edition.{Edition}
use Rattle.file_format.specs.declared.Edition.TheVariants.{Second}
use Rattle.file_format.specs.declared.Role.{Role}
use Rattle.file_format.specs.Circuit.{circuit_of}
use Rattle.file_format.specs.Layout.{CircuitFile, in_edition, first_edition, kinds_of, packages_of, length_of}
use Rattle.file_format.specs.Refusals.{accept}
use Rattle.table.specs.Host.{KindMatches}
use Rattle.call_convert.specs.Call.{converting}
use Rattle.demands.specs.Demands.{equal}

-- the kind and the package of a node; "a first-edition file counts as having all packages 0": its list of packages is
-- empty
abbrev pub kind_at : CircuitFile → ℕ → ℕ
kind_at file v = get_or (kinds_of file) v 0

abbrev pub package_at : CircuitFile → ℕ → ℕ
package_at file v = get_or (packages_of file) v 0

-- the file that a converter leaves: the front of the bytes lent, of the length replied
abbrev pub new_file : Role → Edition → CircuitFile → List ℕ → CircuitFile
new_file role to file out = in_edition to (take (get_or (converting role to file out).reply.values 0 0) (converting role to file out).out)

pub record Ask6 : Type 0 where
  -- "its length is 4 + 4N + 4M"
  pub long : (n m : ℕ) → length_of Second n m ≡ 4 + 4 * n + 4 * m
  pub none : (bytes : List ℕ) → packages_of (first_edition bytes) ≡ []
  -- "Two nodes are now equal when kinds agree by Ask 1 and packages are the same number, kind 0 included.": for any two
  -- files, each of either edition
  pub equals : (pattern board : CircuitFile) → Below 256 pattern.bytes → Below 256 board.bytes → (u v : ℕ) →
      equal pattern board u v ↔ (KindMatches (kind_at pattern u) (kind_at board v) × (package_at pattern u ≡ package_at board v))
  -- "A converter, told the role, goes both ways, keeps the circuit and replies with the new file's length."; there and
  -- back again gives the same bytes
  pub converts : (role : Role) (to : Edition) (file : CircuitFile) (out out' : List ℕ) → Below 256 file.bytes →
      (converting role to file out).reply.verdict ≡ accept → length file.bytes ≤ length out' →
      (circuit_of (new_file role to file out) ≡ circuit_of file)
      × (take (length file.bytes) (converting role file.edition (new_file role to file out) out').out ≡ file.bytes)
