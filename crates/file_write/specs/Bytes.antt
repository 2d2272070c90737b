-- The bytes of a circuit's file, in every edition.
use Rattle.base_lists.specs.Kit.{List, ℕ, length, take}
use Rattle.graph.specs.Circuit.{Circuit}
use Rattle.base_lists.specs.List.{Below}
use Rattle.file_format.specs.declared.Edition.{Edition}
use Rattle.file_format.specs.declared.Edition.TheVariants.{First, Second}
use Rattle.file_format.specs.Label.{kinds_in, packages_in}
use Rattle.file_format.specs.Layout.{package_count}
unfoldable pub use Rattle.file_bytes.specs.Bytes.{bytes_of, stretch_bytes}

-- the file: of the packages given, those that the edition has
abbrev pub file_bytes : Edition → List ℕ → List ℕ → List ℕ → List ℕ → List ℕ
file_bytes e kinds packages starts ends = stretch_bytes kinds (take (package_count e (length kinds)) packages) starts ends

-- the kinds that an edition writes of labels: labels without packages are kinds
unfoldable pub kinds_for : Edition → List ℕ → List ℕ
kinds_for First ls = ls
kinds_for Second ls = kinds_in ls

-- the file of a circuit, whose labels have both the kinds and the packages
unfoldable pub circuit_bytes : Edition → Circuit → List ℕ
circuit_bytes e c = file_bytes e (kinds_for e c.labels) (packages_in c.labels) c.starts c.ends

-- labels that an edition can hold: in the first all packages are 0
unfoldable pub LabelsFit : Edition → List ℕ → Type 0
LabelsFit First ls = Below 65536 ls
LabelsFit Second ls = Unit {0}
