-- The converter, whole: its reply and the later content of the bytes lent, from the inputs alone.
use Rattle.std.specs.Prelude.{◌∷◌, ◌++◌}
use Rattle.base_lists.specs.Kit.{List, [], ℕ, length, get_or}
use Rattle.base_lists.specs.List.{tabulate}
use Rattle.file_format.specs.declared.Edition.{Edition}
use Rattle.file_format.specs.declared.Role.{Role}
use Rattle.file_format.specs.Layout.{CircuitFile, length_of, nodes_of, links_of, kinds_of, packages_of, starts_of, ends_of}
use Rattle.file_format.specs.Reading.{filled}
use Rattle.file_format.specs.Refusals.{Condition, Verdict, first, file_conditions, package_lost, short_table}
use Rattle.file_format.specs.Reply.{Reply, reply}
use Rattle.file_write.specs.Bytes.{file_bytes}

-- a package for each node: "a first-edition file counts as having all packages 0"
unfoldable pub every_package : CircuitFile → List ℕ
every_package file = tabulate (nodes_of file) (λ v. get_or (packages_of file) v 0)

-- "A converter, told the role, goes both ways, keeps the circuit and replies with the new file's length."
unfoldable pub converted_bytes : Edition → CircuitFile → List ℕ
converted_bytes to file = file_bytes to (kinds_of file) (every_package file) (starts_of file) (ends_of file)

-- what reading checks in the role; then 12, "checked after its content and ahead of 8"; then 8
unfoldable pub convert_conditions : Role → Edition → CircuitFile → ℕ → List Condition
convert_conditions role to file lent =
    file_conditions role file ++ (package_lost role to (every_package file) ∷ short_table (length_of to (nodes_of file) (links_of file)) lent ∷ [])

-- the reply (Reply `number_reply`), and the bytes lent as the call leaves them
pub record ConvertOutcome : Type 0 where
  pub reply : Reply
  pub out : List ℕ

-- by a verdict: the new file's length and the new file, or the refusal and the bytes as they were
abbrev pub converted_by : Verdict → ℕ → List ℕ → List ℕ → ConvertOutcome
converted_by verdict size bytes out = record { reply = reply verdict (size ∷ []); out = filled verdict bytes out }

-- the call on a circuit that was read: 12 and 8
unfoldable pub convert_on : Role → Edition → List ℕ → List ℕ → List ℕ → List ℕ → List ℕ → ConvertOutcome
convert_on role to kinds packages starts ends out =
    let size = length_of to (length kinds) (length starts) in
    converted_by (first (package_lost role to packages ∷ short_table size (length out) ∷ [])) size (file_bytes to kinds packages starts ends) out

-- the call on a file; bytes past the new file stay
unfoldable pub converting : Role → Edition → CircuitFile → List ℕ → ConvertOutcome
converting role to file out =
    converted_by (first (convert_conditions role to file (length out))) (length_of to (nodes_of file) (links_of file)) (converted_bytes to file) out
