-- A node's label: its kind and its package as one number, 32 bits. A match needs both, so that a circuit has one list of labels.
use Rattle.std.specs.Prelude.{◌+◌, ◌*◌, ◌/◌, ◌%◌}
use Rattle.base_lists.specs.Kit.{List, ℕ, length, get_or}
use Rattle.base_lists.specs.List.{tabulate}

-- the kind, and 65,536 times the package: a node of package 0 has its kind for a label
unfoldable pub label : ℕ → ℕ → ℕ
label kind pack = kind + 65536 * pack

-- the kind and the package that a label has
unfoldable pub kind_in : ℕ → ℕ
kind_in l = l % 65536

unfoldable pub package_in : ℕ → ℕ
package_in l = l / 65536

-- the labels of nodes: a node without a package has package 0
unfoldable pub labels : List ℕ → List ℕ → List ℕ
labels kinds packages = tabulate (length kinds) (λ v. label (get_or kinds v 0) (get_or packages v 0))

-- the kinds and the packages that labels have
unfoldable pub kinds_in : List ℕ → List ℕ
kinds_in ls = tabulate (length ls) (λ v. kind_in (get_or ls v 0))

unfoldable pub packages_in : List ℕ → List ℕ
packages_in ls = tabulate (length ls) (λ v. package_in (get_or ls v 0))
