-- What refuses a circuit that is to be written, as a number.
use Rattle.std.specs.Prelude.{◌&&◌}
use Rattle.base_lists.specs.Kit.{cond, List, ℕ, eqb, length}
use Rattle.file_format.specs.declared.Edition.{Edition}
use Rattle.file_format.specs.declared.Role.{Role}
use Rattle.file_format.specs.Layout.{package_count}
use Rattle.file_format.specs.Refusals.{link_number}
use Rattle.file_format.specs.Role.{in_range}

-- the number of the first condition that holds on a circuit of n nodes, with as many packages as are given: 2, 3, or one on the links; and 0
-- where none does
unfoldable pub circuit_number : Role → Edition → ℕ → ℕ → List ℕ → List ℕ → ℕ
circuit_number r e n given starts ends =
    cond (in_range r n (length starts))
    (cond (eqb (length starts) (length ends) && eqb (package_count e given) (package_count e n)) (link_number r n starts ends) 3)
    2
