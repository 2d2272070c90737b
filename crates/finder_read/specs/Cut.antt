-- How much of a file the program reads.
use Rattle.base_lists.specs.Kit.{List, ℕ}
use Rattle.file_format.specs.declared.Edition.TheVariants.{First}
use Rattle.file_format.specs.declared.Role.{Role}
use Rattle.file_format.specs.Cut as files

-- a byte more than the longest first-edition file that is accepted in a role
abbrev pub most : Role → ℕ
most r = files.most First r

-- what is read of a file so
abbrev pub cut : Role → List ℕ → List ℕ
cut r file = files.cut First r file
