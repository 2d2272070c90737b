-- How much of a file a program reads.
use Rattle.std.specs.Prelude.{◌+◌}
use Rattle.base_lists.specs.Kit.{List, ℕ, take}
use Rattle.file_format.specs.declared.Edition.{Edition}
use Rattle.file_format.specs.declared.Role.{Role}
use Rattle.file_format.specs.Layout.{length_of}
use Rattle.file_format.specs.Role.{max_nodes, max_links}

-- a byte more than the longest file of an edition that is accepted in a role
abbrev pub most : Edition → Role → ℕ
most e r = length_of e (max_nodes r) (max_links r) + 1

-- what is read of a file so
abbrev pub cut : Edition → Role → List ℕ → List ℕ
cut e r file = take (most e r) file
