-- What merging a pattern that was read leaves.
use Rattle.std.specs.Prelude.{◌≡◌}
use Rattle.base_lists.specs.Kit.{List, ℕ, length}
use Rattle.graph.specs.Circuit.{Circuit}
use Rattle.file_format.specs.declared.Edition.{Edition}
use Rattle.file_format.specs.Reading.{filled}
use Rattle.file_format.specs.Refusals.{accept}
use Rattle.file_write.specs.Bytes.{circuit_bytes}
use Rattle.merge.specs.Merged.{class_count, classes, merged}
use Rattle.merge_file.specs.declared.Merged.{Merged}

-- the number of classes, the length of the merged file, the class bytes, and the merged file's bytes at the front of those lent
pub record MergedFrom (e : Edition) (p : Circuit) (made : Merged) (bytes before after : List ℕ) : Type 0 where
  pub counted : made.classes ≡ class_count p
  pub sized : made.size ≡ length (circuit_bytes e (merged p))
  pub numbered : bytes ≡ classes p
  pub stored : after ≡ filled accept (circuit_bytes e (merged p)) before
