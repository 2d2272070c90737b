-- The classes that the merging call gives, in terms of the bytes that it leaves.
use Rattle.std.specs.Prelude.{◌≡◌, ◌≤◌, ◌<◌}
use Rattle.base_lists.specs.Kit.{List, ℕ, get_or}
use Rattle.file_format.specs.Layout.{CircuitFile, nodes_of}
use Rattle.call_merge.specs.Call.{merging}

-- "the class of each part, a byte each": the byte of part u as the call leaves it
abbrev pub class_byte : CircuitFile → List ℕ → List ℕ → ℕ → ℕ
class_byte file lent out u = get_or (merging file lent out).classes u 0

-- the smallest part with the byte of u
pub record Smallest (file : CircuitFile) (lent out : List ℕ) (u s : ℕ) : Type 0 where
  pub below : s < nodes_of file
  pub same : class_byte file lent out s ≡ class_byte file lent out u
  pub least : (v : ℕ) → v < nodes_of file → class_byte file lent out v ≡ class_byte file lent out u → s ≤ v
