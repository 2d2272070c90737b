-- The merging call, whole: its reply and the later content of both lent tables, from the inputs alone.
use Rattle.std.specs.Prelude.{◌∷◌, ◌++◌, Result, Ok, Err}
use Rattle.base_lists.specs.Kit.{List, [], ℕ, length}
use Rattle.graph.specs.Circuit.{Circuit}
use Rattle.file_format.specs.declared.Edition.{Edition}
use Rattle.file_format.specs.declared.Refusal.{Refusal}
use Rattle.file_format.specs.declared.Role.TheVariants.{Pattern}
use Rattle.file_format.specs.Circuit.{circuit_of}
use Rattle.file_format.specs.Layout.{CircuitFile, nodes_of}
use Rattle.file_format.specs.Reading.{filled}
use Rattle.file_format.specs.Refusals.{Condition, accept, refuse, first, file_conditions, short_table}
use Rattle.file_format.specs.Reply.{Reply, reply}
use Rattle.file_write.specs.Bytes.{circuit_bytes}
use Rattle.merge.specs.Merged.{class_count, classes, merged}
use Rattle.merge_file.specs.declared.Merged.{Merged}

-- the file of a pattern's merged pattern: "the merged file has the pattern's edition"
unfoldable pub merged_bytes : Edition → Circuit → List ℕ
merged_bytes e p = circuit_bytes e (merged p)

-- the pattern's 1 to 6 and 11, then 8: "Needed: .. merging N classes and the first pattern's file length"
unfoldable pub merge_conditions : CircuitFile → ℕ → ℕ → List Condition
merge_conditions file classes out = file_conditions Pattern file ++ (short_table (nodes_of file) classes ∷ short_table (length file.bytes) out ∷ [])

-- "replies with the number of classes and that file's length": number and values of each case of the answer
unfoldable pub merge_reply : Result Merged Refusal → Reply
merge_reply (Ok made) = record { verdict = accept; values = made.classes ∷ made.size ∷ [] }
merge_reply (Err x) = record { verdict = refuse x; values = [] }

-- the reply, and the two tables as the call leaves them
pub record MergeOutcome : Type 0 where
  pub reply : Reply
  pub classes : List ℕ
  pub out : List ℕ

-- "The call gives the class of each part, a byte each, and the merged file, and replies with the number of classes and that file's length;
-- output bytes after the merged file's end keep their content."
unfoldable pub merging : CircuitFile → List ℕ → List ℕ → MergeOutcome
merging file lent out =
    let verdict = first (merge_conditions file (length lent) (length out)) in
    let p = circuit_of file in
    record {
      reply = reply verdict (class_count p ∷ length (merged_bytes file.edition p) ∷ []);
      classes = filled verdict (classes p) lent;
      out = filled verdict (merged_bytes file.edition p) out;
    }
