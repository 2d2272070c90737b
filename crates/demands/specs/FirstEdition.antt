-- What files of the first edition get, said in the layout of document 01 alone, which knows of no packages:
-- `FirstEdition`. proofs/FirstEdition proves it. Every call is made of what stands here, what a file is asked for, the
-- circuit that it holds and the bytes that are written, and of which part and node are equal (specs/Packages). "a
-- first-edition file counts as having all packages 0"
use Rattle.std.specs.Prelude.{◌≡◌, ◌∷◌, ◌++◌, ◌+◌, ◌*◌}
use Rattle.base_lists.specs.Kit.{not, List, [], ℕ, eqb, ltb, length, drop}
use Rattle.graph.specs.Circuit.{Circuit}
use Rattle.file_format.specs.declared.Edition.TheVariants.{First}
use Rattle.file_format.specs.declared.Role.{Role}
use Rattle.file_format.specs.Circuit.{circuit_of}
use Rattle.file_format.specs.Layout.{first_edition, field, fields}
use Rattle.file_format.specs.Reading.{read_answer, filled, ReadOutcome, reading}
use Rattle.file_format.specs.Refusals.{Condition, first, link_conditions, file_conditions, short_table}
use Rattle.file_format.specs.Reply.{reply}
use Rattle.file_format.specs.Role.{in_range, file_of}
use Rattle.file_write.specs.Bytes.{bytes_of}
use Rattle.file_write.specs.Writing.{write_answer, WriteOutcome, writing}
use Rattle.merge.specs.Merged.{merged}
use Rattle.call_merge.specs.Call.{merged_bytes}

-- ---- before there were packages

-- "N, M, then N kinds, then two parallel arrays, M link starts and M link ends."
unfoldable pub circuit_before : List ℕ → Circuit
circuit_before file =
    let n = field file 0 in
    let m = field file 2 in
    record { labels = fields (drop 4 file) n; starts = fields (drop (4 + 2 * n) file) m; ends = fields (drop (4 + 2 * n + 2 * m) file) m }

-- "The length is 4 + 2N + 4M bytes."
unfoldable pub file_before : Role → List ℕ → List Condition
file_before role file =
    let n = field file 0 in
    let m = field file 2 in
    record { number = 1; file = file_of role; holds = ltb (length file) 4 } ∷
    record { number = 2; file = file_of role; holds = not (in_range role n m) } ∷
    record { number = 3; file = file_of role; holds = not (eqb (length file) (4 + 2 * n + 4 * m)) } ∷
    link_conditions role n (circuit_before file).starts (circuit_before file).ends

-- "Needed: reading N, M, M": the packages lent are neither asked for nor touched
unfoldable pub reading_before : Role → List ℕ → List ℕ → List ℕ → List ℕ → List ℕ → ReadOutcome
reading_before role file kinds packages starts ends =
    let n = field file 0 in
    let m = field file 2 in
    let c = circuit_before file in
    let verdict = first (file_before role file ++ (short_table n (length kinds) ∷ short_table m (length starts) ∷ short_table m (length ends) ∷ [])) in
    record {
      answer = read_answer verdict n m;
      reply = reply verdict (n ∷ m ∷ []);
      kinds = filled verdict c.labels kinds;
      packages = packages;
      starts = filled verdict c.starts starts;
      ends = filled verdict c.ends ends;
    }

unfoldable pub bytes_before : Circuit → List ℕ
bytes_before c = bytes_of (length c.labels ∷ length c.starts ∷ c.labels ++ (c.starts ++ c.ends))

unfoldable pub writing_before : Role → Circuit → List ℕ → WriteOutcome
writing_before role c out =
    let n = length c.labels in
    let m = length c.starts in
    let size = 4 + 2 * n + 4 * m in
    let verdict =
    first
    (record { number = 2; file = file_of role; holds = not (in_range role n m) } ∷
    record { number = 3; file = file_of role; holds = not (eqb m (length c.ends)) } ∷
    (link_conditions role n c.starts c.ends ++ (short_table size (length out) ∷ [])))
    in
    record { answer = write_answer verdict size; reply = reply verdict (size ∷ []); out = filled verdict (bytes_before c) out }

-- ---- and now

pub record FirstEdition : Type 0 where
  -- what a file is asked for, and what it holds
  pub asked : (role : Role) (file : List ℕ) → file_conditions role (first_edition file) ≡ file_before role file
  pub held : (file : List ℕ) → circuit_of (first_edition file) ≡ circuit_before file
  pub reads : (role : Role) (file kinds packages starts ends : List ℕ) →
      reading role (first_edition file) kinds packages starts ends ≡ reading_before role file kinds packages starts ends
  -- whatever packages are given, of whatever number
  pub writes : (role : Role) (kinds packages starts ends out : List ℕ) →
      writing role First kinds packages starts ends out ≡ writing_before role (record { labels = kinds; starts = starts; ends = ends }) out
  pub merges : (file : List ℕ) → merged_bytes First (circuit_of (first_edition file)) ≡ bytes_before (merged (circuit_before file))
