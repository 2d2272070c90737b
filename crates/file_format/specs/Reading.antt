-- The call that reads a circuit file, whole: its reply and each table's later content, from the inputs alone; and what a call that goes on
-- with the circuit knows of a file that was read.
use Rattle.std.specs.Prelude.{◌≡◌, ◌∷◌, ◌++◌, ◌≤◌, Result, Ok, Err}
use Rattle.base_lists.specs.Kit.{List, [], ℕ, T, length, take, drop}
use Rattle.graph.specs.Circuit.{Circuit}
use Rattle.graph.specs.Search.{radius}
use Rattle.file_format.specs.declared.FileRead.{FileRead}
use Rattle.file_format.specs.declared.Refusal.{Refusal}
use Rattle.file_format.specs.declared.Role.{Role}
use Rattle.file_format.specs.declared.Size.{Size}
use Rattle.file_format.specs.Layout.{CircuitFile, package_count, nodes_of, links_of, kinds_of, packages_of, starts_of, ends_of}
use Rattle.file_format.specs.Refusals.{Condition, Verdict, accept, refuse, first, asks_connected, file_conditions, link_number, by_number, short_table}
use Rattle.file_format.specs.Role.{max_nodes, max_links}
use Rattle.file_format.specs.Circuit.{circuit_of}
use Rattle.file_format.specs.Reply.{Reply, reply, verdict_of}

-- "Needed: reading N, M, M"; "Reading the second fills N packages too"
unfoldable pub read_conditions : Role → CircuitFile → ℕ → ℕ → ℕ → ℕ → List Condition
read_conditions role file kinds packages starts ends =
    file_conditions role file ++ (short_table (nodes_of file) kinds ∷ short_table (package_count file.edition (nodes_of file)) packages ∷ short_table (links_of file) starts ∷ short_table (links_of file) ends ∷ [])

-- "Reading fills kinds, starts and ends and replies with N and M."
unfoldable pub read_answer : Verdict → ℕ → ℕ → Result Size Refusal
read_answer accept n m = Ok (record { nodes = n; links = m })
read_answer (refuse x) n m = Err x

-- "All lent tables keep their content" where the call is refused; "Accepted calls leave entries past those needed."
unfoldable pub filled : Verdict → List ℕ → List ℕ → List ℕ
filled accept values old = values ++ drop (length values) old
filled (refuse x) values old = old

-- the answer, what it is in document 01's terms (Reply `read_reply`), and the four tables as the call leaves them
pub record ReadOutcome : Type 0 where
  pub answer : Result Size Refusal
  pub reply : Reply
  pub kinds : List ℕ
  pub packages : List ℕ
  pub starts : List ℕ
  pub ends : List ℕ

-- A first-edition file has no packages, so that the table for them is neither asked for nor touched.
unfoldable pub reading : Role → CircuitFile → List ℕ → List ℕ → List ℕ → List ℕ → ReadOutcome
reading role file kinds packages starts ends =
    let verdict = first (read_conditions role file (length kinds) (length packages) (length starts) (length ends)) in
    record {
      answer = read_answer verdict (nodes_of file) (links_of file);
      reply = reply verdict (nodes_of file ∷ links_of file ∷ []);
      kinds = filled verdict (kinds_of file) kinds;
      packages = filled verdict (packages_of file) packages;
      starts = filled verdict (starts_of file) starts;
      ends = filled verdict (ends_of file) ends;
    }

-- ---- a file that was read for a call

-- n labels and m links at the front of three tables
abbrev pub prefix : ℕ → ℕ → Circuit → Circuit
prefix n m tables = record { labels = take n tables.labels; starts = take m tables.starts; ends = take m tables.ends }

-- n and m are a file's N and M, and its circuit stands at the front of three tables
pub record Stands (file : CircuitFile) (n m : ℕ) (tables : Circuit) : Type 0 where
  pub nodes : n ≡ nodes_of file
  pub links : m ≡ links_of file
  pub content : prefix n m tables ≡ circuit_of file

-- tables that have room for every file of a role
pub record TablesRoom (r : Role) (tables : Circuit) : Type 0 where
  pub for_kinds : max_nodes r ≤ length tables.labels
  pub for_starts : max_links r ≤ length tables.starts
  pub for_ends : max_links r ≤ length tables.ends

-- what is known of an accepted file that was read: where its circuit stands, and a pattern's radius
pub record Held (r : Role) (file : CircuitFile) (read : FileRead) (tables : Circuit) : Type 0 where
  pub stands : Stands file read.nodes read.links tables
  pub measured : T (asks_connected r) → read.radius ≡ radius (nodes_of file) (starts_of file) (ends_of file)

-- a file was read: the verdict is that of the conditions 1 to 6 and 11
pub record Loaded (r : Role) (file : CircuitFile) (read : Result FileRead Refusal) (tables : Circuit) : Type 0 where
  pub verdict : verdict_of read ≡ first (file_conditions r file)
  pub held : (size : FileRead) → read ≡ Ok size → Held r file size tables

-- the conditions 4, 5, 6 and 11 on links that are given as numbers, and a pattern's radius where none of them holds
pub record LinksTested (r : Role) (n : ℕ) (starts ends : List ℕ) (tested : Result ℕ Refusal) : Type 0 where
  pub verdict : verdict_of tested ≡ by_number r (link_number r n starts ends)
  pub measured : (width : ℕ) → tested ≡ Ok width → T (asks_connected r) → width ≡ radius n starts ends
