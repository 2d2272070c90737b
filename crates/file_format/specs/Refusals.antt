-- The numbers of refusal, as document 01's table has them, and those of document 02: each condition with its number and the file that it
-- means. A call's list has them in the order in which they are tried.
use Rattle.std.specs.Prelude.{◌≡◌, ◌&&◌, ◌∷◌, ◌++◌, ◌≤◌}
use Rattle.base_lists.specs.Kit.{Bool, false, true, cond, not, List, [], MemOf, ℕ, T, eqb, ltb, length}
use Rattle.graph.specs.Search.{far, connected, radius}
use Rattle.base_lists.specs.List.{any}
use Rattle.file_format.specs.declared.Edition.{Edition}
use Rattle.file_format.specs.declared.Edition.TheVariants.{First, Second}
use Rattle.file_format.specs.declared.File.{File}
use Rattle.file_format.specs.declared.File.TheVariants.{Neither}
use Rattle.file_format.specs.declared.Refusal.{Refusal}
use Rattle.file_format.specs.declared.Role.{Role}
use Rattle.file_format.specs.declared.Role.TheVariants as role
use Rattle.file_format.specs.Layout.{CircuitFile, nodes_of, links_of, length_of, starts_of, ends_of}
use Rattle.file_format.specs.Links.{links_below, rising, numbers_rise}
use Rattle.file_format.specs.Role.{in_range, file_of}

pub record Condition : Type 0 where
  pub number : ℕ
  pub file : File
  pub holds : Bool

-- what a list of conditions comes to: the first that holds refuses, by its number and file; else the call is accepted
pub data Verdict : Type 0 where
  accept : Verdict
  refuse : Refusal → Verdict

-- none of a list of conditions holds
unfoldable pub NoneHolds : List Condition → Type 0
NoneHolds cs = (c : Condition) → MemOf c cs → c.holds ≡ false

-- "Rising numbers are the order" of document 01's; of document 02's, 11 comes after 6 and 10 ahead of 8. The order is the list's.
unfoldable pub first : List Condition → Verdict
first [] = accept
first (c ∷ cs) = cond c.holds (refuse (record { number = c.number; file = c.file })) (first cs)

-- What that means: a condition with this number and file holds, and none before it in the list does.
pub record FirstHolding (cs : List Condition) (x : Refusal) : Type 0 where
  pub before : List Condition
  pub after : List Condition
  pub place : cs ≡ before ++ (record { number = x.number; file = x.file; holds = true } ∷ after)
  pub none : NoneHolds before

-- 6 "pattern not connected". "the whole-board call applies neither 6 nor 11" (document 02, patterns in several bits): there a file is read as
-- any pattern.
unfoldable pub asks_connected : Role → Bool
asks_connected role.Pattern = true
asks_connected role.Board = false
asks_connected role.AnyPattern = false

-- 5 "links not strictly rising": by start, then by end,
abbrev pub falls_by_links : Role → List ℕ → List ℕ → Condition
falls_by_links r starts ends = record { number = 5; file = file_of r; holds = not (rising starts ends) }

-- and as the code tests it, by one number per link
abbrev pub falls_by_numbers : Role → List ℕ → List ℕ → Condition
falls_by_numbers r starts ends = record { number = 5; file = file_of r; holds = not (numbers_rise starts ends) }

-- "Twelve becomes the limit." (document 02, radius twelve)
abbrev pub widest : ℕ
widest = 12

-- 11 "pattern radius above 12, checked in every call that checks 6, after it and before the board's 1"
abbrev pub too_wide : Role → ℕ → List ℕ → List ℕ → Condition
too_wide r n starts ends = record { number = 11; file = file_of r; holds = asks_connected r && ltb widest (radius n starts ends) }

-- 4 a link end or start not below N; 5 links not strictly rising; 6 pattern not connected; 11 pattern radius above 12. Reading and writing both
-- ask these.
unfoldable pub link_conditions : Role → ℕ → List ℕ → List ℕ → List Condition
link_conditions r n starts ends =
    record { number = 4; file = file_of r; holds = not (links_below n starts ends) } ∷
    falls_by_links r starts ends ∷
    record { number = 6; file = file_of r; holds = asks_connected r && not (connected n starts ends) } ∷
    too_wide r n starts ends ∷ []

-- 1 file under 4 bytes; 2 N or M outside its role's range; 3 length not 4 + 2N + 4M, or in the second edition 4 + 4N + 4M; then the links
unfoldable pub file_conditions : Role → CircuitFile → List Condition
file_conditions r file =
    let n = nodes_of file in
    let m = links_of file in
    record { number = 1; file = file_of r; holds = ltb (length file.bytes) 4 } ∷
    record { number = 2; file = file_of r; holds = not (in_range r n m) } ∷
    record { number = 3; file = file_of r; holds = not (eqb (length file.bytes) (length_of file.edition n m)) } ∷
    link_conditions r n (starts_of file) (ends_of file)

-- A file of which none of the conditions 1 to 6 and 11 holds: each of them, turned round.
pub record Accepted (r : Role) (file : CircuitFile) : Type 0 where
  pub bytes : 4 ≤ length file.bytes
  pub range : T (in_range r (nodes_of file) (links_of file))
  pub size : length file.bytes ≡ length_of file.edition (nodes_of file) (links_of file)
  pub below : T (links_below (nodes_of file) (starts_of file) (ends_of file))
  pub rises : T (rising (starts_of file) (ends_of file))
  pub joined : T (asks_connected r) → T (connected (nodes_of file) (starts_of file) (ends_of file))
  pub narrow : T (asks_connected r) → radius (nodes_of file) (starts_of file) (ends_of file) ≤ widest

-- refused in a role by a number,
unfoldable pub turned : Role → ℕ → Verdict
turned r k = refuse (record { number = k; file = file_of r })

-- and where the number is 0, accepted
unfoldable pub by_number : Role → ℕ → Verdict
by_number r k = cond (eqb k 0) accept (turned r k)

-- the number of the first condition on a file's size that holds, 1, 2 or 3, and 0 where none does
unfoldable pub size_number : Role → CircuitFile → ℕ
size_number r file =
    let n = nodes_of file in
    let m = links_of file in
    cond (ltb (length file.bytes) 4) 1 (cond (in_range r n m) (cond (eqb (length file.bytes) (length_of file.edition n m)) 0 3) 2)

-- the number of the first condition on the order of the links that holds, 4 or 5, and 0 where none does
unfoldable pub link_order_number : ℕ → List ℕ → List ℕ → ℕ
link_order_number n starts ends = cond (links_below n starts ends) (cond (rising starts ends) 0 5) 4

-- the number of the first condition on the links that holds, 4, 5, 6 or 11, and 0 where none does
unfoldable pub link_number : Role → ℕ → List ℕ → List ℕ → ℕ
link_number r n starts ends =
    cond (links_below n starts ends)
    (cond (rising starts ends) (cond (asks_connected r && not (connected n starts ends)) 6 (cond (asks_connected r && ltb widest (radius n starts ends)) 11 0)) 5)
    4

-- 6 or 11, by the radius that a search finds, which is `far` where the links do not join all nodes; and 0 where it is at most 12
unfoldable pub width_number : ℕ → ℕ
width_number width = cond (eqb width far) 6 (cond (ltb widest width) 11 0)

-- its refusal: "11, pattern radius above 12", which means the pattern
abbrev pub eleven : Refusal
eleven = record { number = 11; file = file_of role.Pattern }

-- ---- before a number came in

-- a list of conditions without those of a number
unfoldable pub without : ℕ → List Condition → List Condition
without k [] = []
without k (c ∷ cs) = cond (eqb c.number k) (without k cs) (c ∷ without k cs)

-- 7 centre not below the board's N
unfoldable pub centre_outside : ℕ → ℕ → Condition
centre_outside n centre = record { number = 7; file = Neither; holds = not (ltb centre n) }

-- 8 a lent output table too short: needed is what its first number says, lent the second
unfoldable pub short_table : ℕ → ℕ → Condition
short_table needed lent = record { number = 8; file = Neither; holds = ltb lent needed }

-- 10 "one of the four numbers out of its range" (document 02, a test load): `fits` says whether all are in theirs. It is tried ahead of 8.
unfoldable pub number_outside : Bool → Condition
number_outside fits = record { number = 10; file = Neither; holds = not fits }

-- 3 "Node or link bytes of another length than N and M are 3 with neither file named, checked after 7" (document 02, check a place from
-- elsewhere): asked is what the length shall be, given what it is. Longer is wrong too.
unfoldable pub other_length : ℕ → ℕ → Condition
other_length asked given = record { number = 3; file = Neither; holds = not (eqb given asked) }

-- "Turned away: 12, converting to the first edition a file with a package other than 0, checked after its content and ahead of 8." It names
-- the file in the role told.
unfoldable pub lost_package : Edition → List ℕ → Bool
lost_package First packages = any (λ p. not (eqb p 0)) packages
lost_package Second packages = false

unfoldable pub package_lost : Role → Edition → List ℕ → Condition
package_lost r to packages = record { number = 12; file = file_of r; holds = lost_package to packages }

-- 15 "the centre has a place" (document 02, the least that still says none), "checked after 8": `found` says whether it has
unfoldable pub centre_placed : Bool → Condition
centre_placed found = record { number = 15; file = Neither; holds = found }

-- 14 "A cut of a link already out, or of a place not below M, changes nothing and its reply is 14." (document 02, cutting tracks while searching):
-- `left` says whether the place is that of a link which is left. It names neither file.
unfoldable pub link_gone : Bool → Condition
link_gone left = record { number = 14; file = Neither; holds = not left }
