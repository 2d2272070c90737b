-- The numbers of refusal, 1 to 15, in one list: document 01's table and what document 02 adds to it. "This, and
-- whatever later requests turn away, joins demand 1's conditions and document 01's table." Each line is a condition
-- that some call is asked for: its number, the file that it means (that of the role in which a file is read or written,
-- or neither) and when it holds. What the tests of 4, 5, 6 and 11 mean, and whether there is a place (9 and 15), the
-- demands say (specs/Demands). In which order a call tries them is its list.
use Rattle.std.specs.Prelude.{◌&&◌, ◌∷◌}
use Rattle.base_lists.specs.Kit.{Bool, not, List, [], ℕ, eqb, ltb, length}
use Rattle.graph.specs.Search.{connected}
use Rattle.file_format.specs.declared.Edition.{Edition}
use Rattle.file_format.specs.declared.File.TheVariants.{Neither}
use Rattle.file_format.specs.declared.Role.{Role}
use Rattle.file_format.specs.Layout.{CircuitFile, length_of, nodes_of, links_of, field}
use Rattle.file_format.specs.Links.{links_below}
use Rattle.file_format.specs.Refusals.{Condition, asks_connected, falls_by_links, too_wide, centre_outside, short_table, number_outside, other_length, package_lost, link_gone, centre_placed}
use Rattle.file_format.specs.Role.{in_range, file_of}
use Rattle.file_write.specs.Writing.{packages_given}
use Rattle.file_bounds.specs.Third.{bounded_length, bound_outside}

pub data Numbered : Condition → Type 0 where
  -- 1 "file under 4 bytes", of that file
  one : (role : Role) (bytes : List ℕ) → Numbered (record { number = 1; file = file_of role; holds = ltb (length bytes) 4 })
  -- 2 "N or M outside its role's range", of that file
  two : (role : Role) (n m : ℕ) → Numbered (record { number = 2; file = file_of role; holds = not (in_range role n m) })
  -- 3 "length not 4 + 2N + 4M", in the second edition "4 + 4N + 4M",
  three : (role : Role) (file : CircuitFile) → Numbered (record { number = 3; file = file_of role; holds = not (eqb (length file.bytes) (length_of file.edition (nodes_of file) (links_of file))) })
  -- in the third "4 + 4N + 6M";
  three_third : (role : Role) (bytes : List ℕ) → Numbered (record { number = 3; file = file_of role; holds = not (eqb (length bytes) (bounded_length (field bytes 0) (field bytes 2))) })
  -- "on writing, as many starts as ends not given"; "Writing the second with as many packages as kinds not given is
  -- 3.";
  three-writing : (role : Role) (e : Edition) (kinds packages starts ends : List ℕ) →
      Numbered (record { number = 3; file = file_of role; holds = not (eqb (length starts) (length ends) && packages_given e kinds packages) })
  -- "Node or link bytes of another length than N and M are 3 with neither file named"
  three-bytes : (asked given : ℕ) → Numbered (other_length asked given)
  -- 4 "a link end or start not below N", of that file
  four : (role : Role) (n : ℕ) (starts ends : List ℕ) → Numbered (record { number = 4; file = file_of role; holds = not (links_below n starts ends) })
  -- 5 "links not strictly rising", of that file
  five : (role : Role) (starts ends : List ℕ) → Numbered (falls_by_links role starts ends)
  -- 6 "pattern not connected", of the pattern
  six : (role : Role) (n : ℕ) (starts ends : List ℕ) → Numbered (record { number = 6; file = file_of role; holds = asks_connected role && not (connected n starts ends) })
  -- 7 "centre not below the board's N", of neither
  seven : (n centre : ℕ) → Numbered (centre_outside n centre)
  -- 8 "a lent output table too short", of neither
  eight : (needed lent : ℕ) → Numbered (short_table needed lent)
  -- 9 "no place around the centre", of neither
  nine : (found : Bool) → Numbered (record { number = 9; file = Neither; holds = not found })
  -- 10 "one of the four numbers out of its range", of neither
  ten : (fits : Bool) → Numbered (number_outside fits)
  -- 11 "pattern radius above 12", of the pattern
  eleven : (role : Role) (n : ℕ) (starts ends : List ℕ) → Numbered (too_wide role n starts ends)
  -- 12 "converting to the first edition a file with a package other than 0", of that file
  twelve : (role : Role) (to : Edition) (packages : List ℕ) → Numbered (package_lost role to packages)
  -- 13 "a bound outside 1 to 4", of the pattern
  thirteen : (bounds : List ℕ) → Numbered (bound_outside bounds)
  -- 14 "A cut of a link already out, or of a place not below M", of neither
  fourteen : (left : Bool) → Numbered (link_gone left)
  -- 15 "the centre has a place", of neither
  fifteen : (found : Bool) → Numbered (centre_placed found)

-- every condition of a list is one of them
unfoldable pub EachNumbered : List Condition → Type 0
EachNumbered [] = Unit {0}
EachNumbered (c ∷ cs) = Numbered c × EachNumbered cs
