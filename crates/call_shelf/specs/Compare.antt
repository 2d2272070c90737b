-- The comparison of two second-edition pattern files, whole: its answer, from the two files alone.
use Rattle.std.specs.Prelude.{Result, Ok, Err}
use Rattle.base_lists.specs.Kit.{List, ℕ}
use Rattle.file_format.specs.declared.Role.TheVariants.{Pattern}
use Rattle.file_format.specs.Refusals.{Verdict, accept, refuse, first, file_conditions}
use Rattle.std.specs.declared.cmp.Ordering.{Ordering}
use Rattle.std.specs.declared.cmp.Ordering.TheVariants.{Less, Equal, Greater}
use Rattle.order.specs.Files.{second_edition, compare_files}
use Rattle.call_shelf.specs.declared.compare.FileRefusal.{FileRefusal}
use Rattle.call_shelf.specs.declared.compare.Which.{Which}
use Rattle.call_shelf.specs.declared.compare.Which.TheVariants.{First, Second}

-- what reading a file as a second-edition pattern finds, 6 and 11 included
abbrev pub verdict_for : List ℕ → Verdict
verdict_for file = first (file_conditions Pattern (second_edition file))

-- the first file's refusal, then the second's; both name a pattern, and which of the two is told beside
unfoldable pub compared_by : Verdict → Verdict → Ordering → Result Ordering FileRefusal
compared_by accept accept order = Ok order
compared_by accept (refuse x) order = Err (record { refusal = x; which = Second })
compared_by (refuse x) other order = Err (record { refusal = x; which = First })

unfoldable pub comparing : List ℕ → List ℕ → Result Ordering FileRefusal
comparing a b = compared_by (verdict_for a) (verdict_for b) (compare_files a b)

-- ---- the answer in document 01's terms

-- accepted, or refused by a number and a file, and which of the two files that is; and the order found
pub record Comparison : Type 0 where
  pub verdict : Verdict
  pub which : ℕ
  pub order : ℕ

-- 1 for the first file, 2 for the second; 0 where none is meant
unfoldable pub which_number : Which → ℕ
which_number First = 1
which_number Second = 2

-- 1 less, 2 equal, 3 greater; 0 where nothing was compared
unfoldable pub order_number : Ordering → ℕ
order_number Less = 1
order_number Equal = 2
order_number Greater = 3

-- number and values of each case of the answer
unfoldable pub compare_reply : Result Ordering FileRefusal → Comparison
compare_reply (Ok order) = record { verdict = accept; which = 0; order = order_number order }
compare_reply (Err x) = record { verdict = refuse x.refusal; which = which_number x.which; order = 0 }
