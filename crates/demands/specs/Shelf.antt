-- Ask 10, "A shelf in order", quoted over what is proved of it: `Ask10`. proofs/Shelf proves it. The contracts of the
-- two calls equate their replies, and what they leave, with `comparing` and `shelving` of the inputs alone. (The
-- program that reads the files: crate shelf.)
use Rattle.std.specs.Prelude.{◌≡◌, ◌↔◌, ◌⊎◌, ◌∷◌, Ok, Err}
use Rattle.base_lists.specs.Kit.{List, [], ℕ, T, length, take, drop}
use Rattle.base_lists.specs.List.{Below}
use Rattle.file_format.specs.declared.Edition.TheVariants.{Second}
use Rattle.file_format.specs.declared.Refusal.{Refusal}
use Rattle.file_format.specs.declared.Role.TheVariants.{Pattern}
use Rattle.file_format.specs.Refusals.{accept, refuse, first, Accepted, file_conditions}
use Rattle.file_write.specs.Bytes.{file_bytes}
use Rattle.std.specs.declared.cmp.Ordering.{Ordering}
use Rattle.std.specs.declared.cmp.Ordering.TheVariants.{Less, Equal}
use Rattle.order.specs.Order.{Whole, Parallel, compare_whole}
use Rattle.order.specs.Sorting.{In, Sorted, InOrder}
use Rattle.order.specs.Files.{second_edition, compare_files}
use Rattle.call_shelf.specs.Strings.{cut_into}
use Rattle.call_shelf.specs.declared.compare.Which.TheVariants as which
use Rattle.call_shelf.specs.Compare.{comparing}
use Rattle.call_shelf.specs.Shelf.{file_at, accepted_in, shelf_of, most_files, shelving}

-- a second-edition pattern file that is accepted, as bytes
pub record PatternFile (file : List ℕ) : Type 0 where
  pub bytes : Below 256 file
  pub drawn : Accepted Pattern (second_edition file)

-- the second-edition file of a circuit
abbrev pub file_for : Whole → List ℕ
file_for c = file_bytes Second c.kinds c.packages c.starts c.ends

-- how the circuits of two files of a shelf rank, by the files' numbers
abbrev pub ranked : List (List ℕ) → ℕ → ℕ → Ordering
ranked files i j = compare_files (file_at files i) (file_at files j)

-- the numbers of a shelf: those of the accepted files and no others, each once, "in order ..; of equal circuits the
-- lower number stands first"
abbrev pub ShelfOrder : List (List ℕ) → List ℕ → Type 0
ShelfOrder files numbers = InOrder (accepted_in files) (ranked files) (length files) numbers

-- a shelf of files that lie one after another, as long as the lengths say: "up to 16"
abbrev pub files_in : List ℕ → List ℕ → List (List ℕ)
files_in bytes lengths = cut_into bytes (take most_files lengths)

pub record Ask10 : Type 0 where
  -- ---- the order
  -- "Give an order on whole circuits: by N, then M, then kinds, packages, starts, ends, first difference deciding, each by size of number." (order/specs/Order
  -- `compare_whole`) "It is total,
  pub total : (a b : Whole) → (compare_whole a b ≡ Less) ⊎ ((a ≡ b) ⊎ (compare_whole b a ≡ Less))
  pub antisymmetric : (a b : Whole) → compare_whole a b ≡ Less → compare_whole b a ≡ Less → ⊥
  pub transitive : (a b c : Whole) → compare_whole a b ≡ Less → compare_whole b c ≡ Less → compare_whole a c ≡ Less
  -- and two circuits rank equal exactly when their second-edition files are the same bytes.": any two circuits with a
  -- package for each node and an end for each start, and any two accepted files
  pub circuits : (a b : Whole) → Parallel a → Parallel b → (compare_whole a b ≡ Equal) ↔ (file_for a ≡ file_for b)
  pub files : (a b : List ℕ) → PatternFile a → PatternFile b → (compare_files a b ≡ Equal) ↔ (a ≡ b)
  -- ---- the comparison of two files
  -- of two accepted files it tells how their circuits rank, and equal exactly of the same bytes
  pub compared : (a b : List ℕ) → Accepted Pattern (second_edition a) → Accepted Pattern (second_edition b) → comparing a b ≡ Ok (compare_files a b)
  pub equal : (a b : List ℕ) → PatternFile a → PatternFile b → (comparing a b ≡ Ok Equal) ↔ (a ≡ b)
  -- and else the refusal of the first that is refused, and which of the two that is
  pub refused_first : (a b : List ℕ) (x : Refusal) → (comparing a b ≡ Err (record { refusal = x; which = which.First })) ↔ (first (file_conditions Pattern (second_edition a)) ≡ refuse x)
  pub refused_second : (a b : List ℕ) (x : Refusal) →
      (comparing a b ≡ Err (record { refusal = x; which = which.Second })) ↔ (Accepted Pattern (second_edition a) × (first (file_conditions Pattern (second_edition b)) ≡ refuse x))
  -- ---- the shelf
  -- "accepted ones": read as second-edition patterns without refusal
  pub accepts : (files : List (List ℕ)) (i : ℕ) → T (accepted_in files i) ↔ Accepted Pattern (second_edition (file_at files i))
  -- "the .. numbers of accepted ones in order ..; of equal circuits the lower number stands first.": the shelf is such
  -- a list, such a list has no number twice, and there is no other such list
  pub ordered : (files : List (List ℕ)) → ShelfOrder files (shelf_of files)
  pub once : (files : List (List ℕ)) (x : ℕ) (xs : List ℕ) → Sorted (ranked files) (x ∷ xs) → In x xs → ⊥
  pub only : (files : List (List ℕ)) (numbers : List ℕ) → ShelfOrder files numbers → numbers ≡ shelf_of files
  -- the call puts these numbers at the front of the table lent and leaves the rest (it is refused by 8 where the table
  -- is too short for them: specs/Demands `shelves`)
  pub put : (bytes lengths order : List ℕ) → (shelving bytes lengths order).reply.verdict ≡ accept →
      let numbers = shelf_of (files_in bytes lengths) in
      ((shelving bytes lengths order).reply.values ≡ length numbers ∷ [])
      × (take (length numbers) (shelving bytes lengths order).order ≡ numbers)
      × (drop (length numbers) (shelving bytes lengths order).order ≡ drop (length numbers) order)
