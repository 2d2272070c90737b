-- Numbers as words, and the four that the program is told.
use Rattle.base_lists.specs.Kit.{Bool, cond, List, [], ℕ, eqb, ltb, leb, length, take}
use Rattle.std.specs.Prelude.{Option, Some, None, Result, Ok, Err, IfOk, ◌≡◌, ◌&&◌, ◌∷◌, ◌≤◌, ◌+◌, ◌-◌, ◌*◌, ◌^◌}
use Rattle.std.specs.declared.env.FillError.{FillError}
use Rattle.base_lists.specs.List.{all}
use Rattle.loader_words.specs.declared.Argument.{Argument}
use Rattle.loader_words.specs.declared.Asked.{Asked}
use Rattle.loader_words.specs.declared.Told.{Told}

-- the bytes `30` to `39`
unfoldable pub is_digit : ℕ → Bool
is_digit byte = leb 48 byte && leb byte 57

-- the number that digits come to, behind those of the first
unfoldable pub value : ℕ → List ℕ → ℕ
value first [] = first
value first (d ∷ ds) = value (10 * first + (d - 48)) ds

-- "four 32-bit numbers": some digits, below 2^32
unfoldable pub is_number : List ℕ → Bool
is_number word = leb 1 (length word) && (all is_digit word && ltb (value 0 word) (2 ^ 32))

unfoldable pub word_of : List ℕ → Option ℕ
word_of word = cond (is_number word) (Some (value 0 word)) None

-- the number that an argument is: the system gives no error where it is there and whole
unfoldable pub heard_of : Result ℕ FillError → List ℕ → Option ℕ
heard_of (Ok size) buf = word_of (take size buf)
heard_of (Err error) buf = None

-- An argument as it was heard: asked for by this index, and the number that the bytes are that the system says it put at the front of the buffer.
pub record Heard (index : ℕ) (buf : List ℕ) (a : Argument) : Type 0 where
  pub asked : a.index ≡ index
  pub inside : IfOk a.answer (λ size. size ≤ length buf)
  pub heard : a.word ≡ heard_of a.answer buf

-- the four words, in their order: the arguments 1 to 4, each read into its own buffer
pub record WordsHeard (seed n m k : List ℕ) (told : Told) : Type 0 where
  pub seeds : Heard 1 seed told.seed
  pub nodes : Heard 2 n told.n
  pub links : Heard 3 m told.m
  pub kinds : Heard 4 k told.k

-- the four words that ask for a test board: none are numbers where they are not four, behind the program's own name
unfoldable pub asked_by : Told → Asked
asked_by told =
    cond (eqb told.count 5)
    (record { seed = told.seed.word; n = told.n.word; m = told.m.word; k = told.k.word })
    (record { seed = None; n = None; m = None; k = None })
