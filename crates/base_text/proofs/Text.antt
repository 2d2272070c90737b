-- Laws of text written into a table, pieces one after another, the room that they need, and the whole table; of decimal numerals; and of
-- names.
-- Assumes nothing.
use Rattle.std.specs.Prelude.{◌≡◌, ◌∷◌, ◌++◌, ◌≤◌, ◌<◌, ◌+◌, ◌*◌, ◌^◌, ◌/◌, ◌%◌}
use Rattle.base_lists.specs.Kit.{◌∙◌, sym, ap, refl, Bool, false, true, cond, List, [], ℕ, suc, zero, le_of_eq, zero-add, pow-suc, ltb, length, get_or, drop, take, set, length-append, append_assoc, drop-drop, sets-eq, length-sets, arith, le-ltb, lt-ltb, ltb-false, ltb-true}
use borrow.Rule.Slice.PartMut.{put_mid}
use Rattle.base_lists.proofs.Tables.{get_d_tabulate, sets-append}
use Rattle.base_text.specs.Text.{digits, decimal, bytes_of_four, digits_number, Names, Put, Fits}

-- ---- writing

-- one byte
pub put_one : (o : List ℕ) (at b : ℕ) → Put o at (b ∷ []) (set o at b) (at + 1)
put_one o at b = record { table = refl; end = refl }

-- a text copied over the bytes from the offset on
pub put-copied : (o word : List ℕ) (at n : ℕ) → Fits o at word → n ≡ length word → Put o at word (put_mid at n o word) (at + length word)
put-copied o word at n f e =
    let room = f.room in
    record { table = rw (e, sets-eq word o at room, append_assoc) (ap (λ (l : List ℕ). take at o ++ (word ++ l)) (drop-drop (length word) at o)); end = refl }

-- nothing
pub put-nothing : {o : List ℕ} {at : ℕ} → Put o at [] o at
put-nothing = record { table = refl; end = omega arith }

-- two texts one after another
pub put_then : {o o1 o2 xs ys : List ℕ} {at p q : ℕ} → Put o at xs o1 p → Put o1 p ys o2 q → Put o at (xs ++ ys) o2 q
put_then {o} {o1} {o2} {xs} {ys} {at} {p} {q} f g =
    record {
      table = g.table ∙ rw (f.table, f.end) (sets-append o at xs ys);
      end = g.end ∙ rw (f.end, length-append xs ys) (omega arith);
    }

-- the same text by another name
pub put_same : {o o1 xs ys : List ℕ} {at p : ℕ} → xs ≡ ys → Put o at xs o1 p → Put o at ys o1 p
put_same e f = rw e at f

-- the table keeps its length
pub put-length : {o o1 xs : List ℕ} {at p : ℕ} → Put o at xs o1 p → length o1 ≡ length o
put-length {o} {o1} {xs} {at} f = ap length f.table ∙ length-sets o at xs

-- the same room for the same text by another name, or for a shorter one
pub fits-same : {o xs ys : List ℕ} {at : ℕ} → xs ≡ ys → Fits o at xs → Fits o at ys
fits-same e f = rw e at f

pub fits-less : {o xs : List ℕ} {at : ℕ} (ys : List ℕ) → length ys ≤ length xs → Fits o at xs → Fits o at ys
fits-less ys h f = record { room = omega (arith, f.room) }

-- room for two texts is room for the first
pub fits-first : {o : List ℕ} {at : ℕ} (xs ys : List ℕ) → Fits o at (xs ++ ys) → Fits o at xs
fits-first xs ys f = fits-less xs (omega (arith, length-append xs ys)) f

-- and, when the first is written, for the second
pub fits-then : {o o1 xs ys : List ℕ} {at p : ℕ} → Put o at xs o1 p → Fits o at (xs ++ ys) → Fits o1 p ys
fits-then {o} {o1} {xs} {ys} {at} {p} f h = record { room = omega (arith, h.room, length-append xs ys, put-length f, f.end) }

-- a text written from the first byte on stands before what is left of the table
pub put_whole : {o o1 xs : List ℕ} {p : ℕ} → Put o 0 xs o1 p → Fits o 0 xs → o1 ≡ xs ++ drop (length xs) o
put_whole {o} {o1} {xs} f h = f.table ∙ sets-eq xs o 0 h.room ∙ ap (λ (k : ℕ). xs ++ drop k o) (zero-add (length xs))

-- ---- decimal numerals

-- more steps than needed change nothing
digits_more : (k j x : ℕ) → x < k → x < j → digits k x ≡ digits j x
unfolding digits
digits_more zero j x h g = absurd (omega (arith, h))
digits_more (suc k) zero x h g = absurd (omega (arith, g))
digits_more (suc k) (suc j) x h g = go (ltb x 10) refl (digits_more k j (x / 10))
  where
    go : (b : Bool) → ltb x 10 ≡ b → (x / 10 < k → x / 10 < j → digits k (x / 10) ≡ digits j (x / 10))
        → cond b ((48 + x) ∷ []) (digits k (x / 10) ++ ((48 + x % 10) ∷ [])) ≡ cond b ((48 + x) ∷ []) (digits j (x / 10) ++ ((48 + x % 10) ∷ []))
    go true p r = refl
    go false p r = rw (r (omega (arith, ltb-false x 10 p)) (omega (arith, ltb-false x 10 p)))

pub decimal_digit : (x : ℕ) → x < 10 → decimal x ≡ (48 + x) ∷ []
unfolding decimal digits
decimal_digit x h = rw (lt-ltb x 10 h)

pub decimal-more : (x : ℕ) → 10 ≤ x → decimal x ≡ decimal (x / 10) ++ ((48 + x % 10) ∷ [])
unfolding decimal digits
decimal-more x h = rw (le-ltb x 10 h) (ap (λ (l : List ℕ). l ++ ((48 + x % 10) ∷ [])) (digits_more x (suc (x / 10)) (x / 10) (omega arith) (omega arith)))

-- two digits
pub decimal-two : (x : ℕ) → 10 ≤ x → x < 100 → decimal x ≡ ((48 + x / 10) ∷ []) ++ ((48 + x % 10) ∷ [])
decimal-two x h l = decimal-more x h ∙ ap (λ (d : List ℕ). d ++ ((48 + x % 10) ∷ [])) (decimal_digit (x / 10) (omega arith))

-- three digits
decimal-three : (x : ℕ) → 100 ≤ x → x < 1000 → decimal x ≡ (48 + x / 100) ∷ (48 + x / 10 % 10) ∷ (48 + x % 10) ∷ []
decimal-three x h l =
    let hundreds : x / 10 / 10 ≡ x / 100 = omega arith in
    decimal-more x (omega arith)
    ∙ ap (λ (d : List ℕ). d ++ ((48 + x % 10) ∷ [])) (decimal-two (x / 10) (omega arith) (omega arith))
    ∙ ap (λ (d : ℕ). (48 + d) ∷ (48 + x / 10 % 10) ∷ (48 + x % 10) ∷ []) hundreds

-- how long numerals get: each digit more needs ten times the number
length_more : (x : ℕ) → 10 ≤ x → length (decimal x) ≡ length (decimal (x / 10)) + 1
length_more x h = ap length (decimal-more x h) ∙ length-append (decimal (x / 10)) _

pub length-digit : (x : ℕ) → x < 10 → length (decimal x) ≡ 1
length-digit x h = ap length (decimal_digit x h)

-- a number below 10 ^ k has at most k digits, k being 1 or more
pub length-decimal : (k x : ℕ) → x < 10 ^ suc k → length (decimal x) ≤ suc k
length-decimal zero x h = le_of_eq (length-digit x h)
length-decimal (suc k) x h = go (ltb x 10) refl (length-decimal k (x / 10))
  where
    go : (b : Bool) → ltb x 10 ≡ b → (x / 10 < 10 ^ suc k → length (decimal (x / 10)) ≤ suc k) → length (decimal x) ≤ suc (suc k)
    go true p r = omega (arith, length-digit x (ltb-true x 10 p))
    go false p r =
        let most : x < 10 ^ suc k * 10 = rw (pow-suc 10 (suc k)) at h in
        omega (arith, length_more x (ltb-false x 10 p), r (omega arith))

-- ---- names

-- the bytes of a number made of four
four_bytes : (a b c d : ℕ) → a < 256 → b < 256 → c < 256 → bytes_of_four (256 * b + 65536 * c + 16777216 * d + a) ≡ a ∷ b ∷ c ∷ d ∷ []
unfolding bytes_of_four
four_bytes a b c d ha hb hc =
    let x = 256 * b + 65536 * c + 16777216 * d + a in
    let e0 : x % 256 ≡ a = omega arith in
    let q1 : x / 256 ≡ b + 256 * (c + 256 * d) = omega arith in
    let e1 : (b + 256 * (c + 256 * d)) % 256 ≡ b = omega arith in
    let q2 : x / 65536 ≡ c + 256 * d = omega arith in
    let e2 : (c + 256 * d) % 256 ≡ c = omega arith in
    let q3 : x / 16777216 ≡ d = omega arith in
    rw (e0, q1, e1, q2, e2, q3)

-- a byte added to the name of a number of three digits: the byte and the number
pub name-bytes : (b x : ℕ) → b < 256 → 100 ≤ x → x < 1000 → bytes_of_four (digits_number x + b) ≡ b ∷ decimal x
unfolding digits_number
name-bytes b x small h l =
    four_bytes b (48 + x / 100) (48 + x / 10 % 10) (48 + x % 10) small (omega arith) (omega arith)
    ∙ sym (ap (λ (d : List ℕ). b ∷ d) (decimal-three x h l))

-- such a sum has 32 bits
pub name-small : (b x : ℕ) → b < 256 → x < 1000 → digits_number x + b < 4294967296
unfolding digits_number
name-small b x small l = omega arith

-- an entry of a table of names
pub name-at : {names : List ℕ} → Names names → (x : ℕ) → x < length names → get_or names x 0 ≡ digits_number x
name-at {names} t x h = ap (λ (l : List ℕ). get_or l x 0) t.table ∙ get_d_tabulate (length names) digits_number x 0 h
