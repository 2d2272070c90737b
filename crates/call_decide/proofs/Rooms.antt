-- What the conditions on a centre and on the lengths of what is lent say. Assumes nothing.
use Rattle.std.specs.Prelude.{◌≡◌, ◌≤◌, ◌<◌, Result, Ok, Err}
use Rattle.base_lists.specs.Kit.{◌∙◌, sym, ap, ℕ, le-ltb, ltb-false, ltb-true, eqb-true, not-false}
use Rattle.file_format.specs.declared.Refusal.{Refusal}
use Rattle.file_format.specs.Refusals.{accept, refuse, first, centre_outside, short_table, other_length}
use Rattle.file_format.specs.Reply.{verdict_of}
use Rattle.file_format.proofs.Refusals.{first_holds}
use Rattle.call_decide.specs.Decide.{room_conditions, place_conditions, ball_room, bytes_conditions}

module _ (n m nodes links table distances : ℕ) where
  -- none holds exactly where all four are long enough
  pub room-holds : first (room_conditions n m nodes links table distances) ≡ accept → (n ≤ nodes) × (m ≤ links) × (n ≤ table) × (n ≤ distances)
  unfolding room_conditions short_table
  room-holds e =
      let (a, e₁) = first_holds _ _ e in
      let (b, e₂) = first_holds _ _ e₁ in
      let (c, e₃) = first_holds _ _ e₂ in
      let (d, _) = first_holds _ _ e₃ in
      (ltb-false nodes n a, ltb-false links m b, ltb-false table n c, ltb-false distances n d)

  pub room-enough : n ≤ nodes → m ≤ links → n ≤ table → n ≤ distances → first (room_conditions n m nodes links table distances) ≡ accept
  unfolding room_conditions first short_table
  room-enough a b c d = simp (le-ltb _ _ a, le-ltb _ _ b, le-ltb _ _ c, le-ltb _ _ d)

  -- and the centre is a node
  pub place-holds : (w : ℕ) {A : Type 0} {v : Result A Refusal} {a : A} → verdict_of v ≡ first (place_conditions n m w nodes links table distances) → v ≡ Ok a
      → (w < n) × (((n ≤ nodes) × (m ≤ links)) × ((n ≤ table) × (n ≤ distances)))
  unfolding centre_outside verdict_of
  place-holds w says e =
      let (a, rest) = first_holds _ _ (sym says ∙ ap verdict_of e) in
      let (b, c, d, e) = room-holds rest in
      (ltb-true w n (not-false _ a), ((b, c), (d, e)))

-- the centre is a node, and the bytes are as many as the nodes and the links
pub bytes-hold : (n m w nodes links : ℕ) {A : Type 0} {v : Result A Refusal} {a : A} → verdict_of v ≡ first (bytes_conditions n m w nodes links) → v ≡ Ok a
    → (w < n) × ((nodes ≡ n) × (links ≡ m))
unfolding centre_outside other_length verdict_of
bytes-hold n m w nodes links says e =
    let (a, e₁) = first_holds _ _ (sym says ∙ ap verdict_of e) in
    let (b, e₂) = first_holds _ _ e₁ in
    let (c, _) = first_holds _ _ e₂ in
    (ltb-true w n (not-false _ a), (eqb-true nodes n (not-false _ b), eqb-true links m (not-false _ c)))

-- what the verdict on a ball says: the centre is a node, and there is an entry for each node
module _ (n w lent : ℕ) {A : Type 0} {v : Result A Refusal} (says : verdict_of v ≡ first (ball_room n w lent)) where
  pub ball-holds : {a : A} → v ≡ Ok a → (w < n) × (n ≤ lent)
  unfolding centre_outside short_table verdict_of
  ball-holds e =
      let (a, e₁) = first_holds _ _ (sym says ∙ ap verdict_of e) in
      let (b, _) = first_holds _ _ e₁ in
      (ltb-true w n (not-false _ a), ltb-false lent n b)

  -- or what refuses it
  pub ball-refuses : {x : Refusal} → v ≡ Err x → first (ball_room n w lent) ≡ refuse x
  unfolding verdict_of
  ball-refuses e = sym says ∙ ap verdict_of e
