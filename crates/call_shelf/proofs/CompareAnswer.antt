-- The comparison's answer, by the verdicts of the two files. Assumes nothing.
use Rattle.std.specs.Prelude.{◌≡◌, Result, Ok, Err, is_ok}
use Rattle.base_lists.specs.Kit.{◌∙◌, sym, ap, refl, List, ℕ}
use Rattle.file_format.specs.declared.Refusal.{Refusal}
use Rattle.file_format.specs.declared.Role.TheVariants.{Pattern}
use Rattle.file_format.specs.Refusals.{accept, refuse}
use Rattle.file_format.specs.Reply.{verdict_of}
use Rattle.std.specs.declared.cmp.Ordering.{Ordering}
use Rattle.order.specs.Order.{compare_lists}
use Rattle.order.specs.Files.{numbers_in}
use Rattle.call_shelf.specs.declared.compare.Which.TheVariants.{First, Second}
use Rattle.call_shelf.specs.Compare.{verdict_for, compared_by, comparing}
use Rattle.call_shelf.specs.Shelf.{is_accepted}
use Rattle.call_shelf.proofs.CompareFiles.{fields-order}

-- a verdict of the code is the file's
pub judged-accepted : (a : List ℕ) (v : Result (Unit {0}) Refusal) → verdict_of v ≡ verdict_for a → {t : Unit {0}} → v ≡ Ok t → verdict_for a ≡ accept
unfolding verdict_of
judged-accepted a v e f = sym e ∙ ap verdict_of f

pub judged-refused : (a : List ℕ) (v : Result (Unit {0}) Refusal) {x : Refusal} → verdict_of v ≡ verdict_for a → v ≡ Err x → verdict_for a ≡ refuse x
unfolding verdict_of
judged-refused a v e f = sym e ∙ ap verdict_of f

-- it is accepted where there is no refusal
pub accepts-verdict : (v : Result (Unit {0}) Refusal) → is_ok v ≡ is_accepted (verdict_of v)
unfolding verdict_of is_accepted
accepts-verdict (Ok t) = refl
accepts-verdict (Err x) = refl

module _ (a b : List ℕ) where
  pub first-refused : {x : Refusal} → verdict_for a ≡ refuse x → Err (record { refusal = x; which = First }) ≡ comparing a b
  unfolding comparing compared_by
  first-refused e = rw e

  pub second-refused : {x : Refusal} → verdict_for a ≡ accept → verdict_for b ≡ refuse x → Err (record { refusal = x; which = Second }) ≡ comparing a b
  unfolding comparing compared_by
  second-refused e f = rw (e, f)

  pub both-accepted : {o : Ordering} → verdict_for a ≡ accept → verdict_for b ≡ accept → o ≡ compare_lists (numbers_in a) (numbers_in b) → Ok o ≡ comparing a b
  unfolding comparing compared_by
  both-accepted e f g = rw (e, f) (ap Ok (g ∙ fields-order Pattern Pattern a b e f))
