-- Ask 10: the order on circuits, the comparison of two files and the shelf. Assumes nothing.
use Rattle.std.specs.Prelude.{◌≡◌, ◌↔◌, ◌∷◌, Result, Ok, Err}
use Rattle.base_lists.specs.Kit.{◌∙◌, sym, ap, refl, List, [], ℕ, length, take, drop, take_at, drop_at, arith}
use Rattle.base_lists.proofs.Entries.{below_all}
use Rattle.file_format.specs.declared.Refusal.{Refusal}
use Rattle.file_format.specs.declared.Role.TheVariants.{Pattern}
use Rattle.file_format.specs.Reading.{filled}
use Rattle.file_format.specs.Refusals.{Verdict, accept, refuse, Accepted, file_conditions, first, short_table}
use Rattle.file_format.specs.Reply.{reply}
use Rattle.file_format.proofs.Refusals.{accepted, accepted-verdict, reply-verdict}
use Rattle.std.specs.declared.cmp.Ordering.{Ordering}
use Rattle.std.specs.declared.cmp.Ordering.TheVariants.{Equal}
use Rattle.order.proofs.Laws.{whole-order, total, antisymmetric, transitive}
use Rattle.order.specs.Files.{second_edition, compare_files}
use Rattle.call_shelf.specs.declared.compare.FileRefusal.{FileRefusal}
use Rattle.call_shelf.specs.declared.compare.Which.{Which}
use Rattle.call_shelf.specs.declared.compare.Which.TheVariants as which
use Rattle.call_shelf.specs.Compare.{verdict_for, compared_by, comparing}
use Rattle.call_shelf.proofs.CompareFiles.{equal-files, equal-circuits}
use Rattle.call_shelf.specs.Shelf.{is_accepted, file_at, accepted_in, shelf_of, shelving_of, shelving}
use Rattle.call_shelf.proofs.Meaning.{shelf-in-order, shelf-once, shelf-one}
use Rattle.call_shelf.proofs.Inserting.{is-accepted}
use Rattle.demands.specs.Shelf.{PatternFile, files_in, Ask10}

-- ---- the comparison

module _ (a b : List ℕ) where
  compared : Accepted Pattern (second_edition a) → Accepted Pattern (second_edition b) → comparing a b ≡ Ok (compare_files a b)
  unfolding comparing compared_by
  compared x y = rw (accepted-verdict x, accepted-verdict y)

  same_bytes : PatternFile a → PatternFile b → (compare_files a b ≡ Equal) ↔ (a ≡ b)
  same_bytes x y =
      equal-files Pattern Pattern a b (below_all 256 a x.bytes) (below_all 256 b y.bytes) (accepted-verdict x.drawn) (accepted-verdict y.drawn)

  equal : PatternFile a → PatternFile b → (comparing a b ≡ Ok Equal) ↔ (a ≡ b)
  equal x y =
      let is = compared x.drawn y.drawn in
      let same = same_bytes x y in
      (λ e. same.0 (told (sym is ∙ e)), λ e. is ∙ ap Ok (same.1 e))
    where
      told : {o p : Ordering} → ◌≡◌ {A = Result Ordering FileRefusal} (Ok o) (Ok p) → o ≡ p
      told e = cc

  -- by the two files' verdicts
  abbrev refused : Refusal → Which → Result Ordering FileRefusal
  refused x w = Err (record { refusal = x; which = w })

  parts : {y x : Refusal} {v w : Which} → refused y v ≡ refused x w → (y ≡ x) × (v ≡ w)
  parts {y} {x} {v} {w} e =
      let same : record { refusal = y; which = v } ≡ record { refusal = x; which = w } = cc in
      (ap (λ (k : FileRefusal). k.refusal) same, ap (λ (k : FileRefusal). k.which) same)

  first-refused : (v w : Verdict) (o : Ordering) (x : Refusal) → (compared_by v w o ≡ Err (record { refusal = x; which = which.First })) ↔ (v ≡ refuse x)
  unfolding compared_by
  first-refused accept accept o x = (λ e. let z : ◌≡◌ {A = ℕ} 0 1 = cc in absurd (omega arith), λ e. let z : ◌≡◌ {A = ℕ} 0 1 = cc in absurd (omega arith))
  first-refused accept (refuse y) o x = (λ e. let z : which.Second ≡ which.First = (parts e).1 in let n : ◌≡◌ {A = ℕ} 0 1 = cc in absurd (omega arith), λ e. let z : ◌≡◌ {A = ℕ} 0 1 = cc in absurd (omega arith))
  first-refused (refuse y) w o x = (λ e. ap refuse (parts e).0, λ e. let same : y ≡ x = cc in ap (λ (k : Refusal). refused k which.First) same)

  second-refused : (v w : Verdict) (o : Ordering) (x : Refusal) → (compared_by v w o ≡ Err (record { refusal = x; which = which.Second })) ↔ ((v ≡ accept) × (w ≡ refuse x))
  unfolding compared_by
  second-refused accept accept o x = (λ e. let z : ◌≡◌ {A = ℕ} 0 1 = cc in absurd (omega arith), λ e. let h = e.1 in let z : ◌≡◌ {A = ℕ} 0 1 = cc in absurd (omega arith))
  second-refused accept (refuse y) o x = (λ e. (refl, ap refuse (parts e).0), λ e. let same : y ≡ x = let h = e.1 in cc in ap (λ (k : Refusal). refused k which.Second) same)
  second-refused (refuse y) w o x = (
    λ e. let z : which.First ≡ which.Second = (parts e).1 in let n : ◌≡◌ {A = ℕ} 0 1 = cc in absurd (omega arith),
    λ e. let h = e.0 in let z : ◌≡◌ {A = ℕ} 0 1 = cc in absurd (omega arith),
  )

  refused-first : (x : Refusal) → (comparing a b ≡ Err (record { refusal = x; which = which.First })) ↔ (first (file_conditions Pattern (second_edition a)) ≡ refuse x)
  unfolding comparing
  refused-first x = first-refused (verdict_for a) (verdict_for b) (compare_files a b) x

  refused-second : (x : Refusal) →
      (comparing a b ≡ Err (record { refusal = x; which = which.Second })) ↔ (Accepted Pattern (second_edition a) × (first (file_conditions Pattern (second_edition b)) ≡ refuse x))
  unfolding comparing
  refused-second x =
      let told = second-refused (verdict_for a) (verdict_for b) (compare_files a b) x in
      (λ e. (accepted Pattern (second_edition a) (told.0 e).0, (told.0 e).1), λ h. told.1 (accepted-verdict h.0, h.1))

-- ---- the shelf

module _ (bytes lengths order : List ℕ) where
  abbrev numbers : List ℕ
  numbers = shelf_of (files_in bytes lengths)

  verdict-is : (shelving bytes lengths order).reply.verdict ≡ first (short_table (length numbers) (length order) ∷ [])
  unfolding shelving shelving_of
  verdict-is = reply-verdict _ _

  put : (shelving bytes lengths order).reply.verdict ≡ accept →
      ((shelving bytes lengths order).reply.values ≡ length numbers ∷ [])
      × (take (length numbers) (shelving bytes lengths order).order ≡ numbers)
      × (drop (length numbers) (shelving bytes lengths order).order ≡ drop (length numbers) order)
  unfolding shelving shelving_of reply filled
  put ok =
      let e = sym verdict-is ∙ ok in
      (rw e, rw e (take_at numbers _ (length numbers) refl), rw e (drop_at numbers _ (length numbers) refl))

-- "A shelf in order": the order, the comparison and the shelf.
pub ask-10 : Ask10
unfolding accepted_in is_accepted
ask-10 =
    record {
      total = total whole-order;
      antisymmetric = antisymmetric whole-order;
      transitive = transitive whole-order;
      circuits = equal-circuits;
      files = same_bytes;
      compared = compared;
      equal = equal;
      refused_first = refused-first;
      refused_second = refused-second;
      accepts = λ files i. (
        λ t. accepted Pattern (second_edition (file_at files i)) (is-accepted (verdict_for (file_at files i)) t),
        λ a. rw (accepted-verdict a) tt,
      );
      ordered = shelf-in-order;
      once = shelf-once;
      only = λ files numbers h. shelf-one files h;
      put = put;
    }
