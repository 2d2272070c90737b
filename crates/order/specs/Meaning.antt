-- What it is for a comparison to be an order.
use Rattle.std.specs.Prelude.{◌≡◌, ◌↔◌}
use Rattle.std.specs.declared.cmp.Ordering.{Ordering}
use Rattle.std.specs.declared.cmp.Ordering.TheVariants.{Less, Equal, Greater}
use Rattle.order.specs.Order.{opposite}

-- what two comparisons, of a first with a second and of that with a third, say of the first and the third
unfoldable pub Composed : Ordering → Ordering → Ordering → Type 0
Composed Less Less r = r ≡ Less
Composed Less Equal r = r ≡ Less
Composed Less Greater r = Unit {0}
Composed Equal p r = r ≡ p
Composed Greater Less r = Unit {0}
Composed Greater Equal r = r ≡ Greater
Composed Greater Greater r = r ≡ Greater

-- A total order: of two one is less, or they are the same; never both; and what is less than a lesser is less.
pub record TotalOrder {A : Type 0} (compare : A → A → Ordering) : Type 0 where
  pub same : (a b : A) → compare a b ≡ Equal ↔ (a ≡ b)
  pub turned : (a b : A) → compare b a ≡ opposite (compare a b)
  pub composed : (a b c : A) → Composed (compare a b) (compare b c) (compare a c)
