-- The passes of one direction, one bound after another. Assumes nothing.
use Rattle.std.specs.Prelude.{◌≡◌, ◌*◌}
use Rattle.base_lists.specs.Kit.{◌∙◌, ap, ap₂, refl, List, ℕ, suc}
use Rattle.base_lists.specs.List.{part}
use Rattle.bounded_layer.specs.Pass.{pass_table, next_layer}
use Rattle.bounded_strike.specs.Round.{layer_of, passes}

module _ (near : ℕ → List ℕ) (masks old new : List ℕ) where
  pub layer-step : (h : ℕ) {layer next : List ℕ} → layer ≡ layer_of near old h → next ≡ next_layer near old layer → next ≡ layer_of near old (suc h)
  unfolding layer_of
  layer-step h e q = q ∙ ap (next_layer near old) e

  pub passes-step :
      (h : ℕ) {layer new₁ new₂ : List ℕ} → layer ≡ layer_of near old h → new₁ ≡ passes near masks old h new →
      new₂ ≡ pass_table near (part (32 * h) 32 masks) layer new₁ → new₂ ≡ passes near masks old (suc h) new
  unfolding passes
  passes-step h e p q = q ∙ ap₂ (λ (l n : List ℕ). pass_table near (part (32 * h) 32 masks) l n) e p

  -- ---- up to four bounds

  module _ {new₁ : List ℕ} (p₁ : new₁ ≡ pass_table near (part 0 32 masks) old new) where
    pub one-passed : new₁ ≡ passes near masks old 1 new
    unfolding layer_of passes
    one-passed = passes-step 0 refl refl p₁

    module _ {layer₂ new₂ : List ℕ} (l₂ : layer₂ ≡ next_layer near old old) (p₂ : new₂ ≡ pass_table near (part 32 32 masks) layer₂ new₁) where
      two-layer : layer₂ ≡ layer_of near old 1
      unfolding layer_of
      two-layer = layer-step 0 refl l₂

      pub two-passed : new₂ ≡ passes near masks old 2 new
      two-passed = passes-step 1 two-layer one-passed p₂

      module _ {layer₃ new₃ : List ℕ} (l₃ : layer₃ ≡ next_layer near old layer₂) (p₃ : new₃ ≡ pass_table near (part 64 32 masks) layer₃ new₂) where
        three-layer : layer₃ ≡ layer_of near old 2
        three-layer = layer-step 1 two-layer l₃

        pub three-passed : new₃ ≡ passes near masks old 3 new
        three-passed = passes-step 2 three-layer two-passed p₃

        pub four-passed : {layer₄ new₄ : List ℕ} → layer₄ ≡ next_layer near old layer₃ → new₄ ≡ pass_table near (part 96 32 masks) layer₄ new₃ →
            new₄ ≡ passes near masks old 4 new
        four-passed l₄ p₄ = passes-step 3 (layer-step 2 three-layer l₄) three-passed p₄
