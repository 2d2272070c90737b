-- A layer has, at each node, the parts that occur at the ends of paths from there. Assumes nothing.
use Rattle.std.specs.Prelude.{◌≡◌, ◌∷◌, ◌<◌}
use Rattle.base_lists.specs.Kit.{◌∙◌, sym, ap, refl, ap₂, List, [], ℕ, suc, zero, suc-le-suc, zero-lt-suc, length, get_or}
use lib.Bits.{bit_or, or_zero_r}
use Rattle.base_lists.specs.List.{Below}
use Rattle.base_lists.proofs.Tables.{get_d_tabulate, tabulate-same}
use Rattle.base_bits.specs.Bits.{union_at}
use Rattle.base_bits.proofs.Unions.{union_at-append}
use Rattle.bounded.specs.Problem.{gather, within}
use Rattle.bounded_layer.specs.Pass.{next_layer}
use Rattle.bounded_strike.specs.Round.{layer_of}

-- a table whose sets are unions over lists of another's nodes
union-gather :
    (layer old : List ℕ) (f : ℕ → List ℕ) (n : ℕ) → ((w : ℕ) → w < n → get_or layer w 0 ≡ union_at old (f w)) → (ws : List ℕ) → Below n ws →
    union_at layer ws ≡ union_at old (gather f ws)
unfolding union_at gather Below
union-gather layer old f n e [] b = refl
union-gather layer old f n e (w ∷ ws) b =
    ap₂ (λ (x y : ℕ). bit_or x y) (e w (b zero (zero-lt-suc _))) (union-gather layer old f n e ws (λ i h. b (suc i) (suc-le-suc h)))
    ∙ sym (union_at-append old (f w) (gather f ws))

module _ (near : ℕ → List ℕ) (old : List ℕ) where
  module _ (inside : (v : ℕ) → v < length old → Below (length old) (near v)) where
    layer-at : (h w : ℕ) → w < length old → get_or (layer_of near old h) w 0 ≡ union_at old (w ∷ within near h w)
    unfolding layer_of next_layer union_at within
    layer-at zero w l = sym (or_zero_r (get_or old w 0))
    layer-at (suc h) w l =
        get_d_tabulate (length old) (λ v. bit_or (get_or old v 0) (union_at (layer_of near old h) (near v))) w 0 l
        ∙ ap (bit_or (get_or old w 0)) (union-gather (layer_of near old h) old (λ x. x ∷ within near h x) (length old) (layer-at h) (near w) (inside w l))

    -- so the union of a layer's sets over the neighbours is that over the ends of paths of up to one link more
    pub layer-moves : (h v : ℕ) → v < length old → union_at (layer_of near old h) (near v) ≡ union_at old (within near (suc h) v)
    unfolding within
    layer-moves h v l = union-gather (layer_of near old h) old (λ x. x ∷ within near h x) (length old) (layer-at h) (near v) (inside v l)

-- layers depend on the neighbours of nodes alone
pub layer-same :
    (near near' : ℕ → List ℕ) (old : List ℕ) → ((v : ℕ) → v < length old → near v ≡ near' v) → (h : ℕ) → layer_of near old h ≡ layer_of near' old h
unfolding layer_of next_layer
layer-same near near' old e zero = refl
layer-same near near' old e (suc h) =
    tabulate-same (length old) (λ v. bit_or (get_or old v 0) (union_at (layer_of near old h) (near v))) (λ v. bit_or (get_or old v 0) (union_at (layer_of near' old h) (near' v)))
    (λ v l. ap₂ (λ (xs ws : List ℕ). bit_or (get_or old v 0) (union_at xs ws)) (layer-same near near' old e h) (e v l))
