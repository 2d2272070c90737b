-- Laws of the two halves of a round: listing the nodes that change, and writing their sets. Assumes nothing.
use Rattle.std.specs.Prelude.{◌≡◌, ◌&&◌, ◌||◌, ◌∷◌, ◌++◌, ◌≤◌, ◌<◌, ◌+◌, ◌-◌, ◌⊎◌}
use Rattle.base_lists.specs.Kit.{◌∙◌, sym, ap, refl, subst, Bool, false, true, cond, not, List, [], append-nil, map, append_assoc, ℕ, suc, zero-le, suc-le-suc, zero-lt-suc, inl, inr, add-one, T, eqb, length, get_or, take, drop, set, length-set, drop_of_length-le, drop-cons, take-suc-set, arith, eqb-true, and-false}
use Rattle.base_lists.specs.List.{any, Below}
use Rattle.base_lists.proofs.Tests.{both_left}
use Rattle.base_bits.specs.Bits.{size_of}
use Rattle.table.specs.Row.{pairs}
use Rattle.table.specs.Fill.{listed, fill_at}
use Rattle.table.proofs.Fill.{listed-occurs, occurs-listed}
use Rattle.table.proofs.Pairs.{pairs-put}
use Rattle.table_round.specs.Pending.{changing, Pending, ChangeNoted, put_at, SetsPut}

-- ---- the nodes that change

module _ (f : ℕ → ℕ) (old : List ℕ) where
  -- they are the entries of the list to which the rule gives another set
  pub listed-changing : (vs : List ℕ) (v : ℕ) → listed (changing f old vs) v ≡ listed vs v && not (eqb (f v) (get_or old v 0))
  unfolding listed any changing
  listed-changing [] v = refl
  listed-changing (w ∷ vs) v = go (eqb (f w) (get_or old w 0)) refl (eqb w v) refl (listed-changing vs v)
    where
      at : (b : Bool) → eqb (f w) (get_or old w 0) ≡ b → w ≡ v → eqb (f v) (get_or old v 0) ≡ b
      at b e q = ap (λ (x : ℕ). eqb (f x) (get_or old x 0)) (sym q) ∙ e

      go : (b : Bool) → eqb (f w) (get_or old w 0) ≡ b → (c : Bool) → eqb w v ≡ c →
          listed (changing f old vs) v ≡ listed vs v && not (eqb (f v) (get_or old v 0)) →
          listed (cond b (changing f old vs) (w ∷ changing f old vs)) v ≡ (c || listed vs v) && not (eqb (f v) (get_or old v 0))
      go true e true q r = r ∙ rw (at true e (eqb-true w v q)) (and-false (listed vs v))
      go true e false q r = r
      go false e true q r = rw (q, at false e (eqb-true w v q))
      go false e false q r = rw q r

  changing-changes : (vs : List ℕ) (v : ℕ) → T (listed (changing f old vs) v) → T (listed vs v)
  changing-changes vs v t = both_left (listed vs v) (not (eqb (f v) (get_or old v 0))) (subst T (listed-changing vs v) t)

  pub changing-below : (n : ℕ) (vs : List ℕ) → Below n vs → Below n (changing f old vs)
  unfolding Below
  changing-below n vs b i h =
      let (j, l, e) = listed-occurs vs _ (changing-changes vs _ (occurs-listed (changing f old vs) _ (i, h, refl))) in
      subst (λ (x : ℕ). x < n) e (b j l)

  -- ---- the loop that lists them: what is listed, with what is left, is all

  pub record Listing (todo changed next : List ℕ) (k i : ℕ) : Type 0 where
    pub few : k ≤ i
    pub nodes : take k changed ++ changing f old (drop i todo) ≡ changing f old todo
    pub sets : take k next ++ map f (changing f old (drop i todo)) ≡ map f (changing f old todo)

  pub listing_start : (todo changed next : List ℕ) → Listing todo changed next 0 0
  listing_start todo changed next = record { few = zero-le; nodes = refl; sets = refl }

  module _ {todo changed next : List ℕ} {k i : ℕ} (g : Listing todo changed next k i) where
    pub listing-next : {v x y k' : ℕ} {changed' next' : List ℕ} → i < length todo → k < length changed → k < length next →
        v ≡ get_or todo i 0 → x ≡ f v → y ≡ get_or old v 0 → ChangeNoted v x y k changed next changed' next' k' → Listing todo changed' next' k' (i + 1)
    unfolding changing
    listing-next {v} {x} {y} {k'} {changed'} {next'} h room room' ev ex ey noted = go (eqb x y) refl
      where
        left : changing f old (drop i todo) ≡ cond (eqb x y) (changing f old (drop (i + 1) todo)) (v ∷ changing f old (drop (i + 1) todo))
        left = rw (ex, ey, ev, add-one, drop-cons todo i 0)

        go : (b : Bool) → eqb x y ≡ b → Listing todo changed' next' k' (i + 1)
        go true e =
            let same : changing f old (drop i todo) ≡ changing f old (drop (i + 1) todo) = left ∙ rw e in
            let c : changed' ≡ changed = noted.nodes ∙ rw e in
            let n : next' ≡ next = noted.sets ∙ rw e in
            let q : k' ≡ k = noted.count ∙ rw e (omega arith) in
            record {
              few = omega (arith, g.few);
              nodes = rw (q, c, ← same) g.nodes;
              sets = rw (q, n, ← same) g.sets;
            }
        go false e =
            let more : changing f old (drop i todo) ≡ v ∷ changing f old (drop (i + 1) todo) = left ∙ rw e in
            let c : changed' ≡ set changed k v = noted.nodes ∙ rw e in
            let n : next' ≡ set next k x = noted.sets ∙ rw e in
            let q : k' ≡ suc k = noted.count ∙ rw e (omega arith) in
            record {
              few = omega (arith, g.few);
              nodes =
                  rw (q, c, take-suc-set changed k v room, append_assoc)
                  (ap (λ (l : List ℕ). take k changed ++ l) (sym more) ∙ g.nodes);
              sets =
                  rw (q, n, take-suc-set next k x room', append_assoc, ex)
                  (ap (λ (l : List ℕ). take k next ++ map f l) (sym more) ∙ g.sets);
            }

    pub listing-end : i ≡ length todo → Pending f old todo changed next k
    unfolding changing
    listing-end h =
        let past : length todo ≤ i = omega arith in
        let none : changing f old (drop i todo) ≡ [] = rw (drop_of_length-le todo past) in
        record {
          within = omega (arith, g.few);
          nodes = sym (append-nil (take k changed)) ∙ rw none at g.nodes;
          sets = sym (append-nil (take k next)) ∙ rw none at g.sets;
        }

-- ---- writing

-- sets that a rule gives, written at their nodes
pub put_fill : (f : ℕ → ℕ) (vs xs : List ℕ) → put_at vs (map f vs) xs ≡ fill_at f vs xs
unfolding put_at fill_at
put_fill f [] xs = refl
put_fill f (v ∷ vs) xs = put_fill f vs (set xs v (f v))

-- ---- the loop that writes: what is left to write leads to the whole

pub record Putting (nodes sets whole after : List ℕ) (count : ℕ) : Type 0 where
  pub below : Below (length after) nodes
  pub table : put_at nodes sets after ≡ whole
  pub size : count ≡ pairs after

module _ {nodes sets whole after : List ℕ} {count : ℕ} (g : Putting nodes sets whole after count) where
  module _ {v x : ℕ} {nodes' sets' : List ℕ} (e : nodes ≡ v ∷ nodes') (q : sets ≡ x ∷ sets') where
    -- the next node
    pub putting_node : v < length after
    unfolding Below
    putting_node = (rw e at g.below) 0 (zero-lt-suc _)

    pub putting-next : {a b : ℕ} → a ≡ size_of (get_or after v 0) → b ≡ size_of x → Putting nodes' sets' whole (set after v x) (count - a + b)
    unfolding Below put_at
    putting-next {a} {b} ea eb =
        record {
          below = λ i h. rw length-set ((rw e at g.below) (suc i) (suc-le-suc h));
          table = rw (e, q) at g.table;
          size = rw (g.size, ea, eb) (pairs-put after v x putting_node);
        }

-- where nothing is left to write
put-none : (nodes sets table : List ℕ) → (length nodes ≡ 0) ⊎ (length sets ≡ 0) → put_at nodes sets table ≡ table
unfolding put_at
put-none [] sets table h = refl
put-none (v ∷ vs) [] table h = refl
put-none (v ∷ vs) (x ∷ xs) table (inl h) = absurd (omega arith)
put-none (v ∷ vs) (x ∷ xs) table (inr h) = absurd (omega arith)

pub putting-end : {nodes sets before left right after : List ℕ} {count : ℕ} → Putting left right (put_at nodes sets before) after count
    → (length left ≡ 0) ⊎ (length right ≡ 0) → SetsPut nodes sets before after count
putting-end g h = record { table = sym (put-none _ _ _ h) ∙ g.table; size = g.size }
