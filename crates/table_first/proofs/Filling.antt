-- Writing a first table, node by node: what the loop over the list of nodes leads to, and how many pairs the table has. Assumes nothing.
use Rattle.std.specs.Prelude.{◌≡◌, ◌∷◌, ◌≤◌, ◌<◌, ◌+◌}
use Rattle.base_lists.specs.Kit.{◌∙◌, sym, ap, refl, List, [], ℕ, suc, zero, suc-le-suc, not-suc-le-zero, le_of_suc-le-suc, zero-lt-suc, add-one, length, get_or, drop, set, length-set, replicate, drop_of_length-le, length-replicate, get_or-replicate, get_or-set_other, drop-cons, arith}
use Rattle.base_lists.specs.List.{sum, Below}
use Rattle.base_bits.specs.Bits.{size_of}
use Rattle.base_bits.proofs.Counts.{size_none}
use Rattle.table.specs.Row.{pairs}
use Rattle.table.specs.Fill.{Distinct, NodeList, fill_at, sizes_at, Filled, table_at}
use Rattle.table.specs.First.{Written}
use Rattle.table.proofs.Fill.{cleared-none, fill-table}

-- ---- how many pairs

pairs-none : (n : ℕ) → pairs (replicate n 0) ≡ zero
unfolding pairs sum
pairs-none zero = refl
pairs-none (suc n) = omega (arith, size_none, pairs-none n)

-- a set written over an empty one
pairs_set : (xs : List ℕ) (v y : ℕ) → v < length xs → get_or xs v 0 ≡ zero → pairs (set xs v y) ≡ pairs xs + size_of y
unfolding pairs sum
pairs_set [] v y h e = absurd (not-suc-le-zero h)
pairs_set (x ∷ xs) zero y h e = omega (arith, ap size_of e ∙ size_none)
pairs_set (x ∷ xs) (suc v) y h e = omega (arith, pairs_set xs v y (le_of_suc-le-suc h) e)

pairs-fill : (f : ℕ → ℕ) (nodes xs : List ℕ) → Distinct nodes → Below (length xs) nodes → ((i : ℕ) → i < length nodes → get_or xs (get_or nodes i 0) 0 ≡ zero)
    → pairs (fill_at f nodes xs) ≡ pairs xs + sizes_at f nodes
unfolding fill_at sizes_at Distinct Below
pairs-fill f [] xs d l e = omega arith
pairs-fill f (v ∷ vs) xs d l e =
    let first : pairs (set xs v (f v)) ≡ pairs xs + size_of (f v) = pairs_set xs v (f v) (l zero (zero-lt-suc _)) (e zero (zero-lt-suc _)) in
    let rest : pairs (fill_at f vs (set xs v (f v))) ≡ pairs (set xs v (f v)) + sizes_at f vs =
    pairs-fill f vs (set xs v (f v)) (λ i j h k. d (suc i) (suc j) (suc-le-suc h) (suc-le-suc k))
    (λ i h. rw length-set (l (suc i) (suc-le-suc h)))
    (λ i h. get_or-set_other xs v (get_or vs i 0) (f v) 0 (λ q. d zero (suc i) (zero-lt-suc i) (suc-le-suc h) (sym q)) ∙ e (suc i) (suc-le-suc h)) in
    omega arith

-- the table of the rule has as many pairs as were counted while it was written
pub pairs-table : (n : ℕ) (f : ℕ → ℕ) (nodes : List ℕ) → Distinct nodes → Below n nodes → pairs (table_at n f nodes) ≡ sizes_at f nodes
unfolding Below
pairs-table n f nodes d l =
    let zeros : List ℕ = replicate n 0 in
    let long : length zeros ≡ n = length-replicate n 0 in
    let whole : fill_at f nodes zeros ≡ table_at n f nodes = fill-table f nodes zeros (cleared-none n nodes zeros refl) ∙ ap (λ (m : ℕ). table_at m f nodes) long in
    omega (
      arith,
      ap pairs whole,
      pairs-none n,
      pairs-fill f nodes zeros d (λ i h. rw long (l i h)) (λ i h. get_or-replicate n (get_or nodes i 0) 0 0 (l i h)),
    )

-- so writing into an empty table makes a first table
pub filled-written : {n : ℕ} {f : ℕ → ℕ} {nodes empty table : List ℕ} {count : ℕ} → empty ≡ replicate n 0 → NodeList n nodes
    → Filled f nodes empty table count → Written n f nodes table count
filled-written {n} {f} {nodes} {empty} {table} none list fill =
    let made : table ≡ table_at n f nodes =
    fill.table ∙ fill-table f nodes empty (cleared-none n nodes empty none) ∙ ap (λ (m : ℕ). table_at m f nodes) (ap length none ∙ length-replicate n 0) in
    record { made = made; size = fill.size ∙ sym (ap pairs made ∙ pairs-table n f nodes list.distinct list.below) }

-- ---- a loop over the list

-- After i turns: the turns that are left lead to the whole table and the whole count.
pub record Filling (f : ℕ → ℕ) (nodes before after : List ℕ) (count i : ℕ) : Type 0 where
  pub table : fill_at f (drop i nodes) after ≡ fill_at f nodes before
  pub size : count + sizes_at f (drop i nodes) ≡ sizes_at f nodes

pub filling-start : (f : ℕ → ℕ) (nodes before : List ℕ) → Filling f nodes before before 0 0
filling-start f nodes before = record { table = refl; size = omega arith }

module _ {f : ℕ → ℕ} {nodes before after : List ℕ} {count i : ℕ} (g : Filling f nodes before after count i) where
  module _ (h : i < length nodes) where
    next : drop i nodes ≡ get_or nodes i 0 ∷ drop (i + 1) nodes
    next = rw (add-one, drop-cons nodes i 0)

    sizes-next : size_of (f (get_or nodes i 0)) + sizes_at f (drop (i + 1) nodes) ≡ sizes_at f (drop i nodes)
    unfolding sizes_at
    sizes-next = sym (ap (sizes_at f) next)

    -- one turn: x is written at the next node, and its size added
    pub filling-next : {x s : ℕ} → x ≡ f (get_or nodes i 0) → s ≡ size_of x → Filling f nodes before (set after (get_or nodes i 0) x) (count + s) (i + 1)
    unfolding fill_at
    filling-next {x} {s} e d =
        record {
          table =
              ap (λ (y : ℕ). fill_at f (drop (i + 1) nodes) (set after (get_or nodes i 0) y)) e ∙ sym (ap (λ (l : List ℕ). fill_at f l after) next) ∙ g.table;
          size = omega (arith, g.size, sizes-next, d, ap size_of e);
        }

  pub filling-end : length nodes ≤ i → Filled f nodes before after count
  unfolding fill_at sizes_at
  filling-end h =
      let none : drop i nodes ≡ [] = drop_of_length-le nodes h in
      record {
        table = sym (ap (λ (l : List ℕ). fill_at f l after) none) ∙ g.table;
        size = omega (arith, g.size, ap (sizes_at f) none);
      }
