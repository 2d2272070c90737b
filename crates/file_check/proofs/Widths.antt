-- What the links of a circuit in a role give, once they are in order: one search for a pattern. Assumes nothing.
use Rattle.std.specs.Prelude.{◌≡◌}
use Rattle.base_lists.specs.Kit.{◌∙◌, false, true, not-not, List, ℕ, T, eqb, length, arith}
use Rattle.base_lists.proofs.Tests.{true-T}
use Rattle.graph.specs.Search.{far, radius}
use Rattle.graph_radius.proofs.Spanning.{connected-radius}
use Rattle.file_format.specs.declared.Role.{Role}
use Rattle.file_format.specs.Refusals.{asks_connected, link_order_number, link_number, width_number}
use Rattle.file_format.specs.Role.{in_range}
use Rattle.file_format.proofs.Accepted.{links-within}
use Rattle.file_format.proofs.Refusals.{ordered, number-joined, range-asked}

-- a pattern's links that are in order give what their radius does: 6 where it is `far`, 11 where it is above 12
pub pattern_number : (r : Role) (n w : ℕ) (starts ends : List ℕ) → asks_connected r ≡ true → T (in_range r n (length starts)) → link_order_number n starts ends ≡ 0
    → w ≡ radius n starts ends → link_number r n starts ends ≡ width_number w
unfolding width_number
pattern_number r n w starts ends e t o q =
    let (some, few, _) = range-asked r n (length starts) (true-T e) t in
    let one = connected-radius (links-within n starts ends (ordered n starts ends o).0) (omega arith) some in
    number-joined n starts ends r o ∙ rw (e, one, q) (simp (not-not (eqb (radius n starts ends) far)))

-- the links of a role that need not be connected give nothing
pub unasked-number : (r : Role) (n : ℕ) (starts ends : List ℕ) → asks_connected r ≡ false → link_order_number n starts ends ≡ 0 → link_number r n starts ends ≡ 0
unasked-number r n starts ends e o = number-joined n starts ends r o ∙ rw e
