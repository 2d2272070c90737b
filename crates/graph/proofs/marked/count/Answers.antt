-- `graph::marked::count` meets its contract: the chain counts the bytes that pass its test. Assumes nothing.
use Rattle.std.specs.Prelude.{◌≡◌, ◌∷◌, ◌+◌}
use Rattle.std.specs.List.{count_by}
use Rattle.std.proofs.lemmas.List.Sums.{sum_by-cons}
use Rattle.base_lists.specs.Kit.{◌∙◌, ap, refl, cond, eqb, List, [], ℕ, length, rules}
use Rattle.base_lists.specs.Below.{count_below}
use Rattle.graph.specs.Search.{inside}
use Rattle.graph.proofs.marked.count.Goals as goal

counted : (marks : List ℕ) → count_by (λ x. eqb x 1) marks ≡ count_below (length marks) (inside marks)
unfolding count_below inside
counted [] = refl
counted (x ∷ marks) =
    sum_by-cons (λ (y : ℕ). cond (eqb y 1) 1 0) x marks ∙ ap (λ (n : ℕ). cond (eqb x 1) 1 0 + n) (counted marks)

pub returns : goal.returns
returns c =
    let e : c.count.result ≡ count_by (λ x. eqb x 1) c.args.marks.now = search rules in
    e ∙ counted c.args.marks.now
