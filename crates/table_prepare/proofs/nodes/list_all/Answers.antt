-- `table_prepare::nodes::list_all` meets its contract: the entries before v are the nodes, and the others as they were. Assumes nothing.
use Rattle.std.specs.Prelude.{◌≡◌, ◌++◌}
use Rattle.base_lists.specs.Kit.{◌∙◌, List, append-nil, ℕ, length, drop, drop-length, arith}
use Rattle.base_lists.specs.List.{tabulate}
use Rattle.base_lists.proofs.Tables.{filled_none, filled_more}
use Rattle.table.specs.Fill.{all_nodes}
use Rattle.table_prepare.proofs.nodes.list_all.Goals as goal

pub loop-v-init : goal.loop-v-init
loop-v-init c = filled_none (λ w. w) c.args.nodes.now

pub loop-v-preserved : goal.loop-v-preserved
loop-v-preserved c = rw c.loop-v.invariant (filled_more c.loop-v.v (λ w. w) c.args.nodes.now (omega arith))

-- past the last entry all are listed
ended : (v : ℕ) (nodes₀ nodes : List ℕ) → v ≡ length nodes₀ → nodes ≡ tabulate v (λ w. w) ++ drop v nodes₀ → nodes ≡ all_nodes (length nodes₀)
unfolding all_nodes
ended v nodes₀ nodes e q = q ∙ rw (e, drop-length) (append-nil _)

pub returns : goal.returns
returns c = ended c.loop-v.v c.args.nodes.now c.loop-v.nodes (omega arith) c.loop-v.invariant
