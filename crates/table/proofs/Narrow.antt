-- More nodes, more pairs: so a ball's largest dual simulation lies in the whole board's. Assumes nothing.
use Rattle.std.specs.Prelude.{◌≤◌}
use Rattle.base_lists.specs.Kit.{List, ℕ, length}
use Rattle.graph.specs.Circuit.{Circuit}
use Rattle.simulation.specs.Closed.{◌⊆◌}
use Rattle.table_row.specs.Reading.{InTable, Wider}
use Rattle.table_row.proofs.Wider as Of
use Rattle.table.specs.Host.{Taken, host_graph}
use Rattle.table.specs.Row.{problem_by, problem_of, last_table}
use Rattle.table.proofs.Row.{agreeing-iff}

-- on more nodes of the same circuit the problem asks no more
pub more-nodes :
    (pattern host : Circuit) (taken taken' : List ℕ) → ((v : ℕ) → Taken host taken v → Taken host taken' v) →
    Wider (problem_of pattern host taken) (problem_of pattern host taken')
unfolding problem_by host_graph
more-nodes pattern host taken taken' more =
    record {
      agree =
          λ u v a.
          let c = (agreeing-iff pattern host taken u v).0 a in
          (agreeing-iff pattern host taken' u v).1 (record { part = c.part; node = more v c.node; kinds = c.kinds });
      step = λ d u u' l. (d, record { way = l.way; step = l.step }, λ v v' a b m. record { move = m.move });
    }

-- what lies in the largest set of H lies in that of a graph with more nodes of the same circuit
pub last_wider :
    (pattern host : Circuit) (taken taken' : List ℕ) → length pattern.labels ≤ 32 →
    ((v : ℕ) → Taken host taken v → Taken host taken' v) →
    InTable (last_table pattern host taken) ⊆ InTable (last_table pattern host taken')
unfolding problem_by
last_wider pattern host taken taken' most more = Of.last_wider (more-nodes pattern host taken taken' more) most most
