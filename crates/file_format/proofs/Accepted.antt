-- What an accepted file says of the circuit that it holds. Assumes nothing.
use Rattle.base_lists.specs.Kit.{◌∙◌, sym, List, ℕ, T, ltb, length}
use Rattle.base_lists.specs.List.{all}
use Rattle.base_lists.proofs.Tests.{both_left, both_right}
use Rattle.graph.specs.Circuit.{Circuit, circuit_graph}
use Rattle.graph.specs.Graph.{Connected}
use Rattle.graph.proofs.Ball.{Within, within_all}
use Rattle.graph.proofs.Distance.{connected-iff}
use Rattle.file_format.specs.declared.Role.{Role}
use Rattle.file_format.specs.declared.Role.TheVariants.{Pattern, AnyPattern}
use Rattle.file_format.specs.Circuit.{circuit_of, Bounded}
use Rattle.file_format.specs.Layout.{CircuitFile, nodes_of, links_of, labels_of, starts_of, ends_of}
use Rattle.file_format.specs.Links.{links_below}
use Rattle.file_format.specs.Refusals.{asks_connected, Accepted}
use Rattle.file_format.proofs.Fields.{length-labels, length-starts, length-ends}
use Rattle.file_format.proofs.Refusals.{range-orders}

-- ---- links that join nodes

-- every start and every end is a node, list by list
module _ (n : ℕ) (starts ends : List ℕ) (below : T (links_below n starts ends)) where
  pub starts-below : T (all (λ v. ltb v n) starts)
  unfolding links_below
  starts-below = both_left (all (λ v. ltb v n) starts) (all (λ v. ltb v n) ends) below

  pub ends-below : T (all (λ v. ltb v n) ends)
  unfolding links_below
  ends-below = both_right (all (λ v. ltb v n) starts) (all (λ v. ltb v n) ends) below

  pub links-within : Within n starts ends
  links-within = within_all n starts ends starts-below ends-below

-- the same of a bounded circuit
module _ {role : Role} {c : Circuit} (b : Bounded role c) where
  pub bounded-starts : T (all (λ v. ltb v (length c.labels)) c.starts)
  bounded-starts = starts-below (length c.labels) c.starts c.ends b.below

  pub bounded-ends : T (all (λ v. ltb v (length c.labels)) c.ends)
  bounded-ends = ends-below (length c.labels) c.starts c.ends b.below

-- ---- an accepted file

pub accepted-bounded : {role : Role} {file : CircuitFile} → Accepted role file → Bounded role (circuit_of file)
accepted-bounded {role} {file} a =
    record {
      nodes = rw length-labels (range-orders role (nodes_of file) (links_of file) a.range).1;
      links = rw length-starts (range-orders role (nodes_of file) (links_of file) a.range).2;
      parallel = length-starts file ∙ sym (length-ends file);
      below = rw length-labels a.below;
    }

-- its links start and end at its nodes
pub accepted-below : {role : Role} {file : CircuitFile} → Accepted role file → Within (nodes_of file) (starts_of file) (ends_of file)
accepted-below {file = file} a = links-within (nodes_of file) (starts_of file) (ends_of file) a.below

pub accepted-within : {role : Role} {file : CircuitFile} → Accepted role file → Within (length (labels_of file)) (starts_of file) (ends_of file)
accepted-within {file = file} a = rw length-labels (accepted-below a)

-- an accepted pattern is connected
pub accepted-connected : {file : CircuitFile} → Accepted Pattern file → Connected (circuit_graph (circuit_of file))
unfolding circuit_graph asks_connected
accepted-connected {file} a = rw length-labels ((connected-iff (accepted-below a)).0 (a.joined tt))

-- any pattern is within a pattern's maxima
pub bounded-any : {c : Circuit} → Bounded AnyPattern c → Bounded Pattern c
bounded-any b = record { nodes = b.nodes; links = b.links; parallel = b.parallel; below = b.below }
