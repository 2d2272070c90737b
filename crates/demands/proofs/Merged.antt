-- Demand 3 on merging: what the merging call writes, handed to the place call with a radius given, is refused with 9
-- exactly when the first pattern is at that radius, and else marks the same nodes and links. Assumes nothing.
use Rattle.std.specs.Prelude.{◌≡◌, ◌∷◌, ◌<◌}
use Rattle.base_lists.specs.Kit.{◌∙◌, sym, ap, ⊎_elim, Bool, cond, List, [], ℕ, length, arith}
use Rattle.graph.specs.Circuit.{circuit_graph, graph_of}
use Rattle.graph.proofs.Distance.{distance-below}
use Rattle.file_format.specs.declared.Role.TheVariants.{Pattern}
use Rattle.file_format.specs.Circuit.{circuit_of}
use Rattle.file_format.specs.Layout.{CircuitFile, in_edition, nodes_of, links_of}
use Rattle.file_format.specs.Refusals.{accept, refuse, first, file_conditions, Accepted}
use Rattle.file_format.specs.Reply.{reply}
use Rattle.file_format.proofs.Fields.{length-labels}
use Rattle.place.specs.Match.{radius_of}
use Rattle.place.specs.Outcome.{place_verdict}
use Rattle.place.proofs.Accepted.{accepted-admissible}
use Rattle.call_place.proofs.Promise.{inputs-accept, verdict-is, accept-or-nine, nodes-prefix, links-prefix}
use Rattle.call_place.specs.Call.{input_conditions}
use Rattle.call_distance.specs.Calls.{radius_call}
use Rattle.merge.proofs.Content.{accepted-content, content-within, content-radius, most-parts}
use Rattle.merge.proofs.Places.{SameAnswer, merged-answer}
use Rattle.call_merge.specs.Call.{merged_bytes, merging}
use Rattle.call_merge.proofs.Promise.{merged-accepted, merged-circuit, values-are, out-prefix}
use Rattle.demands.specs.Demands.{Lent, Room, Ready, placed, nine, merged_file, SameFound}

-- no condition on the inputs holds
pub ready-sound :
    {pattern board : CircuitFile} {w : ℕ} {lent : Lent} → Ready pattern board w lent →
    first (input_conditions pattern board w (length lent.nodes) (length lent.links) (length lent.table) (length lent.distances)) ≡ accept
ready-sound {pattern} {board} {w} {lent} x =
    inputs-accept pattern board w 0 lent.nodes lent.links lent.table lent.distances x.drawn x.given x.centre x.room.nodes x.room.links
    x.room.table x.room.distances

module _ (file : CircuitFile) (lent out : List ℕ) (ok : (merging file lent out).reply.verdict ≡ accept) where
  abbrev second : CircuitFile
  second = merged_file file (merging file lent out)

  -- the merged file is what the definition of the merged pattern says
  pub file-is : second ≡ in_edition file.edition (merged_bytes file.edition (circuit_of file))
  unfolding merged_file
  file-is = rw (values-are file lent out ok) (ap (λ (bytes : List ℕ). in_edition file.edition bytes) (out-prefix file lent out ok))

  module _ (board : CircuitFile) (w r : ℕ) (tables tables' : Lent) (x : Ready file board w tables) (room : Room board tables') where
    -- it is accepted as a pattern too
    pub merged-ready : Ready second board w tables'
    merged-ready = record { drawn = rw file-is (merged-accepted x.drawn); given = x.given; centre = x.centre; room = room }

    same : SameAnswer (circuit_of file) (circuit_of second) (circuit_of board) w r
    same = rw (file-is, merged-circuit x.drawn) (merged-answer (accepted-content x.drawn) (accepted-admissible x.drawn x.given) w r)

    verdicts : (placed second board w r tables').reply.verdict ≡ (placed file board w r tables).reply.verdict
    unfolding placed place_verdict nine
    verdicts =
        verdict-is second board w r tables'.nodes tables'.links tables'.table tables'.distances (ready-sound merged-ready)
        ∙ ap (λ (b : Bool). cond b accept (refuse nine)) (sym same.found)
        ∙ sym (verdict-is file board w r tables.nodes tables.links tables.table tables.distances (ready-sound x))

    -- where 9 is not given, the call accepts
    not-nine : ((placed second board w r tables').reply.verdict ≡ refuse nine → ⊥) → (placed second board w r tables').reply.verdict ≡ accept
    unfolding placed nine
    not-nine other =
        ⊎_elim (λ ok. ok) (λ e. absurd (other e))
        (accept-or-nine second board w r tables'.nodes tables'.links tables'.table tables'.distances (ready-sound merged-ready))

    -- at every radius, on every board and around every centre
    pub merged-same : SameFound (nodes_of board) (links_of board) (placed second board w r tables') (placed file board w r tables)
    unfolding placed
    merged-same =
        record {
          verdict = verdicts;
          nodes =
              λ other.
              let e = not-nine other in
              nodes-prefix second board w r tables'.nodes tables'.links tables'.table tables'.distances (ready-sound merged-ready) e ∙ sym same.nodes
              ∙ sym (nodes-prefix file board w r tables.nodes tables.links tables.table tables.distances (ready-sound x) (sym verdicts ∙ e));
          links =
              λ other.
              let e = not-nine other in
              links-prefix second board w r tables'.nodes tables'.links tables'.table tables'.distances (ready-sound merged-ready) e ∙ sym same.links
              ∙ sym (links-prefix file board w r tables.nodes tables.links tables.table tables.distances (ready-sound x) (sym verdicts ∙ e));
        }

-- ---- the first pattern's radius

-- it is what the radius call replies,
pub radius-replied : (file : CircuitFile) → first (file_conditions Pattern file) ≡ accept → radius_call file ≡ record { verdict = accept; values = radius_of (circuit_of file) ∷ [] }
unfolding radius_call reply radius_of
radius-replied file e = rw (e, length-labels file)

-- and fits the 16 bits of a radius given
pub radius-fits : {file : CircuitFile} → Accepted Pattern file → radius_of (circuit_of file) < 65536
unfolding radius_of circuit_graph graph_of
radius-fits {file} a =
    let c = accepted-content a in
    let (v, w, nv, nw, d) = (content-radius c).attained in
    omega (arith, distance-below (content-within c) v w (radius_of (circuit_of file)) nv d, most-parts c)
