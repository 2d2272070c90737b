-- Ask 9: what the check says, and how it stands to the place call. Assumes nothing.
use Rattle.std.specs.Prelude.{◌≡◌}
use Rattle.base_lists.specs.Kit.{◌∙◌, sym, List, ℕ, length, take}
use Rattle.graph.specs.Graph.{Contains}
use Rattle.graph.proofs.Walks.{radius-unique}
use Rattle.file_format.specs.Circuit.{circuit_of}
use Rattle.file_format.specs.Layout.{CircuitFile, nodes_of, links_of}
use Rattle.file_format.specs.Refusals.{accept, first}
use Rattle.file_format.proofs.Accepted.{accepted-bounded}
use Rattle.file_format.proofs.Fields.{length-labels, length-starts}
use Rattle.place.specs.Match.{radius_of, place_nodes, place_links, marked_graph}
use Rattle.place.proofs.Accepted.{accepted-admissible, accepted-radius}
use Rattle.place.proofs.Marks.{nodes-marks, links-marks}
use Rattle.proposal.proofs.Finder.{place-checks}
use Rattle.call_place.proofs.Promise.{found-verdict, verdict-is, nodes-prefix, links-prefix}
use Rattle.call_check.specs.Call.{check_conditions, check_call}
use Rattle.call_check.proofs.Promise.{inputs-accept, yes_or_no, yes_iff, yes-test}
use Rattle.demands.specs.Demands.{Lent, Ready, placed, placed_own, marked}
use Rattle.demands.specs.Proposals.{says-yes, Offered, Ask9}
use Rattle.demands.proofs.Demands.{demand-3}
use Rattle.demands.proofs.Merged.{ready-sound}

-- ---- yes or no

module _ (pattern board : CircuitFile) (w : ℕ) (nodes links : List ℕ) (o : Offered pattern board w nodes links) where
  sound : first (check_conditions pattern board w (length nodes) (length links)) ≡ accept
  sound = inputs-accept pattern board w nodes links o.drawn o.given o.centre o.bytes_of_nodes o.bytes_of_links

-- ---- the finder's own places

module _ (pattern board : CircuitFile) (w : ℕ) (lent : Lent) (x : Ready pattern board w lent) where
  abbrev r : ℕ
  r = radius_of (circuit_of pattern)

  places-yes : (placed_own pattern board w lent).reply.verdict ≡ accept →
      check_call pattern board w (take (nodes_of board) (placed_own pattern board w lent).nodes) (take (links_of board) (placed_own pattern board w lent).links) ≡ says-yes
  unfolding placed_own placed
  places-yes ok =
      let P = circuit_of pattern in
      let B = circuit_of board in
      let n = place_nodes P B w r in
      let l = place_links P B w r in
      let f = found-verdict P B w r (sym (verdict-is pattern board w r lent.nodes lent.links lent.table lent.distances (ready-sound x)) ∙ ok) in
      let s = inputs-accept pattern board w n l x.drawn x.given x.centre ((nodes-marks P B w r).size ∙ length-labels board) ((links-marks P B w r).size ∙ length-starts board) in
      rw (nodes-prefix pattern board w r lent.nodes lent.links lent.table lent.distances (ready-sound x) ok, links-prefix pattern board w r lent.nodes lent.links lent.table lent.distances (ready-sound x) ok)
      ((yes-test pattern board w n l s).1 (place-checks (accepted-admissible x.drawn x.given) (accepted-bounded x.given).parallel w r f))

  -- what a yes says of them
  yes-contained : (nodes links : List ℕ) → Offered pattern board w nodes links → check_call pattern board w nodes links ≡ says-yes →
      ((placed_own pattern board w lent).reply.verdict ≡ accept)
      × Contains (marked board (placed_own pattern board w lent)) (marked_graph (circuit_of board) nodes links)
  yes-contained nodes links o y =
      let perfect = ((yes_iff pattern board w nodes links (sound pattern board w nodes links o)).0 y).perfect in
      let at = demand-3.own pattern board w lent x r (accepted-radius x.drawn) in
      let ok = at.accepted (λ e. at.none.0 e (marked_graph (circuit_of board) nodes links) perfect) in
      (ok, (at.place ok).contains (marked_graph (circuit_of board) nodes links) perfect)

pub ask-9 : Ask9
ask-9 =
    record {
      answers = λ pattern board w nodes links o. yes_or_no pattern board w nodes links (sound pattern board w nodes links o);
      exactly = λ pattern board w nodes links o r is.
          rw (← radius-unique (accepted-radius o.drawn) is) (yes_iff pattern board w nodes links (sound pattern board w nodes links o));
      places = places-yes;
      contained = λ pattern board w nodes links o y lent x. yes-contained pattern board w lent x nodes links o y;
    }
