-- Ask 14: what the call says, and how it stands to the place call. Assumes nothing.
use Rattle.std.specs.Prelude.{◌≡◌, ◌↔◌, ◌≤◌}
use Rattle.base_lists.specs.Kit.{◌∙◌, sym, ap, refl, ⊎_elim, iff_trans, List, ℕ, length, drop}
use Rattle.graph.specs.Chosen.{ChosenLink}
use Rattle.graph.specs.Circuit.{Circuit}
use Rattle.graph.proofs.Walks.{radius-unique}
use Rattle.file_format.specs.Circuit.{circuit_of}
use Rattle.file_format.specs.Layout.{CircuitFile, links_of}
use Rattle.file_format.specs.Refusals.{Verdict, accept, refuse}
use Rattle.file_format.proofs.Accepted.{accepted-bounded, accepted-within}
use Rattle.place.specs.Match.{radius_of}
use Rattle.place.proofs.Accepted.{accepted-radius}
use Rattle.barring.specs.Least.{least}
use Rattle.barring.proofs.Least.{bars-radius}
use Rattle.barring.proofs.Meaning.{bars-iff}
use Rattle.call_place.proofs.Promise.{found-verdict, none-verdict, verdict-is, accept-or-nine, nine-iff}
use Rattle.call_barring.specs.Call.{bar_call}
use Rattle.call_barring.proofs.Promise as call
use Rattle.demands.specs.Barring.{fifteen, Ask14}
use Rattle.demands.specs.Demands.{Lent, Ready, placed, placed_own, nine}
use Rattle.demands.proofs.Merged.{ready-sound}

-- what is past the pattern's M bytes stays, refused or not
rest-by : (pattern board : CircuitFile) (w : ℕ) (out : List ℕ) (v : Verdict) → (bar_call pattern board w out).reply.verdict ≡ v →
    drop (links_of pattern) (bar_call pattern board w out).out ≡ drop (links_of pattern) out
rest-by pattern board w out accept e = call.bytes_rest pattern board w out e
rest-by pattern board w out (refuse x) e =
    ap (drop (links_of pattern)) (call.refused-keeps pattern board w out x (sym (call.verdict-is pattern board w out) ∙ e)).1

-- ---- beside the place call

module _ (pattern board : CircuitFile) (w : ℕ) (lent : Lent) (out : List ℕ) (x : Ready pattern board w lent) (room : links_of pattern ≤ length out) where
  abbrev P : Circuit
  P = circuit_of pattern

  abbrev B : Circuit
  B = circuit_of board

  turned : ((bar_call pattern board w out).reply.verdict ≡ refuse fifteen) ↔ ((placed_own pattern board w lent).reply.verdict ≡ accept)
  unfolding placed_own placed nine
  turned =
      let same = verdict-is pattern board w (radius_of P) lent.nodes lent.links lent.table lent.distances (ready-sound x) in
      let found = call.fifteen-found pattern board w out x.drawn x.given x.centre room in (
        λ e.
            ⊎_elim (λ q. q) (λ q. absurd (none-verdict P B w (radius_of P) (sym same ∙ q) (found.0 e)))
            (accept-or-nine pattern board w (radius_of P) lent.nodes lent.links lent.table lent.distances (ready-sound x)),
        λ e. found.1 (found-verdict P B w (radius_of P) (sym same ∙ e)),
      )

  answers : ((bar_call pattern board w out).reply.verdict ≡ accept) ↔ ((placed_own pattern board w lent).reply.verdict ≡ refuse nine)
  unfolding placed_own placed nine
  answers =
      let here = call.accept-iff pattern board w out x.drawn x.given x.centre room in
      let there = nine-iff pattern board w (radius_of P) lent.nodes lent.links lent.table lent.distances (ready-sound x) in
      (λ e. there.1 (here.0 e), λ e. here.1 (there.0 e))

-- "The least that still says none": refusals, where there is an answer, the bytes and what they mean.
pub ask-14 : Ask14
ask-14 =
    record {
      answers = answers;
      turned = turned;
      begins = λ pattern board w lent out x room. call.accept-bars pattern board w out x.drawn x.given x.centre room;
      tests = λ pattern board w r marks a b is.
          iff_trans (bars-iff (circuit_of pattern) (circuit_of board) (accepted-bounded a).nodes (accepted-within b) w r marks)
          (bars-radius (circuit_of pattern) (circuit_of board) w r is (ChosenLink (circuit_of pattern) marks));
      bytes = λ pattern board w out ok r is.
          call.bytes-prefix pattern board w out ok
          ∙ ap (λ (k : ℕ). least (circuit_of pattern) (circuit_of board) w k) (radius-unique (accepted-radius (call.pattern-accepted pattern board w out ok)) is);
      rest = λ pattern board w out. rest-by pattern board w out (bar_call pattern board w out).reply.verdict refl;
      kept = call.values-are;
      bar = call.kept-bars;
      needed = call.kept-needed;
    }
