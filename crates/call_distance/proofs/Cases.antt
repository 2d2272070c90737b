-- What the two calls come to, by cases of the conditions. Assumes nothing.
use Rattle.std.specs.Prelude.{◌≡◌, ◌∷◌, ◌++◌, ◌≤◌, ◌<◌}
use Rattle.base_lists.specs.Kit.{sym, ap, List, [], ℕ, length, take, drop, le-ltb, lt-ltb}
use Rattle.graph.specs.Circuit.{Circuit}
use Rattle.graph.specs.Search.{distances, radius}
use Rattle.graph.proofs.Distance.{length-distances}
use Rattle.file_format.specs.declared.Refusal.{Refusal}
use Rattle.file_format.specs.declared.Role.TheVariants.{Pattern, Board}
use Rattle.file_format.specs.Layout.{CircuitFile, nodes_of, starts_of, ends_of}
use Rattle.file_format.specs.Reading.{filled, Stands}
use Rattle.file_format.specs.Refusals.{accept, refuse, first, file_conditions, centre_outside, short_table}
use Rattle.file_format.specs.Reply.{reply}
use Rattle.file_format.proofs.Fields.{length-labels}
use Rattle.file_format.proofs.Refusals.{first-accept, first-refuse}
use Rattle.call_decide.specs.Decide.{ball_room}
use Rattle.call_distance.specs.Calls.{radius_call, ball_conditions, ball_entries, ball_call}

-- ---- the radius

module _ (file : CircuitFile) where
  pub radius-refused : (x : Refusal) → first (file_conditions Pattern file) ≡ refuse x → radius_call file ≡ record { verdict = refuse x; values = [] }
  unfolding radius_call reply
  radius-refused x e = rw e

  pub radius-replied : first (file_conditions Pattern file) ≡ accept
      → radius_call file ≡ record { verdict = accept; values = radius (nodes_of file) (starts_of file) (ends_of file) ∷ [] }
  unfolding radius_call reply
  radius-replied e = rw e

-- ---- the ball

module _ (file : CircuitFile) (centre r : ℕ) (out : List ℕ) where
  pub ball-refused : (x : Refusal) → first (file_conditions Board file) ≡ refuse x
      → ball_call file centre r out ≡ record { reply = record { verdict = refuse x; values = [] }; out = out }
  unfolding ball_call ball_conditions reply filled
  ball-refused x e = rw (first-refuse _ _ x e)

  module _ (e : first (file_conditions Board file) ≡ accept) where
    pub ball-turned : {x : Refusal} → first (ball_room (nodes_of file) centre (length out)) ≡ refuse x
        → ball_call file centre r out ≡ record { reply = record { verdict = refuse x; values = [] }; out = out }
    unfolding ball_call ball_conditions reply filled
    ball-turned v = rw (first-accept _ _ e, v)

    pub ball-filled : centre < nodes_of file → nodes_of file ≤ length out
        → ball_call file centre r out
        ≡ record {
          reply = record { verdict = accept; values = nodes_of file ∷ [] };
          out = distances (nodes_of file) (starts_of file) (ends_of file) centre r ++ drop (nodes_of file) out;
        }
    unfolding ball_call ball_conditions ball_entries first centre_outside short_table reply filled
    ball-filled h l = rw (first-accept _ _ e) (simp (lt-ltb _ _ h, le-ltb _ _ l, length-distances))

-- ---- the ball of a file that was read, filled in from the fronts of its tables

pub ball-read : (file : CircuitFile) (centre r : ℕ) (out : List ℕ) {n m : ℕ} {t : Circuit} → first (file_conditions Board file) ≡ accept → Stands file n m t
    → centre < n → n ≤ length out → {after : List ℕ}
    → after ≡ distances (length (take n t.labels)) (take m t.starts) (take m t.ends) centre r ++ drop (length (take n t.labels)) out
    → record { reply = record { verdict = accept; values = n ∷ [] }; out = after } ≡ ball_call file centre r out
ball-read file centre r out sound s inside room e =
    let held = s.content in
    rw (e, ap (λ (c : Circuit). c.labels) held, ap (λ (c : Circuit). c.starts) held, ap (λ (c : Circuit). c.ends) held, length-labels, s.nodes)
    (sym (ball-filled file centre r out sound (rw (← s.nodes) inside) (rw (← s.nodes) room)))
