-- Ask 14, "The least that still says none", quoted over what is proved of it: `Ask14`. proofs/Barring proves it. The
-- contract of the call equates its reply and what it leaves with `bar_call` of the inputs alone.
use Rattle.std.specs.Prelude.{◌≡◌, ◌↔◌, ◌∷◌, ◌≤◌}
use Rattle.base_lists.specs.Kit.{List, [], ℕ, T, length, take, drop}
use Rattle.graph.specs.Chosen.{ChosenLink}
use Rattle.graph.specs.Graph.{Radius}
use Rattle.simulation.specs.Closed.{Relation, ◌⊆◌}
use Rattle.file_format.specs.declared.File.TheVariants.{Neither}
use Rattle.file_format.specs.declared.Refusal.{Refusal}
use Rattle.file_format.specs.declared.Role.TheVariants.{Pattern, Board}
use Rattle.file_format.specs.Circuit.{circuit_of}
use Rattle.file_format.specs.Layout.{CircuitFile, links_of}
use Rattle.file_format.specs.Refusals.{accept, refuse, Accepted}
use Rattle.barring.specs.Barring.{Bars}
use Rattle.barring.specs.Least.{bars, least, kept_count}
use Rattle.call_barring.specs.Call.{bar_call}
use Rattle.demands.specs.Demands.{graph, equal, Lent, Ready, placed_own, nine}

-- number 15, of neither file
abbrev pub fifteen : Refusal
fifteen = record { number = 15; file = Neither }

-- a set of the pattern's links bars the centre: "in the ball at the full pattern's radius the largest set of pairs that
-- meets kinds, packages and those links alone, all parts kept and none required to occur, has no pair with the centre"
abbrev pub Barring : CircuitFile → CircuitFile → ℕ → Relation → Type 1
Barring pattern board w L = Bars (graph pattern) (equal pattern board) (graph board) w L

-- the links that a call has marked with 1
abbrev pub Marked : CircuitFile → List ℕ → Relation
Marked pattern out = ChosenLink (circuit_of pattern) (take (links_of pattern) out)

pub record Ask14 : Type 1 where
  -- (On every input: the conditions of the files, 7, "the pattern's M bytes, length under 8", "15, the centre has a
  -- place, checked after 8": specs/Demands `bars`.) "When a centre gives 9": on every accepted pattern, board and
  -- centre, with bytes long enough, there is an answer exactly where the place call at the pattern's radius gives 9,
  -- and 15 exactly where it finds a place.
  pub answers : (pattern board : CircuitFile) (w : ℕ) (lent : Lent) (out : List ℕ) → Ready pattern board w lent → links_of pattern ≤ length out →
      ((bar_call pattern board w out).reply.verdict ≡ accept) ↔ ((placed_own pattern board w lent).reply.verdict ≡ refuse nine)
  pub turned : (pattern board : CircuitFile) (w : ℕ) (lent : Lent) (out : List ℕ) → Ready pattern board w lent → links_of pattern ≤ length out →
      ((bar_call pattern board w out).reply.verdict ≡ refuse fifteen) ↔ ((placed_own pattern board w lent).reply.verdict ≡ accept)
  -- "Start from all links": they bar together exactly where there is an answer.
  pub begins : (pattern board : CircuitFile) (w : ℕ) (lent : Lent) (out : List ℕ) → Ready pattern board w lent → links_of pattern ≤ length out →
      ((bar_call pattern board w out).reply.verdict ≡ accept) ↔ Barring pattern board w (graph pattern).Link
  -- The procedure's test of a choice of links, by a byte for each, is that they bar.
  pub tests : (pattern board : CircuitFile) (w r : ℕ) (marks : List ℕ) → Accepted Pattern pattern → Accepted Board board → Radius (graph pattern) r →
      T (bars (circuit_of pattern) (circuit_of board) w r marks) ↔ Barring pattern board w (ChosenLink (circuit_of pattern) marks)
  -- "go through them in file order and drop each one without which the rest still bars. The answer is a byte per link,
  -- 1 for kept": the bytes are those of that procedure, those past the pattern's M stay, and "the reply is how many are
  -- 1".
  pub bytes : (pattern board : CircuitFile) (w : ℕ) (out : List ℕ) → (bar_call pattern board w out).reply.verdict ≡ accept → (r : ℕ) → Radius (graph pattern) r →
      take (links_of pattern) (bar_call pattern board w out).out ≡ least (circuit_of pattern) (circuit_of board) w r
  pub rest : (pattern board : CircuitFile) (w : ℕ) (out : List ℕ) → drop (links_of pattern) (bar_call pattern board w out).out ≡ drop (links_of pattern) out
  pub kept : (pattern board : CircuitFile) (w : ℕ) (out : List ℕ) → (bar_call pattern board w out).reply.verdict ≡ accept →
      (bar_call pattern board w out).reply.values ≡ kept_count (take (links_of pattern) (bar_call pattern board w out).out) ∷ []
  -- "The kept links bar,
  pub bar : (pattern board : CircuitFile) (w : ℕ) (out : List ℕ) → (bar_call pattern board w out).reply.verdict ≡ accept →
      Barring pattern board w (Marked pattern (bar_call pattern board w out).out)
  -- and with any one or more of them taken away the rest does not": no set of them in which some kept link is not.
  pub needed : (pattern board : CircuitFile) (w : ℕ) (out : List ℕ) → (bar_call pattern board w out).reply.verdict ≡ accept →
      (L : Relation) → L ⊆ Marked pattern (bar_call pattern board w out).out →
      (u u' : ℕ) → Marked pattern (bar_call pattern board w out).out u u' → (L u u' → ⊥) → Barring pattern board w L → ⊥
