-- From the ball's list and first table to the trials, and from the trial of all links to whether the centre has a place. Assumes nothing.
use Rattle.std.specs.Prelude.{◌≡◌, ◌++◌, ◌≤◌, ◌<◌}
use Rattle.base_lists.specs.Kit.{◌∙◌, sym, ap, subst, Bool, false, true, not, List, ℕ, length, take, take_at, take-append-le, not-false, not-true}
use Rattle.graph.specs.Circuit.{Circuit}
use Rattle.graph.specs.Net.{NetOf}
use Rattle.file_format.specs.declared.Role.TheVariants as role
use Rattle.file_format.specs.Circuit.{Bounded}
use Rattle.table.specs.Fill.{marks_of, NodeList, table_at}
use Rattle.table.specs.First.{start_node}
use Rattle.place.specs.declared.Around.{Around}
use Rattle.place.specs.Match.{ball_of, found}
use Rattle.barring.specs.Least.{bars, all_links}
use Rattle.barring.proofs.Least.{all-test}
use Rattle.barring_find.specs.Ball.{Listed}
use Rattle.barring_find.specs.Trial.{Tried}
use Rattle.barring_find.proofs.Drops.{take-ones}

-- ---- a trial in the ball that was listed, whose list and table are cut from longer ones

pub listed_tried :
    {pattern board : Circuit} {offsets targets : List ℕ} {around : Around} {queue first : List ℕ} {k : ℕ} → Bounded role.Pattern pattern → Bounded role.Board board →
    NetOf (length board.labels) board.starts board.ends offsets targets → around.centre < length board.labels →
    Listed pattern.labels board around queue first k → length first ≡ length board.labels → (past after : List ℕ) →
    Tried pattern board offsets targets around.centre around.radius (take k (queue ++ past)) (take (length board.labels) (first ++ after))
listed_tried {pattern} {board} {around = around} {queue} {first} {k} drawn given net centre l long past after =
    let nodes : take k queue ≡ take k (queue ++ past) = sym (take-append-le k queue past l.short) in
    let table : take (length board.labels) (first ++ after) ≡ first = take_at first after (length board.labels) long in
    record {
      parts = drawn;
      most = given.nodes;
      net = net;
      centre = centre;
      list = subst (λ (xs : List ℕ). NodeList (length board.labels) xs) nodes l.list;
      ball = subst (λ (xs : List ℕ). marks_of (length board.labels) xs ≡ ball_of board around.centre around.radius) nodes l.ball;
      agree = table ∙ l.agree ∙ ap (table_at (length board.labels) (start_node pattern.labels board.labels)) nodes;
    }

-- ---- all links together

module _ (pattern board : Circuit) (parallel : length pattern.starts ≡ length pattern.ends) (few : length pattern.starts ≤ 256) (w r : ℕ)
    {b : Bool} (e : b ≡ bars pattern board w r (take (length pattern.starts) (all_links 256))) where
  turned : not (found pattern board w r) ≡ b
  turned = sym (e ∙ ap (bars pattern board w r) (take-ones (length pattern.starts) 256 few) ∙ all-test pattern board parallel w r)

  -- they do not bar: the centre has a place
  pub is-placed : b ≡ false → found pattern board w r ≡ true
  is-placed q = not-false (found pattern board w r) (turned ∙ q)

  -- they bar: it has none
  pub is_none : b ≡ true → found pattern board w r ≡ false
  is_none q = not-true (found pattern board w r) (turned ∙ q)
