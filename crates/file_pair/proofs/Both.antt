-- What reading a pattern file and a board file comes to, by cases, and what a call on both knows of it. Assumes
-- nothing.
use mathlib.Core.Path.{◌≡◌, sym, ap, subst, ◌∙◌}
use Rattle.std.specs.Prelude.{Result, Ok, Err}
use Rattle.graph.specs.Circuit.{Circuit}
use Rattle.graph.specs.Rising.{LinksRise}
use Rattle.graph.specs.Search.{radius}
use Rattle.file_format.specs.declared.FileRead.{FileRead}
use Rattle.file_format.specs.declared.Refusal.{Refusal}
use Rattle.file_format.specs.declared.Role.{Role}
use Rattle.file_format.specs.declared.Role.TheVariants as role
use Rattle.file_format.specs.Circuit.{Bounded, Drawn}
use Rattle.file_format.specs.Layout.{CircuitFile, nodes_of, starts_of, ends_of}
use Rattle.file_format.specs.Reading.{prefix, Loaded}
use Rattle.file_format.specs.Reply.{verdict_of}
use Rattle.file_format.specs.Refusals as File
use Rattle.file_format.specs.Refusals.{accept, refuse, first, file_conditions, asks_connected}
use Rattle.file_format.proofs.Reading.{loaded-accepted, loaded-refused, stands-bounded}
use Rattle.file_format.proofs.Refusals.{first-accept, first-refuse, first-parts, accepted, accepted-verdict}
use Rattle.file_format.proofs.Rising.{rising-links}
use Rattle.file_pair.specs.declared.Pair.{Pair}
use Rattle.file_pair.specs.Pair.{pair_conditions, BothRead, PairRead}

-- ---- as the reading goes

module _ (r : Role) (pattern board : CircuitFile) (parts nodes : Circuit) where
  -- the pattern is refused
  pub pair-pattern : {drawn : Result FileRead Refusal} {x : Refusal} → Loaded r pattern drawn parts → drawn ≡ Err x → PairRead r pattern board (Err x) parts nodes
  unfolding pair_conditions verdict_of
  pair-pattern {x = x} l e = record { verdict = sym (first-refuse _ (file_conditions role.Board board) x (loaded-refused l e)); both = λ pair q. cc }

  module _ {drawn : Result FileRead Refusal} {size : FileRead} (l : Loaded r pattern drawn parts) (e : drawn ≡ Ok size) {given : Result FileRead Refusal}
      (g : Loaded role.Board board given nodes) where
    sound : first (file_conditions r pattern) ≡ accept
    sound = loaded-accepted l e

    -- it is accepted, and the board is refused
    pub pair-board : {x : Refusal} → given ≡ Err x → PairRead r pattern board (Err x) parts nodes
    unfolding pair_conditions verdict_of
    pair-board q = record { verdict = sym (first-accept (file_conditions r pattern) _ sound ∙ loaded-refused g q); both = λ pair p. cc }

    -- both are accepted
    pub pair-both : {other : FileRead} → given ≡ Ok other
        → PairRead r pattern board (Ok (record { parts = size.nodes; joins = size.links; radius = size.radius; nodes = other.nodes; links = other.links })) parts nodes
    unfolding pair_conditions verdict_of
    pair-both {other} q =
        let held = l.held size e in
        let accepts = first-accept (file_conditions r pattern) _ sound ∙ loaded-accepted g q in
        let both : BothRead r pattern board (record { parts = size.nodes; joins = size.links; radius = size.radius; nodes = other.nodes; links = other.links }) parts nodes
        = record { verdict = accepts; drawn = held.stands; given = (g.held other q).stands; measured = held.measured }
        in
        record {
          verdict = sym accepts;
          both = λ pair p.
              let is : record { parts = size.nodes; joins = size.links; radius = size.radius; nodes = other.nodes; links = other.links } ≡ pair = cc in
              subst (λ (k : Pair). BothRead r pattern board k parts nodes) is both;
        }

-- ---- the conditions on both are those on each

module _ (r : Role) (pattern board : CircuitFile) where
  pub pair-accept : File.Accepted r pattern → File.Accepted role.Board board → first (pair_conditions r pattern board) ≡ accept
  unfolding pair_conditions
  pair-accept a b = first-accept (file_conditions r pattern) _ (accepted-verdict a) ∙ accepted-verdict b

  pub pair_parts : first (pair_conditions r pattern board) ≡ accept
      → (first (file_conditions r pattern) ≡ accept) × (first (file_conditions role.Board board) ≡ accept)
  unfolding pair_conditions
  pair_parts e = first-parts (file_conditions r pattern) _ e

-- ---- what a call knows of the two files

-- what is passed up is the first refusal
module _ {r : Role} {pattern board : CircuitFile} {read : Result Pair Refusal} {parts nodes : Circuit} (p : PairRead r pattern board read parts nodes) where
  pub refused-pair : {x : Refusal} → read ≡ Err x → first (pair_conditions r pattern board) ≡ refuse x
  unfolding verdict_of
  refused-pair e = sym p.verdict ∙ ap verdict_of e

module _ {r : Role} {pattern board : CircuitFile} {read : Pair} {parts nodes : Circuit} (both : BothRead r pattern board read parts nodes) where
  pub both-accepted : (first (file_conditions r pattern) ≡ accept) × (first (file_conditions role.Board board) ≡ accept)
  both-accepted = pair_parts r pattern board both.verdict

  pub pattern-bounded : Bounded r (prefix read.parts read.joins parts)
  pattern-bounded = stands-bounded both.drawn r both-accepted.0

  pub board-bounded : Bounded role.Board (prefix read.nodes read.links nodes)
  board-bounded = stands-bounded both.given role.Board both-accepted.1

  pub board-rises : let b = prefix read.nodes read.links nodes in LinksRise b.starts b.ends
  board-rises =
      rw (ap (λ (c : Circuit). c.starts) both.given.content, ap (λ (c : Circuit). c.ends) both.given.content)
      (rising-links (starts_of board) (ends_of board) (accepted role.Board board both-accepted.1).rises)

-- the radius of a pattern, which is connected
module _ {pattern board : CircuitFile} {read : Pair} {parts nodes : Circuit} (both : BothRead role.Pattern pattern board read parts nodes) where
  pub pair-radius : read.radius ≡ radius (nodes_of pattern) (starts_of pattern) (ends_of pattern)
  unfolding asks_connected
  pair-radius = both.measured tt

  -- so a call draws from the two
  pub both-drawn : Drawn (prefix read.parts read.joins parts) (prefix read.nodes read.links nodes)
  both-drawn = record { parts = pattern-bounded both; nodes = board-bounded both; rise = board-rises both }
