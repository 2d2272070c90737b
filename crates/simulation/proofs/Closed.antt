-- Laws of closed sets, over any labels, agreement, steps and moves: union, restriction, weaker requirements, composition. Assumes nothing.
use Rattle.base_lists.specs.Kit.{ℕ}
use Rattle.simulation.specs.Closed.{Relation, ◌⊆◌, Closed, Occurring, LargestClosed, Restrict, Compose}

-- A closed set cut to some nodes is closed for fewer moves, where these still answer the steps from the nodes kept, and lead to such.
pub restrict-closed :
    {D : Type 0} {Agree Agree' : Relation} {Step Move Move' : D → Relation} {S : Relation} (N : ℕ → Type 0) →
    ((u v : ℕ) → Agree u v → N v → Agree' u v) →
    ((d : D) (u v u' v' : ℕ) → S u v → S u' v' → N v → Step d u u' → Move d v v' → Move' d v v' × N v') →
    Closed Agree Step Move S → Closed Agree' Step Move' (Restrict S N)
unfolding Restrict
restrict-closed N agrees answers c =
    record {
      agree = λ u v m. agrees u v (c.agree u v m.0) m.1;
      partner = λ d u v u' m p.
          let (v', l, s) = c.partner d u v u' m.0 p in
          let (l', n) = answers d u v u' v' m.0 s m.1 p l in
          (v', l', (s, n));
    }

-- A closed set stays closed for a wider agreement and weaker requirements: each new step is an old one, perhaps with another label, whose
-- moves are all moves of the new label.
pub closed-weaken :
    {D D' : Type 0} {Agree Agree' : Relation} {Step Move : D → Relation} {Step' Move' : D' → Relation} {S : Relation} →
    Agree ⊆ Agree' → ((d' : D') (u u' : ℕ) → Step' d' u u' → (d : D) × Step d u u' × (Move d ⊆ Move' d')) →
    Closed Agree Step Move S → Closed Agree' Step' Move' S
closed-weaken wider weaker c =
    record {
      agree = λ u v s. wider u v (c.agree u v s);
      partner = λ d' u v u' s p'.
          let (d, p, more) = weaker d' u u' p' in
          let (v', l, s') = c.partner d u v u' s p in
          (v', more v v' l, s');
    }

pub fewer-steps :
    {D : Type 0} {Agree : Relation} {Step Step' Move : D → Relation} {S : Relation} →
    ((d : D) → Step' d ⊆ Step d) → Closed Agree Step Move S → Closed Agree Step' Move S
fewer-steps fewer = closed-weaken (λ u v a. a) (λ d u u' p. (d, fewer d u u' p, λ v v' l. l))

-- The same set, said in another way.
pub closed-same-set :
    {D : Type 0} {Agree : Relation} {Step Move : D → Relation} {R S : Relation} →
    R ⊆ S → S ⊆ R → Closed Agree Step Move R → Closed Agree Step Move S
closed-same-set there back c =
    record {
      agree = λ u v s. c.agree u v (back u v s);
      partner = λ d u v u' s p.
          let (v', l, r) = c.partner d u v u' (back u v s) p in
          (v', l, there u' v' r);
    }

pub occurring-same-set : {Part : ℕ → Type 0} {R S : Relation} → R ⊆ S → S ⊆ R → Occurring Part R → Occurring Part S
occurring-same-set there back o =
    record {
      occurs = λ u v s x p.
          let (y, r) = o.occurs u v (back u v s) x p in
          (y, there x y r);
    }

-- The composite of closed sets is closed: what answers a step in the middle is itself answered.
pub compose-closed :
    {D : Type 0} {A B C : Relation} {Step Mid Move : D → Relation} {T S : Relation} →
    ((u x v : ℕ) → A u x → B x v → C u v) →
    Closed A Step Mid T → Closed B Mid Move S → Closed C Step Move (Compose T S)
unfolding Compose
compose-closed both t s =
    record {
      agree = λ u v m. both u m.0 v (t.agree u m.0 m.1) (s.agree m.0 v m.2);
      partner = λ d u v u' m p.
          let (x', q, t') = t.partner d u m.0 u' m.1 p in
          let (v', l, s') = s.partner d m.0 v x' m.2 q in
          (v', l, (x', t', s'));
    }

-- and every part occurs in it, if every part occurs in both
pub compose-occurring :
    {Part Middle : ℕ → Type 0} {T S : Relation} → ((u x : ℕ) → T u x → Middle x) →
    Occurring Part T → Occurring Middle S → Occurring Part (Compose T S)
unfolding Compose
compose-occurring inMiddle t s =
    record {
      occurs = λ u v m y p.
          let (x, t') = t.occurs u m.0 m.1 y p in
          let (v', s') = s.occurs m.0 v m.2 x (inMiddle y x t') in
          (v', (x, t', s'));
    }

-- With the same agreement, steps and moves, said in another way, it is the same set.
pub largest-closed-same :
    {D : Type 0} {Agree Agree' : Relation} {Step Step' Move Move' : D → Relation} {S : Relation} →
    Agree ⊆ Agree' → Agree' ⊆ Agree → ((d : D) → Step d ⊆ Step' d) → ((d : D) → Step' d ⊆ Step d) → ((d : D) → Move d ⊆ Move' d) → ((d : D) → Move' d ⊆ Move d) →
    LargestClosed Agree Step Move S → LargestClosed Agree' Step' Move' S
largest-closed-same wider narrower more fewer moves back l =
    record {
      closed = closed-weaken wider (λ d u u' p. (d, fewer d u u' p, moves d)) l.closed;
      contains = λ R c. l.contains R (closed-weaken narrower (λ d u u' p. (d, more d u u' p, back d)) c);
    }
