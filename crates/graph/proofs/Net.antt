-- Laws of neighbour tables that are handed on as two lists: what filling them leaves, and what a caller may take from them. Assumes nothing.
use Rattle.std.specs.Prelude.{◌≡◌, ◌↔◌, ◌⊎◌, ◌++◌, ◌≤◌, ◌<◌}
use Rattle.base_lists.specs.Kit.{◌∙◌, sym, subst, ⊎_elim, inl, inr, List, ℕ, suc, le_refl, T, ltb, lt→ltb, length, get_or, length-append, get_or-take, arith}
use Rattle.base_lists.specs.List.{all, part, Occurs, Below}
use Rattle.base_lists.proofs.Parts.{length-part-le, halved, part-first, part-second, length-halved}
use Rattle.base_lists.proofs.Tests.{at_all}
use Rattle.base_lists.proofs.Entries.{below-append, all-below-at}
use Rattle.graph.specs.Bfs.{adjacent, Adjacency}
use Rattle.graph.specs.Circuit.{HasLink}
use Rattle.graph.specs.Neighbours.{select, offsets_of, grouped_values, stretch}
use Rattle.graph.specs.Net.{NetRoom, driven, driving, Stretches, Net, NetOf}
use Rattle.graph.proofs.BfsScan.{occurs-append}
use Rattle.graph.proofs.Groups.{below-mono, below_all, length-groups, length-offsets, offset_at, stretch-select, select-link, select-mem, select-mem-back}
use Rattle.graph.proofs.Lookup.{Sound}

-- ---- tables that grouping has filled

-- the values beside a key are values
pub select-below : (n : ℕ) (keys values : List ℕ) (v : ℕ) → T (all (λ x. ltb x n) values) → Below n (select keys values v)
unfolding Below
select-below n keys values v b j h =
    let (i, l) = select-link keys values v j h in
    subst (λ (x : ℕ). x < n) l.end (all-below-at n values i b l.in_ends)

-- Offsets and links grouped by their keys, with anything behind them, have a stretch for each node.
pub filled : (n : ℕ) (keys values xs ys : List ℕ) → length keys ≡ length values → T (all (λ x. ltb x n) values)
    → Stretches n (offsets_of n keys ++ xs) (grouped_values n keys values ++ ys)
filled n keys values xs ys e b = record {
  held = omega (arith, length-append (offsets_of n keys) xs, length-offsets n keys);
  rising = λ v h. rw (offset_at n keys xs v (omega arith), offset_at n keys xs (suc v) h) (below-mono keys v (suc v) (omega arith));
  within = λ v h. rw (offset_at n keys xs (suc v) h) (omega (arith, length-append (grouped_values n keys values) ys, length-groups n keys values e, below-mono keys (suc v) n h));
  nodes = λ v h. subst (Below n) (sym (stretch-select n keys values xs ys v e h)) (select-below n keys values v b);
}

-- So two lists hold a graph's neighbour tables where grouping has filled both halves of both: the first of the offsets by fo, and so on.
module _ (n : ℕ) (starts ends fo fl bo bl xs ys xs' ys' offsets links : List ℕ)
    (room : NetRoom offsets links)
    (inFo : length fo ≡ 513) (inFl : length fl ≡ 4096) (inBo : length bo ≡ 513) (inBl : length bl ≡ 4096)
    (parallel : length starts ≡ length ends) (in_starts : T (all (λ v. ltb v n) starts)) (in_ends : T (all (λ v. ltb v n) ends)) where
  filled-forward : fo ≡ offsets_of n starts ++ xs → fl ≡ grouped_values n starts ends ++ ys
      → Stretches n fo fl × ((v : ℕ) → v < n → stretch fo fl v ≡ select starts ends v)
  filled-forward e f = (rw (e, f) (filled n starts ends xs ys parallel in_ends), λ v h. rw (e, f) (stretch-select n starts ends xs ys v parallel h))

  filled-backward : bo ≡ offsets_of n ends ++ xs' → bl ≡ grouped_values n ends starts ++ ys'
      → Stretches n bo bl × ((v : ℕ) → v < n → stretch bo bl v ≡ select ends starts v)
  filled-backward e f = (rw (e, f) (filled n ends starts xs' ys' (sym parallel) in_starts), λ v h. rw (e, f) (stretch-select n ends starts xs' ys' v (sym parallel) h))

  pub filled-net :
      fo ≡ offsets_of n starts ++ xs → fl ≡ grouped_values n starts ends ++ ys → bo ≡ offsets_of n ends ++ xs' → bl ≡ grouped_values n ends starts ++ ys'
      → NetOf n starts ends (halved 513 fo bo offsets) (halved 4096 fl bl links)
  unfolding driven driving
  filled-net e f e' f' =
      let a = part-first 513 fo bo offsets inFo in
      let b = part-first 4096 fl bl links inFl in
      let a' = part-second 513 fo bo offsets inFo inBo in
      let b' = part-second 4096 fl bl links inFl inBl in
      let there = filled-forward e f in
      let back = filled-backward e' f' in
      record {
        room = record {
          in_offsets = length-halved 513 fo bo offsets inFo inBo (omega (arith, room.in_offsets)) ∙ room.in_offsets;
          in_targets = length-halved 4096 fl bl links inFl inBl (omega (arith, room.in_targets)) ∙ room.in_targets;
        };
        forward = rw (a, b) there.0;
        backward = rw (a', b') back.0;
        begins = λ v h. rw (a, e) (offset_at n starts xs v h);
        drives = λ v h. rw (a, b) (there.1 v h);
        driven_by = λ v h. rw (a', b') (back.1 v h);
      }

-- ---- what they give

pub net-of : {n : ℕ} {starts ends offsets links : List ℕ} → NetOf n starts ends offsets links → Net n offsets links
net-of t = record { room = t.room; forward = t.forward; backward = t.backward }

-- each node has two sound offsets
pub stretch-sound : {n : ℕ} {offsets table : List ℕ} → Stretches n offsets table → (v : ℕ) → v < n → Sound offsets table v
stretch-sound s v h = (omega (arith, s.held), s.rising v h, s.within v h)

module _ {n : ℕ} {offsets links : List ℕ} (t : Net n offsets links) where
  -- there are at most as many nodes as there is room for
  pub net-few : n ≤ 512
  net-few = omega (arith, t.forward.held, length-part-le 0 513 offsets)

  -- what a node drives, and what drives it, are nodes
  pub driven-below : (v : ℕ) → v < n → Below n (driven offsets links v)
  unfolding driven
  driven-below v h = t.forward.nodes v h

  pub driving-below : (v : ℕ) → v < n → Below n (driving offsets links v)
  unfolding driving
  driving-below v h = t.backward.nodes v h

  pub adjacent-below : (v : ℕ) → v < n → Below n (adjacent offsets links v)
  unfolding adjacent
  adjacent-below v h = below-append n (driven offsets links v) (driving offsets links v) (driven-below v h) (driving-below v h)

module _ {n : ℕ} {starts ends offsets links : List ℕ} (t : NetOf n starts ends offsets links) where
  -- what a node drives are the ends of its links, and what drives it the starts
  pub driven-link : (v w : ℕ) → v < n → Occurs (driven offsets links v) w ↔ HasLink starts ends v w
  driven-link v w h = rw (t.drives v h) (select-mem starts ends v w)

  pub driving-link : (v w : ℕ) → v < n → Occurs (driving offsets links v) w ↔ HasLink starts ends w v
  driving-link v w h = rw (t.driven_by v h) (select-mem-back starts ends v w)

  -- the last of the forward offsets is how many links there are
  pub net-links : Below n starts → get_or offsets n 0 ≡ length starts
  unfolding part Below
  net-links b =
      sym (get_or-take 513 offsets n 0 (omega (arith, t.forward.held, length-part-le 0 513 offsets)))
      ∙ t.begins n (le_refl n)
      ∙ below_all n starts (at_all (λ v. ltb v n) starts (λ i h. lt→ltb _ _ (b i h)))

  -- so the neighbours of a node are those that a link joins it to
  pub net-adjacency : Adjacency n (adjacent offsets links) (HasLink starts ends)
  unfolding adjacent
  net-adjacency = record {
    inside = adjacent-below (net-of t);
    joined = λ v w h. (
      λ o. ⊎_elim (λ p. inl ((driven-link v w h).0 p)) (λ p. inr ((driving-link v w h).0 p)) ((occurs-append w (driven offsets links v) (driving offsets links v)).0 o),
      λ l. (occurs-append w (driven offsets links v) (driving offsets links v)).1 (⊎_elim (λ p. inl ((driven-link v w h).1 p)) (λ p. inr ((driving-link v w h).1 p)) l),
    );
  }
