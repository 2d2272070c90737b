-- A round of passes is the striking of the row, where the tables are those of a pattern, its bounds and a board. Assumes nothing.
use Rattle.std.specs.Prelude.{◌≡◌, ◌&&◌, ◌∷◌, ◌≤◌, ◌<◌, ◌+◌, ◌-◌, ◌*◌, ◌^◌}
use Rattle.base_lists.specs.Kit.{◌∙◌, sym, ap, refl, subst, ap₂, Bool, true, and-true, and_assoc, List, [], ℕ, suc, zero, lt_of_lt_of_le, eqb, eqb→eq, length, get_or, get_or-eq_default, arith}
use native.Mathlib.Decide.{dec_lt}
use lib.Pow.{pow_pos}
use Rattle.base_lists.specs.List.{tabulate, part, Below, Occurs}
use Rattle.base_lists.specs.Below.{keep_from}
use Rattle.base_lists.proofs.Tests.{T_false, any_at}
use Rattle.base_lists.proofs.Tables.{length-tabulate, get_d_tabulate, tabulate-same, is-tabulate}
use Rattle.base_lists.proofs.Parts.{part-tabulate}
use Rattle.base_bits.specs.Bits.{bit, number_of, subset_of, union_at, Words}
use Rattle.base_bits.proofs.Digits.{bit-of-zero}
use Rattle.base_bits.proofs.Numbers.{number_lt, bit-number, number_same, number_bit}
use Rattle.graph.specs.Circuit.{Circuit}
use Rattle.graph.specs.Neighbours.{select}
use Rattle.graph.proofs.Net.{net-of}
use Rattle.graph_neighbours.specs.Lookup.{neighbours_in}
use Rattle.graph_neighbours.specs.declared.neighbours.Direction.{Direction as Told}
use Rattle.graph_neighbours.specs.declared.neighbours.Direction.TheVariants.{Forward, Backward}
use Rattle.graph_neighbours.proofs.Lookup.{neighbours-below}
use Rattle.simulation.specs.Simulation.{Direction, forwards, backwards, Along}
use Rattle.table_row.specs.Problem.{Problem}
use Rattle.table_row.specs.Row.{every, strike_of, row_from}
use Rattle.table_row.specs.Reading.{TableOf}
use Rattle.table_row.specs.Masks.{listed, mask_of, covered, next_set, StepsWithin}
use Rattle.table_row.proofs.Masks.{masks-strike}
use Rattle.table_row.proofs.Row.{from-fits}
use Rattle.table_row.proofs.Sets.{fits_word}
use Rattle.table.specs.Prepared.{masks_of, Tables}
use Rattle.table.specs.Row.{neighbours}
use Rattle.bounded.specs.Problem.{bounded_graph, of_bound, within, Label, labelled, every_label, bounded_problem}
use Rattle.bounded.proofs.Meaning.{steps-iff}
use Rattle.bounded_strike.specs.Prepared.{keyed, BoundPrepared}
use Rattle.bounded_layer.specs.Pass.{kept_within, pass_table}
use Rattle.bounded_strike.specs.Round.{layer_of, passes, round_table, round_times}
use Rattle.bounded_strike.proofs.Layers.{layer-moves, layer-same}
use Rattle.bounded_strike.proofs.Keys.{select-bound}
use Rattle.bounded_strike.proofs.Unasked.{kept-all}

-- ---- passes for labels, as a problem has its masks and moves

-- a part is kept when it is in the set and its mask within the union
kept-bit : (masks : List ℕ) (f x u : ℕ) → u < 32 → bit (kept_within masks f x) u ≡ bit x u && subset_of (get_or masks u 0) f
unfolding kept_within
kept-bit masks f x u h = bit-number 32 (λ w. bit x w && subset_of (get_or masks w 0) f) u h

module _ (p : Problem Label) (old : List ℕ) where
  label_pass : Label → List ℕ → List ℕ
  label_pass l new = tabulate (length new) (λ v. kept_within (mask_of p l) (union_at old (p.moves l v)) (get_or new v 0))

  pass_list : List Label → List ℕ → List ℕ
  pass_list [] new = new
  pass_list (l ∷ ls) new = pass_list ls (label_pass l new)

  length_label : (l : Label) (new : List ℕ) → length (label_pass l new) ≡ length new
  unfolding label_pass
  length_label l new = length-tabulate (length new) (λ v. kept_within (mask_of p l) (union_at old (p.moves l v)) (get_or new v 0))

  label_at : (l : Label) (new : List ℕ) (v : ℕ) → v < length new → get_or (label_pass l new) v 0 ≡ kept_within (mask_of p l) (union_at old (p.moves l v)) (get_or new v 0)
  unfolding label_pass
  label_at l new v h = get_d_tabulate (length new) (λ w. kept_within (mask_of p l) (union_at old (p.moves l w)) (get_or new w 0)) v 0 h

  label_small : (l : Label) (new : List ℕ) → Words (label_pass l new)
  unfolding kept_within
  label_small l new v = go (dec_lt v (length new))
    where
      go : Dec (v < length new) → get_or (label_pass l new) v 0 < 2 ^ 32
      go (yes h) = rw (label_at l new v h) (number_lt 32 _)
      go (no h) = rw (get_or-eq_default (label_pass l new) 0 {n = v} (omega (arith, length_label l new))) (pow_pos 32)

  length-list : (ls : List Label) (new : List ℕ) → length (pass_list ls new) ≡ length new
  unfolding pass_list
  length-list [] new = refl
  length-list (l ∷ ls) new = length-list ls (label_pass l new) ∙ length_label l new

  -- the passes of a list keep the parts that are covered for every label of it
  list_at :
      (ls : List Label) (new : List ℕ) → Words new → (v : ℕ) → v < length new →
      get_or (pass_list ls new) v 0 ≡ number_of 32 (λ u. bit (get_or new v 0) u && every (covered p old u v) ls)
  unfolding pass_list every covered
  list_at [] new small v h =
      sym (number_same 32 (λ u. bit (get_or new v 0) u && true) (bit (get_or new v 0)) (λ u l. and-true _) ∙ number_bit 32 (get_or new v 0) (small v))
  list_at (l ∷ ls) new small v h =
      list_at ls (label_pass l new) (label_small l new) v (rw (length_label l new) h)
      ∙ number_same 32 (λ u. bit (get_or (label_pass l new) v 0) u && every (covered p old u v) ls) (λ u. bit (get_or new v 0) u && (covered p old u v l && every (covered p old u v) ls))
      (λ u k. ap (λ (b : Bool). b && every (covered p old u v) ls) (one u k) ∙ and_assoc (bit (get_or new v 0) u) (covered p old u v l) (every (covered p old u v) ls))
    where
      one : (u : ℕ) → u < 32 → bit (get_or (label_pass l new) v 0) u ≡ bit (get_or new v 0) u && covered p old u v l
      one u k = ap (λ (x : ℕ). bit x u) (label_at l new v h) ∙ kept-bit (mask_of p l) (union_at old (p.moves l v)) (get_or new v 0) u k

-- the row of passes for every label is the next table
list-next : (p : Problem Label) (old : List ℕ) → Words old → length old ≡ p.nodes → pass_list p old p.ways old ≡ tabulate p.nodes (next_set p old)
unfolding next_set
list-next p old small long =
    is-tabulate p.nodes (next_set p old) (pass_list p old p.ways old) (length-list p old p.ways old ∙ long)
    (λ v h. list_at p old p.ways old small v (rw long h))

-- ---- the tables of a pattern, its bounds and a board

-- the direction that the lookup is told, and its masks
told : Direction → Told
told forwards = Forward
told backwards = Backward

way_masks : List ℕ → Direction → List ℕ
way_masks masks forwards = part 0 128 masks
way_masks masks backwards = part 128 128 masks

-- the masks of one bound, of links with these keys and values
masks-bound :
    (bounds keys values : List ℕ) (h : ℕ) → h < 4 → length bounds ≡ length keys → ((j : ℕ) → j < length bounds → 1 ≤ get_or bounds j 0) → Below 32 keys →
    part (32 * h) 32 (masks_of 128 (keyed bounds keys) values)
    ≡ tabulate 32 (λ u. number_of 32 (listed (select (keep_from zero (λ i. eqb (get_or bounds i 0) (suc h)) keys) (keep_from zero (λ i. eqb (get_or bounds i 0) (suc h)) values) u)))
unfolding masks_of
masks-bound bounds keys values h l e some below =
    part-tabulate (32 * h) 32 128 (λ k. number_of 32 (listed (select (keyed bounds keys) values k))) (omega arith)
    ∙ tabulate-same 32 _ _ (λ u m. ap (λ (xs : List ℕ). number_of 32 (listed xs)) (select-bound bounds keys values h u m e some below))

module _ (pattern : Circuit) (bounds : List ℕ) (board : Circuit) (t : Tables) (top : ℕ) (r : BoundPrepared pattern bounds board t top) where
  abbrev problem : Problem Label
  problem = bounded_problem pattern bounds board

  abbrev near : Direction → ℕ → List ℕ
  near d = neighbours_in (told d) t.offsets t.targets

  near-is : (d : Direction) (v : ℕ) → v < length board.labels → near d v ≡ neighbours board d v
  unfolding neighbours_in neighbours told
  near-is forwards v h = r.net.drives v h
  near-is backwards v h = r.net.driven_by v h

  parts_below : (xs : List ℕ) → Below (length pattern.labels) xs → Below 32 xs
  unfolding Below
  parts_below xs b i h = lt_of_lt_of_le (b i h) r.parts

  bound-mask : (d : Direction) (h : ℕ) → h < 4 → part (32 * h) 32 (way_masks t.masks d) ≡ mask_of problem (labelled d (suc h))
  unfolding mask_of bounded_problem of_bound neighbours way_masks
  bound-mask forwards h l =
      ap (part (32 * h) 32) r.masked.succ
      ∙ masks-bound bounds pattern.starts pattern.ends h l r.bounded.each r.bounded.inside.some (parts_below pattern.starts r.starts)
  bound-mask backwards h l =
      ap (part (32 * h) 32) r.masked.pred
      ∙ masks-bound bounds pattern.ends pattern.starts h l (r.bounded.each ∙ r.parallel) r.bounded.inside.some (parts_below pattern.ends r.ends)

  -- steps lead from parts to parts
  steps-within : StepsWithin problem
  unfolding bounded_problem bounded_graph Along Below
  steps-within = record { below = λ l u h i k. go l.way l.bound u _ ((steps-iff pattern bounds l.way l.bound u _).0 (i, k, refl)) }
    where
      go : (d : Direction) (h u u' : ℕ) → Along (λ x y. (bounded_graph pattern bounds).Link x y h) d u u' → u' < length pattern.labels
      go forwards h u u' (j, k, e) = subst (λ (x : ℕ). x < length pattern.labels) k.end (r.ends j k.in_ends)
      go backwards h u u' (j, k, e) = subst (λ (x : ℕ). x < length pattern.labels) k.start (r.starts j k.in_starts)

  module _ (old : List ℕ) (long : length old ≡ length board.labels) where
    inside : (d : Direction) (v : ℕ) → v < length old → Below (length old) (neighbours board d v)
    inside d v h =
        let h' : v < length board.labels = omega (arith, long) in
        rw (← near-is d v h', long) (neighbours-below (told d) (net-of r.net) v h')

    moves-union : (d : Direction) (h v : ℕ) → v < length old → union_at (layer_of (near d) old h) (near d v) ≡ union_at old (within (neighbours board d) (suc h) v)
    moves-union d h v l =
        ap₂ (λ (xs ws : List ℕ). union_at xs ws) (layer-same (near d) (neighbours board d) old (λ w k. near-is d w (omega (arith, long))) h) (near-is d v (omega (arith, long)))
        ∙ layer-moves (neighbours board d) old (inside d) h v l

    -- one pass is that of its label
    pass-label :
        (d : Direction) (h : ℕ) → h < 4 → (new : List ℕ) → length new ≡ length old →
        pass_table (near d) (part (32 * h) 32 (way_masks t.masks d)) (layer_of (near d) old h) new ≡ label_pass problem old (labelled d (suc h)) new
    unfolding pass_table label_pass bounded_problem
    pass-label d h l new e =
        tabulate-same (length new) _ _
        (λ v k. ap₂ (λ (m : List ℕ) (f : ℕ). kept_within m f (get_or new v 0)) (bound-mask d h l) (moves-union d h v (omega (arith, e))))

    pass_labels : Direction → ℕ → List ℕ → List ℕ
    pass_labels d zero new = new
    pass_labels d (suc h) new = label_pass problem old (labelled d (suc h)) (pass_labels d h new)

    length-labels : (d : Direction) (h : ℕ) (new : List ℕ) → length (pass_labels d h new) ≡ length new
    unfolding pass_labels
    length-labels d zero new = refl
    length-labels d (suc h) new = length_label problem old (labelled d (suc h)) (pass_labels d h new) ∙ length-labels d h new

    passes-labels :
        (d : Direction) (h : ℕ) → h ≤ 4 → (new : List ℕ) → length new ≡ length old →
        passes (near d) (way_masks t.masks d) old h new ≡ pass_labels d h new
    unfolding passes pass_labels
    passes-labels d zero l new e = refl
    passes-labels d (suc h) l new e =
        ap (pass_table (near d) (part (32 * h) 32 (way_masks t.masks d)) (layer_of (near d) old h)) (passes-labels d h (omega arith) new e)
        ∙ pass-label d h l (pass_labels d h new) (length-labels d h new ∙ e)

    -- ---- bounds that no link has

    no_step : (d : Direction) (h u y : ℕ) → top ≤ h → Occurs (neighbours (of_bound bounds (suc h) pattern) d u) y → ⊥
    unfolding bounded_graph Along
    no_step d h u y m o = go d ((steps-iff pattern bounds d (suc h) u y).0 o)
      where
        go : (d : Direction) → Along (λ x z. (bounded_graph pattern bounds).Link x z (suc h)) d u y → ⊥
        go forwards (j, k, e) = omega (arith, r.upto.each j (omega (arith, r.bounded.each, k.in_starts)), e)
        go backwards (j, k, e) = omega (arith, r.upto.each j (omega (arith, r.bounded.each, k.in_starts)), e)

    no-mask : (d : Direction) (h u : ℕ) → top ≤ h → u < 32 → get_or (mask_of problem (labelled d (suc h))) u 0 ≡ 0
    unfolding mask_of bounded_problem listed
    no-mask d h u m l =
        get_d_tabulate 32 (λ w. number_of 32 (listed (neighbours (of_bound bounds (suc h) pattern) d w))) u 0 l
        ∙ number_same 32 (listed (neighbours (of_bound bounds (suc h) pattern) d u)) (bit 0)
        (λ y k. T_false (λ s. let (i, b, q) = any_at (λ w. eqb w y) (neighbours (of_bound bounds (suc h) pattern) d u) s in no_step d h u y m (i, b, eqb→eq _ _ q)) ∙ sym (bit-of-zero y))
        ∙ number_bit 32 0 (pow_pos 32)

    no-pass : (d : Direction) (h : ℕ) → top ≤ h → (new : List ℕ) → Words new → label_pass problem old (labelled d (suc h)) new ≡ new
    unfolding label_pass
    no-pass d h m new small = sym (kept-all (mask_of problem (labelled d (suc h))) new _ (λ u l. no-mask d h u m l) small)

    labels-small : (d : Direction) (h : ℕ) (new : List ℕ) → Words new → Words (pass_labels d h new)
    unfolding pass_labels
    labels-small d zero new small = small
    labels-small d (suc h) new small = label_small problem old (labelled d (suc h)) (pass_labels d h new)

    more-labels : (d : Direction) (k h : ℕ) (new : List ℕ) → Words new → h ≡ k + top → pass_labels d h new ≡ pass_labels d top new
    unfolding pass_labels
    more-labels d zero h new small e =
        let e' : h ≡ top = omega (arith, e) in
        ap (λ (x : ℕ). pass_labels d x new) e'
    more-labels d (suc k) zero new small e = absurd (omega (arith, e))
    more-labels d (suc k) (suc h) new small e =
        no-pass d h (omega (arith, e)) (pass_labels d h new) (labels-small d h new small) ∙ more-labels d k h new small (omega (arith, e))

    all-labels : (d : Direction) (new : List ℕ) → Words new → pass_labels d top new ≡ pass_labels d 4 new
    all-labels d new small = sym (more-labels d (4 - top) 4 new small (omega (arith, r.upto.most)))

    -- ---- the round

    round-list : Words old → round_table t top old ≡ pass_list problem old every_label old
    unfolding round_table pass_list every_label pass_labels way_masks told
    round-list small =
        let one = passes-labels forwards top r.upto.most old refl ∙ all-labels forwards old small in
        ap (passes (near backwards) (way_masks t.masks backwards) old top) one
        ∙ passes-labels backwards top r.upto.most (pass_labels forwards 4 old) (length-labels forwards 4 old)
        ∙ all-labels backwards (pass_labels forwards 4 old) (labels-small forwards 4 old small)

  -- one round is one step of the row
  pub round-row : (old : List ℕ) → TableOf problem old → round_table t top old ≡ strike_of problem old
  unfolding bounded_problem
  round-row old fits =
      let small = fits_word r.parts fits in
      round-list old fits.size small ∙ list-next problem old small fits.size ∙ masks-strike problem r.parts steps-within fits

  -- k rounds are k steps
  pub times-row : (old : List ℕ) → TableOf problem old → (k : ℕ) → round_times t top old k ≡ row_from problem old k
  unfolding round_times row_from
  times-row old fits zero = refl
  times-row old fits (suc k) = ap (round_table t top) (times-row old fits k) ∙ round-row (row_from problem old k) (from-fits problem fits k)
