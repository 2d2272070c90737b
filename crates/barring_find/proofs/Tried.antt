-- From what a trial starts from to what it says. Assumes nothing.
use Rattle.std.specs.Prelude.{◌≡◌}
use Rattle.base_lists.specs.Kit.{◌∙◌, sym, ap, refl, subst, Bool, false, true, cond, not-not, List, ℕ, eqb, length, get_or}
use Rattle.base_lists.specs.List.{Below}
use Rattle.base_lists.proofs.Tables.{get_d_tabulate, tabulate-same}
use Rattle.base_lists.proofs.Entries.{all-below, below_wider}
use Rattle.graph.specs.Chosen.{picked, chosen}
use Rattle.graph.specs.Circuit.{Circuit}
use Rattle.graph.proofs.Chosen.{picked-below}
use Rattle.file_format.proofs.Accepted.{bounded-starts, bounded-ends}
use Rattle.table.specs.Fill.{listed, marks_of, table_at}
use Rattle.table.specs.First.{start_node, Written, Begins}
use Rattle.table.specs.Prepared.{Masked, Tables, tables}
use Rattle.table.specs.Refine.{TablesKnown}
use Rattle.table.specs.Row.{both_directions, last_table}
use Rattle.table.proofs.Begun.{started-begins}
use Rattle.table.proofs.Fill.{length-table}
use Rattle.place.specs.Match.{ball_table, found}
use Rattle.barring.specs.Least.{bars}
use Rattle.barring_find.specs.Trial.{TrialBegun, Tried}

-- ---- the first table, copied

-- what is written is the rule's table, whatever its length is called
pub written_at : {m n : ℕ} {f : ℕ → ℕ} {nodes table : List ℕ} {count : ℕ} → Written m f nodes table count → m ≡ n → table ≡ table_at n f nodes
written_at {f = f} {nodes = nodes} w e = w.made ∙ ap (λ (m : ℕ). table_at m f nodes) e

-- to copy a table at the nodes at which it was written is to write it again
copied-again : (n : ℕ) (f : ℕ → ℕ) (nodes : List ℕ) → table_at n (λ v. get_or (table_at n f nodes) v 0) nodes ≡ table_at n f nodes
unfolding table_at
copied-again n f nodes =
    tabulate-same n (λ v. cond (listed nodes v) (get_or (table_at n f nodes) v 0) 0) (λ v. cond (listed nodes v) (f v) 0)
    (λ v h. ap (λ (x : ℕ). cond (listed nodes v) x 0) (get_d_tabulate n (λ v. cond (listed nodes v) (f v) 0) v 0 h) ∙ go (listed nodes v) (f v))
  where
    go : (b : Bool) (x : ℕ) → cond b (cond b x 0) 0 ≡ cond b x 0
    go true x = refl
    go false x = refl

module _ {pattern board : Circuit} {t : Tables} {nodes first : List ℕ} (b : TrialBegun pattern board t nodes first) where
  -- there is a set for each node
  pub begun-long : length first ≡ length board.labels
  begun-long = ap length b.agree ∙ length-table _ _ nodes

  module _ {n : ℕ} (long : n ≡ length first) {table : List ℕ} {count : ℕ} (w : Written n (λ v. get_or first v 0) nodes table count) where
    -- the copy is the table of the pairs that agree
    copied : Written n (start_node pattern.labels board.labels) nodes table count
    copied =
        record {
          made =
              w.made
              ∙ ap (λ (xs : List ℕ). table_at n (λ v. get_or xs v 0) nodes) (b.agree ∙ ap (λ (m : ℕ). table_at m (start_node pattern.labels board.labels) nodes) (sym (long ∙ begun-long)))
              ∙ copied-again n (start_node pattern.labels board.labels) nodes;
          size = w.size;
        }

    -- with which striking may begin
    pub copied-begins : Begins pattern board (marks_of (length board.labels) nodes) table
    copied-begins = started-begins both_directions pattern board nodes (long ∙ begun-long) copied

    pub copied-known : TablesKnown t nodes table
    copied-known = record { ways = both_directions; pattern = pattern; host = board; prepared = b.prepared; begins = copied-begins }

    pub copied-long : length table ≡ length board.labels
    copied-long = ap length w.made ∙ length-table n _ nodes ∙ long ∙ begun-long

-- ---- chosen masks

-- the masks of the same links
pub masked_same : {starts starts' ends ends' masks : List ℕ} → starts ≡ starts' → ends ≡ ends' → Masked starts ends masks → Masked starts' ends' masks
masked_same {starts' = s} {ends = e} {masks = m} p q x = subst (λ (ys : List ℕ). Masked s ys m) q (subst (λ (xs : List ℕ). Masked xs e m) p x)

-- ---- a trial

module _ {pattern board : Circuit} {offsets targets : List ℕ} {w r : ℕ} {nodes first : List ℕ} (s : Tried pattern board offsets targets w r nodes first) where
  pub tried-starts : Below 32 pattern.starts
  tried-starts = below_wider _ 32 _ s.parts.nodes (all-below _ _ (bounded-starts s.parts))

  pub tried-ends : Below 32 pattern.ends
  tried-ends = below_wider _ 32 _ s.parts.nodes (all-below _ _ (bounded-ends s.parts))

  pub tried-long : length first ≡ length board.labels
  tried-long = ap length s.agree ∙ length-table _ _ nodes

  module _ {masks : List ℕ} (marks : List ℕ) (m : Masked (picked marks pattern.starts) (picked marks pattern.ends) masks) where
    -- with the masks of the chosen links it is the same for the pattern that has these alone
    pub tried-begun : TrialBegun (chosen pattern marks) board (tables masks offsets targets) nodes first
    unfolding chosen
    tried-begun =
        record {
          prepared =
              record {
                parts = s.parts.nodes;
                starts = picked-below marks _ _ (all-below _ _ (bounded-starts s.parts));
                ends = picked-below marks _ _ (all-below _ _ (bounded-ends s.parts));
                masked = m;
                net = s.net;
              };
          list = s.list;
          agree = s.agree;
        }

  -- and the centre is in no pair that is left exactly where they bar
  pub tried-bars : (marks : List ℕ) → eqb (get_or (last_table (chosen pattern marks) board (marks_of (length board.labels) nodes)) w 0) 0 ≡ bars pattern board w r marks
  unfolding bars found ball_table
  tried-bars marks =
      ap (λ (taken : List ℕ). eqb (get_or (last_table (chosen pattern marks) board taken) w 0) 0) s.ball
      ∙ sym (not-not _)
