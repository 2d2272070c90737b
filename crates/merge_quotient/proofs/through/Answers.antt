-- `merge_quotient::through` meets its contract: the pattern is matched on itself, its classes are numbered, and the merged pattern's kinds
-- and links are stored. Assumes nothing.
use Rattle.std.specs.Prelude.{◌≡◌}
use Rattle.base_lists.specs.Kit.{◌∙◌, sym, le_trans, le_of_eq, length, arith}
use Rattle.graph.specs.Circuit.{circuit}
use Rattle.merge.specs.Merged.{self_table, class_count, classes}
use Rattle.merge.proofs.Content.{PatternContent, content-bounded, content-board, most-parts}
use Rattle.merge_quotient.proofs.Passes.{Rows, sound-content, matched-self, table-size, table-ready, count-is, numbers-are, starts-classed, classes-below, rows_are, links-count, links-fit, classes-few, tables-merged}
use Rattle.merge_quotient.proofs.through.Goals as goal
use Rattle.merge_quotient.proofs.through.Goals.{After-mark_rows, After-match_circuits, After-number_classes-count, Start}

content : (c : Start) → PatternContent ((circuit c.args.labels.now c.args.starts.now c.args.ends.now))
content c = sound-content _ _ _ c.requires.ends_value

pub match_circuits-requires : goal.match_circuits-requires
match_circuits-requires c =
    record {
      bounded = content-bounded (content (goal.at.match_circuits-requires c).Start);
      bounded_2 = content-board (content (goal.at.match_circuits-requires c).Start);
      table_len = c.requires.classes_len.1;
    }

self : (c : After-match_circuits) → (c.match_circuits.new.table) ≡ self_table ((circuit c.args.labels.now c.args.starts.now c.args.ends.now))
self c = matched-self ((let fact : PatternContent ((circuit c.args.labels.now c.args.starts.now c.args.ends.now)) = sound-content _ _ _ c.requires.ends_value in fact)) _ _ c.match_circuits.ensures

pub number_classes-count-requires : goal.number_classes-count-requires
number_classes-count-requires c =
    let on = self (goal.at.number_classes-count-requires c).After-match_circuits in
    record {
      self_table = table-ready (content (goal.at.number_classes-count-requires c).Start) _ on;
      classes_len = c.requires.classes_len.0 ∙ sym (table-size (content (goal.at.number_classes-count-requires c).Start) _ on);
    }

classed :
    (c : After-number_classes-count) →
    (c.number_classes-count.result ≡ class_count ((circuit c.args.labels.now c.args.starts.now c.args.ends.now))) × (c.number_classes-count.new.classes ≡ classes ((circuit c.args.labels.now c.args.starts.now c.args.ends.now)))
classed c =
    let on = (let fact : (c.match_circuits.new.table) ≡ self_table ((circuit c.args.labels.now c.args.starts.now c.args.ends.now)) = matched-self ((let fact : PatternContent ((circuit c.args.labels.now c.args.starts.now c.args.ends.now)) = sound-content _ _ _ c.requires.ends_value in fact)) _ _ c.match_circuits.ensures in fact) in (
      c.number_classes-count.ensures.value ∙ count-is ((let fact : PatternContent ((circuit c.args.labels.now c.args.starts.now c.args.ends.now)) = sound-content _ _ _ c.requires.ends_value in fact)) _ on,
      c.number_classes-count.ensures.classes_after ∙ numbers-are ((let fact : PatternContent ((circuit c.args.labels.now c.args.starts.now c.args.ends.now)) = sound-content _ _ _ c.requires.ends_value in fact)) _ on,
    )

pub leader_labels-requires : goal.leader_labels-requires
leader_labels-requires c =
    let size = table-size (content (goal.at.leader_labels-requires c).Start) _ (self (goal.at.leader_labels-requires c).After-match_circuits) in
    record {
      self_table = table-ready (content (goal.at.leader_labels-requires c).Start) _ (self (goal.at.leader_labels-requires c).After-match_circuits);
      labels_len = (sym size, le_trans (le_of_eq size) (le_trans (most-parts (content (goal.at.leader_labels-requires c).Start)) c.requires.in_bounds.0));
    }

pub mark_rows-requires : goal.mark_rows-requires
mark_rows-requires c =
    let bytes = (classed (goal.at.mark_rows-requires c).After-number_classes-count).1 in
    let below = classes-below (content (goal.at.mark_rows-requires c).Start) _ bytes in
    record {
      starts_len = (content (goal.at.mark_rows-requires c).Start).parallel;
      below = starts-classed (content (goal.at.mark_rows-requires c).Start) _ bytes;
      below_2 = (rw c.requires.classes_len.2 below, below);
    }

row-marks : (c : After-mark_rows) → Rows ((circuit c.args.labels.now c.args.starts.now c.args.ends.now)) ((c.mark_rows.new.rows))
row-marks c =
    rows_are ((let fact : PatternContent ((circuit c.args.labels.now c.args.starts.now c.args.ends.now)) = sound-content _ _ _ c.requires.ends_value in fact)) _ _ _ ((let fact : (c.number_classes-count.result ≡ class_count ((circuit c.args.labels.now c.args.starts.now c.args.ends.now))) × (c.number_classes-count.new.classes ≡ classes ((circuit c.args.labels.now c.args.starts.now c.args.ends.now))) = let on = (let fact : (c.match_circuits.new.table) ≡ self_table ((circuit c.args.labels.now c.args.starts.now c.args.ends.now)) = matched-self ((let fact : PatternContent ((circuit c.args.labels.now c.args.starts.now c.args.ends.now)) = sound-content _ _ _ c.requires.ends_value in fact)) _ _ c.match_circuits.ensures in fact) in (
      c.number_classes-count.ensures.value ∙ count-is ((let fact : PatternContent ((circuit c.args.labels.now c.args.starts.now c.args.ends.now)) = sound-content _ _ _ c.requires.ends_value in fact)) _ on,
      c.number_classes-count.ensures.classes_after ∙ numbers-are ((let fact : PatternContent ((circuit c.args.labels.now c.args.starts.now c.args.ends.now)) = sound-content _ _ _ c.requires.ends_value in fact)) _ on,
    ) in fact)).1 c.requires.classes_len.2 c.mark_rows.ensures

pub scan-links-requires : goal.scan-links-requires
scan-links-requires c =
    let all = (classed (goal.at.scan-links-requires c).After-number_classes-count).0 in
    let size : length ((c.mark_rows.new.rows)) ≡ 32 = c.mark_rows.auto.rows ∙ c.requires.classes_len.2 in
    let few = classes-few (content (goal.at.scan-links-requires c).Start) in
    let fit = links-fit (content (goal.at.scan-links-requires c).Start) ((c.mark_rows.new.rows)) _ (row-marks (goal.at.scan-links-requires c).After-mark_rows) all in
    record {
      k_in_bounds = (omega arith, omega arith);
      rows_in_bounds = (le_trans fit c.requires.in_bounds.1, le_trans fit c.requires.in_bounds.2);
    }

pub returns : goal.returns
returns c =
    rw c.new.ensures
    (record {
      numbered = (classed (goal.at.returns c).After-number_classes-count).1;
      counted = (classed (goal.at.returns c).After-number_classes-count).0;
      linked = c.scan-links.ensures.value ∙ links-count (content (goal.at.returns c).Start) _ _ (row-marks (goal.at.returns c).After-mark_rows) (classed (goal.at.returns c).After-number_classes-count).0;
      content =
          tables-merged (content (goal.at.returns c).Start) _ _ _ _ _ _ _ _ _ _ (classed (goal.at.returns c).After-number_classes-count).0 c.scan-links.ensures.value (self (goal.at.returns c).After-match_circuits) (row-marks (goal.at.returns c).After-mark_rows)
          c.leader_labels.ensures c.scan-links.ensures.starts_after c.scan-links.ensures.ends_after c.requires.in_bounds.0 c.requires.in_bounds.1 c.requires.in_bounds.2;
    })
