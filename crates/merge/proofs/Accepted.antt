-- Merging a pattern gives a pattern: the merged circuit meets every condition on the content of a pattern file, is no longer and has no
-- larger radius. Assumes nothing.
use Rattle.std.specs.Prelude.{◌≤◌}
use Rattle.base_lists.specs.Kit.{length}
use Rattle.graph.specs.Circuit.{Circuit}
use Rattle.file_format.specs.declared.Edition.{Edition}
use Rattle.file_format.specs.Layout.{length_of}
use Rattle.place.specs.Match.{radius_of}
use Rattle.merge.specs.Merged.{merged}
use Rattle.merge.proofs.Content.{PatternContent}
use Rattle.merge.proofs.Grouped.{grouped-links-le, grouped-length-le, grouped-content, grouped-radius-le}
use Rattle.merge.proofs.Merging.{classes-grouping}

module _ {p : Circuit} (c : PatternContent p) where
  pub merged-content : PatternContent (merged p)
  unfolding merged
  merged-content = grouped-content c (classes-grouping c)

  pub merged-links-le : length (merged p).starts ≤ length p.starts
  unfolding merged
  merged-links-le = grouped-links-le c (classes-grouping c)

  -- the merged file is no longer than the pattern's, in either edition
  pub merged-length-le : (e : Edition) → length_of e (length (merged p).labels) (length (merged p).starts) ≤ length_of e (length p.labels) (length p.starts)
  unfolding merged
  merged-length-le = grouped-length-le c (classes-grouping c)

  -- its radius is not the larger one
  pub merged-radius-le : radius_of (merged p) ≤ radius_of p
  unfolding merged
  merged-radius-le = grouped-radius-le c (classes-grouping c)
