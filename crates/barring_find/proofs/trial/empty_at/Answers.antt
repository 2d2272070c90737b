-- `barring_find::trial::empty_at` meets its contract: the copied table is one to begin with, and striking ends with the last one. Assumes nothing.
use Rattle.base_lists.specs.Kit.{◌∙◌, sym, ap, subst, List, ℕ, eqb, get_or}
use Rattle.base_lists.specs.List.{Below}
use Rattle.table.specs.Fill.{NodeList}
use Rattle.table.specs.Row.{both_directions}
use Rattle.barring_find.proofs.Tried.{begun-long, copied-begins, copied-known, copied-long}
use Rattle.barring_find.proofs.trial.empty_at.Goals as goal

pub copy-started-requires : goal.copy-started-requires
copy-started-requires c =
    record {
      node_list = subst (λ (n : ℕ). NodeList n c.args.nodes.now) (sym (c.requires.sets_len.0 ∙ begun-long c.requires.some_begun.begun)) c.requires.some_begun.begun.list;
      below = subst (λ (n : ℕ). Below n c.args.nodes.now) (sym (begun-long c.requires.some_begun.begun)) c.requires.some_begun.begun.list.below;
    }

pub refine-requires : goal.refine-requires
refine-requires c =
    let long = copied-long c.requires.some_begun.begun c.requires.sets_len.0 c.copy-started.ensures in record {
      tables_known = copied-known c.requires.some_begun.begun c.requires.sets_len.0 c.copy-started.ensures;
      node_list = subst (λ (n : ℕ). NodeList n c.args.nodes.now) (sym long) c.requires.some_begun.begun.list;
      spare_len = c.requires.sets_len.1 ∙ begun-long c.requires.some_begun.begun ∙ sym long;
      started_value = c.copy-started.ensures.size;
    }

pub returns : goal.returns
returns c =
    λ pattern board b.
    ap (λ (xs : List ℕ). eqb (get_or xs c.args.w 0) 0)
    (c.refine.ensures both_directions pattern board b.prepared (copied-begins b c.requires.sets_len.0 c.copy-started.ensures)).last
