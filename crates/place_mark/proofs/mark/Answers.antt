-- `place_mark::mark` meets its contract: each table by its own function. Assumes nothing.
use Rattle.base_lists.specs.Kit.{◌∙◌, ap, ℕ, get_or}
use Rattle.table.specs.Fill.{marks_of, table_at}
use Rattle.place_mark.proofs.mark.Goals as goal

pub mark_nodes-requires : goal.mark_nodes-requires
mark_nodes-requires c = rw c.requires.nodes_len.0 c.requires.node_list.below

pub mark_links-requires : goal.mark_links-requires
mark_links-requires c = record {
  ready = c.requires.ready;
  node_list = c.requires.node_list;
  links_fit = c.requires.links_fit;
}

pub copy-requires : goal.copy-requires
copy-requires c = record {
  node_list = rw c.requires.nodes_len.1 c.requires.node_list;
  below = c.requires.node_list.below;
}

pub returns : goal.returns
returns c =
    record {
      nodes_after = c.mark_nodes.ensures ∙ ap (λ (n : ℕ). marks_of n c.args.list.now) c.requires.nodes_len.0;
      bytes_after = c.mark_links.ensures;
      table_after = c.copy.ensures.made ∙ ap (λ (n : ℕ). table_at n (λ v. get_or c.args.sets.now v 0) c.args.list.now) c.requires.nodes_len.1;
    }
