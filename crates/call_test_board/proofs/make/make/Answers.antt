-- `call_test_board::make::make` meets its contract: the test board is drawn, its links are collected, and writing its circuit is not refused. Assumes nothing.
use Rattle.std.proofs.Common.{Ok}
use Rattle.base_lists.specs.Kit.{◌≡◌, ◌∙◌, sym, ap, ◌*◌, length, take, arith}
use Rattle.base_lists.proofs.Parts.{length-take-room}
use Rattle.file_format.specs.Reading.{filled}
use Rattle.file_format.specs.Refusals.{accept}
use Rattle.file_format.specs.Reply.{number_reply}
use Rattle.file_write.specs.Writing.{WriteOutcome}
use Rattle.test_board.specs.Board.{test_board}
use Rattle.test_board.proofs.Board.{test_board-nodes, test_board-parallel}
use Rattle.test_board_links.specs.Marks.{AllBelow}
use Rattle.call_test_board.specs.Call.{test_board_bytes}
use Rattle.call_test_board.proofs.Making.{pairs_below, links-count, fronts, written}
use Rattle.call_test_board.proofs.make.make.Goals as goal
use Rattle.call_test_board.proofs.make.make.Goals.{After-collect_links-links, After-draw_test_board, After-write_first-written}

-- what was drawn in place of starts and ends are nodes
drawn_below : (c : After-draw_test_board) → AllBelow c.args.n (2 * c.args.m) c.draw_test_board.new.pairs
drawn_below c =
    pairs_below c.args.seed c.args.n c.args.m c.args.k c.requires.0 _ _ c.draw_test_board.ensures.pairs_after

pub collect_links-links-requires : goal.collect_links-links-requires
collect_links-links-requires c =
    (c.requires.0.some_nodes, c.requires.0.nodes, omega (arith, c.requires.0.links, c.draw_test_board.auto.pairs), drawn_below (goal.at.collect_links-links-requires c).After-draw_test_board, omega (arith, c.requires.0.links))

-- the test board's circuit stands at the front of the three tables
content :
    (c : After-collect_links-links) →
    (take c.args.n c.draw_test_board.new.kinds ≡ ((test_board c.args.seed c.args.n c.args.m c.args.k)).labels)
    × (take c.collect_links-links.result c.collect_links-links.new.starts ≡ ((test_board c.args.seed c.args.n c.args.m c.args.k)).starts)
    × (take c.collect_links-links.result c.collect_links-links.new.pairs ≡ ((test_board c.args.seed c.args.n c.args.m c.args.k)).ends)
content c =
    fronts c.args.seed c.args.n c.args.m c.args.k c.requires.0 _ _ c.draw_test_board.ensures.pairs_after _ _ _ _ _ _ _ c.draw_test_board.ensures.kinds_after c.collect_links-links.ensures.value c.collect_links-links.ensures.starts_after c.collect_links-links.ensures.pairs_after

-- each front has the size that was counted
sizes :
    (c : After-collect_links-links) →
    (length (take c.args.n c.draw_test_board.new.kinds) ≡ c.args.n)
    × (length (take c.collect_links-links.result c.collect_links-links.new.starts) ≡ c.collect_links-links.result)
    × (length (take c.collect_links-links.result c.collect_links-links.new.pairs) ≡ c.collect_links-links.result)
sizes c =
    let e = content c in
    let count = c.collect_links-links.ensures.value ∙ links-count c.args.seed c.args.n c.args.m c.args.k c.requires.0 _ _ c.draw_test_board.ensures.pairs_after in (
      ap length e.0 ∙ test_board-nodes c.args.seed c.args.n c.args.m c.args.k,
      ap length e.1 ∙ sym count,
      ap length e.2 ∙ sym (test_board-parallel c.args.seed c.args.n c.args.m c.args.k) ∙ sym count,
    )

pub slice_bounds-write_first-end : goal.slice_bounds-write_first-end
slice_bounds-write_first-end c = sym (sizes (goal.at.slice_bounds-write_first-end c).After-collect_links-links).0

pub slice_bounds-starts-end : goal.slice_bounds-starts-end
slice_bounds-starts-end c = length-take-room _ _ (sizes (goal.at.slice_bounds-starts-end c).After-collect_links-links).1

pub slice_bounds-write_first-end-2 : goal.slice_bounds-write_first-end-2
slice_bounds-write_first-end-2 c = sym (sizes (goal.at.slice_bounds-write_first-end-2 c).After-collect_links-links).1

pub slice_bounds-ends-end : goal.slice_bounds-ends-end
slice_bounds-ends-end c = length-take-room _ _ (sizes (goal.at.slice_bounds-ends-end c).After-collect_links-links).2

pub slice_bounds-write_first-end-3 : goal.slice_bounds-write_first-end-3
slice_bounds-write_first-end-3 c = sym (sizes (goal.at.slice_bounds-write_first-end-3 c).After-collect_links-links).2

abbrev outcome : After-write_first-written → WriteOutcome
outcome c = record { answer = c.write_first-written.result; reply = number_reply c.write_first-written.result; out = c.write_first-written.new.out }

-- the test board's file stands at the front
file :
    (c : After-write_first-written) →
    let bytes = test_board_bytes c.args.seed c.args.n c.args.m c.args.k in
    outcome c ≡ record { answer = Ok (length bytes); reply = number_reply (Ok (length bytes)); out = filled accept bytes c.args.out.now }
file c =
    c.write_first-written.ensures ∙ written c.args.seed c.args.n c.args.m c.args.k c.requires.0 _ _ _ _ (fronts c.args.seed c.args.n c.args.m c.args.k c.requires.0 _ _ c.draw_test_board.ensures.pairs_after _ _ _ _ _ _ _ c.draw_test_board.ensures.kinds_after c.collect_links-links.ensures.value c.collect_links-links.ensures.starts_after c.collect_links-links.ensures.pairs_after) c.requires.1

-- so that the answer of writing is its length
size : (c : After-write_first-written) → c.write_first-written.result ≡ Ok (length (test_board_bytes c.args.seed c.args.n c.args.m c.args.k))
size c = ap (λ (o : WriteOutcome). o.answer) (file c)

pub unwrap-requires : goal.unwrap-requires
unwrap-requires c = rw (size (goal.at.unwrap-requires c).After-write_first-written)

pub returns : goal.returns
returns c =
    let told = size (goal.at.returns c).After-write_first-written in
    let is = c.unwrap.ensures in
    record { sized = cc; written = ap (λ (o : WriteOutcome). o.out) (file (goal.at.returns c).After-write_first-written) }
