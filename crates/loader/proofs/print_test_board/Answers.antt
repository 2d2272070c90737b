use Rattle.base_lists.specs.Kit.{◌∙◌, sym, ap, length}
use Rattle.base_lists.proofs.Parts.{length-take-room}
use Rattle.loader.specs.Printing.{Handed}
use Rattle.loader.proofs.Printing.{tried-told, made_range, made-prefix, made-size, refused-outside}
use Rattle.loader.proofs.print_test_board.Goals as goal

pub returns-in_default : goal.returns-in_default
unfolding Handed
returns-in_default c =
    let a = c.args in
    (refused-outside a.seed a.n a.m a.k _ _ _ c.test_board.ensures c.requires.0 _ c.in_default.is, c.requires.1)

pub slice_bounds-hand-end : goal.slice_bounds-hand-end
slice_bounds-hand-end c =
    let a = c.args in
    let prefix = made-prefix a.seed a.n a.m a.k _ _ _ c.test_board.ensures _ c.in-Ok.is in
    length-take-room _ _ (ap length prefix ∙ sym (made-size a.seed a.n a.m a.k _ _ _ c.test_board.ensures _ c.in-Ok.is))

pub slice_bounds-hand-end-2 : goal.slice_bounds-hand-end-2
slice_bounds-hand-end-2 c =
    let a = c.args in
    let prefix = made-prefix a.seed a.n a.m a.k _ _ _ c.test_board.ensures _ c.in-Ok.is in
    made-size a.seed a.n a.m a.k _ _ _ c.test_board.ensures _ c.in-Ok.is ∙ sym (ap length prefix)

pub hand-requires : goal.hand-requires
hand-requires c =
    let a = c.args in
    (c.requires.1, made-prefix a.seed a.n a.m a.k _ _ _ c.test_board.ensures _ c.in-Ok.is)

pub returns : goal.returns
returns c =
    let a = c.args in
    let prefix = made-prefix a.seed a.n a.m a.k _ _ _ c.test_board.ensures _ c.in-Ok.is in
    tried-told a.seed a.n a.m a.k _ _ _ _
    (made_range a.seed a.n a.m a.k _ _ _ c.test_board.ensures _ c.in-Ok.is) prefix
    (ap length prefix ∙ sym (made-size a.seed a.n a.m a.k _ _ _ c.test_board.ensures _ c.in-Ok.is)) c.hand.ensures
