-- `report_centres::put_centre` meets its contract: nothing where the whole board's table leaves the centre empty; the text that is noted under the centre's
-- number, where the ball holds the component; else a new line, whose text is noted where it is the component's. Assumes nothing.
use Rattle.std.specs.Prelude.{◌≡◌, ◌≤◌, ◌<◌, ◌+◌}
use Rattle.base_lists.specs.Kit.{◌∙◌, sym, ap, refl, subst, Bool, false, true, cond, length, get_or, arith}
use Rattle.base_text.proofs.Text.{put-nothing, put_same, fits-same}
use Rattle.table.specs.Prepared.{tables}
use Rattle.place.specs.Spread.{matched}
use Rattle.place_components.specs.Components.{ComponentAt}
use Rattle.report.specs.Report.{centre_line}
use Rattle.report.proofs.Lengths.{centre-fits}
use Rattle.report_texts.specs.declared.Span.{Span}
use Rattle.report_texts.specs.Texts.{head_text, under}
use Rattle.report_locate.proofs.Centre.{source-long, source-few, whole-missed}
use Rattle.report_centres.specs.Centres.{TextNoted, Kept}
use Rattle.report_centres.proofs.OnceMore.{again-line, noted-after, kept-after, kept_more}
use Rattle.report_centres.proofs.put_centre.Goals as goal
use Rattle.report_centres.proofs.put_centre.Goals.{After-holds-ball, After-put_new-end, Else-whole-c-eq0, Then-ball, Then-text-ne0}

pub returns-then-whole-c-eq0 : goal.returns-then-whole-c-eq0
returns-then-whole-c-eq0 c = record {
  every_line = λ pattern board s. put_same (sym (whole-missed s _ c.if-whole-c-eq0.true)) put-nothing;
  kept_2 = c.requires.kept;
}

labelled : (c : Else-whole-c-eq0) → ComponentAt (length c.args.whole.now) (matched (tables c.args.masks.now c.args.offsets.now c.args.targets.now) c.args.whole.now) c.args.component_of.now c.args.sizes.now c.args.line.around.centre
labelled c = c.requires.components.numbered _ c.requires.centre_in_bounds c.if-whole-c-eq0.false

named : (c : Else-whole-c-eq0) → ((get_or c.args.component_of.now c.args.line.around.centre 0) < length c.args.whole.now) × (length c.args.whole.now ≤ 512)
named c = (c.requires.components.named _ c.requires.centre_in_bounds c.if-whole-c-eq0.false, source-few c.requires.source_of_some.source)

pub offset_bounds-component_of-c : goal.offset_bounds-component_of-c
offset_bounds-component_of-c c = omega (arith, c.requires.components.long, c.requires.centre_in_bounds)

pub bounds-component_of-c : goal.bounds-component_of-c
bounds-component_of-c c = omega (arith, c.requires.components.long, c.requires.centre_in_bounds)

pub overflow_cast-number : goal.overflow_cast-number
overflow_cast-number c = omega (arith, named (goal.at.overflow_cast-number c).Else-whole-c-eq0)

pub offset_bounds-sizes-number : goal.offset_bounds-sizes-number
offset_bounds-sizes-number c = omega (arith, named (goal.at.offset_bounds-sizes-number c).Else-whole-c-eq0, c.requires.components.sized)

pub bounds-sizes-number : goal.bounds-sizes-number
bounds-sizes-number c = omega (arith, named (goal.at.bounds-sizes-number c).Else-whole-c-eq0, c.requires.components.sized)

pub overflow_cast-size : goal.overflow_cast-size
overflow_cast-size c = let k = (labelled (goal.at.overflow_cast-size c).Else-whole-c-eq0).component in omega (arith, k.count, k.lists.list.short)

pub holds-ball-requires : goal.holds-ball-requires
holds-ball-requires c =
    let k = labelled (goal.at.holds-ball-requires c).Else-whole-c-eq0 in record {
      source_of_some = c.requires.source_of_some;
      centre_labelled = record { low = c.requires.centre_in_bounds; long = c.requires.components.long; comp = k.comp; nodes = k.nodes; component = k.component; same = k.same; only = k.only };
      dist_len = c.requires.dist_len;
    }

-- the centre's line has room
roomy : (c : After-holds-ball) → c.args.line.at + length (centre_line c.requires.source_of_some.pattern c.requires.source_of_some.board c.args.line.around.centre) ≤ length c.args.out.now
roomy c =
    (centre-fits {out = c.args.out.now} _ _ _ c.requires.source_of_some.source.drawn.nodes (rw (source-long c.requires.source_of_some.source) at c.requires.centre_in_bounds) c.requires.longest_line_in_bounds).room

pub known-text-requires : goal.known-text-requires
known-text-requires c =
    (omega (arith, named (goal.at.known-text-requires c).Else-whole-c-eq0, c.requires.centre_in_bounds), c.requires.kept.long)

-- the ball holds the component, and the text is that of its number
tests : (c : Then-text-ne0) → (c.holds-ball.result.all ≡ true) × (c.known-text.result ≡ under c.args.texts.now ((get_or c.args.component_of.now c.args.line.around.centre 0)))
tests c = go c.holds-ball.result.all refl c.known-text.ensures c.if-text-ne0.true
  where
    go : {x y : Span} (b : Bool) → c.holds-ball.result.all ≡ b → x ≡ cond c.holds-ball.result.all y (record { from = 0; to = 0 }) → (x.to ≡ 0 → ⊥)
        → (c.holds-ball.result.all ≡ true) × (x ≡ y)
    go {x} {y} true e f g = (e, f ∙ ap (λ (b : Bool). cond b y (record { from = 0; to = 0 })) e)
    go {x} {y} false e f g = absurd (g (ap (λ (z : Span). z.to) (f ∙ ap (λ (b : Bool). cond b y (record { from = 0; to = 0 })) e)))

text : (c : Then-text-ne0) → TextNoted (tables c.args.masks.now c.args.offsets.now c.args.targets.now) c.args.whole.now c.args.component_of.now c.args.out.now c.args.line.at ((get_or c.args.component_of.now c.args.line.around.centre 0)) c.known-text.result
text c =
    let same = (tests c).1 in
    subst (λ (x : Span). TextNoted (tables c.args.masks.now c.args.offsets.now c.args.targets.now) c.args.whole.now c.args.component_of.now c.args.out.now c.args.line.at ((get_or c.args.component_of.now c.args.line.around.centre 0)) x) (sym same)
    (c.requires.kept.noted ((get_or c.args.component_of.now c.args.line.around.centre 0)) (omega (arith, (let fact : ((get_or c.args.component_of.now c.args.line.around.centre 0) < length c.args.whole.now) × (length c.args.whole.now ≤ 512) = (c.requires.components.named _ c.requires.centre_in_bounds c.if-whole-c-eq0.false, source-few c.requires.source_of_some.source) in fact))) (λ z. c.if-text-ne0.true (ap (λ (x : Span). x.to) same ∙ z)))

pub put_again-requires : goal.put_again-requires
put_again-requires c =
    let k = text (goal.at.put_again-requires c).Then-text-ne0 in record {
      from_le_to = (k.order, k.short);
      fits = fits-same (sym (again-line c.requires.source_of_some.source _ c.requires.centre_in_bounds c.if-whole-c-eq0.false k refl (c.holds-ball.ensures.whole (tests (goal.at.put_again-requires c).Then-text-ne0).0))) (record { room = roomy (goal.at.put_again-requires c).After-holds-ball });
    }

pub shape_of-dist-then-text-ne0 : goal.shape_of-dist-then-text-ne0
shape_of-dist-then-text-ne0 c = c.holds-ball.auto.dist

pub shape_of-queue-then-text-ne0 : goal.shape_of-queue-then-text-ne0
shape_of-queue-then-text-ne0 c = c.holds-ball.auto.queue

pub returns-then-text-ne0 : goal.returns-then-text-ne0
returns-then-text-ne0 c =
    record {
      every_line = λ pattern board s. put_same (again-line s _ c.requires.centre_in_bounds c.if-whole-c-eq0.false (text (goal.at.returns-then-text-ne0 c).Then-text-ne0) refl (c.holds-ball.ensures.whole (tests (goal.at.returns-then-text-ne0 c).Then-text-ne0).0)) c.put_again.ensures;
      kept_2 = kept-after c.requires.kept c.put_again.ensures (omega (arith, c.requires.longest_line_in_bounds));
    }

long : (c : After-holds-ball) → let w = length c.args.whole.now in
    (length c.holds-ball.new.dist ≡ w) × (length c.holds-ball.new.queue ≡ w)
long c =
    let (d, q) = c.requires.dist_len in
    (c.holds-ball.auto.dist ∙ d, c.holds-ball.auto.queue ∙ q)

pub put_new-end-requires : goal.put_new-end-requires
put_new-end-requires c =
    record {
      source_of_some = c.requires.source_of_some;
      centre_in_bounds = (c.requires.centre_in_bounds, c.if-whole-c-eq0.false);
      ball_holds = c.holds-ball.ensures;
      dist_len = long (goal.at.put_new-end-requires c).After-holds-ball;
      names = c.requires.names;
      longest_line_in_bounds = c.requires.longest_line_in_bounds;
    }

kept : (c : After-put_new-end) → Kept (tables c.args.masks.now c.args.offsets.now c.args.targets.now) c.args.whole.now c.args.component_of.now c.put_new-end.new.out c.put_new-end.result c.args.texts.now
kept c =
    kept-after c.requires.kept (c.put_new-end.ensures _ _ c.requires.source_of_some.source) (omega (arith, c.requires.longest_line_in_bounds))

-- the tables that are lent are as long as before
lent : (c : After-put_new-end) → (length c.put_new-end.new.dist ≡ length c.args.dist.now) × (length c.put_new-end.new.queue ≡ length c.args.queue.now)
lent c =
    (c.put_new-end.auto.dist ∙ c.holds-ball.auto.dist, c.put_new-end.auto.queue ∙ c.holds-ball.auto.queue)

-- it is the component's
fresh : (c : Then-ball) → TextNoted (tables c.args.masks.now c.args.offsets.now c.args.targets.now) c.args.whole.now c.args.component_of.now c.put_new-end.new.out c.put_new-end.result
    ((get_or c.args.component_of.now c.args.line.around.centre 0)) (record { from = c.args.line.at + length (head_text c.args.line.around.centre); to = c.put_new-end.result })
fresh c =
    noted-after c.requires.source_of_some.source c.requires.components _ c.requires.centre_in_bounds c.if-whole-c-eq0.false (c.holds-ball.ensures.whole c.if-ball.true)
    (c.put_new-end.ensures _ _ c.requires.source_of_some.source) ((let fact : c.args.line.at + length (centre_line c.requires.source_of_some.pattern c.requires.source_of_some.board c.args.line.around.centre) ≤ length c.args.out.now = (centre-fits {out = c.args.out.now} _ _ _ c.requires.source_of_some.source.drawn.nodes (rw (source-long c.requires.source_of_some.source) at c.requires.centre_in_bounds) c.requires.longest_line_in_bounds).room in fact))

pub head_bytes-requires : goal.head_bytes-requires
head_bytes-requires c = omega (arith, c.requires.centre_in_bounds, source-few c.requires.source_of_some.source)

pub overflow_add-from : goal.overflow_add-from
overflow_add-from c = omega (arith, c.head_bytes.ensures, (fresh (goal.at.overflow_add-from c).Then-ball).order)

pub note_text-requires : goal.note_text-requires
note_text-requires c =
    (omega (arith, named (goal.at.note_text-requires c).Else-whole-c-eq0, c.requires.centre_in_bounds), c.requires.kept.long, omega (arith, c.head_bytes.ensures, (fresh (goal.at.note_text-requires c).Then-ball).order))

pub shape_of-dist-then-ball : goal.shape_of-dist-then-ball
shape_of-dist-then-ball c = (lent (goal.at.shape_of-dist-then-ball c).After-put_new-end).0

pub shape_of-queue-then-ball : goal.shape_of-queue-then-ball
shape_of-queue-then-ball c = (lent (goal.at.shape_of-queue-then-ball c).After-put_new-end).1

pub returns-then-ball : goal.returns-then-ball
returns-then-ball c =
    record {
      every_line = c.put_new-end.ensures;
      kept_2 = rw (c.note_text.ensures, c.head_bytes.ensures) (kept_more (kept (goal.at.returns-then-ball c).After-put_new-end) ((get_or c.args.component_of.now c.args.line.around.centre 0)) (omega (arith, named (goal.at.returns-then-ball c).Else-whole-c-eq0)) _ (fresh (goal.at.returns-then-ball c).Then-ball));
    }

-- it is not
pub shape_of-dist-else-ball : goal.shape_of-dist-else-ball
shape_of-dist-else-ball c = (lent (goal.at.shape_of-dist-else-ball c).After-put_new-end).0

pub shape_of-queue-else-ball : goal.shape_of-queue-else-ball
shape_of-queue-else-ball c = (lent (goal.at.shape_of-queue-else-ball c).After-put_new-end).1

pub returns-else-ball : goal.returns-else-ball
returns-else-ball c = record {
  every_line = c.put_new-end.ensures;
  kept_2 = kept (goal.at.returns-else-ball c).After-put_new-end;
}
