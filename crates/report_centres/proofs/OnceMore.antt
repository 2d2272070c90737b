-- The text of a component, once more: what follows the colon is the same for each centre whose ball holds the component; what a line puts is found in the
-- buffer again, and stays there where later lines are put; and the table of where such texts stand, with one text more. Assumes nothing.
use Rattle.std.specs.Prelude.{◌≡◌, ◌++◌, ◌≤◌, ◌<◌, ◌+◌, ◌-◌}
use Rattle.base_lists.specs.Kit.{◌∙◌, sym, ap, refl, subst, ap₂, Bool, false, true, cond, not, List, ℕ, le_refl, T, eqb, ltb, length, get_or, set, length-set, length-append, replicate, length-replicate, get_or-replicate, get_or-set_other, get_or-set_same, arith, ne_eqb, eqb-true, eqb-false}
use Rattle.base_lists.specs.List.{part}
use Rattle.base_lists.proofs.Tests.{same_test, true-T}
use Rattle.base_text.specs.Text.{Put}
use Rattle.base_text.proofs.Text.{put_same}
use Rattle.graph.specs.Circuit.{Circuit}
use Rattle.graph.specs.Search.{far, reached}
use Rattle.table.specs.Prepared.{Tables}
use Rattle.place.specs.Spread.{matched, Reached, Spread}
use Rattle.place.proofs.Spread.{spread-from}
use Rattle.place_components.specs.Components.{Components}
use Rattle.place_components.proofs.ComponentNumbers.{match-adjacency, spread_same}
use Rattle.report.specs.Report.{centre_line}
use Rattle.report_texts.specs.Texts.{head_text, body_text, under, noting}
use Rattle.report_texts.proofs.Texts.{line-split, body_same, put-before, put_second}
use Rattle.report_texts.specs.declared.Span.{Span}
use Rattle.report_locate.specs.Source.{Source, Entire}
use Rattle.report_locate.proofs.Centre.{source-line}
use Rattle.report_locate.proofs.Component.{source-match, held_found, held-located}
use Rattle.report_centres.specs.Centres.{TextNoted, Kept}

-- ---- the same text for each centre of a component

module _ {pattern board : Circuit} {t : Tables} {table : List ℕ} {r : ℕ} (s : Source pattern board t table r) where
  abbrev n : ℕ
  n = length table

  reached-test : (dist : List ℕ) (v : ℕ) → Reached dist v → T (reached (get_or dist v 0))
  reached-test dist v f = true-T (ap not (ne_eqb (get_or dist v 0) far f))

  test-reached : (dist : List ℕ) (v : ℕ) → T (reached (get_or dist v 0)) → Reached dist v
  test-reached dist v k q = subst (λ (x : ℕ). T (not (eqb x far))) q k

  pub body_alike :
      {componentOf sizes dist other : List ℕ} → Components n (matched t table) table componentOf sizes → (c d : ℕ) → c < n → d < n → (get_or table c 0 ≡ 0 → ⊥) →
      get_or componentOf d 0 ≡ get_or componentOf c 0 → Spread n c (matched t table) dist → Spread n d (matched t table) other → body_text t dist table ≡ body_text t other table
  body_alike {componentOf} {sizes} {dist} {other} k c d h l f e g g' =
      let comp = k.numbered c h f in
      let there : Reached dist d = spread_same comp.component.spread g d l (comp.only d l e) in
      let from : Spread n d (matched t table) dist = spread-from (match-adjacency (source-match s)) g d l there in
      body_same t dist other table (g.size ∙ sym g'.size)
      (λ v b.
      let m : v < n = rw g'.size at b in
      same_test
      (λ q. reached-test other v (spread_same from g' v m (test-reached dist v q)))
      (λ q. reached-test dist v (spread_same g' from v m (test-reached other v q))))

  -- a centre whose ball holds the component has the line of its head and this text
  entire-line :
      {nodes : List ℕ} (c : ℕ) (h : c < n) (f : get_or table c 0 ≡ 0 → ⊥) → (g : Entire t table (record { centre = c; radius = r }) nodes) →
      head_text c ++ body_text t g.comp table ≡ centre_line pattern board c
  entire-line c h f g =
      let dist = g.comp in
      let held = g.held pattern board s dist g.spread in
      sym (line-split t dist table c)
      ∙ source-line s c true (sym (held_found s c h g.spread f held)) refl (held-located s c h g.spread f held _ g.lists)

  -- so it has the line of its head and the text that is noted under its number
  pub again-line :
      {componentOf out nodes : List ℕ} {at number : ℕ} {x : Span} (c : ℕ) (h : c < n) (f : get_or table c 0 ≡ 0 → ⊥) → TextNoted t table componentOf out at number x →
      get_or componentOf c 0 ≡ number → Entire t table (record { centre = c; radius = r }) nodes →
      head_text c ++ part x.from (x.to - x.from) out ≡ centre_line pattern board c
  again-line c h f k e g = ap (λ (l : List ℕ). head_text c ++ l) (k.text c h f e g.comp g.spread) ∙ entire-line c h f g

  -- and in its line, which was put, the text is found again
  pub noted-after :
      {componentOf sizes out after nodes : List ℕ} {at past : ℕ} → Components n (matched t table) table componentOf sizes → (c : ℕ) (h : c < n) (f : get_or table c 0 ≡ 0 → ⊥) →
      Entire t table (record { centre = c; radius = r }) nodes → Put out at (centre_line pattern board c) after past →
      at + length (centre_line pattern board c) ≤ length out →
      TextNoted t table componentOf after past (get_or componentOf c 0) (record { from = at + length (head_text c); to = past })
  noted-after {componentOf} {out = out} {after = after} {at = at} {past = past} k c h f g p room =
      record {
        order = omega (arith, put.end, two);
        short = le_refl past;
        text =
            λ d l m e other g'.
            ap (λ (j : ℕ). part (at + length (head_text c)) j after) size
            ∙ put_second (head_text c) (body_text t g.comp table) put (rw (← entire-line c h f g) at room)
            ∙ body_alike k c d h l f e g.spread g';
      }
    where
      put : Put out at (head_text c ++ body_text t g.comp table) after past
      put = put_same (sym (entire-line c h f g)) p

      two : length (head_text c ++ body_text t g.comp table) ≡ length (head_text c) + length (body_text t g.comp table)
      two = length-append (head_text c) (body_text t g.comp table)

      size : past - (at + length (head_text c)) ≡ length (body_text t g.comp table)
      size = omega (arith, put.end, two)

-- ---- the texts in the buffer, and the table of them

-- at first there are none
pub kept-start : {t : Tables} {table componentOf out : List ℕ} → Kept t table componentOf out 0 (replicate 1024 0)
kept-start = record { long = length-replicate {A = ℕ} 1024 0; noted = λ number h f. absurd (f (get_or-replicate {A = ℕ} 1024 (512 + number) 0 0 (omega arith))) }

-- they stay where a line is put after them
pub kept-after :
    {t : Tables} {table componentOf out after xs texts : List ℕ} {at past : ℕ} → Kept t table componentOf out at texts → Put out at xs after past → at ≤ length out →
    Kept t table componentOf after past texts
kept-after {t} {table} {componentOf} {after = after} {texts = texts} {past = past} k p room =
    record { long = k.long; noted = later }
  where
    later : (number : ℕ) → number < 512 → ((under texts number).to ≡ 0 → ⊥) → TextNoted t table componentOf after past number (under texts number)
    later number h f =
        let g = k.noted number h f in
        let x = under texts number in
        record {
          order = g.order;
          short = omega (arith, g.short, p.end);
          text =
              λ c h m e dist s.
              put-before p x.from (x.to - x.from) (omega (arith, g.order, g.short)) (omega (arith, g.order, g.short)) ∙ g.text c h m e dist s;
        }

-- one text more
module _ (texts : List ℕ) (long : length texts ≡ 1024) (number : ℕ) (low : number < 512) (x : Span) where
  abbrev more : List ℕ
  more = set (set texts number x.from) (512 + number) x.to

  span : {a b c d : ℕ} → a ≡ c → b ≡ d → ◌≡◌ {A = Span} (record { from = a; to = b }) (record { from = c; to = d })
  span e f = ap₂ (λ (a b : ℕ). record { from = a; to = b }) e f

  here : under more number ≡ x
  here =
      span
      (get_or-set_other (set texts number x.from) (512 + number) number x.to 0 (λ e. omega arith) ∙ get_or-set_same texts number x.from 0 (omega arith))
      (get_or-set_same (set texts number x.from) (512 + number) x.to 0 (rw (length-set texts number x.from) (omega arith)))

  elsewhere : (l : ℕ) → l < 512 → (l ≡ number → ⊥) → under more l ≡ under texts l
  elsewhere l h f =
      span
      (get_or-set_other (set texts number x.from) (512 + number) l x.to 0 (λ e. omega arith) ∙ get_or-set_other texts number l x.from 0 f)
      (get_or-set_other (set texts number x.from) (512 + number) (512 + l) x.to 0 (λ e. f (omega arith))
      ∙ get_or-set_other texts number (512 + l) x.from 0 (λ e. omega arith))

pub kept_more :
    {t : Tables} {table componentOf out texts : List ℕ} {at : ℕ} → Kept t table componentOf out at texts → (number : ℕ) → number < 512 → (x : Span) →
    TextNoted t table componentOf out at number x → Kept t table componentOf out at (noting texts number x)
unfolding noting
kept_more {t} {table} {componentOf} {out} {texts} {at} k number h x g = go (ltb 4294967295 x.to)
  where
    also : (l : ℕ) → l < 512 → (b : Bool) → eqb l number ≡ b → ((under (more texts k.long number h x) l).to ≡ 0 → ⊥) →
        TextNoted t table componentOf out at l (under (more texts k.long number h x) l)
    also l m true e f =
        subst (λ (j : ℕ). TextNoted t table componentOf out at j (under (more texts k.long number h x) j)) (sym (eqb-true l number e))
        (subst (λ (y : Span). TextNoted t table componentOf out at number y) (sym (here texts k.long number h x)) g)
    also l m false e f =
        let same = elsewhere texts k.long number h x l m (eqb-false l number e) in
        subst (λ (y : Span). TextNoted t table componentOf out at l y) (sym same) (k.noted l m (λ z. f (ap (λ (y : Span). y.to) same ∙ z)))

    go : (b : Bool) → Kept t table componentOf out at (cond b texts (more texts k.long number h x))
    go true = k
    go false =
        record {
          long = length-set (set texts number x.from) (512 + number) x.to ∙ length-set texts number x.from ∙ k.long;
          noted = λ l m f. also l m (eqb l number) refl f;
        }
