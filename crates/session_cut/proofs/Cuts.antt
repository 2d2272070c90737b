-- What taking a link out and striking on come to, for tables of any content. Assumes nothing.
use Rattle.std.specs.Prelude.{◌≡◌, ◌++◌, ◌≤◌, ◌<◌, ◌+◌, Option, Some, None, Ok, Err}
use Rattle.base_lists.specs.Kit.{◌∙◌, ap, refl, Bool, false, true, cond, List, ℕ, get_or, take, drop, le-ltb, lt-ltb}
use Rattle.file_format.specs.Refusals.{first, link_gone}
use Rattle.file_format.specs.Reply.{verdict_of}
use Rattle.file_format.specs.declared.File.TheVariants.{Neither}
use Rattle.graph.specs.Search.{far}
use Rattle.session.specs.State.{state, takes, ends_without}
use Rattle.session.specs.Tables.{nodes_in, cut_answered, cut_sets, cut_tables, CutMade}
use Rattle.session_strike.specs.Moves.{moves_in, settled_from}
use Rattle.session_cut.specs.Cut.{TakenOut}

-- ---- taking a link out

module _ (ends : List ℕ) (nodes linkIndex : ℕ) where
  pub gone-place : 4096 ≤ linkIndex → TakenOut ends nodes linkIndex None ends
  unfolding takes
  gone-place h = let e = le-ltb linkIndex 4096 h in record { link = rw e; left = rw e }

  pub gone-end : linkIndex < 4096 → nodes ≤ get_or ends linkIndex far → TakenOut ends nodes linkIndex None ends
  unfolding takes
  gone-end l h =
      let d = lt-ltb linkIndex 4096 l in
      let e = le-ltb (get_or ends linkIndex far) nodes h in
      record { link = rw (d, e); left = rw (d, e) }

  pub taken-link : linkIndex < 4096 → get_or ends linkIndex far < nodes → TakenOut ends nodes linkIndex (Some (get_or ends (4096 + linkIndex) far, get_or ends linkIndex far)) (ends_without ends linkIndex)
  unfolding takes
  taken-link l h =
      let d = lt-ltb linkIndex 4096 l in
      let e = lt-ltb (get_or ends linkIndex far) nodes h in
      record { link = rw (d, e); left = rw (d, e) }

-- ---- what the answers mean

module _ {ends : List ℕ} {nodes linkIndex : ℕ} {taken : Option (ℕ × ℕ)} {ends' : List ℕ} (t : TakenOut ends nodes linkIndex taken ends') where
  -- what is said of a place, where it is known whether a link is left there
  told : (b : Bool) → takes ends nodes linkIndex ≡ b → taken ≡ cond b (Some (get_or ends (4096 + linkIndex) far, get_or ends linkIndex far)) None
  told b p = t.link ∙ ap (λ (b : Bool). cond b (Some (get_or ends (4096 + linkIndex) far, get_or ends linkIndex far)) None) p

  -- no link is left there
  none : taken ≡ None → takes ends nodes linkIndex ≡ false
  none e = go (takes ends nodes linkIndex) refl
    where
      go : (b : Bool) → takes ends nodes linkIndex ≡ b → takes ends nodes linkIndex ≡ false
      go true p = let z = told true p in cc
      go false p = p

  -- a link is left there
  some : {x y : ℕ} → taken ≡ Some (x, y) → takes ends nodes linkIndex ≡ true
  some {x} {y} e = go (takes ends nodes linkIndex) refl
    where
      go : (b : Bool) → takes ends nodes linkIndex ≡ b → takes ends nodes linkIndex ≡ true
      go true p = p
      go false p = let z = told false p in cc

-- ---- what a cut makes of it

module _ (fixed offsets numbers ends sets : List ℕ) {linkIndex : ℕ} {taken : Option (ℕ × ℕ)} {ends' : List ℕ} (t : TakenOut ends (nodes_in fixed) linkIndex taken ends') where
  pub gone-made :
      taken ≡ None →
      CutMade (state fixed offsets numbers ends sets) linkIndex (verdict_of {A = Unit {0}} (Err (record { number = 14; file = Neither }))) (state fixed offsets numbers ends' sets)
  unfolding verdict_of cut_answered cut_tables first link_gone
  gone-made e =
      let out = none t e in
      record { replied = rw out; tables = ap (λ (l : List ℕ). state fixed offsets numbers l sets) t.left ∙ rw out }

  pub link-made :
      (x y : ℕ) → taken ≡ Some (x, y) → {last : List ℕ} → last ≡ settled_from (take 64 fixed) (moves_in offsets numbers ends') (take (nodes_in fixed) sets) x y →
      CutMade (state fixed offsets numbers ends sets) linkIndex (verdict_of {A = Unit {0}} (Ok tt)) (state fixed offsets numbers ends' (last ++ drop (nodes_in fixed) sets))
  unfolding verdict_of cut_answered cut_tables cut_sets first link_gone
  link-made x y e {last} struck =
      let here = some t e in
      let out : ends' ≡ ends_without ends linkIndex = t.left ∙ ap (λ (b : Bool). cond b (ends_without ends linkIndex) ends) here in
      let link : taken ≡ Some (get_or ends (4096 + linkIndex) far, get_or ends linkIndex far) = t.link ∙ ap (λ (b : Bool). cond b (Some (get_or ends (4096 + linkIndex) far, get_or ends linkIndex far)) None) here in
      let pair : (x, y) ≡ (get_or ends (4096 + linkIndex) far, get_or ends linkIndex far) = cc in
      let start : x ≡ get_or ends (4096 + linkIndex) far = ap (λ (p : ℕ × ℕ). p.0) pair in
      let end : y ≡ get_or ends linkIndex far = ap (λ (p : ℕ × ℕ). p.1) pair in
      record { replied = rw here; tables = rw (here, struck, out, start, end) }
