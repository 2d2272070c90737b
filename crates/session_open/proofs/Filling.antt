-- What filling the tables of a session leaves. Assumes nothing.
use Rattle.std.specs.Prelude.{◌≡◌, ◌∷◌, ◌++◌, ◌≤◌, ◌+◌}
use Rattle.base_lists.specs.Kit.{◌∙◌, sym, ap, ap₂, List, [], append-nil, append_assoc, ℕ, suc, T, ltb, length, take, drop, set, length-set, length-append, length-drop, drop_of_length-le, length-replicate, length-take, take-append-drop, take_at, get_or-set_other, take_all, drop_at, get_or-set_same, take-set-le, set_at, arith}
use Rattle.base_lists.specs.List.{all, part}
use Rattle.base_lists.proofs.Parts.{halved, part-first, part-second, length-halved}
use Rattle.base_lists.proofs.Tables.{length-tabulate}
use Rattle.graph.specs.Neighbours.{offsets_of, grouped_values}
use Rattle.graph.specs.Net.{NetRoom, driven, driving}
use Rattle.graph.proofs.Groups.{length-grouped, length-offsets, stretch-select}
use Rattle.graph_neighbours.specs.Grouped.{Grouped}
use Rattle.table.specs.Fill.{all_nodes}
use Rattle.table.specs.Row.{among}
use Rattle.table.specs.Prepared.{counting, masks_of, Masked}
use Rattle.session_open.specs.Open.{halves_filled, padded, LinksNumbered, Ended, Fixed}

pub length-all : (m : ℕ) → length (all_nodes m) ≡ m
unfolding all_nodes
length-all m = length-tabulate m (λ v. v)

-- a list whose two halves are filled at their fronts
halves :
    (size : ℕ) (xs ys old : List ℕ) {new : List ℕ} (k l : ℕ) → length old ≡ size + size → length new ≡ size + size → length xs ≡ k → length ys ≡ l →
    part 0 size new ≡ xs ++ drop k (part 0 size old) → part size size new ≡ ys ++ drop l (part size size old) → new ≡ halves_filled size xs ys old
unfolding halves_filled part
halves size xs ys old {new} k l long room inXs inYs e f =
    let back : (l : List ℕ) → length l ≡ size + size → take size (drop size l) ≡ drop size l = λ l h. take_all size (drop size l) (omega (arith, length-drop size l)) in
    sym (take-append-drop size new)
    ∙ ap₂ (λ (p q : List ℕ). p ++ q)
    (e ∙ ap (λ (i : ℕ). xs ++ drop i (take size old)) (sym inXs))
    (sym (back new room) ∙ f ∙ ap₂ (λ (i : ℕ) (q : List ℕ). ys ++ drop i q) (sym inYs) (back old long))

-- the numbers of the links, grouped both ways
pub numbered : {n : ℕ} {starts ends before held offsets numbers : List ℕ} →
    Grouped n starts ends (all_nodes (length starts)) (all_nodes (length starts)) before held offsets numbers → NetRoom before held →
    length starts ≡ length ends → T (all (λ v. ltb v n) starts) → T (all (λ v. ltb v n) ends) → LinksNumbered n starts ends before held offsets numbers
unfolding driven driving
numbered {n} {starts} {ends} {before} {held} g room parallel in_starts in_ends =
    let order = all_nodes (length starts) in
    let paired : length starts ≡ length order = sym (length-all (length starts)) in
    let ended : length ends ≡ length order = sym parallel ∙ paired in
    record {
      room = g.room;
      in_offsets =
          halves 513 (offsets_of n starts) (offsets_of n ends) before (suc n) (suc n) room.in_offsets g.room.in_offsets
          (length-offsets n starts) (length-offsets n ends) g.start_offsets g.end_offsets;
      in_numbers =
          halves 4096 (grouped_values n starts order) (grouped_values n ends order) held (length starts) (length ends) room.in_targets g.room.in_targets
          (length-grouped n starts order paired in_starts) (length-grouped n ends order ended in_ends) g.by_start g.by_end;
      by_start = λ v h. rw (g.start_offsets, g.by_start) (stretch-select n starts order _ _ v paired h);
      by_end = λ v h. rw (g.end_offsets, g.by_end) (stretch-select n ends order _ _ v ended h);
    }

-- ---- the ends

pub length-padded : (k : ℕ) (values : List ℕ) → length values ≤ k → length (padded k values) ≡ k
unfolding padded
length-padded k values h = simp (length-append, length-drop, length-replicate) (omega arith)

-- two halves that were filled whole
whole : (size : ℕ) (xs ys old : List ℕ) → length xs ≡ size → length ys ≡ size → length old ≡ size + size → halved size xs ys old ≡ xs ++ ys
whole size xs ys old first second long =
    let back : drop size (xs ++ drop size old) ≡ drop size old = drop_at xs (drop size old) size first in
    let none : drop size (drop size (xs ++ drop size old)) ≡ [] = ap (drop size) back ∙ drop_of_length-le (drop size old) {i = size} (omega (arith, length-drop size old)) in
    ap₂ (λ (p q : List ℕ). p ++ q) (take_at xs (drop size old) size first) (ap (λ (q : List ℕ). ys ++ q) none ∙ append-nil ys)

pub ended : (starts ends out : List ℕ) {xs ys : List ℕ} → length starts ≤ 4096 → length ends ≤ 4096 → length out ≡ 8192 → xs ≡ padded 4096 ends → ys ≡ padded 4096 starts
    → Ended starts ends (halved 4096 xs ys out)
ended starts ends out {xs} {ys} h l room e f =
    let first : length xs ≡ 4096 = ap length e ∙ length-padded 4096 ends l in
    let second : length ys ≡ 4096 = ap length f ∙ length-padded 4096 starts h in
    record {
      room = length-halved 4096 xs ys out first second (omega arith) ∙ room;
      content = whole 4096 xs ys out first second room ∙ ap₂ (λ (p q : List ℕ). p ++ q) e f;
      forward = part-first 4096 xs ys out first ∙ e;
      backward = part-second 4096 xs ys out first second ∙ f;
    }

-- ---- what stays

-- two numbers stored after the masks
stored-two : (masks old : List ℕ) (x y : ℕ) → length masks ≡ 64 → length old ≡ 2 → set (set (masks ++ old) 64 x) 65 y ≡ masks ++ (x ∷ y ∷ [])
stored-two masks [] x y long room = absurd (omega arith)
stored-two masks (a ∷ []) x y long room = absurd (omega arith)
stored-two masks (a ∷ b ∷ []) x y long room =
    ap (λ (l : List ℕ). set l 65 y) (set_at masks a (b ∷ []) x 64 long)
    ∙ ap (λ (l : List ℕ). set l 65 y) (sym (append_assoc masks (x ∷ []) (b ∷ [])))
    ∙ set_at (masks ++ (x ∷ [])) b [] y 65 (length-append masks (x ∷ []) ∙ omega arith)
    ∙ append_assoc masks (x ∷ []) (y ∷ [])
stored-two masks (a ∷ b ∷ c ∷ old) x y long room = absurd (omega arith)

-- the masks are their two halves
masks-whole : {starts ends : List ℕ} (masks : List ℕ) → length masks ≡ 64 → Masked starts ends masks → masks ≡ masks_of 32 starts ends ++ masks_of 32 ends starts
unfolding part counting among
masks-whole masks long masked =
    sym (take-append-drop 32 masks)
    ∙ ap₂ (λ (p q : List ℕ). p ++ q) masked.succ (sym (take_all 32 (drop 32 masks) (omega (arith, length-drop 32 masks))) ∙ masked.pred)

pub fixed-stored : (starts ends : List ℕ) (parts nodes : ℕ) (old : List ℕ) {masks : List ℕ} → length old ≡ 66 → length masks ≡ 64 → Masked starts ends masks
    → Fixed starts ends parts nodes (set (set (masks ++ drop 64 old) 64 parts) 65 nodes)
fixed-stored starts ends parts nodes old {masks} room long masked =
    let whole : length (masks ++ drop 64 old) ≡ 66 = simp (length-append, length-drop) (omega arith) in
    let once : length (set (masks ++ drop 64 old) 64 parts) ≡ 66 = length-set (masks ++ drop 64 old) 64 parts ∙ whole in
    let prefix : take 64 (set (set (masks ++ drop 64 old) 64 parts) 65 nodes) ≡ masks =
    take-set-le 64 (set (masks ++ drop 64 old) 64 parts) 65 nodes (omega arith)
    ∙ take-set-le 64 (masks ++ drop 64 old) 64 parts (omega arith)
    ∙ take_at masks (drop 64 old) 64 long in
    let joined : masks ≡ masks_of 32 starts ends ++ masks_of 32 ends starts = masks-whole masks long masked in
    record {
      room = length-set (set (masks ++ drop 64 old) 64 parts) 65 nodes ∙ once;
      content = stored-two masks (drop 64 old) parts nodes long (length-drop 64 old ∙ omega arith) ∙ ap (λ (l : List ℕ). l ++ (parts ∷ nodes ∷ [])) joined;
      masked = rw prefix masked;
      of_parts =
          get_or-set_other (set (masks ++ drop 64 old) 64 parts) 65 64 nodes 0 (λ e. absurd (omega arith))
          ∙ get_or-set_same (masks ++ drop 64 old) 64 parts 0 (omega arith);
      of_nodes = get_or-set_same (set (masks ++ drop 64 old) 64 parts) 65 nodes 0 (omega arith);
    }

-- the second half of a list whose first half was filled
pub second-half : (xs out : List ℕ) → length xs ≡ 4096 → length out ≡ 8192 → length (take 4096 (drop 4096 (xs ++ drop 4096 out))) ≡ 4096
second-half xs out h room = simp (length-take, length-drop, length-append) (omega arith)
