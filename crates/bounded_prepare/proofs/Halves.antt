-- The two halves of the masks. Assumes nothing.
use Rattle.std.specs.Prelude.{◌≡◌, ◌++◌}
use Rattle.base_lists.specs.Kit.{◌∙◌, ap, List, ℕ, length, take, drop, length-append, length-drop, length-take, length-take-le, arith}
use Rattle.base_lists.proofs.Parts.{halved, part-first, part-second, length-halved}
use Rattle.table.specs.Prepared.{masks_of}
use Rattle.table.proofs.PreparedMasks.{length-masks}
use Rattle.bounded_strike.specs.Prepared.{keyed, BoundMasked}

pub half : (masks : List ℕ) → length masks ≡ 256 → length (take 128 masks) ≡ 128
half masks long = length-take-le 128 masks (omega arith)

pub half-2 : (xs masks : List ℕ) → length xs ≡ 128 → length masks ≡ 256 → length (take 128 (drop 128 (xs ++ drop 128 masks))) ≡ 128
half-2 xs masks first long = simp (length-take, length-drop, length-append) (omega arith)

pub bound-masked :
    (bounds starts ends old : List ℕ) {xs ys : List ℕ} → length old ≡ 256 → xs ≡ masks_of 128 (keyed bounds starts) ends →
    ys ≡ masks_of 128 (keyed bounds ends) starts → BoundMasked bounds starts ends (halved 128 xs ys old)
bound-masked bounds starts ends old {xs} {ys} room isSucc isPred =
    let first : length xs ≡ 128 = ap length isSucc ∙ length-masks 128 (keyed bounds starts) ends in
    let second : length ys ≡ 128 = ap length isPred ∙ length-masks 128 (keyed bounds ends) starts in
    record {
      room = length-halved 128 xs ys old first second (omega arith) ∙ room;
      succ = part-first 128 xs ys old first ∙ isSucc;
      pred = part-second 128 xs ys old first second ∙ isPred;
    }
