-- `base_text::put_bytes` meets its contract. The loop's invariant: the bytes passed are written. Assumes nothing.
use Rattle.std.specs.Prelude.{◌∷◌, ◌++◌, ◌<◌}
use Rattle.base_lists.specs.Kit.{List, [], ℕ, length, get_or, take, sym, length-append, length-take, take_all, arith}
use Rattle.std.proofs.lemmas.List.{take_more}
use Rattle.base_text.specs.Text.{Fits}
use Rattle.base_text.proofs.Text.{put-nothing, put_then, put_same, fits-less, fits-then}
use Rattle.base_text.proofs.put_bytes.Goals as goal

-- room for one byte more of the word
fits_more : {o : List ℕ} {at : ℕ} (word : List ℕ) (i : ℕ) → i < length word → Fits o at word → Fits o at (take i word ++ (get_or word i 0 ∷ []))
fits_more word i h = fits-less _ (simp (length-append, length-take) (omega arith))

pub loop-b-init : goal.loop-b-init
loop-b-init c = put-nothing

pub put_byte-end-requires : goal.put_byte-end-requires
put_byte-end-requires c = fits-then c.loop-b.invariant (fits_more c.args.word.now c.loop-b.b-index (omega arith) c.requires)

pub loop-b-preserved : goal.loop-b-preserved
loop-b-preserved c =
    put_same (sym (take_more c.args.word.now c.loop-b.b-index 0 (omega arith))) (put_then c.loop-b.invariant c.put_byte-end.ensures)

pub returns : goal.returns
returns c = put_same (take_all c.loop-b.b-index c.args.word.now (omega arith)) c.loop-b.invariant
