-- The items of a line, as the program puts them. Assumes nothing.
use Rattle.std.specs.Prelude.{◌≡◌, ◌∷◌, ◌++◌, ◌≤◌, ◌<◌, ◌+◌}
use Rattle.base_lists.specs.Kit.{false, true, List, [], append_assoc, ℕ, suc, length, get_or, length-append, arith}
use Rattle.base_lists.specs.Below.{concat_below}
use Rattle.base_lists.proofs.Concat.{concat_below-le}
use Rattle.base_bits.specs.Bits.{intersects}
use Rattle.base_text.specs.Text.{bytes, decimal, Fits}
use Rattle.base_text.proofs.Text.{fits-less}
use Rattle.graph.specs.Search.{reached}
use Rattle.report_texts.specs.Texts.{link_item, node_text, link_text}

-- a node that the search missed has none; one that it reached has a space and its number
pub node-missed : (dist : List ℕ) (v : ℕ) → reached (get_or dist v 0) ≡ false → node_text dist v ≡ []
unfolding node_text
node-missed dist v e = rw e

pub node-reached : (dist : List ℕ) (v : ℕ) → reached (get_or dist v 0) ≡ true → node_text dist v ≡ bytes " " ++ decimal v
unfolding node_text
node-reached dist v e = rw e

-- a link that does not match has none; one that does has a space, its start, a hyphen and its end
pub link_apart : (driven set v w : ℕ) → intersects driven set ≡ false → link_text driven set v w ≡ []
unfolding link_text
link_apart driven set v w e = rw e

pub link-meets : (driven set v w : ℕ) → intersects driven set ≡ true → link_text driven set v w ≡ bytes " " ++ (decimal v ++ (bytes "-" ++ decimal w))
unfolding link_text link_item
link-meets driven set v w e = rw e (simp append_assoc)

-- the room for a link that matches, in bytes
pub link-room : {o : List ℕ} {at : ℕ} (v w : ℕ) → Fits o at (bytes " " ++ (decimal v ++ (bytes "-" ++ decimal w))) →
    at + (1 + (length (decimal v) + (1 + length (decimal w)))) ≤ length o
unfolding bytes
link-room v w f = omega (arith, f.room, length-append (decimal v) (45 ∷ decimal w))

-- the room for all pieces is room for one piece more
pub fits-piece : {o : List ℕ} {at : ℕ} (n i : ℕ) (g : ℕ → List ℕ) → i < n → Fits o at (concat_below n g) → Fits o at (concat_below i g ++ g i)
unfolding concat_below
fits-piece n i g h f = fits-less (concat_below i g ++ g i) (concat_below-le n (suc i) g h) f
