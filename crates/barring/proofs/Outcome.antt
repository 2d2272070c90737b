-- What the outcome comes to, by cases of whether the centre is found. Assumes nothing.
use Rattle.std.specs.Prelude.{◌≡◌, ◌++◌, Ok, Err}
use Rattle.base_lists.specs.Kit.{false, true, List, ℕ, length, drop}
use Rattle.graph.specs.Circuit.{Circuit}
use Rattle.file_format.specs.declared.File.TheVariants.{Neither}
use Rattle.file_format.specs.Reading.{filled}
use Rattle.file_format.specs.Refusals.{first, centre_placed}
use Rattle.file_format.specs.Reply.{reply, number_reply}
use Rattle.place.specs.Match.{found}
use Rattle.barring.specs.Least.{least, kept_count}
use Rattle.barring.specs.Outcome.{barring, bar_around}

module _ (pattern board : Circuit) (w r : ℕ) (out : List ℕ) where
  -- the centre has a place: 15, and the bytes stay
  pub around-placed : found pattern board w r ≡ true
      → record { reply = number_reply (Err (record { number = 15; file = Neither })); out = out } ≡ bar_around pattern board w r out
  unfolding bar_around barring number_reply first centre_placed reply filled
  around-placed e = rw e

  -- it has none: how many are kept, and a byte for each link
  pub around-kept : {k : ℕ} {after : List ℕ} → found pattern board w r ≡ false → k ≡ kept_count (least pattern board w r)
      → after ≡ least pattern board w r ++ drop (length (least pattern board w r)) out → record { reply = number_reply (Ok k); out = after } ≡ bar_around pattern board w r out
  unfolding bar_around barring number_reply first centre_placed reply filled
  around-kept e n a = rw (e, n, a)
