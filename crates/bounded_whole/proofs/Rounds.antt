-- The loop of rounds: from one table to the next, until a round strikes nothing. Assumes nothing.
use Rattle.std.specs.Prelude.{◌≡◌, ◌⊎◌, ◌≤◌, ◌<◌, ◌+◌}
use Rattle.base_lists.specs.Kit.{◌∙◌, sym, ap, refl, ⊎_elim, List, ℕ, suc, not-suc-le-zero, le_refl, add-one, arith}
use borrow.Author.Count.{below_more}
use Rattle.table_row.specs.Row.{in_table}
use Rattle.table_row.proofs.Sets.{pairs-progress}
use Rattle.table_row.proofs.Falling.{falls-count}
use Rattle.table.specs.Row.{pairs}
use Rattle.table.specs.Prepared.{Tables}
use Rattle.bounded_strike.specs.Round.{round_table, round_times, BoundedReady, Turn, BoundedSettled}
use Rattle.bounded_strike.proofs.Shrinking.{length-round, round-subset, round-ready}

-- it leaves fewer pairs, or the same table
progress : (t : Tables) (top : ℕ) (old : List ℕ) → BoundedReady t top old → (pairs (round_table t top old) < pairs old) ⊎ (round_table t top old ≡ old)
unfolding in_table
progress t top old r =
    pairs-progress (le_refl 32) (record { size = length-round t top old; small = (round-ready t top old r).small }) (record { size = refl; small = r.small })
    (λ u v. round-subset t top old v u)

-- no more rounds than there were pairs
pub turn-count : {t : Tables} {top : ℕ} {start old : List ℕ} {kept rounds : ℕ} → Turn t top start old kept rounds → kept + rounds ≤ pairs start
unfolding round_times
turn-count {t} {top} {start} {rounds = rounds} r =
    omega (arith, falls-count pairs (round_times t top start) rounds r.falls, r.count ∙ ap pairs r.table)

pub first-turn : {t : Tables} {top : ℕ} {start : List ℕ} {started : ℕ} → BoundedReady t top start → started ≡ pairs start → Turn t top start start started 0
unfolding round_times
first-turn ready count = record { table = refl; falls = λ j h. absurd (not-suc-le-zero h); count = count; ready = ready }

-- One round more: what `strike` writes and returns.
module _ {t : Tables} {top : ℕ} {start old : List ℕ} {kept rounds : ℕ} (r : Turn t top start old kept rounds) {new : List ℕ} {next : ℕ}
    (struck : new ≡ round_table t top old) (count : next ≡ pairs new) where
  -- it struck a pair: on with the new table
  pub turn-less : (next ≡ kept → ⊥) → next < kept
  turn-less differs =
      ⊎_elim (λ l. omega (arith, count, ap pairs struck, r.count)) (λ e. absurd (differs (count ∙ ap pairs (struck ∙ e) ∙ sym r.count)))
      (progress t top old r.ready)

  pub turn-next : (next ≡ kept → ⊥) → Turn t top start new next (rounds + 1)
  unfolding round_times
  turn-next differs =
      let after : new ≡ round_times t top start (suc rounds) = struck ∙ ap (round_table t top) r.table in
      record {
        table = rw add-one after;
        falls =
            below_more (λ j. pairs (round_times t top start (suc j)) < pairs (round_times t top start j)) rounds r.falls
            (omega (arith, turn-less differs, count, r.count, ap pairs after, ap pairs r.table));
        count = count;
        ready = rw struck (round-ready t top old r.ready);
      }

  -- it struck none: the two tables are equal, and the loop has settled
  stopped : next ≡ kept → round_table t top old ≡ old
  stopped e = ⊎_elim (λ l. absurd (omega (arith, count, ap pairs struck, r.count))) (λ s. s) (progress t top old r.ready)

  same : next ≡ kept → new ≡ old
  same e = struck ∙ stopped e

  -- said of the new table
  pub turn_end : next ≡ kept → BoundedSettled t top start new next rounds
  turn_end e =
      record {
        table = same e ∙ r.table;
        stops = ap (round_table t top) (same e) ∙ stopped e ∙ sym (same e);
        falls = r.falls;
        count = count;
      }

  pub turn_last : next ≡ kept → BoundedSettled t top start old kept rounds
  turn_last e = record { table = r.table; stops = stopped e; falls = r.falls; count = r.count }
