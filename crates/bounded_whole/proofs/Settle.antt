-- Where the rounds settle is the end of the row: its last set and its counts; and with the all-0 rule the answer. Assumes nothing.
use Rattle.std.specs.Prelude.{◌≡◌, ◌&&◌, ◌++◌, ◌≤◌, ◌<◌}
use Rattle.base_lists.specs.Kit.{◌∙◌, sym, ap, refl, subst, Bool, false, true, cond, List, ℕ, suc, T, length, take, length-append, take_at, arith}
use Rattle.base_lists.specs.List.{tabulate}
use Rattle.base_lists.proofs.Tests.{T_true, true-T}
use Rattle.base_lists.proofs.Tables.{tabulate-same}
use Rattle.base_lists.proofs.Entries.{all-below}
use Rattle.base_bits.proofs.Numbers.{number_same}
use Rattle.file_format.specs.Circuit.{Bounded}
use Rattle.file_format.specs.declared.Role.TheVariants.{Pattern}
use Rattle.file_format.proofs.Accepted.{bounded-starts, bounded-ends}
use Rattle.graph.specs.Circuit.{Circuit}
use Rattle.graph.specs.Net.{NetOf}
use Rattle.graph.specs.Search.{inside}
use Rattle.graph.proofs.Net.{net-of, net-few}
use Rattle.table_row.specs.Problem.{Problem}
use Rattle.table_row.specs.Row.{table_of, start_of, row_of, started_of, last_of, kept_of, struck_of, rounds_of, pairs}
use Rattle.table_row.specs.Answer.{all_occur, all_or_none}
use Rattle.table_row.specs.Reading.{SetsFit}
use Rattle.table_row.proofs.Row.{start_fits}
use Rattle.table_row.proofs.Sets.{fits_word}
use Rattle.table_row.proofs.Falling.{FirstRest}
use Rattle.table_row.proofs.Counting.{first-last, first-rounds, kept-started}
use Rattle.table_row.proofs.Meaning.{last_fits}
use Rattle.table_row.proofs.Answer as Of
use Rattle.table.specs.declared.Counts.{Counts}
use Rattle.table.specs.declared.Rest.{Rest}
use Rattle.table.specs.Answer.{AnsweredOn, counts_where, Ruled}
use Rattle.table.specs.Fill.{all_nodes, marks_of, NodeList}
use Rattle.table.specs.First.{start_node, Written}
use Rattle.table.specs.Host.{everything}
use Rattle.table.specs.Prepared.{Tables}
use Rattle.table.specs.Refine.{counts_from}
use Rattle.table.specs.Row.{agrees, both_directions, problem_by, start_table}
use Rattle.table.proofs.Begun.{started-table}
use Rattle.table.proofs.Host.{everything-taken}
use Rattle.table.proofs.NodeLists.{length-all, all_list, all-marks}
use Rattle.bounded.specs.Problem.{Bounds, Label, bounded_problem, bounded_counts, BoundedAnswer}
use Rattle.bounded.specs.Raised.{AllOne}
use Rattle.bounded.proofs.Wider.{ones-table, ones-counts}
use Rattle.bounded_strike.specs.Prepared.{BoundMasked, Top, BoundPrepared}
use Rattle.bounded_strike.specs.Round.{round_table, round_times, BoundedReady, BoundedSettled}
use Rattle.bounded_strike.proofs.Row.{times-row}
use Rattle.bounded_whole.specs.Whole.{counts_of_row, BoundedRow}

-- ---- what is prepared

pub bound-prepared :
    {pattern : Circuit} {bounds : List ℕ} {board : Circuit} {t : Tables} {top : ℕ} → Bounded Pattern pattern → Bounds pattern bounds → Top bounds top →
    BoundMasked bounds pattern.starts pattern.ends t.masks →
    NetOf (length board.labels) board.starts board.ends t.offsets t.targets → BoundPrepared pattern bounds board t top
bound-prepared {pattern} p each upto masked net =
    record {
      parts = p.nodes;
      parallel = p.parallel;
      starts = all-below _ pattern.starts (bounded-starts p);
      ends = all-below _ pattern.ends (bounded-ends p);
      bounded = each;
      upto = upto;
      masked = masked;
      net = net;
    }

-- ---- every node listed

pub prefix-all : (n : ℕ) (xs ys : List ℕ) → xs ≡ all_nodes n → take n (xs ++ ys) ≡ all_nodes n
prefix-all n xs ys e = ap (λ (zs : List ℕ). take n (zs ++ ys)) e ∙ take_at (all_nodes n) ys n (length-all n)

pub prefix-list : (n : ℕ) (xs ys : List ℕ) → xs ≡ all_nodes n → n ≤ 65536 → NodeList n (take n (xs ++ ys))
prefix-list n xs ys e h = rw (prefix-all n xs ys e) (all_list n h)

pub prefix-long : (n : ℕ) (xs ys : List ℕ) → xs ≡ all_nodes n → length (take n (xs ++ ys)) ≡ n
prefix-long n xs ys e = ap length (prefix-all n xs ys e) ∙ length-all n

pub prefix-room : (n : ℕ) (xs ys : List ℕ) → xs ≡ all_nodes n → n ≤ length (xs ++ ys)
prefix-room n xs ys e = rw length-append (omega (arith, ap length e ∙ length-all n))

-- ---- the first table

start-same : (pattern : Circuit) (bounds : List ℕ) (board : Circuit) → start_of (bounded_problem pattern bounds board) ≡ start_table pattern board (everything board)
unfolding start_of table_of bounded_problem problem_by
start-same pattern bounds board =
    tabulate-same (length board.labels) _ _
    (λ v h.
    number_same (length pattern.labels) (λ u. agrees pattern board u v) (λ u. inside (everything board) v && agrees pattern board u v)
    (λ u k. ap (λ (b : Bool). b && agrees pattern board u v) (sym (T_true {b = inside (everything board) v} (everything-taken board v h).marked))))

module _ (pattern : Circuit) (bounds : List ℕ) (board : Circuit) where
  abbrev problem : Problem Label
  problem = bounded_problem pattern bounds board

  -- what is written at every node is the first table of the row
  pub first-table :
      {n : ℕ} {nodes first : List ℕ} {count : ℕ} → n ≡ length board.labels → nodes ≡ all_nodes (length board.labels) →
      Written n (start_node pattern.labels board.labels) nodes first count → first ≡ start_of problem
  unfolding everything
  first-table {nodes = nodes} long listed w =
      started-table both_directions pattern board nodes long w
      ∙ ap (start_table pattern board) (ap (marks_of (length board.labels)) listed ∙ all-marks (length board.labels))
      ∙ sym (start-same pattern bounds board)

  module _ {t : Tables} {top : ℕ} (p : BoundPrepared pattern bounds board t top) where
    pub start-ready : BoundedReady t top (start_of problem)
    unfolding bounded_problem
    start-ready =
        record {
          masks = p.masked.room;
          net = rw (start_fits problem).size (net-of p.net);
          small = fits_word p.parts (start_fits problem);
          some = p.upto.some;
          most = p.upto.most;
          short = rw (start_fits problem).size (net-few (net-of p.net));
        }

    -- ---- the end of the row

    module _ {last : List ℕ} {k r : ℕ} (s : BoundedSettled t top (start_of problem) last k r) where
      times : (j : ℕ) → round_times t top (start_of problem) j ≡ row_of problem j
      unfolding row_of
      times = times-row pattern bounds board t top p (start_of problem) (start_fits problem)

      again : round_times t top (start_of problem) (suc r) ≡ round_times t top (start_of problem) r
      unfolding round_times
      again = ap (round_table t top) (sym s.table) ∙ s.stops ∙ s.table

      rest : FirstRest pairs (row_of problem) r
      rest =
          record {
            falls = λ j h. rw (← times j, ← times (suc j)) (s.falls j h);
            repeats = sym (times (suc r)) ∙ again ∙ times r;
          }

      pub settled-last : last ≡ last_of problem
      settled-last = s.table ∙ times r ∙ sym (first-last problem rest)

      pub settled-kept : k ≡ kept_of problem
      unfolding kept_of
      settled-kept = s.count ∙ ap pairs settled-last

      pub settled-few : k ≤ started_of problem
      unfolding bounded_problem
      settled-few = rw settled-kept (kept-started problem p.parts)

      pub settled-row : {started : ℕ} → started ≡ started_of problem → BoundedRow pattern bounds board last (counts_from started (record { kept = k; rounds = r }))
      unfolding counts_of_row struck_of
      settled-row e = record { counted = rw (settled-kept, sym (first-rounds problem rest), e); last = settled-last }

    -- the same from a first table that is the row's
    module _ {first last : List ℕ} {started : ℕ} {rest : Rest} (e : first ≡ start_of problem) (c : started ≡ pairs first)
        (s : BoundedSettled t top first last rest.kept rest.rounds) where
      from_start : BoundedSettled t top (start_of problem) last rest.kept rest.rounds
      from_start = subst (λ (xs : List ℕ). BoundedSettled t top xs last rest.kept rest.rounds) e s

      counted_start : started ≡ started_of problem
      unfolding started_of
      counted_start = c ∙ ap pairs e

      pub whole-few : rest.kept ≤ started
      whole-few = rw counted_start (settled-few from_start)

      pub whole_row : BoundedRow pattern bounds board last (counts_from started rest)
      whole_row = settled-row from_start counted_start

    pub first-ready : {first : List ℕ} → first ≡ start_of problem → BoundedReady t top first
    first-ready e = subst (λ (xs : List ℕ). BoundedReady t top xs) (sym e) start-ready

  -- ---- the all-0 rule

  abbrev occur : Bool
  occur = all_occur (length board.labels) (length pattern.labels) (last_of problem)

  pub row_fits : {last : List ℕ} {counts : Counts} → BoundedRow pattern bounds board last counts → SetsFit (length last) (length pattern.labels) last
  unfolding bounded_problem
  row_fits r = rw r.last (record { size = refl; small = (last_fits problem).small })

  answer-all : T occur → BoundedAnswer pattern bounds board (last_of problem) (counts_of_row pattern bounds board)
  unfolding bounded_problem counts_of_row bounded_counts
  answer-all s =
      let e = Of.answer-all problem s in
      record { counted = rw (Of.plain-kept problem e, Of.plain-struck problem e); last = sym e }

  abbrev cleared : Counts
  cleared = record { started = started_of problem; kept = 0; struck = started_of problem; rounds = rounds_of problem }

  answer-none : occur ≡ false → BoundedAnswer pattern bounds board (tabulate (length board.labels) (λ v. 0)) cleared
  unfolding bounded_problem bounded_counts
  answer-none e = record { counted = rw (Of.none_kept problem e, Of.none-struck problem e); last = sym (Of.answer-none problem e) }

  pub row-answer :
      {last table : List ℕ} {counts answer : Counts} → BoundedRow pattern bounds board last counts →
      Ruled (length pattern.labels) (length last) last counts table answer → BoundedAnswer pattern bounds board table answer
  unfolding all_or_none counts_where counts_of_row bounded_problem
  row-answer {table = table} {answer = answer} r w =
      let size = (last_fits problem).size in
      go occur refl (rw (r.last, size) at w.made) (rw (r.last, size, r.counted) at w.counted)
    where
      go :
          (b : Bool) → occur ≡ b → table ≡ cond b (last_of problem) (tabulate (length board.labels) (λ v. 0)) →
          answer ≡ counts_where b (counts_of_row pattern bounds board) → BoundedAnswer pattern bounds board table answer
      go true e t k = let a = answer-all (true-T e) in record { counted = k ∙ a.counted; last = t ∙ a.last }
      go false e t k = let a = answer-none e in record { counted = k ∙ a.counted; last = t ∙ a.last }

-- ---- every bound 1

-- no bound is above 1, so that the answer is that of the pattern without bounds
pub ones-answer :
    {pattern : Circuit} {bounds : List ℕ} {board : Circuit} {table : List ℕ} {counts : Counts} {top : ℕ} → Bounds pattern bounds → Top bounds top → top < 2 →
    AnsweredOn both_directions pattern board table counts → BoundedAnswer pattern bounds board table counts
ones-answer {pattern} {bounds} {board} each upto few a =
    let one : AllOne bounds = λ i h. omega (arith, each.inside.some i h, upto.each i h, few) in
    record { counted = a.counted ∙ sym (ones-counts pattern bounds board each one); last = a.last ∙ sym (ones-table pattern bounds board each one) }
