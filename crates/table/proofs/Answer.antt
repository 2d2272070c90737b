-- The whole-board call's answer, for any directions and for every pattern, connected or not: the largest set that is closed along them and in
-- which every part occurs. For both directions and a connected pattern it is the row's last set with the row's counts. Assumes nothing.
use Rattle.std.specs.Prelude.{◌≡◌, ◌↔◌, ◌≤◌, ◌<◌, ◌+◌}
use Rattle.base_lists.specs.Kit.{◌∙◌, sym, refl, iff_rfl, Bool, false, true, cond, List, map, ℕ, le_refl, T, length}
use lib.Count.{ones}
use Rattle.base_lists.specs.List.{tabulate, sum}
use Rattle.base_lists.proofs.Tests.{T_false, true-T}
use Rattle.graph.specs.Circuit.{Circuit, graph_of, circuit_graph}
use Rattle.graph.specs.Graph.{Graph, Connected}
use Rattle.simulation.specs.Closed.{Relation, ◌⊆◌}
use Rattle.simulation.specs.Simulation.{Direction, Candidate, Along, Largest, LargestGraphSimulation}
use Rattle.simulation.specs.Quotient.{LinksJoin}
use Rattle.simulation.proofs.Simulation.{connected-occurring}
use Rattle.table_row.specs.Problem.{Problem}
use Rattle.table_row.specs.Reading.{InTable, Chosen, LargestOccurring}
use Rattle.table_row.specs.Row.{start_of, started_of, last_of, rounds_of}
use Rattle.table_row.proofs.Answer as Of
use Rattle.table_row.proofs.Counting.{started-ones}
use Rattle.table_row.proofs.Meaning.{last_fits}
use Rattle.table.specs.declared.Counts.{Counts}
use Rattle.table.specs.Answer.{SetsFit, all_occur, all_or_none, answer_by, answer_table, answer_counts_by, AnsweredBy, counts_where, Ruled}
use Rattle.table.specs.Host.{everything, KindsMatch}
use Rattle.table.specs.Refine.{counts_by, counts_of, RefinedBy}
use Rattle.table.specs.Row.{both_directions, one_way, problem_by, problem_of, last_table}
use Rattle.table.proofs.Host.{everything-same}
use Rattle.table.proofs.Meaning.{last-closed}
use Rattle.table.proofs.Row.{Table, Candidates, Moves, Steps, reading-for, fewer-ways}

module _ (ways : List Direction) (pattern host : Circuit) (taken : List ℕ) where
  abbrev problem : Problem Direction
  problem = problem_by ways pattern host taken

  -- every part has a node in the row's last set
  abbrev occur : Bool
  occur = all_occur (length host.labels) (length pattern.labels) (last_of problem)

  pub answer-fits : Table pattern host (answer_by ways pattern host taken)
  unfolding problem_by
  answer-fits = Of.answer-fits problem

  row_fits : Table pattern host (last_of problem)
  unfolding problem_by
  row_fits = last_fits problem

  -- ---- the two cases

  -- the answer is the row's last set: then the counts are the row's
  answer-plain : answer_by ways pattern host taken ≡ last_of problem → AnsweredBy ways pattern host taken (last_of problem) (counts_by ways pattern host taken)
  unfolding counts_by answer_counts_by
  answer-plain e = record { counted = rw (Of.plain-kept problem e, Of.plain-struck problem e); last = sym e }

  answer-all : T occur → AnsweredBy ways pattern host taken (last_of problem) (counts_by ways pattern host taken)
  unfolding problem_by
  answer-all s = answer-plain (Of.answer-all problem s)

  -- the row's counts with none of its pairs kept
  abbrev cleared : Counts
  cleared = record { started = started_of problem; kept = 0; struck = started_of problem; rounds = rounds_of problem }

  answer-none : occur ≡ false → AnsweredBy ways pattern host taken (tabulate (length host.labels) (λ v. 0)) cleared
  unfolding problem_by answer_counts_by
  answer-none e = record { counted = rw (Of.none_kept problem e, Of.none-struck problem e); last = sym (Of.answer-none problem e) }

  -- "If some part is left without a node, the table is all 0, kept is 0, struck equals started, and rounds count as before."
  pub answer-missing :
      (u : ℕ) → u < length pattern.labels → ((v : ℕ) → InTable (last_of problem) u v → ⊥) →
      AnsweredBy ways pattern host taken (tabulate (length host.labels) (λ v. 0)) cleared
  unfolding problem_by
  answer-missing u h none = answer-none (T_false (λ s. let (v, m) = (Of.occur-iff problem row_fits).0 s u h in none v m))

  -- Else it is the row's last set, with the row's counts.
  pub answer-found :
      ((u : ℕ) → u < length pattern.labels → (v : ℕ) × InTable (last_of problem) u v) →
      AnsweredBy ways pattern host taken (last_of problem) (counts_by ways pattern host taken)
  unfolding problem_by
  answer-found found = answer-all ((Of.occur-iff problem row_fits).1 found)

  -- ---- as the rule is applied

  pub refined-fits :
      {last : List ℕ} {counts : Counts} → RefinedBy ways pattern host taken last counts → SetsFit (length last) (length pattern.labels) last
  refined-fits r = rw r.last (record { size = refl; small = row_fits.small })

  pub answered :
      {last table : List ℕ} {counts answer : Counts} → RefinedBy ways pattern host taken last counts →
      Ruled (length pattern.labels) (length last) last counts table answer → AnsweredBy ways pattern host taken table answer
  unfolding all_or_none counts_where counts_by
  answered {table = table} {answer = answer} r w =
      let size = row_fits.size in
      go occur refl (rw (r.last, size) at w.made) (rw (r.last, size, r.counted) at w.counted)
    where
      go :
          (b : Bool) → occur ≡ b → table ≡ cond b (last_of problem) (tabulate (length host.labels) (λ v. 0)) →
          answer ≡ counts_where b (counts_by ways pattern host taken) → AnsweredBy ways pattern host taken table answer
      go true e t k = let a = answer-all (true-T e) in record { counted = k ∙ a.counted; last = t ∙ a.last }
      go false e t k = let a = answer-none e in record { counted = k ∙ a.counted; last = t ∙ a.last }

-- ---- what it means

-- the parts of a pattern's graph
parts-iff : (pattern : Circuit) (u : ℕ) → (circuit_graph pattern).Node u ↔ (u < length pattern.labels)
unfolding circuit_graph graph_of
parts-iff pattern u = iff_rfl

module _ (ways : List Direction) (pattern host : Circuit) (taken : List ℕ) (most : length pattern.labels ≤ 32) where
  abbrev problem' : Problem Direction
  problem' = problem_by ways pattern host taken

  -- The table is the largest set that is closed along the directions chosen and in which every part occurs, unless it is empty.
  pub answer-along :
      LargestOccurring (circuit_graph pattern).Node (Candidates pattern host taken) (Chosen ways (Steps pattern)) (Moves host taken)
      (InTable (answer_by ways pattern host taken))
  unfolding problem_by
  answer-along = Of.answer-largest problem' most (reading-for ways pattern host taken) (parts-iff pattern)

  -- "started = kept + struck, and rounds are at most struck"; "kept is the number of one bits in the whole table"
  pub answer-sum : started_of problem' ≡ (answer_counts_by ways pattern host taken).kept + (answer_counts_by ways pattern host taken).struck
  unfolding problem_by answer_counts_by
  answer-sum = Of.answer-sum problem' most

  pub answer-rounds : rounds_of problem' ≤ (answer_counts_by ways pattern host taken).struck
  unfolding problem_by answer_counts_by
  answer-rounds = Of.answer-rounds problem' most

  pub answer-ones : (answer_counts_by ways pattern host taken).kept ≡ sum (map ones (answer_by ways pattern host taken))
  unfolding problem_by answer_counts_by
  answer-ones = Of.answer-ones problem' most

  -- "started, the pairs of R0", by one bits
  pub answer-started : started_of problem' ≡ sum (map ones (start_of problem'))
  unfolding problem_by
  answer-started = started-ones problem' most

-- on the whole board
pub board-along :
    (ways : List Direction) (pattern board : Circuit) → length pattern.labels ≤ 32 → LinksJoin (circuit_graph board) →
    LargestOccurring (circuit_graph pattern).Node (Candidate (circuit_graph pattern) (KindsMatch pattern board) (circuit_graph board))
    (Chosen ways (Steps pattern)) (Along (circuit_graph board).Link) (InTable (answer_by ways pattern board (everything board)))
board-along ways pattern board most j = Of.occurring-same (everything-same board j) (answer-along ways pattern board (everything board) most)

-- ---- what both ways and one way have for largest

-- Along both ways that is the largest dual simulation, whether the pattern is connected or not;
pub along-dual :
    {P : Graph} {Agree : Relation} {H : Graph} {S : Relation} →
    LargestOccurring P.Node (Candidate P Agree H) (Chosen both_directions (Along P.Link)) (Along H.Link) S → Largest P Agree H S
along-dual = Of.occurring-dual

-- along forward links alone it is the largest graph simulation.
pub along-graph :
    {P : Graph} {Agree : Relation} {H : Graph} {S : Relation} →
    LargestOccurring P.Node (Candidate P Agree H) (Chosen one_way (Along P.Link)) (Along H.Link) S → LargestGraphSimulation P Agree H S
along-graph = Of.occurring-graph

module _ (pattern host : Circuit) (taken : List ℕ) (most : length pattern.labels ≤ 32) where
  -- "Connected patterns get the table and counts they always got."
  pub answer-connected :
      Connected (circuit_graph pattern) → AnsweredBy both_directions pattern host taken (last_table pattern host taken) (counts_of pattern host taken)
  unfolding problem_by circuit_graph graph_of
  answer-connected connected =
      answer-plain both_directions pattern host taken
      (Of.answer-occurring (problem_of pattern host taken) (connected-occurring {P = circuit_graph pattern} connected (last-closed pattern host taken most).closed))

  -- "Its table contains the two-way table for each pattern and board": along fewer ways the answer has no fewer pairs.
  pub answer-fewer : (ways : List Direction) → InTable (answer_table pattern host taken) ⊆ InTable (answer_by ways pattern host taken)
  unfolding problem_by
  answer-fewer ways = Of.answer-wider (fewer-ways pattern host taken ways) most (le_refl _)
