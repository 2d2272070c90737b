-- The circuits of document 01's examples, and what is opened where their tables are computed.
use Rattle.std.specs.Prelude.{◌∷◌}
use Rattle.base_lists.specs.Kit.{[]}
use Rattle.base_lists.specs.List.{all, any, all_below, any_below, tabulate, sum}
use Rattle.base_lists.specs.Below.{count_below}
use Rattle.base_bits.specs.Bits.{bit, number_of, size_of}
use Rattle.file_format.specs.Label.{kind_in, package_in}
use Rattle.graph.specs.Circuit.{Circuit}
use Rattle.graph.specs.Neighbours.{select}
use Rattle.graph.specs.Search.{inside}
use Rattle.table_row.specs.Row.{in_table, table_of, pairs, same, start_of, answered, every, supported, strike_of, row_from, row_of, started_of, last_of, kept_of, struck_of, rounds_of}
use Rattle.table_row.specs.Answer.{all_occur, all_or_none, answer_of, answer_kept, answer_struck}
use Rattle.table.specs.Answer.{answer_counts_by}
use Rattle.table.specs.Host.{everything}
use Rattle.table.specs.Row.{kinds_agree, agrees, neighbours, problem_by}

-- `unfolding row_computed` opens the row, the last table and the counts
unfoldable pub row_computed : Unit {0}
unfolding all any tabulate sum count_below bit number_of size_of select inside everything in_table table_of pairs same start_of answered every supported strike_of row_from row_of started_of last_of kept_of struck_of rounds_of kind_in package_in kinds_agree agrees neighbours problem_by
row_computed = tt

-- `unfolding answer_computed` opens the whole-board call's answer beside them
unfoldable pub answer_computed : Unit {0}
unfolding all_below any_below all_occur all_or_none answer_of answer_kept answer_struck answer_counts_by
answer_computed = tt

-- "T: 0:10, 1:20, 2:30, links 0-1, 1-2."
unfoldable pub circuit_t : Circuit
circuit_t = record { labels = 10 ∷ 20 ∷ 30 ∷ []; starts = 0 ∷ 1 ∷ []; ends = 1 ∷ 2 ∷ [] }

-- "B: 0:10, 1:20, 2:30, 3:20, 4:30, 5:10, links 0-1, 1-2, 3-4."
unfoldable pub circuit_b : Circuit
circuit_b = record { labels = 10 ∷ 20 ∷ 30 ∷ 20 ∷ 30 ∷ 10 ∷ []; starts = 0 ∷ 1 ∷ 3 ∷ []; ends = 1 ∷ 2 ∷ 4 ∷ [] }

-- E5: "Pattern 0:10, 1:20, links 0-1, 1-0"
unfoldable pub two_way : Circuit
two_way = record { labels = 10 ∷ 20 ∷ []; starts = 0 ∷ 1 ∷ []; ends = 1 ∷ 0 ∷ [] }

-- E5: "the ring 0:10, 1:20, 2:10, 3:20, links 0-1, 1-2, 2-3, 3-0"
unfoldable pub ring : Circuit
ring = record { labels = 10 ∷ 20 ∷ 10 ∷ 20 ∷ []; starts = 0 ∷ 1 ∷ 2 ∷ 3 ∷ []; ends = 1 ∷ 2 ∷ 3 ∷ 0 ∷ [] }

-- any part that drives one of kind 20; as a board: a node that is not identified and drives one of kind 20
unfoldable pub any_to20 : Circuit
any_to20 = record { labels = 0 ∷ 20 ∷ []; starts = 0 ∷ []; ends = 1 ∷ [] }

-- T and a copy of it with other kinds, as one pattern of six parts: a pattern in two bits
unfoldable pub two_t : Circuit
two_t = record { labels = 10 ∷ 20 ∷ 30 ∷ 40 ∷ 50 ∷ 60 ∷ []; starts = 0 ∷ 1 ∷ 3 ∷ 4 ∷ []; ends = 1 ∷ 2 ∷ 4 ∷ 5 ∷ [] }

-- B and a copy of T with those kinds: a board that has both bits
unfoldable pub both_bits : Circuit
both_bits =
    record {
      labels = 10 ∷ 20 ∷ 30 ∷ 20 ∷ 30 ∷ 10 ∷ 40 ∷ 50 ∷ 60 ∷ [];
      starts = 0 ∷ 1 ∷ 3 ∷ 6 ∷ 7 ∷ [];
      ends = 1 ∷ 2 ∷ 4 ∷ 7 ∷ 8 ∷ [];
    }

-- B and two parts of the copy, with the link between them: a board that has the first bit only
unfoldable pub one_bit : Circuit
one_bit =
    record { labels = 10 ∷ 20 ∷ 30 ∷ 20 ∷ 30 ∷ 10 ∷ 40 ∷ 50 ∷ []; starts = 0 ∷ 1 ∷ 3 ∷ 6 ∷ []; ends = 1 ∷ 2 ∷ 4 ∷ 7 ∷ [] }

-- T and a part of another kind, without links
unfoldable pub lone_t : Circuit
lone_t = record { labels = 10 ∷ 20 ∷ 30 ∷ 70 ∷ []; starts = 0 ∷ 1 ∷ []; ends = 1 ∷ 2 ∷ [] }

-- the last two of T's parts, with the link between them: a board on which nothing drives the first
unfoldable pub tail_t : Circuit
tail_t = record { labels = 20 ∷ 30 ∷ []; starts = 0 ∷ []; ends = 1 ∷ [] }
