-- Ask 8 holds. Assumes nothing.
use Rattle.base_lists.specs.Kit.{◌∙◌, sym}
use Rattle.file_format.specs.Circuit.{circuit_of}
use Rattle.table.specs.Host.{everything}
use Rattle.table.specs.Row.{both_directions, one_way}
use Rattle.table.proofs.Answer.{along-dual, along-graph}
use Rattle.call_match.proofs.Promise as match-call
use Rattle.demands.specs.OneWay.{Ask8}
use Rattle.demands.proofs.Counts.{set_is}
use Rattle.demands.proofs.Demands.{matched-by, whole}

pub ask-8 : Ask8
ask-8 =
    record {
      along = λ ways pattern board table a b room.
          matched-by ways pattern board table a b room (set_is ways (circuit_of pattern) (circuit_of board) (everything (circuit_of board)) (whole b))
          (match-call.prefix-along ways pattern board table (match-call.accepts ways pattern board table a b room));
      two_ways = λ pattern board S m. along-dual m;
      one_ways = λ pattern board S m. along-graph m;
      refusals = λ pattern board table. match-call.verdict-is one_way pattern board table ∙ sym (match-call.verdict-is both_directions pattern board table);
      contains = match-call.contains-two-way one_way;
    }
