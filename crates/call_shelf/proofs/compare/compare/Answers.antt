-- `call_shelf::compare::compare` meets its contract, by the verdicts of the two files. Assumes nothing.
use Rattle.call_shelf.proofs.CompareAnswer.{judged-accepted, judged-refused, first-refused, second-refused, both-accepted}
use Rattle.call_shelf.proofs.compare.compare.Goals as goal

pub returns-in-Err : goal.returns-in-Err
returns-in-Err c = first-refused _ _ (judged-refused _ _ c.judge.ensures c.in-Err.is)

pub returns-in-Err-judge : goal.returns-in-Err-judge
returns-in-Err-judge c =
    second-refused _ _ (judged-accepted _ _ c.judge.ensures c.in_default.is) (judged-refused _ _ c.judge-2.ensures c.in-Err-judge.is)

pub returns : goal.returns
returns c =
    both-accepted _ _ (judged-accepted _ _ c.judge.ensures c.in_default.is) (judged-accepted _ _ c.judge-2.ensures c.in_default-judge.is)
    c.compare_fields.ensures
