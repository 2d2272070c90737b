-- `report_answer::answer_refused` meets its contract: the line of a refused file is put, where there is room for it. Assumes nothing.
use Rattle.report_answer.proofs.Outcome.{outcome-short, outcome-put}
use Rattle.report_answer.proofs.answer_refused.Goals as goal

pub returns-then-out-lt-LONGEST_REFUSAL : goal.returns-then-out-lt-LONGEST_REFUSAL
returns-then-out-lt-LONGEST_REFUSAL c = outcome-short _ _ _ c.if-out-lt-LONGEST_REFUSAL.true

pub returns : goal.returns
returns c = outcome-put _ _ _ c.if-out-lt-LONGEST_REFUSAL.false c.put_refused.ensures
