use Rattle.judge.proofs.Promised.{meant, was-asked}
use Rattle.judge.proofs.Rows.{never-unasked}
use Rattle.judge.proofs.Spent.{lines-once}
use Rattle.judge.proofs.judge.Goals as goal
use Rattle.rows.proofs.Promises.{asked-once}

pub returns : goal.returns
returns c =
    record {
      answer = c.judge.ensures.answer;
      after = c.judge.ensures.after;
      meant = meant _ _ _ c.judge.ensures.answer;
      asked = was-asked _ _ _ c.judge.ensures.answer;
      lines_once = lines-once;
      asked_once = asked-once;
      never_unasked = never-unasked;
    }
