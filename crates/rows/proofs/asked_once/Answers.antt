use Rattle.rows.proofs.Promises.{asked-once}
use Rattle.rows.proofs.asked_once.Goals as goal

pub returns : goal.returns
returns c = asked-once
