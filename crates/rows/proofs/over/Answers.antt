use Rattle.rows.proofs.Promises.{over}
use Rattle.rows.proofs.over.Goals as goal

pub returns : goal.returns
returns c = over
