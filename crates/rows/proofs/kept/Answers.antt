use Rattle.rows.proofs.Promises.{kept}
use Rattle.rows.proofs.kept.Goals as goal

pub returns : goal.returns
returns c = kept
