use Rattle.rows.proofs.Promises.{is-run}
use Rattle.rows.proofs.is_run.Goals as goal

pub returns : goal.returns
returns c = is-run
