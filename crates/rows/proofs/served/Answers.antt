use Rattle.rows.proofs.ServedRow.{served}
use Rattle.rows.proofs.served.Goals as goal

pub returns : goal.returns
returns c = served
