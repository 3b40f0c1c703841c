use Rattle.rows.proofs.FaultsRow.{worked-faults}
use Rattle.rows.proofs.worked_faults.Goals as goal

pub returns : goal.returns
returns c = worked-faults
