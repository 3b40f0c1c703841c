use Rattle.falls.proofs.Steps.{remembered}
use Rattle.falls.proofs.remembers.Goals as goal

pub returns : goal.returns
returns c = remembered
