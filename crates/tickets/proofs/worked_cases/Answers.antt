use Rattle.tickets.proofs.Cases.{worked-cases}
use Rattle.tickets.proofs.worked_cases.Goals as goal

pub returns : goal.returns
returns c = worked-cases
