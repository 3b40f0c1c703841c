use Rattle.script.proofs.Order.{faults-change-nothing, stays-orderly, time-goes-on, towns-are-orderly}
use Rattle.script.proofs.laws.towns_are_orderly.Goals as goal

pub returns : goal.returns
returns c = record { scripts = towns-are-orderly; lines = stays-orderly; refusals = faults-change-nothing; time = time-goes-on }
