use Rattle.tickets.proofs.Main.{main}
use Rattle.tickets.proofs.asked_for.Goals as goal

pub returns : goal.returns
returns c = λ r es s l. (main r es s l).asked-for
