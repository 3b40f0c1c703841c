use Rattle.tickets.proofs.Main.{main}
use Rattle.tickets.proofs.main_promise.Goals as goal

pub returns : goal.returns
returns c = main
