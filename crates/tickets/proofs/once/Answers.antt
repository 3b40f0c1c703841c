use Rattle.tickets.proofs.Main.{main}
use Rattle.tickets.proofs.once.Goals as goal

pub returns : goal.returns
returns c = record { by_line = λ r es s l. (main r es s l).once; by_number = λ r es s l. (main r es s l).once_by_number }
