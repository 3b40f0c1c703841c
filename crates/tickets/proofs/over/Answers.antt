use Rattle.tickets.proofs.Main.{main}
use Rattle.tickets.proofs.over.Goals as goal

pub returns : goal.returns
returns c = record { deeds = λ r es s l. (main r es s l).over; tickets = λ r es s l. (main r es s l).no_ticket }
