use Rattle.tickets.proofs.Main.{main}
use Rattle.tickets.proofs.granted.Goals as goal

pub returns : goal.returns
returns c = record { deeds = λ r es s l. (main r es s l).granted; given = λ r es s l. (main r es s l).house_gave; tickets = λ r es s l. (main r es s l).ticket_asked }
