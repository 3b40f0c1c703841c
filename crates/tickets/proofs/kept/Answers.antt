use Rattle.tickets.proofs.Main.{main}
use Rattle.tickets.proofs.kept.Goals as goal

pub returns : goal.returns
returns c = record { session_keys = λ r es s l. (main r es s l).kept; own_keys = λ r es s l. (main r es s l).own_kept }
