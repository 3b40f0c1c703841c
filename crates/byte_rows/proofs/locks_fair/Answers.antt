use Rattle.byte_rows.proofs.Ours.{ours-fair, ours-opens}
use Rattle.byte_rows.proofs.locks_fair.Goals as goal

pub returns : goal.returns
returns c = record { fair = ours-fair; opens = ours-opens }
