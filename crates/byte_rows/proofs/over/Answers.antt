use Rattle.byte_rows.proofs.Ours.{over, of-ours}
use Rattle.byte_rows.proofs.over.Goals as goal

pub returns : goal.returns
returns c = record { every = over; code = of-ours over }
