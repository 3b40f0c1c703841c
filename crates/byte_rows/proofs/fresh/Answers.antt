use Rattle.byte_rows.proofs.Ours.{fresh, of-ours}
use Rattle.byte_rows.proofs.fresh.Goals as goal

pub returns : goal.returns
returns c = record { every = fresh; code = of-ours fresh }
