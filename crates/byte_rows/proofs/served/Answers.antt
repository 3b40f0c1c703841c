use Rattle.byte_rows.proofs.Ours.{served, served-ours}
use Rattle.byte_rows.proofs.served.Goals as goal

pub returns : goal.returns
returns c = record { every = served; code = served-ours }
