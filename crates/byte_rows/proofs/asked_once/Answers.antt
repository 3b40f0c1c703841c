use Rattle.byte_rows.proofs.Ours.{asked-once, of-ours}
use Rattle.byte_rows.proofs.asked_once.Goals as goal

pub returns : goal.returns
returns c = record { every = asked-once; code = of-ours asked-once }
