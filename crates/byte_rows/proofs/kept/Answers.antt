use Rattle.byte_rows.proofs.Ours.{kept, of-ours}
use Rattle.byte_rows.proofs.kept.Goals as goal

pub returns : goal.returns
returns c = record { every = kept; code = of-ours kept }
