use Rattle.byte_rows.proofs.Ours.{logged-in, of-ours}
use Rattle.byte_rows.proofs.logged_in.Goals as goal

pub returns : goal.returns
returns c = record { every = logged-in; code = of-ours logged-in }
