use Rattle.judge.proofs.Meant.{meaning}
use Rattle.judge.proofs.Rows.{none-unasked}
use Rattle.judge.proofs.Settled.{settled}
use Rattle.judge.proofs.settles.Goals as goal

pub returns : goal.returns
returns c = record { settled = settled; meaning = meaning; none_unasked = none-unasked }
