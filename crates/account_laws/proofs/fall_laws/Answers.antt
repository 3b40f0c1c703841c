use Rattle.account_laws.proofs.Falls.{again, answering, falling, happening, rising, staying}
use Rattle.account_laws.proofs.fall_laws.Goals as goal

pub returns : goal.returns
returns c = record { rising = rising; staying = staying; answering = answering; starting = again; happening = happening; falling = falling }
