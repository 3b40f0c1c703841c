use Rattle.rows.proofs.Promises.{fresh, logged-in}
use Rattle.rows.proofs.fresh.Goals as goal

pub returns : goal.returns
returns c = record { logins = logged-in; letters = fresh }
