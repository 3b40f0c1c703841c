use Rattle.rows.proofs.Names.{draws-named}
use Rattle.rows.proofs.draws_named.Goals as goal

pub returns : goal.returns
returns c = draws-named
