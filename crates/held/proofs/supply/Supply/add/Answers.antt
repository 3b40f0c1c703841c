use Rattle.held.proofs.supply.Supply.add.Goals as goal
use Rattle.std.proofs.lemmas.List.{take_rest}
use Rattle.std.proofs.Common.{rules}

pub returns : goal.returns
returns c = search (rules, take_rest)
