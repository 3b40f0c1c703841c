use Rattle.code.proofs.Houses.{house-so}
use Rattle.code.proofs.house_stands.Goals as goal

pub returns : goal.returns
returns c = house-so
