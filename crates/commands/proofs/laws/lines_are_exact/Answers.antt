use Rattle.commands.proofs.Written.{lines-are-exact}
use Rattle.commands.proofs.laws.lines_are_exact.Goals as goal

pub returns : goal.returns
returns c = lines-are-exact
