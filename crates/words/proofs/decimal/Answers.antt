use Rattle.std.proofs.Common.{arith, rules}
use Rattle.std.proofs.lemmas.Bool.Decides.{nat_tests}
use Rattle.words.specs.Text.{decimal_of}
use Rattle.words.proofs.decimal.Goals as goal

pub returns-in_default : goal.returns-in_default
unfolding decimal_of
returns-in_default c = search rules

pub returns-in-empty : goal.returns-in-empty
unfolding decimal_of
returns-in-empty c = search rules

pub returns-in-empty-2 : goal.returns-in-empty-2
unfolding decimal_of
returns-in-empty-2 c = grind (arith, nat_tests)
