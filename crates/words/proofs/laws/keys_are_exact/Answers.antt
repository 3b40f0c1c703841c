use Rattle.words.proofs.Pairs.{keys-back, keys-exact}
use Rattle.words.proofs.laws.keys_are_exact.Goals as goal

pub returns : goal.returns
returns c = record { back = keys-back; exact = keys-exact }
