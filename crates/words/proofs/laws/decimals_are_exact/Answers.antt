use Rattle.words.proofs.Exact.{read_back, exact-decimal}
use Rattle.words.proofs.laws.decimals_are_exact.Goals as goal

pub returns : goal.returns
returns c = record { back = read_back; exact = exact-decimal }
