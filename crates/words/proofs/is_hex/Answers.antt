use Rattle.std.proofs.Common.{rules}
use Rattle.words.proofs.Scan.{hex-cases}
use Rattle.words.proofs.is_hex.Goals as goal

pub returns-then-eq : goal.returns-then-eq
returns-then-eq c = search (rules, hex-cases)

pub returns-else-eq : goal.returns-else-eq
returns-else-eq c = search (rules, hex-cases)
