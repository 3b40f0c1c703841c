use Rattle.halves.proofs.Finding.{failing, recovering, starting, telling, writing}
use Rattle.halves.proofs.law.laws.Goals as goal

pub returns : goal.returns
returns c = record { starting = starting; telling = telling; writing = writing; failing = failing; recovering = recovering }
