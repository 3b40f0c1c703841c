-- The rows of specs/Faults.antt are answered as they say: by computing. Assumes nothing.
use Rattle.std.proofs.Common.{[], refl}
use Rattle.parts.specs.Condition.{first_fault}
use Rattle.rows.specs.Faults.{WorkedFaults}
use Rattle.rows.proofs.Names.{naming}

pub worked-faults : WorkedFaults
unfolding first_fault
worked-faults = record { naming = λ c. naming c.own []; answers = λ n. refl }
