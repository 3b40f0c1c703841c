use Rattle.play.proofs.say.then_numbers.Given as goal
use Rattle.play.specs.Say.{then_numbers}
use Rattle.printed.specs.Printed.{shown}
use Rattle.std.proofs.Common.{◌≡◌, drop}

abbrev pub invariant-loop-n : goal.invariant-loop-n
invariant-loop-n l = then_numbers (shown l.out) (drop l.n-index l.ns) ≡ then_numbers (shown l.initial.out) l.ns
