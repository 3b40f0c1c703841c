use Rattle.std.proofs.Common.{◌≡◌, ◌++◌, map, take, drop}
use Rattle.words.specs.Text.{pair_octet}
use Rattle.words.proofs.put_octets.Given as goal

abbrev pub invariant-loop-i : goal.invariant-loop-i
invariant-loop-i l = l.out ≡ map pair_octet (take l.i l.pairs) ++ drop l.i l.initial.out
