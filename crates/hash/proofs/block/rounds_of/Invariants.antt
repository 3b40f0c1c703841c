use Rattle.std.proofs.Common.{◌≡◌, ◌*◌, length}
use Rattle.hash.specs.Sha256.{rounds}
use Rattle.hash.proofs.block.rounds_of.Given as goal

-- eight rounds are done for each pair so far
abbrev pub invariant-loop-k : goal.invariant-loop-k
invariant-loop-k l = l.s ≡ rounds (8 * length l.yielded) l.w l.state
