use Rattle.std.proofs.Common.{◌*◌}
use Rattle.hash.specs.Sha256.{words}
use Rattle.hash.proofs.Rounds.{Made}
use Rattle.hash.proofs.block.schedule_of.Given as goal

-- four times t words are made
abbrev pub invariant-loop-t : goal.invariant-loop-t
invariant-loop-t l = Made (4 * l.t) (words 16 l.block) l.w
