use Rattle.std.proofs.Common.{◌≡◌}
use Rattle.cipher.specs.ChaCha20.{rounds}
use Rattle.cipher.proofs.core_block.worked.Given as goal

-- so many double rounds are done
abbrev pub invariant-loop-round : goal.invariant-loop-round
invariant-loop-round l = l.w ≡ rounds l._round l.s
