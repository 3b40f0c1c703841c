use Rattle.std.proofs.Common.{◌≡◌, ◌*◌, length, take}
use Rattle.hash.specs.Sha256.{spread}
use Rattle.hash.proofs.message.bytes_of.Given as goal

-- the bytes of i words are written
abbrev pub invariant-loop-i : goal.invariant-loop-i
invariant-loop-i l = (length l.bytes ≡ 32) × (take (4 * l.i) l.bytes ≡ spread l.i l.words)
