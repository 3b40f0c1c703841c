use Rattle.std.proofs.Common.{◌≡◌, ◌*◌, length, take}
use Rattle.cipher.specs.ChaCha20.{serialized}
use Rattle.cipher.proofs.core_block.bytes_of.Given as goal

-- the bytes of i words are written
abbrev pub invariant-loop-i : goal.invariant-loop-i
invariant-loop-i l = (length l.bytes ≡ 64) × (take (4 * l.i) l.bytes ≡ serialized l.i l.s l.w)
