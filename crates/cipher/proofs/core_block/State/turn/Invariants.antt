use Rattle.std.proofs.Common.{◌≡◌, ◌*◌, ◌++◌, take, drop}
use lib.Bits.{bit_xor}
use lib.Lanes.{zip2}
use Rattle.cipher.specs.ChaCha20.{later, stream}
use Rattle.cipher.proofs.core_block.State.turn.Given as goal

-- the first n blocks are turned, and the state is that of the next
abbrev pub invariant-loop-n : goal.invariant-loop-n
invariant-loop-n l =
    (l.self.words ≡ later l.n l.initial.self.words)
    × (l.bytes
    ≡ zip2 bit_xor (take (64 * l.n) l.initial.bytes) (stream l.n l.initial.self.words) ++ drop (64 * l.n) l.initial.bytes)
