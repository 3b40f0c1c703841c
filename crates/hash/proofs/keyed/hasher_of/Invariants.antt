use Rattle.std.proofs.Common.{◌≡◌, ◌++◌, length, take, drop}
use Rattle.hash.specs.Hmac.{masked}
use Rattle.hash.proofs.keyed.hasher_of.Given as goal

-- the bytes so far are masked
abbrev pub invariant-loop-byte : goal.invariant-loop-byte
invariant-loop-byte l =
    (length l.byte-items ≡ 64) × (l.byte-items ≡ masked l.pad (take l.byte-index l.block) ++ drop l.byte-index l.block)
