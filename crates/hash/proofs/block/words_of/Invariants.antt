use Rattle.std.proofs.Common.{◌≡◌, length, take}
use Rattle.hash.specs.Sha256.{words}
use Rattle.hash.proofs.block.words_of.Given as goal

-- the first i words are read
abbrev pub invariant-loop-i : goal.invariant-loop-i
invariant-loop-i l = (length l.w ≡ 64) × (take l.i l.w ≡ words l.i l.block)
