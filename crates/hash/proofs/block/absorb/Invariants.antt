use Rattle.std.proofs.Common.{◌≡◌, take}
use Rattle.std.specs.List.{fold}
use Rattle.hash.specs.Sha256.{compressed}
use Rattle.hash.proofs.block.absorb.Given as goal

-- the blocks so far are taken in
abbrev pub invariant-loop-block : goal.invariant-loop-block
invariant-loop-block l = l.state ≡ fold compressed l.initial.state (take l.block-index l.blocks)
