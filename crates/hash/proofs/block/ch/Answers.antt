use Rattle.std.proofs.Common.{refl}
use Rattle.hash.specs.Sha256.{ch}
use Rattle.hash.proofs.block.ch.Goals as goal

pub returns : goal.returns
unfolding ch
returns c = refl
