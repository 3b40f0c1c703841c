use Rattle.std.proofs.Common.{refl}
use Rattle.hash.specs.Sha256.{maj}
use Rattle.hash.proofs.block.maj.Goals as goal

pub returns : goal.returns
unfolding maj
returns c = refl
