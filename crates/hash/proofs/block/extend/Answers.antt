use Rattle.hash.specs.Sha256.{ssig0, ssig1, rotr}
use Rattle.hash.proofs.block.extend.Goals as goal

pub returns : goal.returns
unfolding ssig0 ssig1 rotr
returns c = cc
