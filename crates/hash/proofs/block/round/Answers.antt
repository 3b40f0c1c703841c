use Rattle.hash.specs.Sha256.{bsig0, bsig1, rotr}
use Rattle.hash.proofs.block.round.Goals as goal

pub returns : goal.returns
unfolding bsig0 bsig1 rotr
returns c = cc
