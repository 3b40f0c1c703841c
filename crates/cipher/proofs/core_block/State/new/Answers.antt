use Rattle.cipher.specs.ChaCha20.{setup}
use Rattle.cipher.proofs.core_block.State.new.Goals as goal

pub returns : goal.returns
unfolding setup
returns c = cc
