use Rattle.cipher.specs.ChaCha20.{line, rotl}
use Rattle.cipher.proofs.core_block.quarter_round.Goals as goal

pub returns : goal.returns
unfolding line rotl
returns c = cc
