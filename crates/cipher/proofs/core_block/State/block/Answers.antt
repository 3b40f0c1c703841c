use Rattle.std.proofs.Common.{ap, ◌∙◌}
use Rattle.cipher.specs.ChaCha20.{block, serialized}
use Rattle.cipher.proofs.core_block.State.block.Goals as goal

pub returns : goal.returns
unfolding block
returns c = c.bytes_of.ensures ∙ ap (serialized 16 c.args.self.now.words) c.worked.ensures
