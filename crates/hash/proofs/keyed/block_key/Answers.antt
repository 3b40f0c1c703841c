use Rattle.std.proofs.Common.{length, ◌∙◌, le-ltb}
use Rattle.hash.proofs.Keys.{filled_is, block_key-short}
use Rattle.hash.proofs.keyed.block_key.Goals as goal

pub returns-else-key-gt64 : goal.returns-else-key-gt64
returns-else-key-gt64 c =
    c.put-else-key-gt64.ensures ∙ filled_is c.args.key.now
    ∙ block_key-short c.args.key.now (le-ltb 64 (length c.args.key.now) c.if-key-gt64.false)
