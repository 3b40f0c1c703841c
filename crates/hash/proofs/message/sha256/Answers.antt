use Rattle.std.proofs.Common.{[]}
use Rattle.hash.proofs.message.sha256.Goals as goal

pub returns : goal.returns
returns c = c.finish.ensures c.args.message.now (c.update.ensures [] c.new-hasher.ensures)
