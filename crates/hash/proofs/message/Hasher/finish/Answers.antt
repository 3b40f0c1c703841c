use Rattle.hash.proofs.Parts.{padded-is, finished}
use Rattle.hash.proofs.message.Hasher.finish.Goals as goal

pub returns : goal.returns
returns c m h =
    finished c.update-2.new.self m _ c.bytes_of.result
    (c.update-2.ensures _ (c.update.ensures m h))
    (padded-is c.args.self.total m c.to_be_bytes-bits.result h.long c.to_be_bytes-bits.ensures)
    c.bytes_of.ensures
