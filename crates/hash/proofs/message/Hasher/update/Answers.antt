use Rattle.std.proofs.Common.{arith, rules}
use Rattle.hash.proofs.Parts.{holds-short, holds-long}
use Rattle.hash.proofs.message.Hasher.update.Goals as goal

pub returns-then-bytes-filled : goal.returns-then-bytes-filled
returns-then-bytes-filled c m h =
    holds-short c.args.self.now m c.args.bytes.now c.put.new.buffer
    (search rules) h (omega arith) c.put.ensures

pub returns : goal.returns
returns c m h =
    holds-long c.args.self.now m c.args.bytes.now _ _ c.put-2.new.buffer c.compress.new.state _
    c.absorb.new.state _ c.put-3.new.buffer
    (search rules) h (omega arith) c.split_at.ensures.front c.split_at.ensures.back
    c.put-2.ensures c.compress.ensures c.as_chunks.ensures.front c.absorb.ensures c.as_chunks.ensures.back c.put-3.ensures
