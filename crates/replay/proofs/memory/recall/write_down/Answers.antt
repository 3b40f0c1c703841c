use Rattle.replay.proofs.Telling.{told}
use Rattle.replay.proofs.memory.recall.write_down.Goals as goal
use Rattle.entries.specs.Bytes.{packed}
use Rattle.service_rules.specs.Memory.{recorded}
use Rattle.std.proofs.lemmas.List.{length-take-le}
use Rattle.std.proofs.Common.{is_ok, take, arith}

pub returns : goal.returns
returns g c =
    let n = c.compose-end.result in
    let x = c.compose-end.new.out in
    told c.args.halves.now (g.D.Device.blocks c.args.device.now) x (take 8 c.args.half.now)
    (packed (recorded c.args.clock.tick c.args.clock.lag c.args.digest c.args.entries.now)) n
    (is_ok c.write.result) c.write.new.self (g.D.Device.blocks c.write.new.device) c.write.new.bytes
    (length-take-le 8 c.args.half.now (omega (arith, c.requires.1)))
    c.compose-end.ensures.end (omega (arith, c.requires.1, c.compose-end.ensures.bound, c.compose-end.auto.out)) c.compose-end.ensures.out
    c.write.ensures
