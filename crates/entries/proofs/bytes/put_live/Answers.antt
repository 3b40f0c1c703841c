use Rattle.entries.proofs.Packing.{room-one}
use Rattle.entries.proofs.bytes.put_live.Goals as goal
use Rattle.std.proofs.Common.{rules, sym, ◌∙◌, arith}

pub put_entry-requires : goal.put_entry-requires
put_entry-requires c =
    let room = room-one c.args.clock.tick c.args.clock.lag c.loop-entry.entry-index c.args.entries.now c.loop-entry-test.true (sym c.is_live.ensures ∙ c.if-is_live.true) in
    omega (arith, room, c.loop-entry.invariant.0, c.requires, c.loop-entry.auto.out)

pub overflow_add-at : goal.overflow_add-at
overflow_add-at c =
    let room = room-one c.args.clock.tick c.args.clock.lag c.loop-entry.entry-index c.args.entries.now c.loop-entry-test.true (sym c.is_live.ensures ∙ c.if-is_live.true) in
    search rules
