use Rattle.replay.proofs.memory.ReplayMemory.start.Goals as goal
use Rattle.entries.specs.Bytes.{unpacked}
use Rattle.std.proofs.Common.{refl, ap, ◌∙◌}

pub returns : goal.returns
returns g c = record {
  left = c.start-halves.new.bytes;
  starts = c.start-halves.ensures;
  kept = c.load.ensures.entries ∙ ap unpacked c.payload.ensures;
  junk = refl;
}
