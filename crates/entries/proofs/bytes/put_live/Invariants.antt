use Rattle.entries.proofs.bytes.put_live.Given as goal
use Rattle.entries.specs.Bytes.{entry_bytes}
use Rattle.service_rules.specs.Memory.{live_of}
use Rattle.std.specs.List.{flat_map}
use Rattle.std.proofs.Common.{◌≡◌, ◌+◌, ◌*◌, ◌++◌, length, take}

abbrev pub invariant-loop-entry : goal.invariant-loop-entry
invariant-loop-entry l =
    (l.at ≡ l.from + 24 * length (live_of l.clock.tick l.clock.lag (take l.entry-index l.entries)))
    × (take l.at l.out ≡ take l.from l.initial.out ++ flat_map entry_bytes (live_of l.clock.tick l.clock.lag (take l.entry-index l.entries)))
