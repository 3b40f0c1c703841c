-- What stands in a device in memory. Assumes nothing. Vocabulary:
--   seen m    its two blocks
use Rattle.halves.specs.Blocks.{Blocks}
use Rattle.memory_device.specs.declared.device.MemoryDevice.{MemoryDevice}
use Rattle.std.specs.Prelude.{vec_items}

-- its two blocks
abbrev pub seen : MemoryDevice → Blocks
seen m = record { first = vec_items m.first; second = vec_items m.second }
