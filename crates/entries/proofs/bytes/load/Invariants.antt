use Rattle.entries.proofs.bytes.load.Given as goal
use Rattle.entries.specs.Bytes.{entry_of}
use Rattle.std.proofs.Common.{◌≡◌, ◌≤◌, map, take, vec_items, vec_len, vec_capacity}

abbrev pub invariant-loop-bytes : goal.invariant-loop-bytes
invariant-loop-bytes l =
    (vec_items l.entries ≡ map entry_of (take l.bytes-index l.bytes-items))
    × (vec_len l.entries ≡ l.bytes-index)
    × (8192 ≤ vec_capacity l.entries)
