-- Drawn bytes held by value. Assumes nothing.
--
-- unused s          the bytes that are left
-- Adds bs ms r cs   what is promised of an adding of ms to bs, with its answer and what is left then
use Rattle.std.specs.Prelude.{◌≡◌, ℕ, ◌+◌, ◌<◌, ◌≤◌, List, ◌++◌, length, drop, Ok, Err, vec_items, Result}
use Rattle.held.specs.declared.supply.NotAdded.{NotAdded}
use Rattle.held.specs.declared.supply.NotAdded.TheVariants.{NoMemory, TooMany}
use Rattle.held.specs.declared.supply.Supply.{Supply}

abbrev pub unused : Supply → List ℕ
unused s = drop s.used (vec_items s.bytes)

-- at most 1,048,576 are held; where they are not added nothing changes
abbrev pub Adds : List ℕ → List ℕ → Result (Unit {0}) NotAdded → List ℕ → Type 0
Adds bs ms (Ok u) cs = (cs ≡ bs ++ ms) × (length bs + length ms ≤ 1048576)
Adds bs ms (Err TooMany) cs = (cs ≡ bs) × (1048576 < length bs + length ms)
Adds bs ms (Err NoMemory) cs = (cs ≡ bs) × (length bs + length ms ≤ 1048576)
