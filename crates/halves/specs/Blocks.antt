-- The two blocks of a device. Assumes nothing. Vocabulary:
--   Blocks             what stands in the two blocks
--   block w b          the bytes of one of them
--   other w            the other one
--   put w x b          the blocks with x in the place of one of them
--   over bs x          bytes written at the front of what stood there
--   Writes w bs b r c  what is promised of a write, by its answer
use Rattle.std.specs.Prelude.{◌≡◌, ℕ, Bool, true, false, List, ◌++◌, length, drop}
use Rattle.halves.specs.declared.which.Which.{Which}
use Rattle.halves.specs.declared.which.Which.TheVariants.{First, Second}

-- what stands in the two blocks
pub record Blocks : Type 0 where
  pub first : List ℕ
  pub second : List ℕ

-- the bytes of one of them
abbrev pub block : Which → Blocks → List ℕ
block First b = b.first
block Second b = b.second

-- the other one
abbrev pub other : Which → Which
other First = Second
other Second = First

-- the blocks with x in the place of one of them
abbrev pub put : Which → List ℕ → Blocks → Blocks
put First x b = record { first = x; second = b.second }
put Second x b = record { first = b.first; second = x }

-- bytes at the front of what stood there: what stands behind them stays
abbrev pub over : List ℕ → List ℕ → List ℕ
over bs x = bs ++ drop (length bs) x

-- a write that is told as done stands at the front of its block; one that is not may have left anything there, and
-- in either case the other block is as it was
abbrev pub Writes : Which → List ℕ → Blocks → Bool → Blocks → Type 0
Writes w bs b true c = c ≡ put w (over bs (block w b)) b
Writes w bs b false c = block (other w) c ≡ block (other w) b
