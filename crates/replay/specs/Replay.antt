-- The memory against repeating on a device. Assumes nothing. Vocabulary:
--   Told o h b p r h' b'   what is promised of a write of the payload p, by where it goes and by its answer r
--   Recorded ..            the same of the writing down of one more thing
--   Notes ..               the same, with what is remembered then
--   Moved ..               how halves and device may differ after a decision
--   Begun ..               what is promised of a start
--   latest b               the highest tick that either good half remembers
use Rattle.std.specs.Prelude.{◌≡◌, ℕ, max, Bool, false, cond, ◌⊎◌, List, length, replicate, Some, None, Option}
use Rattle.entries.specs.Bytes.{measured_of, packed, unpacked}
use Rattle.halves.specs.Blocks.{Blocks, Writes}
use Rattle.halves.specs.Half.{decoded, half}
use Rattle.halves.specs.Halves.{Starts, makes, next_of, part_of, payload_of, wrote}
use Rattle.halves.specs.declared.half.Half.{Half}
use Rattle.halves.specs.declared.halves.Good.{Good}
use Rattle.halves.specs.declared.halves.Halves.{Halves}
use Rattle.parts.specs.declared.account.Entry.{Entry}
use Rattle.service_rules.specs.Memory.{highest, recorded}

-- a payload goes to the half whose turn it is; what is known changes only if it was written
abbrev pub Told : Option Good → Halves → Blocks → List ℕ → Bool → Halves → Blocks → Type 0
Told None h b p r h' b' = (r ≡ false) × (h' ≡ h) × (b' ≡ b)
Told (Some g) h b p r h' b' = Writes g.which (half g.half.turn p) b r b' × (h' ≡ cond r (wrote h g) h)

-- one more thing is written down, with those that are not forgotten
abbrev pub Recorded : (now lag digest : ℕ) → List Entry → Halves → Blocks → Bool → Halves → Blocks → Type 0
Recorded t lag d es h b r h' b' =
    Told (next_of h (length (packed (recorded t lag d es)))) h b (packed (recorded t lag d es)) r h' b'

-- one more thing is written down, and remembered if that was told as done
pub record Notes (now lag digest : ℕ) (es : List Entry) (h : Halves) (b : Blocks) (r : Bool) (es' : List Entry) (h' : Halves) (b' : Blocks) : Type 0 where
  pub written : Recorded now lag digest es h b r h' b'
  pub kept : es' ≡ cond r (recorded now lag digest es) es

-- nothing was written, or one more thing was to be
abbrev pub Moved : List Entry → Halves → Blocks → Bool → List Entry → Halves → Blocks → Type 0
Moved es h b r es' h' b' =
    ((es' ≡ es) × (h' ≡ h) × (b' ≡ b)) ⊎ ((t : ℕ) × ((lag : ℕ) × ((d : ℕ) × Notes t lag d es h b r es' h' b')))

-- room for the turn, a payload of no entries, and room for the sum
abbrev pub nothing : List ℕ
nothing = replicate 26 0

-- a start: a new device is made with no entries, any other is read; what the newest good half has counts, and junk is told
pub record Begun (b : Blocks) (h : Halves) (b' : Blocks) (es : List Entry) (j : Bool) : Type 0 where
  pub left : List ℕ
  pub starts : Starts (makes 196610 b nothing) measured_of b nothing h b' left
  pub kept : es ≡ unpacked (payload_of h.newest b')
  pub junk : j ≡ h.junk

-- the highest tick that a good half remembers, 0 if it is junk or remembers nothing
abbrev pub latest_of : Option Half → List ℕ → ℕ
latest_of None x = 0
latest_of (Some h) x = highest (unpacked (part_of h.len x))

abbrev pub latest_in : List ℕ → ℕ
latest_in x = latest_of (decoded measured_of x) x

-- the highest tick that either good half remembers: a start at an earlier one is refused
abbrev pub latest : Blocks → ℕ
latest b = max (latest_in b.first) (latest_in b.second)
