-- Recordings, ticks and crashes in any order. Assumes that junk has no sum that fits (Left), and that time does not go
-- back (the clauses `on`). Vocabulary:
--   State              a side's memory, what stands on its device, its tick, and until when it waits
--   Left m w bs b r c  what a write that was not told as done left: the old, the new, or what has no sum that fits
--   Records, Ticks, Falls   the three things that happen, by what the contracts promise
--   Run lag done s     a side that came to s, and for which the things in `done` were told as recorded
--   In e es            an entry is among others
--   Remembered         what was told as recorded is refused, or the side waits
use Rattle.std.specs.Prelude.{◌≡◌, ℕ, ◌+◌, ◌<◌, ◌≤◌, Bool, true, false, cond, ◌⊎◌, List, [], ◌∷◌, length, Some, None, Option}
use Rattle.entries.specs.Bytes.{Fits, measured_of, packed}
use Rattle.halves.specs.Blocks.{Blocks}
use Rattle.halves.specs.Half.{Measure, half, payload_in}
use Rattle.halves.specs.Halves.{Starts, makes, next_of}
use Rattle.halves.specs.Laws.{Cut, Junks, cut_by}
use Rattle.halves.specs.declared.halves.Good.{Good}
use Rattle.halves.specs.declared.halves.Halves.{Halves}
use Rattle.halves.specs.declared.which.Which.{Which}
use Rattle.halves.specs.declared.which.Which.TheVariants.{Second}
use Rattle.parts.specs.Tick.{lately}
use Rattle.parts.specs.declared.account.Entry.{Entry}
use Rattle.replay.specs.Replay.{Begun, Recorded, nothing}
use Rattle.service_rules.specs.Memory.{live_of, recorded, stands}
use Rattle.std.specs.List.{AllByRecursion}

-- what is known of the halves, what stands on the device, what is remembered, the tick, and until when it waits
pub record State : Type 0 where
  pub halves : Halves
  pub blocks : Blocks
  pub kept : List Entry
  pub now : ℕ
  pub wake : ℕ

-- what a write that was not told as done left
abbrev pub Left : Measure → Which → List ℕ → Blocks → Bool → Blocks → Type 0
Left m w bs b true b' = Unit {0}
Left m w bs b false b' = (c : Cut) × (Junks m c × (b' ≡ cut_by w bs c b))

abbrev pub LeftAt : Option Good → List ℕ → Blocks → Bool → Blocks → Type 0
LeftAt None p b r b' = Unit {0}
LeftAt (Some g) p b r b' = Left measured_of g.which (half g.half.turn p) b r b'

-- the same of the second half of a new device
abbrev pub LeftMaking : (v : Bool) (b : Blocks) (h : Halves) (b' : Blocks) (x' : List ℕ) → Starts v measured_of b nothing h b' x' → Type 0
LeftMaking true b h b' x' m = Left measured_of Second (half 2 (payload_in nothing)) m.between m.two b'
LeftMaking false b h b' x' m = Unit {0}

-- a thing is recorded, or is not since the device does not write: the side is awake and has room
pub record Records (lag : ℕ) (s : State) (d : ℕ) (r : Bool) (s' : State) : Type 0 where
  pub awake : s.wake ≤ s.now
  pub room : length (live_of s.now lag s.kept) < 8192
  pub fits : AllByRecursion Fits (recorded s.now lag d s.kept)
  pub written : Recorded s.now lag d s.kept s.halves s.blocks r s'.halves s'.blocks
  pub left : LeftAt (next_of s.halves (length (packed (recorded s.now lag d s.kept)))) (packed (recorded s.now lag d s.kept)) s.blocks r s'.blocks
  pub is : s' ≡ record { halves = s'.halves; blocks = s'.blocks; kept = cond r (recorded s.now lag d s.kept) s.kept; now = s.now; wake = s.wake }

-- it is told a tick
pub record Ticks (s : State) (to : ℕ) (s' : State) : Type 0 where
  pub on : s.now ≤ to
  pub is : s' ≡ record { halves = s.halves; blocks = s.blocks; kept = s.kept; now = to; wake = s.wake }

-- it starts at a tick with what stands on a device
pub record Starting (lag : ℕ) (b : Blocks) (at : ℕ) (s' : State) : Type 0 where
  pub junk : Bool
  pub begun : Begun b s'.halves s'.blocks s'.kept junk
  pub left : LeftMaking (makes 196610 b nothing) b s'.halves s'.blocks begun.left begun.starts
  pub is : s' ≡ record { halves = s'.halves; blocks = s'.blocks; kept = s'.kept; now = at; wake = cond junk (at + lag + 1) 0 }

-- it crashes, and starts again
pub record Falls (lag : ℕ) (s : State) (at : ℕ) (s' : State) : Type 0 where
  pub on : s.now ≤ at
  pub starts : Starting lag s.blocks at s'

-- any number of these, from a first start on
pub data Run (lag : ℕ) : List Entry → State → Type 0 where
  first : {s : State} (b : Blocks) (at : ℕ) → Starting lag b at s → Run lag [] s
  did : {done : List Entry} {s s' : State} (d : ℕ) → Run lag done s → Records lag s d true s' → Run lag (record { digest = d; tick = s.now } ∷ done) s'
  did_not : {done : List Entry} {s s' : State} (d : ℕ) → Run lag done s → Records lag s d false s' → Run lag done s'
  ticked : {done : List Entry} {s s' : State} (to : ℕ) → Run lag done s → Ticks s to s' → Run lag done s'
  fell : {done : List Entry} {s s' : State} (at : ℕ) → Run lag done s → Falls lag s at s' → Run lag done s'

-- an entry is among others
abbrev pub In : Entry → List Entry → Type 0
In e [] = ⊥
In e (x ∷ xs) = (x ≡ e) ⊎ In e xs

-- what was told as recorded stands among what is not forgotten, or the side waits, at each tick at which an asking of
-- no later than its doing is of lately
abbrev pub Remembered : Type 0
Remembered =
    (lag : ℕ) (done : List Entry) (s : State) → Run lag done s
    → (e : Entry) → In e done → (asked : ℕ) → asked ≤ e.tick → lately s.now lag asked ≡ true
    → (stands e.digest (live_of s.now lag s.kept) ≡ true) ⊎ (s.now < s.wake)
