-- Starting, and going on in time. Assumes nothing.
--
-- begun n lag tick es j      a side that starts at a tick with what is remembered; junk makes it wait
-- started n lag tick es j    a service, whose number is somebody's
-- on_tick s to               a side that was told a tick
-- waiting s                  it does nothing now
-- clock_of s                 the tick now, and how far back a tick is of lately
use Rattle.std.specs.Prelude.{ℕ, ◌+◌, ◌^◌, Bool, cond, ◌||◌, List, Ok, Err, Result, nat_le, nat_lt}
use Rattle.parts.specs.Tick.{clock}
use Rattle.parts.specs.declared.account.Entry.{Entry}
use Rattle.parts.specs.declared.fault.Fault.{Fault}
use Rattle.parts.specs.declared.fault.Fault.TheVariants.{OutOfRange}
use Rattle.parts.specs.declared.tick.Clock.{Clock}
use Rattle.parts.specs.declared.tick.Ticked.{Ticked}
use Rattle.parts.specs.declared.tick.Ticked.TheVariants.{Back, On, Stopped}
use Rattle.service_rules.specs.Memory.{highest}
use Rattle.service_rules.specs.Service.{nobody}
use Rattle.service_rules.specs.declared.side.Side.{Side}

-- settings out of range, or time that went back behind what is remembered
abbrev pub unfit : (lag tick : ℕ) → List Entry → Bool
unfit lag tick es = nat_lt 600 lag || (nat_le (2 ^ 63) tick || nat_lt tick (highest es))

-- junk: it waits at the ticks from tick to tick + lag
abbrev pub begun : (number lag tick : ℕ) → List Entry → Bool → Result Side Fault
begun n lag tick es junk =
    cond (unfit lag tick es) (Err OutOfRange) (Ok (record { number = n; lag = lag; now = tick; wake = cond junk (tick + lag + 1) 0 }))

abbrev pub started : (number lag tick : ℕ) → List Entry → Bool → Result Side Fault
started n lag tick es junk = cond (nobody n) (Err OutOfRange) (begun n lag tick es junk)

abbrev pub set_tick : Side → ℕ → Ticked → Side
set_tick s to On = record { number = s.number; lag = s.lag; now = to; wake = s.wake }
set_tick s to Back = s
set_tick s to Stopped = s

abbrev pub on_tick : Side → ℕ → Side
on_tick s to = set_tick s to (clock s.now to)

-- the tick now, and how far back a tick is of lately
abbrev pub clock_of : Side → Clock
clock_of s = record { tick = s.now; lag = s.lag }

abbrev pub waiting : Side → Bool
waiting s = nat_lt s.now s.wake
