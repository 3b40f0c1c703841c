-- Tests on ticks. Assumes nothing.
--
-- lately now lag t    t is of lately: not above now, and at most lag below it
-- over now until      a ticket good until then is over now
-- live now lag at     what was done at that tick is still remembered now
-- clock now to        what a side at now does when it is told the tick to
-- tick_fault          the fault of a tick that is not obeyed
use Rattle.std.specs.Prelude.{ℕ, ◌-◌, ◌^◌, Bool, cond, ◌&&◌, Some, None, Option, nat_le, nat_lt}
use Rattle.parts.specs.declared.fault.Fault.{Fault}
use Rattle.parts.specs.declared.fault.Fault.TheVariants.{OutOfRange}
use Rattle.parts.specs.declared.tick.Ticked.{Ticked}
use Rattle.parts.specs.declared.tick.Ticked.TheVariants.{Back, On, Stopped}

abbrev pub lately : (now lag t : ℕ) → Bool
lately now lag t = nat_le t now && nat_le (now - t) lag

abbrev pub over : (now until : ℕ) → Bool
over now until = nat_lt until now

abbrev pub live : (now lag at : ℕ) → Bool
live now lag at = nat_le (now - at) lag

-- ticks stay below 2^63: a later one stops a side; time does not go back
abbrev pub clock : (now to : ℕ) → Ticked
clock now to = cond (nat_le (2 ^ 63) to) Stopped (cond (nat_lt to now) Back On)

abbrev pub tick_fault : Ticked → Option Fault
tick_fault On = None
tick_fault Back = Some OutOfRange
tick_fault Stopped = Some OutOfRange
