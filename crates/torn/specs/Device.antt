-- A device whose next write can be cut. Assumes nothing.
--
-- cut_of left w    what a cut leaves of the write w
-- is_working d     the device was not told that it does not write, and no write was cut since the last start
-- cut_by d w       how the last write was cut, when w was tried
-- next_by d        how the next write is to be cut, when one was tried
use Rattle.std.specs.Prelude.{Bool, cond, not, ◌&&◌, is_some, Some, None, Option}
use Rattle.held.specs.declared.cut.Cut.{Cut}
use Rattle.held.specs.declared.cut.Cut.TheVariants.{Junk, New, Old}
use Rattle.torn.specs.declared.device.Device.{Device}

abbrev pub cut_of : {A : Type 0} → Cut (Unit {0}) → A → Cut A
cut_of Old a = Old
cut_of (New u) a = New a
cut_of Junk a = Junk

abbrev pub is_working : {H A : Type 0} → Device H A → Bool
is_working d = d.writes && not (is_some d.cut)

-- nothing is cut where no cut is ahead
abbrev pub cut_ahead : {A : Type 0} → Option (Cut (Unit {0})) → A → Option (Cut A)
cut_ahead None a = None
cut_ahead (Some left) a = Some (cut_of left a)

-- a device that does not write cuts nothing
abbrev pub cut_by : {H A : Type 0} → Device H A → A → Option (Cut A)
cut_by d a = cond (is_working d) (cut_ahead d.next a) d.cut

-- one write is cut
abbrev pub next_by : {H A : Type 0} → Device H A → Option (Cut (Unit {0}))
next_by d = cond (is_working d) None d.next
