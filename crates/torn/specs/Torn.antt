-- A memory whose next write can be cut. Assumes nothing.
--
-- entries t, is_junk t  what is remembered, and whether something on the device can't be read
-- works t               the device writes: it was not told otherwise, and no write was cut since the last start
-- last_cut c            how the last write was cut
-- Restarts now lag t t' what is read again after a crash
use Rattle.std.specs.Prelude.{◌≡◌, ℕ, Bool, not, ◌&&◌, List, is_some, Some, None, vec_items, Option}
use Rattle.held.specs.Crash.{rejunk, reread}
use Rattle.held.specs.declared.cut.Cut.{Cut}
use Rattle.held.specs.declared.cut.Cut.TheVariants.{Old}
use Rattle.held.specs.declared.memory.Held.{Held}
use Rattle.parts.specs.declared.account.Entry.{Entry}
use Rattle.torn.specs.declared.device.Device.{Device}

-- a memory, whose writes are of digests
abbrev pub Torn : Type 0
Torn = Device Held ℕ

abbrev pub entries : Torn → List Entry
entries t = vec_items t.held.entries

abbrev pub is_junk : Torn → Bool
is_junk t = t.held.junk

abbrev pub works : Torn → Bool
works t = (t.held.writes && t.writes) && not (is_some t.cut)

-- how the last write was cut; one that was not leaves all as it was
abbrev pub last_cut : Option (Cut ℕ) → Cut ℕ
last_cut None = Old
last_cut (Some c) = c

-- what is read again, by how the last write was cut; it is cut no more
pub record Restarts (now lag : ℕ) (t t' : Torn) : Type 0 where
  pub kept : entries t' ≡ reread now lag (last_cut t.cut) (entries t)
  pub junk : is_junk t' ≡ rejunk now lag (last_cut t.cut) (entries t) (is_junk t)
  pub cut : t'.cut ≡ None
  pub next : t'.next ≡ t.next
  pub writes : t'.writes ≡ t.writes
  pub held : t'.held.writes ≡ t.held.writes
