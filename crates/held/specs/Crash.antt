-- What is read again after a crash. Assumes nothing.
--
-- reread now lag c es    what is remembered, by how the write that the crash cut ended
-- rejunk c j             whether something on the device can't be read
use Rattle.std.specs.Prelude.{ℕ, Bool, true, false, cond, List, length, nat_lt}
use Rattle.parts.specs.declared.account.Entry.{Entry}
use Rattle.service_rules.specs.Memory.{live_of, recorded}
use Rattle.held.specs.declared.cut.Cut.{Cut}
use Rattle.held.specs.declared.cut.Cut.TheVariants.{Junk, New, Old}

-- is there room for one more
abbrev pub fits : (now lag : ℕ) → List Entry → Bool
fits now lag es = nat_lt (length (live_of now lag es)) 8192

-- old: as before; new: with the entry that was being written; junk: the other half, which is as before
abbrev pub reread : (now lag : ℕ) → Cut ℕ → List Entry → List Entry
reread now lag Old es = es
reread now lag (New d) es = cond (fits now lag es) (recorded now lag d es) es
reread now lag Junk es = es

-- the half that was being written is as before, or good, or junk
abbrev pub rejunk : (now lag : ℕ) → Cut ℕ → List Entry → Bool → Bool
rejunk now lag Old es j = j
rejunk now lag (New d) es j = cond (fits now lag es) false j
rejunk now lag Junk es j = true
