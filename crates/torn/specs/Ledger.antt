-- Accounts whose next write can be cut. Assumes nothing.
--
-- listed_in r      the accounts, by their numbers
-- works_for r      the device writes: it was not told otherwise, and no write was cut since the last start
-- reread c xs      what is read again, by how the last write was cut
-- Reads r r'       what a start reads again
use Rattle.std.specs.Prelude.{◌≡◌, Bool, cond, not, ◌&&◌, List, is_some, Some, None, Option, nat_lt, slice_set}
use Rattle.held.specs.declared.cut.Cut.{Cut}
use Rattle.held.specs.declared.cut.Cut.TheVariants.{Junk, New, Old}
use Rattle.held.specs.declared.register.Register.{Register}
use Rattle.parts.specs.declared.account.Account.{Account}
use Rattle.torn.specs.declared.device.Device.{Device}
use Rattle.torn.specs.declared.ledger.Change.{Change}

-- accounts, whose writes are changes
abbrev pub Ledger : Type 0
Ledger = Device Register Change

abbrev pub listed_in : Ledger → List Account
listed_in r = r.held.accounts

abbrev pub works_for : Ledger → Bool
works_for r = (r.held.writes && r.writes) && not (is_some r.cut)

-- what was written stands, or it never was; a device that does not write has nothing to cut
abbrev pub reread : Bool → Option (Cut Change) → List Account → List Account
reread w None xs = xs
reread w (Some Old) xs = xs
reread w (Some (New c)) xs = cond (nat_lt c.number 1024 && w) (slice_set xs c.number c.account) xs
reread w (Some Junk) xs = xs

pub record Reads (r r' : Ledger) : Type 0 where
  pub listed : listed_in r' ≡ reread r.held.writes r.cut (listed_in r)
  pub cut : r'.cut ≡ None
  pub next : r'.next ≡ r.next
  pub writes : r'.writes ≡ r.writes
  pub held : r'.held.writes ≡ r.held.writes
