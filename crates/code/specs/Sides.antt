-- The decisions as the records of what the code must be. Assumes nothing.
--
-- Kept, kept_view      a service without its device; the view of it that the contracts have
-- KeptHome, home_view  the house likewise
-- ServiceStands        the definitions that the contracts of a service name are such a service
-- HouseStands          and those of the house such a house
use Rattle.std.specs.Prelude.{ℕ, Bool, false, ◌||◌, List, Ok, Err, Result, nat_lt}
use Rattle.code.specs.Code.{House, HouseSo, Service, ServiceSo}
use Rattle.house_rules.specs.Change.{shut, shut_after}
use Rattle.house_rules.specs.House.{Home, after as granted, answered as grants, logged_in, login_after}
use Rattle.parts.specs.declared.account.Account.{Account}
use Rattle.parts.specs.declared.account.Entry.{Entry}
use Rattle.parts.specs.declared.fault.Fault.{Fault}
use Rattle.parts.specs.declared.word.Key.{Key}
use Rattle.service_rules.specs.Service.{View, after, answered, conditions, view}
use Rattle.service_rules.specs.Side.{started}
use Rattle.service_rules.specs.declared.side.Side.{Side}

-- a service: its tick and until when it waits, what it remembers, junk, drawn bytes left
pub record Kept : Type 0 where
  pub now : ℕ
  pub wake : ℕ
  pub kept : List Entry
  pub junk : Bool
  pub left : List ℕ

abbrev pub side_of : (lag number : ℕ) → Kept → Side
side_of lag n s = record { number = n; lag = lag; now = s.now; wake = s.wake }

abbrev pub kept_view : (lag number : ℕ) → Bool → Kept → View
kept_view lag n w s = view (side_of lag n s) s.kept s.junk w s.left

abbrev pub kept_of : View → Kept
kept_of v = record { now = v.side.now; wake = v.side.wake; kept = v.kept; junk = v.junk; left = v.left }

-- a fall is a start, with what is read again
abbrev pub refit : Kept → Bool → Result Side Fault → Kept
refit s junk (Ok x) = record { now = x.now; wake = x.wake; kept = s.kept; junk = junk; left = s.left }
refit s junk (Err f) = s

abbrev pub fallen : (lag number : ℕ) → Bool → ℕ → Kept → Kept
fallen lag n junk at s = refit s (junk || s.junk) (started n lag at s.kept (junk || s.junk))

-- a service, by the definitions that its contracts name
abbrev pub service : (lag number : ℕ) → Service
service lag n = record {
  State = Kept;
  now = λ s. s.now;
  kept = λ s. s.kept;
  left = λ s. s.left;
  spoiled = λ s. s.junk;
  waits = λ at s. nat_lt at s.wake;
  table = λ w t a d s. conditions (kept_view lag n w s) t a d;
  answer = λ w t a d s. answered (kept_view lag n w s) t a d;
  after = λ w t a d s. kept_of (after (kept_view lag n w s) t a d);
  falls = λ junk at s. fallen lag n junk at s;
}

abbrev pub ServiceStands : Type 0
ServiceStands = (lag n : ℕ) → ServiceSo lag n (service lag n)

-- the house likewise, with its accounts
pub record KeptHome : Type 0 where
  pub now : ℕ
  pub wake : ℕ
  pub accounts : List Account
  pub kept : List Entry
  pub junk : Bool
  pub left : List ℕ

abbrev pub home_view : (lag life : ℕ) → Key → Bool → KeptHome → Home
home_view lag life k w s = record {
  side = record { number = 0; lag = lag; now = s.now; wake = s.wake };
  life = life;
  key = k;
  accounts = s.accounts;
  kept = s.kept;
  junk = s.junk;
  writes = w;
  left = s.left;
}

abbrev pub home_of : Home → KeptHome
home_of h = record { now = h.side.now; wake = h.side.wake; accounts = h.accounts; kept = h.kept; junk = h.junk; left = h.left }

abbrev pub with_accounts : List Account → KeptHome → KeptHome
with_accounts xs s = record { now = s.now; wake = s.wake; accounts = xs; kept = s.kept; junk = s.junk; left = s.left }

-- the house, by the definitions that its contracts name; a login needs no device
abbrev pub house : (lag life : ℕ) → Key → House
house lag life k = record {
  State = KeptHome;
  now = λ s. s.now;
  accounts = λ s. s.accounts;
  kept = λ s. s.kept;
  left = λ s. s.left;
  waits = λ s. nat_lt s.now s.wake;
  lets = λ a l s. logged_in (home_view lag life k false s) a l;
  let_in = λ a l s. home_of (login_after (home_view lag life k false s) a l);
  answer = λ w t q d s. grants (home_view lag life k w s) t q d;
  after = λ w t q d s. home_of (granted (home_view lag life k w s) t q d);
  closes = λ w a s. shut s.accounts a w;
  closes_to = λ w a s. with_accounts (shut_after s.accounts a w) s;
}

abbrev pub HouseStands : Type 0
HouseStands = (lag life : ℕ) (k : Key) → HouseSo lag life k (house lag life k)
