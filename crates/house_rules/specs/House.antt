-- What the house answers to logins and askings, and what it leaves. Assumes nothing.
--
-- Home                    the house as its contracts see it
-- login_conditions h a l  all that can be wrong with a login of a, the lowest number first
-- logged_in h a l         what it answers to it; login_after: what it is afterwards
-- wanted q                the service that an asking for the house names
-- conditions h t q d      all that can be wrong with an asking that was read
-- answered h t q d        what the house answers to ticket t and asking q with digest d
-- after h t q d           what it is afterwards
-- LogsIn, Decides         what is promised of a decision on a login, on an asking
-- refusal r               the fault of an answer, if it is one
use Rattle.std.specs.Prelude.{◌≡◌, ℕ, ◌+◌, ◌*◌, Bool, true, false, cond, not, ◌&&◌, ◌||◌, List, [], ◌∷◌, ◌++◌, length, drop, Some, None, Ok, Err, Option, ◌==◌, nat_le, nat_lt, slice_index}
use Rattle.house_rules.specs.Account.{closed, own_key, unknown}
use Rattle.house_rules.specs.Give.{Reply, giving}
use Rattle.house_rules.specs.declared.give.Given.{Given}
use Rattle.house_rules.specs.declared.house.House.{House}
use Rattle.parts.specs.Condition.{Lowest, first_fault, row, unless}
use Rattle.parts.specs.Tick.{lately, over}
use Rattle.parts.specs.declared.account.Account.{Account}
use Rattle.parts.specs.declared.account.Entry.{Entry}
use Rattle.parts.specs.declared.condition.Condition.{Condition}
use Rattle.parts.specs.declared.fault.Fault.{Fault}
use Rattle.parts.specs.declared.fault.Fault.TheVariants.{AccountClosed, BadInside, DoneBefore, NoDrawnBytes, NoRoom, NotLately, NotNow, TicketOver, Unknown, WrongService}
use Rattle.parts.specs.declared.word.Asking.{Asking}
use Rattle.parts.specs.declared.word.Key.{Key}
use Rattle.parts.specs.declared.word.Login.{Login}
use Rattle.parts.specs.declared.word.Ticket.{Ticket}
use Rattle.service_rules.specs.Memory.{live_of, recorded, stands}
use Rattle.service_rules.specs.Side.{waiting}
use Rattle.service_rules.specs.declared.side.Side.{Side}

-- side: its lag, tick and until when it waits; life: how long a ticket is good; key: its own key; accounts; then as
-- a service: what it remembers, whether that is junk in part, whether its device writes, the drawn bytes left
pub record Home : Type 0 where
  pub side : Side
  pub life : ℕ
  pub key : Key
  pub accounts : List Account
  pub kept : List Entry
  pub junk : Bool
  pub writes : Bool
  pub left : List ℕ

abbrev pub home : House → List Account → List Entry → Bool → Bool → List ℕ → Home
home h xs es j w bs =
    record { side = h.side; life = h.life; key = h.key; accounts = xs; kept = es; junk = j; writes = w; left = bs }

-- until when a ticket given now is good
abbrev pub until_of : Home → ℕ
until_of h = h.side.now + h.life

-- what can be wrong with a login
abbrev pub login_judged : Side → List Account → List ℕ → ℕ → Login → List Condition
login_judged s xs bs a l =
    row Unknown (unknown xs a)
    ∷ row AccountClosed (closed xs a)
    ∷ row NotLately (not (lately s.now s.lag l.tick))
    ∷ row NoDrawnBytes (nat_lt (length bs) 64)
    ∷ row NotNow (waiting s)
    ∷ []

abbrev pub login_conditions : Home → ℕ → Login → List Condition
login_conditions h a l = login_judged h.side h.accounts h.left a l

-- a ticket for the house itself, under its own key, and a letter under the reader's own key
abbrev pub login_given : Home → ℕ → Login → Given
login_given h a l = record {
  service = 0;
  reader = a;
  number = l.number;
  asked = l.tick;
  own = h.key;
  under = own_key h.accounts a;
}

abbrev pub logged_in : Home → ℕ → Login → Reply
logged_in h a l =
    unless (first_fault (login_conditions h a l)) (giving (until_of h) h.left (login_given h a l)) Err

-- the drawn bytes of a grant are used
abbrev pub drew : Home → Home
drew h = record {
  side = h.side;
  life = h.life;
  key = h.key;
  accounts = h.accounts;
  kept = h.kept;
  junk = h.junk;
  writes = h.writes;
  left = drop 64 h.left;
}

-- what is done is remembered, and what is old is forgotten; the write mends the device
abbrev pub noted : Home → ℕ → Home
noted h d = record {
  side = h.side;
  life = h.life;
  key = h.key;
  accounts = h.accounts;
  kept = recorded h.side.now h.side.lag d h.kept;
  junk = false;
  writes = h.writes;
  left = h.left;
}

-- a login is not remembered
abbrev pub login_after : Home → ℕ → Login → Home
login_after h a l = unless (first_fault (login_conditions h a l)) (drew h) (λ _. h)

-- the asking is for the house
abbrev pub for_house : Asking → Bool
for_house q = q.service == 0

-- the service's number in an asking for the house
abbrev pub wanted : Asking → ℕ
wanted q = slice_index q.what.bytes 0 * 256 + slice_index q.what.bytes 1

-- what is asked is read only if the asking is for the house
abbrev pub readable : Asking → Bool
readable q = not (for_house q) || q.what.len == 2

-- the service asked for isn't there
abbrev pub missing : List Account → Asking → Bool
missing xs q = for_house q && (not (wanted q == 0) && unknown xs (wanted q))

-- the asking is for somebody else, or for the house as a service
abbrev pub misled : Asking → Bool
misled q = not (for_house q) || wanted q == 0

-- what can be wrong before anything is written
abbrev pub judged : Side → List Account → List Entry → List ℕ → Ticket → Asking → ℕ → List Condition
judged s xs es bs t q d =
    row Unknown (unknown xs t.reader || missing xs q)
    ∷ row AccountClosed (closed xs t.reader)
    ∷ row NotLately (not (lately s.now s.lag q.tick))
    ∷ row TicketOver (over s.now t.until)
    ∷ row DoneBefore (stands d (live_of s.now s.lag es))
    ∷ row NoRoom (nat_le 8192 (length (live_of s.now s.lag es)))
    ∷ row WrongService (not (t.service == 0) || misled q)
    ∷ row NoDrawnBytes (nat_lt (length bs) 64)
    ∷ row NotNow (waiting s)
    ∷ []

-- last of all the device may not write
abbrev pub conditions : Home → Ticket → Asking → ℕ → List Condition
conditions h t q d = judged h.side h.accounts h.kept h.left t q d ++ (row NotNow (not h.writes) ∷ [])

-- a ticket under the service's own key, and a letter under the ticket's key
abbrev pub asked_given : Home → Ticket → Asking → Given
asked_given h t q = record {
  service = wanted q;
  reader = t.reader;
  number = q.number;
  asked = q.tick;
  own = own_key h.accounts (wanted q);
  under = t.key;
}

abbrev pub granted : Home → Ticket → Asking → Reply
granted h t q = giving (until_of h) h.left (asked_given h t q)

-- an asking that can't be read is refused before its conditions are looked at
abbrev pub answered : Home → Ticket → Asking → ℕ → Reply
answered h t q d = cond (readable q) (unless (first_fault (conditions h t q d)) (granted h t q) Err) (Err BadInside)

abbrev pub after : Home → Ticket → Asking → ℕ → Home
after h t q d = cond (readable q) (unless (first_fault (conditions h t q d)) (drew (noted h d)) (λ _. h)) h

abbrev pub refusal : Reply → Option Fault
refusal (Ok x) = None
refusal (Err f) = Some f

-- what is promised of a decision: its answer, what it leaves, and that no lower fault was there
pub record LogsIn (h : Home) (a : ℕ) (l : Login) (r : Reply) (h' : Home) : Type 0 where
  pub answer : r ≡ logged_in h a l
  pub after : h' ≡ login_after h a l
  pub lowest : Lowest (login_conditions h a l) (refusal r)

pub record Decides (h : Home) (t : Ticket) (q : Asking) (d : ℕ) (r : Reply) (h' : Home) : Type 0 where
  pub answer : r ≡ answered h t q d
  pub after : h' ≡ after h t q d
  pub lowest : readable q ≡ true → Lowest (conditions h t q d) (refusal r)
