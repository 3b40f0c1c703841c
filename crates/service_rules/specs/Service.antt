-- What a service answers, and what it leaves. Assumes nothing.
--
-- View                a service as its contracts see it
-- conditions v t a d  all that can be wrong with an asking, the lowest number first
-- answered v t a d    what it answers to ticket t and asking a with digest d
-- after v t a d       what it is afterwards
-- refusal r           the fault of an answer, if it is one
-- Decides v t a d r w what is promised of a decision with answer r that leaves w
use Rattle.std.specs.Prelude.{◌≡◌, ℕ, Bool, false, not, ◌&&◌, ◌||◌, List, [], ◌∷◌, ◌++◌, length, drop, Some, None, Ok, Err, Option, Result, ◌==◌, nat_le, nat_lt}
use Rattle.parts.specs.Condition.{Lowest, first_fault, row, unless}
use Rattle.parts.specs.Drawn.{salt_of}
use Rattle.parts.specs.Tick.{lately, over}
use Rattle.parts.specs.declared.account.Entry.{Entry}
use Rattle.parts.specs.declared.condition.Condition.{Condition}
use Rattle.parts.specs.declared.fault.Fault.{Fault}
use Rattle.parts.specs.declared.fault.Fault.TheVariants.{DoneBefore, NoDrawnBytes, NoRoom, NotLately, NotNow, TicketOver, Unknown, WrongService}
use Rattle.parts.specs.declared.lock.Lock.{Lock}
use Rattle.parts.specs.declared.word.Asking.{Asking}
use Rattle.parts.specs.declared.word.Receipt.{Receipt}
use Rattle.parts.specs.declared.word.Ticket.{Ticket}
use Rattle.service_rules.specs.Memory.{live_of, recorded, stands}
use Rattle.service_rules.specs.declared.answer.Deed.{Deed}
use Rattle.service_rules.specs.declared.answer.Done.{Done}
use Rattle.service_rules.specs.declared.side.Side.{Side}

-- side: its number, lag, tick and until when it waits; kept: what it remembers; junk: what lies on its device
-- can't be read in part; writes: whether the device writes when it is told to; left: the drawn bytes that are left
pub record View : Type 0 where
  pub side : Side
  pub kept : List Entry
  pub junk : Bool
  pub writes : Bool
  pub left : List ℕ

abbrev pub view : Side → List Entry → Bool → Bool → List ℕ → View
view s es j w bs = record { side = s; kept = es; junk = j; writes = w; left = bs }

-- nobody has this number
abbrev pub nobody : ℕ → Bool
nobody n = n == 0 || nat_lt 1023 n

-- what can be wrong before anything is written
abbrev pub judged : Side → List Entry → List ℕ → Ticket → Asking → ℕ → List Condition
judged s es bs t a d =
    row Unknown (nobody t.reader)
    ∷ row NotLately (not (lately s.now s.lag a.tick))
    ∷ row TicketOver (over s.now t.until)
    ∷ row DoneBefore (stands d (live_of s.now s.lag es))
    ∷ row NoRoom (nat_le 8192 (length (live_of s.now s.lag es)))
    ∷ row WrongService (not (t.service == s.number && a.service == s.number))
    ∷ row NoDrawnBytes (nat_lt (length bs) 16)
    ∷ row NotNow (nat_lt s.now s.wake)
    ∷ []

-- last of all the device may not write
abbrev pub conditions : View → Ticket → Asking → ℕ → List Condition
conditions v t a d = judged v.side v.kept v.left t a d ++ (row NotNow (not v.writes) ∷ [])

-- what is done
abbrev pub deed_of : Ticket → Asking → Deed
deed_of t a = record { reader = t.reader; number = a.number; what = a.what; asked = a.tick; until = t.until }

-- what is sent: a receipt under the ticket's key
abbrev pub receipt_of : View → Ticket → Asking → Lock Receipt
receipt_of v t a = record { key = t.key; salt = salt_of v.left; inside = record { number = a.number } }

-- it is done, and a receipt goes out; or it is refused
abbrev pub Answer : Type 0
Answer = Result Done Fault

abbrev pub done : Deed → Lock Receipt → Answer
done d r = Ok (record { deed = d; receipt = r })

abbrev pub answered : View → Ticket → Asking → ℕ → Answer
answered v t a d = unless (first_fault (conditions v t a d)) (done (deed_of t a) (receipt_of v t a)) Err

-- what is done is remembered and what is old is forgotten; 16 drawn bytes are used; the write mends the device
abbrev pub done_by : View → ℕ → View
done_by v d = view v.side (recorded v.side.now v.side.lag d v.kept) false v.writes (drop 16 v.left)

-- a refusal changes nothing
abbrev pub after : View → Ticket → Asking → ℕ → View
after v t a d = unless (first_fault (conditions v t a d)) (done_by v d) (λ _. v)

-- the fault of a refusal
abbrev pub refusal : Answer → Option Fault
refusal (Ok x) = None
refusal (Err f) = Some f

-- what is promised of a decision: its answer, what it leaves, and that no lower fault was there
pub record Decides (v : View) (t : Ticket) (a : Asking) (d : ℕ) (r : Answer) (v' : View) : Type 0 where
  pub answer : r ≡ answered v t a d
  pub after : v' ≡ after v t a d
  pub lowest : Lowest (conditions v t a d) (refusal r)
