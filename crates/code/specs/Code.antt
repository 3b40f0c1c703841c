-- What the code must be, to be the system of the model: what it answers and sends at each event, and what it leaves.
-- Assumes nothing.
--
-- MayDo, MayLogIn, MayGrant  all that has to hold for a deed, a login, an asking of the house
-- Service, ServiceSo         what a service has, and what has to hold of it
-- House, HouseSo             what the house has, and what has to hold of it
use Rattle.std.specs.Prelude.{◌≡◌, ℕ, ◌+◌, ◌<◌, ◌≤◌, Bool, true, false, ◌&&◌, ◌||◌, List, length, drop, Some, None, Ok, Err, ◌≢◌, nat_eq, nat_lt}
use Rattle.house_rules.specs.Account.{account_of, closed, own_key, unknown}
use Rattle.house_rules.specs.Change.{Answer as Changing}
use Rattle.house_rules.specs.Give.{Reply, giving}
use Rattle.house_rules.specs.House.{refusal as denial, wanted}
use Rattle.house_rules.specs.declared.change.Changed.TheVariants.{Done}
use Rattle.parts.specs.Condition.{Lowest}
use Rattle.parts.specs.Drawn.{salt_of}
use Rattle.parts.specs.Tick.{lately, over}
use Rattle.parts.specs.declared.account.Account.{Account}
use Rattle.parts.specs.declared.account.Entry.{Entry}
use Rattle.parts.specs.declared.condition.Condition.{Condition}
use Rattle.parts.specs.declared.fault.Fault.{Fault}
use Rattle.parts.specs.declared.word.Asking.{Asking}
use Rattle.parts.specs.declared.word.Key.{Key}
use Rattle.parts.specs.declared.word.Login.{Login}
use Rattle.parts.specs.declared.word.Ticket.{Ticket}
use Rattle.service_rules.specs.Memory.{live_of, recorded, stands}
use Rattle.service_rules.specs.Service.{Answer, deed_of, done, nobody, refusal}
use Rattle.service_rules.specs.Side.{unfit}

-- the memory and the device let it be remembered: it is new, there is room, nobody waits, and the device writes
pub record Free (lag now : ℕ) (waits writes : Bool) (es : List Entry) (d : ℕ) : Type 0 where
  pub new : stands d (live_of now lag es) ≡ false
  pub room : length (live_of now lag es) < 8192
  pub awake : waits ≡ false
  pub writing : writes ≡ true

-- a service does what is asked
pub record MayDo (lag number now : ℕ) (waits writes : Bool) (es : List Entry) (bs : List ℕ) (t : Ticket) (a : Asking) (d : ℕ) : Type 0 where
  pub reader : nobody t.reader ≡ false
  pub recent : lately now lag a.tick ≡ true
  pub good : over now t.until ≡ false
  pub ticket : t.service ≡ number
  pub asking : a.service ≡ number
  pub drawn : 16 ≤ length bs
  pub free : Free lag now waits writes es d

-- the house lets a reader in
pub record MayLogIn (lag now : ℕ) (waits : Bool) (xs : List Account) (bs : List ℕ) (a : ℕ) (l : Login) : Type 0 where
  pub known : unknown xs a ≡ false
  pub open' : closed xs a ≡ false
  pub recent : lately now lag l.tick ≡ true
  pub drawn : 64 ≤ length bs
  pub awake : waits ≡ false

-- the house gives a ticket for a service
pub record MayGrant (lag now : ℕ) (waits writes : Bool) (xs : List Account) (es : List Entry) (bs : List ℕ) (t : Ticket) (q : Asking) (d : ℕ) : Type 0 where
  pub known : unknown xs t.reader ≡ false
  pub open' : closed xs t.reader ≡ false
  pub recent : lately now lag q.tick ≡ true
  pub good : over now t.until ≡ false
  pub ticket : t.service ≡ 0
  pub asking : q.service ≡ 0
  pub read : q.what.len ≡ 2
  pub other : nat_eq (wanted q) 0 ≡ false
  pub there : unknown xs (wanted q) ≡ false
  pub drawn : 64 ≤ length bs
  pub free : Free lag now waits writes es d

-- The device and the drawn bytes are told apart; a refusal has a fault, the lowest; what is sent is in the answer.
-- writes: whether the device writes at that moment. falls: it falls and starts at a tick; junk: the fall left junk.
pub record Service : Type 1 where
  pub State : Type 0
  pub now : State → ℕ
  pub kept : State → List Entry
  pub left : State → List ℕ
  pub spoiled : State → Bool
  pub waits : (at : ℕ) → State → Bool
  pub table : (writes : Bool) → Ticket → Asking → (digest : ℕ) → State → List Condition
  pub answer : (writes : Bool) → Ticket → Asking → (digest : ℕ) → State → Answer
  pub after : (writes : Bool) → Ticket → Asking → (digest : ℕ) → State → State
  pub falls : (junk : Bool) → (at : ℕ) → State → State

-- what has to hold of it
pub record ServiceSo (lag number : ℕ) (o : Service) : Type 0 where
  -- where all of it holds it is done, and the receipt goes out under the ticket's key
  pub does_so : (w : Bool) (t : Ticket) (a : Asking) (d : ℕ) (s : o.State) → MayDo lag number (o.now s) (o.waits (o.now s) s) w (o.kept s) (o.left s) t a d →
      o.answer w t a d s ≡ done (deed_of t a) (record { key = t.key; salt = salt_of (o.left s); inside = record { number = a.number } })
  -- and only there
  pub only_so : (w : Bool) (t : Ticket) (a : Asking) (d : ℕ) (s : o.State) → refusal (o.answer w t a d s) ≡ None →
      MayDo lag number (o.now s) (o.waits (o.now s) s) w (o.kept s) (o.left s) t a d
  -- of what is wrong the lowest number is told
  pub lowest_so : (w : Bool) (t : Ticket) (a : Asking) (d : ℕ) (s : o.State) → Lowest (o.table w t a d s) (refusal (o.answer w t a d s))
  -- what is done is remembered, what is old is forgotten, 16 drawn bytes are used, and nothing else changes
  pub after_so : (w : Bool) (t : Ticket) (a : Asking) (d : ℕ) (s : o.State) → refusal (o.answer w t a d s) ≡ None →
      (o.kept (o.after w t a d s) ≡ recorded (o.now s) lag d (o.kept s)) × (o.left (o.after w t a d s) ≡ drop 16 (o.left s))
      × (o.now (o.after w t a d s) ≡ o.now s) × ((at : ℕ) → o.waits at (o.after w t a d s) ≡ o.waits at s)
  -- a refused one changes nothing
  pub refused_so : (w : Bool) (t : Ticket) (a : Asking) (d : ℕ) (f : Fault) (s : o.State) → refusal (o.answer w t a d s) ≡ Some f → o.after w t a d s ≡ s
  -- a fall keeps what was written whole; it waits for lag + 1 ticks if something is junk, and only then
  pub falls_so : (junk : Bool) (at : ℕ) (s : o.State) → nobody number ≡ false → unfit lag at (o.kept s) ≡ false →
      (o.kept (o.falls junk at s) ≡ o.kept s) × (o.now (o.falls junk at s) ≡ at)
      × ((later : ℕ) → o.waits later (o.falls junk at s) ≡ ((junk || o.spoiled s) && nat_lt later (at + lag + 1)))

-- the house: lets and let_in at a login, answer and after at an asking, closes and closes_to at a closing
pub record House : Type 1 where
  pub State : Type 0
  pub now : State → ℕ
  pub accounts : State → List Account
  pub kept : State → List Entry
  pub left : State → List ℕ
  pub waits : State → Bool
  pub lets : ℕ → Login → State → Reply
  pub let_in : ℕ → Login → State → State
  pub answer : (writes : Bool) → Ticket → Asking → (digest : ℕ) → State → Reply
  pub after : (writes : Bool) → Ticket → Asking → (digest : ℕ) → State → State
  pub closes : (writes : Bool) → ℕ → State → Changing
  pub closes_to : (writes : Bool) → ℕ → State → State

-- what has to hold of it
pub record HouseSo (lag life : ℕ) (own : Key) (o : House) : Type 0 where
  -- a ticket for the house under its own key, a letter under the reader's, until one life from now
  pub lets_so : (a : ℕ) (l : Login) (s : o.State) → MayLogIn lag (o.now s) (o.waits s) (o.accounts s) (o.left s) a l →
      o.lets a l s ≡ giving (o.now s + life) (o.left s) (record { service = 0; reader = a; number = l.number; asked = l.tick; own = own; under = own_key (o.accounts s) a })
  pub lets_only : (a : ℕ) (l : Login) (s : o.State) → denial (o.lets a l s) ≡ None → MayLogIn lag (o.now s) (o.waits s) (o.accounts s) (o.left s) a l
  -- a login is not remembered: 64 drawn bytes are used, and nothing else changes
  pub let_in_so : (a : ℕ) (l : Login) (s : o.State) → denial (o.lets a l s) ≡ None →
      (o.left (o.let_in a l s) ≡ drop 64 (o.left s)) × (o.kept (o.let_in a l s) ≡ o.kept s) × (o.accounts (o.let_in a l s) ≡ o.accounts s)
  pub let_in_not : (a : ℕ) (l : Login) (f : Fault) (s : o.State) → denial (o.lets a l s) ≡ Some f → o.let_in a l s ≡ s
  -- a ticket for the service under its own key, a letter under the ticket's
  pub grants_so : (w : Bool) (t : Ticket) (q : Asking) (d : ℕ) (s : o.State) → MayGrant lag (o.now s) (o.waits s) w (o.accounts s) (o.kept s) (o.left s) t q d →
      o.answer w t q d s ≡ giving (o.now s + life) (o.left s) (record { service = wanted q; reader = t.reader; number = q.number; asked = q.tick; own = own_key (o.accounts s) (wanted q); under = t.key })
  pub grants_only : (w : Bool) (t : Ticket) (q : Asking) (d : ℕ) (s : o.State) → denial (o.answer w t q d s) ≡ None → MayGrant lag (o.now s) (o.waits s) w (o.accounts s) (o.kept s) (o.left s) t q d
  -- what is granted is remembered, what is old is forgotten, and 64 drawn bytes are used
  pub after_so : (w : Bool) (t : Ticket) (q : Asking) (d : ℕ) (s : o.State) → MayGrant lag (o.now s) (o.waits s) w (o.accounts s) (o.kept s) (o.left s) t q d →
      (o.kept (o.after w t q d s) ≡ recorded (o.now s) lag d (o.kept s)) × (o.left (o.after w t q d s) ≡ drop 64 (o.left s)) × (o.accounts (o.after w t q d s) ≡ o.accounts s)
  pub refused_so : (w : Bool) (t : Ticket) (q : Asking) (d : ℕ) (f : Fault) (s : o.State) → denial (o.answer w t q d s) ≡ Some f → o.after w t q d s ≡ s
  -- a closing can fail, and then nothing changes
  pub closes_not : (w : Bool) (a : ℕ) (f : Fault) (s : o.State) → o.closes w a s ≡ Err f → o.closes_to w a s ≡ s
  -- one that is answered leaves the account closed, and no other account changes
  pub closes_so : (w : Bool) (a : ℕ) (s : o.State) → a < length (o.accounts s) → o.closes w a s ≡ Ok Done → closed (o.accounts (o.closes_to w a s)) a ≡ true
  pub others_so : (w : Bool) (a b : ℕ) (s : o.State) → (b ≢ a) → account_of (o.accounts (o.closes_to w a s)) b ≡ account_of (o.accounts s) b
