-- What is promised of a word that the house heard. Assumes nothing.
--
-- ReadAs x r        what the code read, r, is what the word is, x; or there was no memory
-- event_of x a      what stands in the book of an answer a to what was read: a login, a grant or the fault, and no key
-- Tells l e a h     h notes the event e, and sends the answer a
-- Hears l h w r h'  the house h heard w: what it noted and sent, and what it is then
-- ticked h to       the house h that was told a tick
use Rattle.std.specs.Prelude.{◌≡◌, ℕ, Ok, Err, Result}
use Rattle.house_rules.specs.House.{Home}
use Rattle.house_rules.specs.Start.{Settled}
use Rattle.house_rules.specs.declared.house.House.{House}
use Rattle.house_rules.specs.Give.{Reply}
use Rattle.house_side.specs.House.{Read, after_word, answer_to, asks, logs, read_at_house, sent_by, wrong}
use Rattle.house_side.specs.declared.heard.Event.{Event}
use Rattle.house_side.specs.declared.heard.Event.TheVariants as event
use Rattle.house_side.specs.declared.reading.Reading.{Reading}
use Rattle.house_side.specs.declared.reading.Reading.TheVariants as reading
use Rattle.locked.specs.Locked.{Bytes, Locks}
use Rattle.locked.specs.declared.unopened.Unopened.{Unopened}
use Rattle.locked.specs.declared.unopened.Unopened.TheVariants.{NoMemory, Wrong}
use Rattle.parts.specs.declared.fault.Fault.{Fault}
use Rattle.sending.specs.Heard.{word_of}
use Rattle.sending.specs.declared.heard.Heard.{Heard as Telling}
use Rattle.service_rules.specs.Side.{on_tick}
use Rattle.std.specs.Option.{option_map}
use Rattle.std.specs.declared.alloc.AllocError.{AllocError}

abbrev pub read_of : Reading → Read
read_of (reading.Login a x) = logs a x
read_of (reading.Asking t q) = asks t q

-- a fault is what is wrong with the word; of want of memory nothing is said
abbrev pub Unread : Read → Unopened → Type 0
Unread x (Wrong f) = x ≡ wrong f
Unread x NoMemory = Unit {0}

abbrev pub ReadAs : Read → Result Reading Unopened → Type 0
ReadAs x (Ok y) = x ≡ read_of y
ReadAs x (Err why) = Unread x why

-- of a login: the reader, its number, and until when the ticket is good
abbrev pub login_event : Reply → Result Event Fault
login_event (Ok x) = Ok (event.LoggedIn x.grant.reader x.grant.number x.grant.until)
login_event (Err f) = Err f

abbrev pub grant_event : Reply → Result Event Fault
grant_event (Ok x) = Ok (event.Granted x.grant)
grant_event (Err f) = Err f

abbrev pub event_of : Read → Reply → Result Event Fault
event_of (logs a x) r = login_event r
event_of (asks t q) r = grant_event r
event_of (wrong f) r = grant_event r

-- what the house notes and sends
abbrev pub Heard : Type 0
Heard = Telling Event 173

-- the book has the event, and the word on the line is that of the answer
pub record Tells (l : Locks) (e : Result Event Fault) (a : Reply) (h : Heard) : Type 0 where
  pub event : h.event ≡ e
  pub sent : option_map word_of h.sent ≡ sent_by l a

-- it answers by its decision on what was read
abbrev pub TellsOf : Locks → Home → Read → Heard → Type 0
TellsOf l h x y = Tells l (event_of x (answer_to l h x)) (answer_to l h x) y

-- it answers by its decision on what the word is, and is then what the decision leaves
pub record HearsWord (l : Locks) (h : Home) (w : Bytes) (y : Heard) (h' : Home) : Type 0 where
  pub tells : TellsOf l h (read_at_house l h w) y
  pub after : h' ≡ after_word l h (read_at_house l h w)

-- where there is no memory, it is as it was
abbrev pub Hears : Locks → Home → Bytes → Result Heard AllocError → Home → Type 0
Hears l h w (Ok y) h' = HearsWord l h w y h'
Hears l h w (Err e) h' = h' ≡ h

-- told a tick, its side goes on; its life and its own key stay
abbrev pub ticked : House → ℕ → Settled
ticked h to = record { side = on_tick h.side to; life = h.life; key = h.key }
