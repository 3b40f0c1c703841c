-- What is promised of a word that a service heard. Assumes nothing.
--
-- ReadAs x r          what the code read, r, is what the word is, x; or there was no memory
-- event_of a          what stands in the book of an answer: the deed or the fault, and no key
-- Tells l a h         h notes and sends the answer a
-- Hears l v k w r v'  a service v with the own key k heard w: what it noted and sent, and what it is then
use Rattle.locked.specs.Locked.{Bytes, Locks}
use Rattle.locked.specs.declared.unopened.Unopened.{Unopened}
use Rattle.locked.specs.declared.unopened.Unopened.TheVariants.{NoMemory, Wrong}
use Rattle.parts.specs.declared.fault.Fault.{Fault}
use Rattle.parts.specs.declared.word.Asking.{Asking}
use Rattle.parts.specs.declared.word.Key.{Key}
use Rattle.parts.specs.declared.word.Ticket.{Ticket}
use Rattle.sending.specs.Heard.{word_of}
use Rattle.sending.specs.declared.heard.Heard.{Heard as Telling}
use Rattle.service_rules.specs.Service.{Answer, View}
use Rattle.service_rules.specs.declared.answer.Deed.{Deed}
use Rattle.service_side.specs.Service.{Read, after_word, answer_to, asks, read_at_service, sent_by, wrong}
use Rattle.std.specs.Option.{option_map}
use Rattle.std.specs.declared.alloc.AllocError.{AllocError}
use Rattle.std.specs.Prelude.{◌≡◌, Ok, Err, Result}

-- a fault is what is wrong with the word; of want of memory nothing is said
abbrev pub Unread : Read → Unopened → Type 0
Unread x (Wrong f) = x ≡ wrong f
Unread x NoMemory = Unit {0}

abbrev pub ReadAs : Read → Result (Ticket × Asking) Unopened → Type 0
ReadAs x (Ok p) = x ≡ asks p.0 p.1
ReadAs x (Err why) = Unread x why

abbrev pub event_of : Answer → Result Deed Fault
event_of (Ok x) = Ok x.deed
event_of (Err f) = Err f

-- what a service notes and sends
abbrev pub Heard : Type 0
Heard = Telling Deed 52

-- the book has the deed or the fault, and the word on the line is that of the answer
pub record Tells (l : Locks) (a : Answer) (h : Heard) : Type 0 where
  pub event : h.event ≡ event_of a
  pub sent : option_map word_of h.sent ≡ sent_by l a

-- it answers by its decision on what the word is, and is then what the decision leaves
pub record HearsWord (l : Locks) (v : View) (k : Key) (w : Bytes) (h : Heard) (v' : View) : Type 0 where
  pub tells : Tells l (answer_to l v (read_at_service l k w)) h
  pub after : v' ≡ after_word l v (read_at_service l k w)

-- where there is no memory, it is as it was
abbrev pub Hears : Locks → View → Key → Bytes → Result Heard AllocError → View → Type 0
Hears l v k w (Ok h) v' = HearsWord l v k w h v'
Hears l v k w (Err e) v' = v' ≡ v
