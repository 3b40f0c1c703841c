-- What a service makes of a word of bytes: it is framed, its locks are opened, it is decided, and the answer is locked. Assumes nothing.
--
-- Read                   what a word is to a service: a ticket and an asking that were read, or what is wrong
-- read_at_service l k w  the word w, at a service with the own key k
-- answer_to l v r        what the service answers to it, by its decision; after_word: what it is then
-- sent_by l a            the bytes that go out with an answer
-- Hears l v k w a v'     what is promised of a word heard
use Rattle.std.specs.Prelude.{Some, Ok, Err, Option, Result}
use Rattle.locked.specs.Locked.{Bytes, Locks, asking_in, digest_of, receipt_lock, refusal_word, ticket_in}
use Rattle.parts.specs.declared.fault.Fault.{Fault}
use Rattle.parts.specs.declared.fault.Fault.TheVariants.{Malformed}
use Rattle.parts.specs.declared.word.Asking.{Asking}
use Rattle.parts.specs.declared.word.Key.{Key}
use Rattle.parts.specs.declared.word.Ticket.{Ticket}
use Rattle.service_rules.specs.Service.{Answer, View, after, answered}
use Rattle.wire.specs.Word.{Frame, framed, write_word}
use Rattle.wire.specs.Word as frame

-- a ticket and an asking under its key, or what is wrong
pub data Read : Type 0 where
  asks : Ticket → Asking → Read
  wrong : Fault → Read

-- then the asking, under the ticket's key
abbrev pub asking_under : Locks → Bytes → Result Ticket Fault → Read
asking_under l q (Err f) = wrong f
asking_under l q (Ok t) = elim (asking_in l t.key q) [ Ok a ↦ asks t a | Err f ↦ wrong f ]

-- first the ticket, under the own key; every other kind of word is malformed here
abbrev pub read_frame : Locks → Key → Frame → Read
read_frame l k (frame.login reader lock) = wrong Malformed
read_frame l k (frame.ticket_and_letter ticket letter) = wrong Malformed
read_frame l k (frame.asking ticket q) = asking_under l q (ticket_in l k ticket)
read_frame l k (frame.receipt lock) = wrong Malformed
read_frame l k (frame.refusal class) = wrong Malformed

abbrev pub read_at_service : Locks → Key → Bytes → Read
read_at_service l k w = elim (framed w) [ Ok f ↦ read_frame l k f | Err f ↦ wrong f ]

-- what was read is decided; what can't be read is refused
abbrev pub answer_to : Locks → View → Read → Answer
answer_to l v (asks t q) = answered v t q (digest_of l t.key q.number)
answer_to l v (wrong f) = Err f

abbrev pub after_word : Locks → View → Read → View
after_word l v (asks t q) = after v t q (digest_of l t.key q.number)
after_word l v (wrong f) = v

-- a receipt, or a refusal
abbrev pub sent_by : Locks → Answer → Option Bytes
sent_by l (Ok x) = Some (write_word (frame.receipt (receipt_lock l x.receipt)))
sent_by l (Err f) = refusal_word f
