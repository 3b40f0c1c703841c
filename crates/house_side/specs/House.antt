-- What the house makes of a word of bytes: it is framed, its locks are opened, it is decided, and the answer is locked. Assumes nothing.
--
-- Read                 what a word is to the house: a login, a ticket and an asking, or what is wrong
-- read_at_house l h w  the word w, at the house h
-- answer_to l h r      what the house answers to it, by its decision; after_word: what it is then
-- sent_by l a          the bytes that go out with an answer
use Rattle.std.specs.Prelude.{ℕ, cond, Some, Ok, Err, Option, Result}
use Rattle.house_rules.specs.Account.{own_key, unknown}
use Rattle.house_rules.specs.Give.{Reply}
use Rattle.house_rules.specs.House.{Home, after, answered, logged_in, login_after}
use Rattle.locked.specs.Locked.{Bytes, Locks, asking_in, digest_of, letter_lock, login_in, refusal_word, ticket_in, ticket_lock}
use Rattle.parts.specs.declared.fault.Fault.{Fault}
use Rattle.parts.specs.declared.fault.Fault.TheVariants.{Malformed, Unknown}
use Rattle.parts.specs.declared.word.Asking.{Asking}
use Rattle.parts.specs.declared.word.Login.{Login}
use Rattle.parts.specs.declared.word.Ticket.{Ticket}
use Rattle.wire.specs.Word.{Frame, framed, write_word}
use Rattle.wire.specs.Word as frame

-- a login of a reader, a ticket and an asking under its key, or what is wrong
pub data Read : Type 0 where
  logs : ℕ → Login → Read
  asks : Ticket → Asking → Read
  wrong : Fault → Read

-- a login opens with the reader's own key; a reader that isn't there is told before anything is opened
abbrev pub read_login : Locks → Home → ℕ → Bytes → Read
read_login l h a lock =
    cond (unknown h.accounts a) (wrong Unknown)
    (elim (login_in l (own_key h.accounts a) lock) [ Ok x ↦ logs a x | Err f ↦ wrong f ])

-- then the asking, under the ticket's key
abbrev pub asking_under : Locks → Bytes → Result Ticket Fault → Read
asking_under l q (Err f) = wrong f
asking_under l q (Ok t) = elim (asking_in l t.key q) [ Ok a ↦ asks t a | Err f ↦ wrong f ]

-- the house hears logins, and tickets of its own with askings; every other kind of word is malformed here
abbrev pub read_frame : Locks → Home → Frame → Read
read_frame l h (frame.login reader lock) = read_login l h reader lock
read_frame l h (frame.ticket_and_letter ticket letter) = wrong Malformed
read_frame l h (frame.asking ticket q) = asking_under l q (ticket_in l h.key ticket)
read_frame l h (frame.receipt lock) = wrong Malformed
read_frame l h (frame.refusal class) = wrong Malformed

abbrev pub read_at_house : Locks → Home → Bytes → Read
read_at_house l h w = elim (framed w) [ Ok f ↦ read_frame l h f | Err f ↦ wrong f ]

-- what was read is decided; what can't be read is refused
abbrev pub answer_to : Locks → Home → Read → Reply
answer_to l h (logs a x) = logged_in h a x
answer_to l h (asks t q) = answered h t q (digest_of l t.key q.number)
answer_to l h (wrong f) = Err f

abbrev pub after_word : Locks → Home → Read → Home
after_word l h (logs a x) = login_after h a x
after_word l h (asks t q) = after h t q (digest_of l t.key q.number)
after_word l h (wrong f) = h

-- a ticket and a letter, or a refusal
abbrev pub sent_by : Locks → Reply → Option Bytes
sent_by l (Ok x) = Some (write_word (frame.ticket_and_letter (ticket_lock l x.ticket) (letter_lock l x.letter)))
sent_by l (Err f) = refusal_word f
