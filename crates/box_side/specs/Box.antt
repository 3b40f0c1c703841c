-- What a reader's box makes of a word of bytes, and what it sends: tickets are bytes that it hands on unread. Assumes nothing.
--
-- opens_first l kind n ks w  the first of some keys that opens w, with its place from n on
-- Read                       what a word is to a box: a ticket and a letter, a receipt, a refusal, or what is wrong
-- read_at_box l b w          the word w, at the box b
-- answer_to b r              what the box answers to it, by its decision; after_word: what it is then
-- sent_by l b a              the bytes that go out with what a box that is then b tells, and to whom
use Rattle.std.specs.Prelude.{ℕ, suc, cond, List, [], ◌∷◌, Some, None, Ok, Err, Option, ◌==◌}
use Rattle.box_rules.specs.Chest.{Boxed, ticket_of}
use Rattle.box_rules.specs.Keys.{letter_keys, receipt_keys}
use Rattle.box_rules.specs.Letter.{confirmed, taken, taken_after}
use Rattle.box_rules.specs.Line.{Told}
use Rattle.box_rules.specs.declared.answer.Answer.TheVariants.{Asks, LogsIn, Receipt as Confirms, Shown, Takes}
use Rattle.box_rules.specs.declared.line.Under.{Under}
use Rattle.box_rules.specs.declared.line.Under.TheVariants.{Own, Session}
use Rattle.contents.specs.Inside.{read_letter, read_receipt}
use Rattle.locked.specs.Locked.{Bytes, Locks, Tried, asking_lock, login_lock}
use Rattle.parts.specs.declared.fault.Class.{Class}
use Rattle.parts.specs.declared.fault.Fault.{Fault}
use Rattle.parts.specs.declared.fault.Fault.TheVariants.{LockFails, Malformed}
use Rattle.parts.specs.declared.lock.Lock.{Lock}
use Rattle.parts.specs.declared.word.Asking.{Asking}
use Rattle.parts.specs.declared.word.Key.{Key}
use Rattle.parts.specs.declared.word.Letter.{Letter}
use Rattle.parts.specs.declared.word.Receipt.{Receipt}
use Rattle.wire.specs.Word.{Frame, framed, write_word}
use Rattle.wire.specs.Word as frame

-- the first key that opens decides
abbrev pub opens_first : Locks → (kind place : ℕ) → List Key → Bytes → Option Tried
opens_first l kind n [] w = None
opens_first l kind n (k ∷ ks) w =
    elim (l.opens kind k.0 w) [ None ↦ opens_first l kind (suc n) ks w | Some x ↦ Some (record { place = n; key = k; inside = x }) ]

-- the own key is the first that is tried on a letter
abbrev pub under_of : ℕ → Key → Under
under_of n k = cond (n == 0) Own (Session k)

-- a ticket with a letter and the key under which the letter opened; a receipt with its key; a refusal; or what is wrong
pub data Read : Type 0 where
  brings : Bytes → Under → Letter → Read
  confirms : Key → Receipt → Read
  refuses : Class → Read
  wrong : Fault → Read

abbrev pub letter_read : Bytes → Option Tried → Read
letter_read ticket None = wrong LockFails
letter_read ticket (Some t) =
    elim (read_letter t.inside) [ Ok x ↦ brings ticket (under_of t.place t.key) x | Err f ↦ wrong f ]

abbrev pub receipt_read : Option Tried → Read
receipt_read None = wrong LockFails
receipt_read (Some t) = elim (read_receipt t.inside) [ Ok x ↦ confirms t.key x | Err f ↦ wrong f ]

-- the ticket is only framed; every word that is not for a box is malformed here
abbrev pub read_frame : Locks → Boxed Bytes → Frame → Read
read_frame l b (frame.login reader lock) = wrong Malformed
read_frame l b (frame.ticket_and_letter ticket letter) = letter_read ticket (opens_first l 2 0 (letter_keys b) letter)
read_frame l b (frame.asking ticket q) = wrong Malformed
read_frame l b (frame.receipt lock) = receipt_read (opens_first l 5 0 (receipt_keys b.askings) lock)
read_frame l b (frame.refusal class) = refuses class

abbrev pub read_at_box : Locks → Boxed Bytes → Bytes → Read
read_at_box l b w = elim (framed w) [ Ok f ↦ read_frame l b f | Err f ↦ wrong f ]

-- what was read is decided
abbrev pub answer_to : Boxed Bytes → Read → Told
answer_to b (brings ticket u x) = taken b u x
answer_to b (confirms k r) = confirmed b.askings k r
answer_to b (refuses c) = Ok (Shown c)
answer_to b (wrong f) = Err f

-- only a letter changes a box
abbrev pub after_word : Boxed Bytes → Read → Boxed Bytes
after_word b (brings ticket u x) = taken_after b u x ticket
after_word b (confirms k r) = b
after_word b (refuses c) = b
after_word b (wrong f) = b

-- a word that a box sends: to the house, 0, or to a service
pub record Sent : Type 0 where
  pub to : ℕ
  pub word : Bytes

-- an asking goes with the ticket of that id
abbrev pub asking_sent : Locks → Option Bytes → Lock Asking → Option Sent
asking_sent l None q = None
asking_sent l (Some ticket) q =
    Some (record { to = q.inside.service; word = write_word (frame.asking ticket (asking_lock l q)) })

abbrev pub sent_by : Locks → Boxed Bytes → Told → Option Sent
sent_by l b (Ok (LogsIn x)) = Some (record { to = 0; word = write_word (frame.login b.number (login_lock l x)) })
sent_by l b (Ok (Asks i q)) = asking_sent l (ticket_of i b.tickets) q
sent_by l b (Ok (Takes g q)) = asking_sent l (ticket_of g.id b.tickets) q
sent_by l b (Ok (Confirms n)) = None
sent_by l b (Ok (Shown c)) = None
sent_by l b (Err f) = None
