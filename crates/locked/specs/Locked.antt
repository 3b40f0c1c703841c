-- What stands in a lock, as a value: tickets, letters, askings, logins and receipts locked and opened. Assumes nothing.
--
-- Locks                   a way to lock and to open bytes, and to take the digest of a key and a number
-- ours                    the way of this code: the locks of the crate seal
-- opened_as read o        what an opened inside reads as: 3 where the lock did not open, 4 where it can't be read
-- inside_in read kind     what a lock of a kind has inside, by a key; ticket_in .. for each kind
-- lock_of written kind    the bytes of a lock that is made; ticket_lock .. for each kind
-- asked_of, words_in ..   an asking by value, and its words
-- refusal_word f          the word of a refusal
use Rattle.std.specs.Prelude.{ℕ, List, Some, None, Err, Option, Result}
pub use Rattle.contents.specs.ByValue.{asked_of, asking_of, asking_ok}
use Rattle.contents.specs.Inside.{read_asking, read_login, read_ticket, write_asking, write_letter, write_login, write_receipt, write_ticket}
use Rattle.parts.specs.Fault.{class_of}
pub use Rattle.parts.specs.What.{what_in, words_in}
use Rattle.parts.specs.declared.fault.Fault.{Fault}
use Rattle.parts.specs.declared.fault.Fault.TheVariants.{LockFails}
use Rattle.parts.specs.declared.lock.Lock.{Lock}
use Rattle.parts.specs.declared.word.Asking.{Asking}
use Rattle.parts.specs.declared.word.Key.{Key}
use Rattle.parts.specs.declared.word.Letter.{Letter}
use Rattle.parts.specs.declared.word.Login.{Login}
use Rattle.parts.specs.declared.word.Number.{Number}
use Rattle.parts.specs.declared.word.Receipt.{Receipt}
use Rattle.parts.specs.declared.word.Ticket.{Ticket}
use Rattle.seal.specs.Lock as seal
use Rattle.std.specs.Option.{option_map}
use Rattle.wire.specs.Word.{refusal, write_word}

abbrev pub Bytes : Type 0
Bytes = List ℕ

-- lock: the bytes of a lock by kind, key, drawn bytes and inside; opens: the inside, by kind, key and the lock's bytes;
-- digest: what is remembered of a key and a number
pub record Locks : Type 0 where
  pub lock : (kind : ℕ) (key drawn inside : Bytes) → Bytes
  pub opens : (kind : ℕ) (key word : Bytes) → Option Bytes
  pub digest : (key number : Bytes) → ℕ

abbrev pub ours : Locks
ours = record { lock = seal.lock; opens = seal.opens; digest = seal.digest }

-- reading what came out of a lock, if it opened
abbrev pub opened_as : {X : Type 0} → (Bytes → Result X Fault) → Option Bytes → Result X Fault
opened_as read None = Err LockFails
opened_as read (Some inside) = read inside

-- the digest of a key and a number
abbrev pub digest_of : Locks → Key → Number → ℕ
digest_of l k n = l.digest k.0 n.0

-- what a lock of a kind has inside, opened with a key
abbrev pub inside_in : {X : Type 0} → (Bytes → Result X Fault) → ℕ → Locks → Key → Bytes → Result X Fault
inside_in read kind l k w = opened_as read (l.opens kind k.0 w)

-- the same of each kind
abbrev pub ticket_in : Locks → Key → Bytes → Result Ticket Fault
ticket_in l k w = opened_as read_ticket (l.opens 1 k.0 w)

abbrev pub asking_in : Locks → Key → Bytes → Result Asking Fault
asking_in l k w = opened_as (λ x. asking_ok (read_asking x)) (l.opens 3 k.0 w)

abbrev pub login_in : Locks → Key → Bytes → Result Login Fault
login_in l k w = opened_as read_login (l.opens 4 k.0 w)

-- the bytes of a lock of a kind
abbrev pub lock_of : {X : Type 0} → (X → Bytes) → ℕ → Locks → Lock X → Bytes
lock_of written kind l x = l.lock kind x.key.0 x.salt.0 (written x.inside)

-- the same of each kind
abbrev pub ticket_lock : Locks → Lock Ticket → Bytes
ticket_lock l x = l.lock 1 x.key.0 x.salt.0 (write_ticket x.inside)

abbrev pub letter_lock : Locks → Lock Letter → Bytes
letter_lock l x = l.lock 2 x.key.0 x.salt.0 (write_letter x.inside)

abbrev pub asking_lock : Locks → Lock Asking → Bytes
asking_lock l x = l.lock 3 x.key.0 x.salt.0 (write_asking (asked_of x.inside))

abbrev pub login_lock : Locks → Lock Login → Bytes
login_lock l x = l.lock 4 x.key.0 x.salt.0 (write_login x.inside)

abbrev pub receipt_lock : Locks → Lock Receipt → Bytes
receipt_lock l x = l.lock 5 x.key.0 x.salt.0 (write_receipt x.inside)

-- a refusal tells its class, where there is one
abbrev pub refusal_word : Fault → Option Bytes
refusal_word f = option_map (λ c. write_word (refusal c)) (class_of f)

-- the first of some keys that opens a lock, by its place, and what was inside
pub record Tried : Type 0 where
  pub place : ℕ
  pub key : Key
  pub inside : Bytes
