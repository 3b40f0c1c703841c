-- The five words of the line, in bytes: how they are framed, and how they are written. Assumes nothing.
--   Frame         a word by its parts: what it says in the open, and its locks
--   framed bs     the word that bs are, or the fault
--   write_word f  the bytes of a word
--   fits f        each lock has 32 to 65,535 bytes
use Rattle.std.specs.Prelude.{◌≡◌, ℕ, ◌+◌, Bool, true, false, cond, List, [], ◌∷◌, ◌++◌, length, drop, Some, None, Ok, Err, vec_items, Option, Result, Vec, ◌==◌, nat_le}
use Rattle.std.specs.Option.{option_map, ok_or}
use Rattle.parts.specs.Fault.{class_number}
use Rattle.parts.specs.declared.fault.Class.{Class}
use Rattle.parts.specs.declared.fault.Class.TheVariants.{NotReadable, NotNow, NotYou}
use Rattle.parts.specs.declared.fault.Fault.{Fault}
use Rattle.parts.specs.declared.fault.Fault.TheVariants.{Malformed}
use Rattle.std.specs.declared.alloc.Global.{Global}
use Rattle.wire.specs.declared.word.Unwritten.{Unwritten}
use Rattle.wire.specs.declared.word.Unwritten.TheVariants.{LockLength, NoMemory}
use Rattle.wire.specs.declared.word.Word.{Word}
use Rattle.wire.specs.declared.word.Word.TheVariants.{Login, TicketAndLetter, Asking, Receipt, Refusal}
use Rattle.contents.specs.Field.{bytes_of, number, part}

-- a word by its parts
pub data Frame : Type 0 where
  login : ℕ → List ℕ → Frame
  ticket_and_letter : List ℕ → List ℕ → Frame
  asking : List ℕ → List ℕ → Frame
  receipt : List ℕ → Frame
  refusal : Class → Frame

-- a lock has 32 to 65,535 bytes
abbrev pub lock_fits : List ℕ → Bool
lock_fits lock = cond (nat_le 32 (length lock)) (nat_le (length lock) 65535) false

-- a lock, its length (2) before it
abbrev pub lock_bytes : List ℕ → List ℕ
lock_bytes lock = bytes_of 2 (length lock) ++ lock

-- the bytes of a word: its kind, then its parts
abbrev pub write_word : Frame → List ℕ
write_word (login reader lock) = 1 ∷ (bytes_of 2 reader ++ lock_bytes lock)
write_word (ticket_and_letter ticket letter) = 2 ∷ (lock_bytes ticket ++ lock_bytes letter)
write_word (asking ticket lock) = 3 ∷ (lock_bytes ticket ++ lock_bytes lock)
write_word (receipt lock) = 4 ∷ lock_bytes lock
write_word (refusal class) = 5 ∷ (class_number class ∷ [])

-- its locks have their lengths
abbrev pub fits : Frame → Bool
fits (login reader lock) = lock_fits lock
fits (ticket_and_letter ticket letter) = cond (lock_fits ticket) (lock_fits letter) false
fits (asking ticket lock) = cond (lock_fits ticket) (lock_fits lock) false
fits (receipt lock) = lock_fits lock
fits (refusal class) = true

-- the length that stands before a lock
abbrev pub lock_length : List ℕ → ℕ
lock_length bs = number (part 0 2 bs)

-- a lock at the front, and what follows it
abbrev pub cut : List ℕ → Option (List ℕ × List ℕ)
cut bs =
    cond (cond (nat_le 32 (lock_length bs)) (nat_le (2 + lock_length bs) (length bs)) false)
    (Some (part 2 (lock_length bs) bs, drop (2 + lock_length bs) bs))
    None

-- the first lock, if nothing follows it
abbrev pub alone : Option (List ℕ × List ℕ) → Option (List ℕ)
alone None = None
alone (Some p) = cond (length p.1 == 0) (Some p.0) None

-- the first lock, and the one that follows it to the end
abbrev pub paired : Option (List ℕ × List ℕ) → Option (List ℕ × List ℕ)
paired None = None
paired (Some p) = option_map (λ lock. (p.0, lock)) (alone (cut p.1))

-- the class that the byte of a refusal tells
abbrev pub class_from : ℕ → Option Class
class_from n =
    cond (n == 1) (Some NotReadable) (cond (n == 2) (Some NotNow) (cond (n == 3) (Some NotYou) None))

-- a login after its kind
abbrev pub login_from : List ℕ → Option Frame
login_from body = option_map (login (number (part 0 2 body))) (alone (cut (drop 2 body)))

-- a ticket and a letter after their kind
abbrev pub grant_from : List ℕ → Option Frame
grant_from body = option_map (λ p. ticket_and_letter p.0 p.1) (paired (cut body))

-- a ticket and an asking after their kind
abbrev pub asking_from : List ℕ → Option Frame
asking_from body = option_map (λ p. asking p.0 p.1) (paired (cut body))

-- a receipt after its kind
abbrev pub receipt_from : List ℕ → Option Frame
receipt_from body = option_map receipt (alone (cut body))

-- a refusal after its kind
abbrev pub refusal_from : List ℕ → Option Frame
refusal_from [] = None
refusal_from (class ∷ rest) = cond (length rest == 0) (option_map refusal (class_from class)) None

-- a word after its kind
abbrev pub frame_from : ℕ → List ℕ → Option Frame
frame_from kind body =
    cond (kind == 1) (login_from body)
    (cond (kind == 2) (grant_from body)
    (cond (kind == 3) (asking_from body)
    (cond (kind == 4) (receipt_from body) (cond (kind == 5) (refusal_from body) None))))

-- the word that some bytes are, to the last of them
abbrev pub framed : List ℕ → Result Frame Fault
framed [] = Err Malformed
framed (kind ∷ body) = ok_or (frame_from kind body) Malformed

-- the word that the program holds, whose locks are parts of other bytes
abbrev pub shown : Word → Frame
shown (Login reader lock) = login reader lock.now
shown (TicketAndLetter ticket letter) = ticket_and_letter ticket.now letter.now
shown (Asking ticket lock) = asking ticket.now lock.now
shown (Receipt lock) = receipt lock.now
shown (Refusal class) = refusal class

-- the answer of the reader of words
abbrev pub shown_in : Result Word Fault → Result Frame Fault
shown_in (Ok word) = Ok (shown word)
shown_in (Err fault) = Err fault

-- the answer of the writer of words: the bytes, if the locks fit and there is memory
abbrev pub Written : Frame → Result (Vec ℕ Global) Unwritten → Type 0
Written frame (Ok out) = (fits frame ≡ true) × (vec_items out ≡ write_word frame)
Written frame (Err why) = why ≡ cond (fits frame) NoMemory LockLength
