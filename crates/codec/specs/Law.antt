-- What holds of the words and the insides in bytes: read and written are each other's inverse. Assumes nothing.
--   Codec       what is written reads back; what is read fits, and is the same bytes when it is written again;
--               anything that is not written so is refused by one fault
--   WordCut     a word that lacks bytes at its end is refused by Malformed
--   WordLonger  a word with bytes after its end is refused by Malformed
-- The proofs stand in proofs/Insides.antt and proofs/Words.antt.
use Rattle.std.specs.Prelude.{◌≡◌, ℕ, ◌^◌, ◌<◌, ◌≤◌, true, List, ◌∷◌, ◌++◌, length, take, Ok, Err, Result, ◌≢◌}
use Rattle.parts.specs.declared.fault.Fault.{Fault}
use Rattle.parts.specs.declared.fault.Fault.TheVariants.{Malformed, BadInside}
use Rattle.parts.specs.declared.word.Ticket.{Ticket}
use Rattle.parts.specs.declared.word.Letter.{Letter}
use Rattle.parts.specs.declared.word.Login.{Login}
use Rattle.parts.specs.declared.word.Receipt.{Receipt}
use Rattle.contents.specs.Field.{Bytes}
use Rattle.contents.specs.Inside.{Asked, read_ticket, write_ticket, read_letter, write_letter, read_asking, write_asking, read_login, write_login, read_receipt, write_receipt}
use Rattle.wire.specs.Word.{Frame, login, ticket_and_letter, asking, receipt, refusal, fits, framed, write_word}

-- reading and writing some X, whose parts fit their fields
pub record Codec {X : Type 0} (Fits : X → Type 0) (write : X → List ℕ) (read : List ℕ → Result X Fault) (fault : Fault) : Type 0 where
  -- what is written reads back
  pub back : (x : X) → Fits x → read (write x) ≡ Ok x
  -- what is read fits
  pub within : (bs : List ℕ) (x : X) → Bytes bs → read bs ≡ Ok x → Fits x
  -- what is read, written again, is the same bytes
  pub again : (bs : List ℕ) (x : X) → Bytes bs → read bs ≡ Ok x → write x ≡ bs
  -- nothing else is read, and there is one fault
  pub only : (bs : List ℕ) → Bytes bs → ((x : X) → Fits x → write x ≢ bs) → read bs ≡ Err fault

-- the numbers of a ticket fit their fields, and its key has 32 bytes
abbrev pub TicketFits : Ticket → Type 0
TicketFits t = (t.service < 2 ^ 16) × (t.reader < 2 ^ 16) × (length t.key.0 ≡ 32) × (t.until < 2 ^ 64)

abbrev pub LetterFits : Letter → Type 0
LetterFits l = (length l.number.0 ≡ 16) × (l.service < 2 ^ 16) × (length l.key.0 ≡ 32) × (l.until < 2 ^ 64)

abbrev pub AskingFits : Asked → Type 0
AskingFits a = (a.service < 2 ^ 16) × (length a.number.0 ≡ 16) × (length a.what ≤ 1024) × (a.tick < 2 ^ 64)

abbrev pub LoginFits : Login → Type 0
LoginFits l = (length l.number.0 ≡ 16) × (l.tick < 2 ^ 64)

abbrev pub ReceiptFits : Receipt → Type 0
ReceiptFits r = length r.number.0 ≡ 16

-- the reader's number fits its field
abbrev pub ReaderFits : Frame → Type 0
ReaderFits (login reader lock) = reader < 2 ^ 16
ReaderFits (ticket_and_letter ticket letter) = Unit {0}
ReaderFits (asking ticket lock) = Unit {0}
ReaderFits (receipt lock) = Unit {0}
ReaderFits (refusal class) = Unit {0}

-- a word whose locks have 32 to 65,535 bytes
abbrev pub WordFits : Frame → Type 0
WordFits frame = (fits frame ≡ true) × ReaderFits frame

abbrev pub TicketCodec : Type 0
TicketCodec = Codec TicketFits write_ticket read_ticket BadInside

abbrev pub LetterCodec : Type 0
LetterCodec = Codec LetterFits write_letter read_letter BadInside

abbrev pub AskingCodec : Type 0
AskingCodec = Codec AskingFits write_asking read_asking BadInside

abbrev pub LoginCodec : Type 0
LoginCodec = Codec LoginFits write_login read_login BadInside

abbrev pub ReceiptCodec : Type 0
ReceiptCodec = Codec ReceiptFits write_receipt read_receipt BadInside

abbrev pub WordCodec : Type 0
WordCodec = Codec WordFits write_word framed Malformed

-- every strict front of a word is refused
abbrev pub WordCut : Type 0
WordCut = (bs : List ℕ) (frame : Frame) (n : ℕ) → framed bs ≡ Ok frame → n < length bs → framed (take n bs) ≡ Err Malformed

-- every word with a byte more, or with several, is refused
abbrev pub WordLonger : Type 0
WordLonger = (bs more : List ℕ) (frame : Frame) (b : ℕ) → framed bs ≡ Ok frame → framed (bs ++ (b ∷ more)) ≡ Err Malformed
