-- What is promised of a step of a box over bytes: what it tells, what it sends, and what it is then. Assumes nothing.
--
-- seen c bs            a box of these tables with bs drawn bytes left, its tickets being their bytes
-- shown_of a           what an answer shows: all but its locks
-- sent_in o            a word that goes out, as its bytes
-- Tells b a t          t is what a box that is then b tells and sends with the answer a
-- shown_in a           what is shown, or what is wrong
-- Steps b a b₁ b' r    the answer is a and the box is then b₁, or there is no memory and the box is as it was
-- Wanted, Heard        that of a line and of a word; Deals: by what the word was read as
-- Starts               what is promised of a start
use Rattle.std.specs.Prelude.{◌≡◌, ℕ, true, false, List, Ok, Err, vec_items, Option, Result}
use Rattle.box_rules.specs.Chest.{Boxed, boxed, fresh, settles}
use Rattle.box_rules.specs.Line as line
use Rattle.box_rules.specs.declared.answer.Answer.{Answer}
use Rattle.box_rules.specs.declared.answer.Answer.TheVariants as answer
use Rattle.box_rules.specs.declared.answer.NotStarted.{NotStarted}
use Rattle.box_rules.specs.declared.answer.NotStarted.TheVariants as not_started
use Rattle.box_rules.specs.declared.chest.Chest.{Chest}
use Rattle.box_side.specs.Box.{Read, Sent, after_word, answer_to, read_at_box, sent_by}
use Rattle.box_side.specs.Tickets.{boxed_by}
use Rattle.box_side.specs.declared.reader_box.NotMade.{NotMade}
use Rattle.box_side.specs.declared.reader_box.ReaderBox.{ReaderBox}
use Rattle.box_side.specs.declared.ticket.TicketBytes.{TicketBytes}
use Rattle.box_side.specs.declared.told.NotDone.{NotDone}
use Rattle.box_side.specs.declared.told.NotDone.TheVariants.{NoMemory, Wrong}
use Rattle.box_side.specs.declared.told.Sent.{Sent as Goes}
use Rattle.box_side.specs.declared.told.Show.{Show}
use Rattle.box_side.specs.declared.told.Show.TheVariants as show
use Rattle.box_side.specs.declared.told.Told.{Told}
use Rattle.locked.specs.Locked.{Bytes, ours}
use Rattle.parts.specs.declared.fault.Fault.{Fault}
use Rattle.parts.specs.declared.fault.Fault.TheVariants.{OutOfRange}
use Rattle.parts.specs.declared.word.Key.{Key}
use Rattle.parts.specs.declared.word.What.{What}
use Rattle.std.specs.Option.{option_map}

-- the bytes of a ticket
abbrev pub bytes_of : TicketBytes → Bytes
bytes_of t = vec_items t.bytes

abbrev pub seen : Chest TicketBytes → List ℕ → Boxed Bytes
seen c bs = boxed_by bytes_of (boxed c bs)

abbrev pub shown_of : Answer → Show
shown_of (answer.LogsIn l) = show.LogsIn
shown_of (answer.Asks i l) = show.Asks i
shown_of (answer.Takes g l) = show.Takes g
shown_of (answer.Receipt n) = show.Receipt n
shown_of (answer.Shown c) = show.Refused c

-- what is shown, or what is wrong
abbrev pub shown_in : line.Told → Result Show Fault
shown_in (Ok a) = Ok (shown_of a)
shown_in (Err f) = Err f

abbrev pub sent_in : Option Goes → Option Sent
sent_in o = option_map (λ s. record { to = s.to; word = vec_items s.word }) o

pub record Tells (b : Boxed Bytes) (a : line.Told) (t : Told) : Type 0 where
  pub shown : Ok t.show ≡ shown_in a
  pub sent : sent_in t.sent ≡ sent_by ours b a

pub record Stepped (a : line.Told) (after b' : Boxed Bytes) (t : Told) : Type 0 where
  pub told : Tells b' a t
  pub left : b' ≡ after

abbrev pub Steps : (b : Boxed Bytes) (a : line.Told) (after b' : Boxed Bytes) → Result Told NotDone → Type 0
Steps b a after b' (Ok t) = Stepped a after b' t
Steps b a after b' (Err (Wrong f)) = (Err f ≡ shown_in a) × (b' ≡ after)
Steps b a after b' (Err NoMemory) = b' ≡ b

-- a line of the reader, for service v, by that ticket or by none, with these words
abbrev pub Wanted : Boxed Bytes → ℕ → Option ℕ → What → Boxed Bytes → Result Told NotDone → Type 0
Wanted b v by w b' r = Steps b (line.wanted b v by w) (line.wanted_after b v by w) b' r

-- a word, by what it was read as
abbrev pub Deals : Boxed Bytes → Read → Boxed Bytes → Result Told NotDone → Type 0
Deals b x b' r = Steps b (answer_to b x) (after_word b x) b' r

-- a word of the line
abbrev pub Heard : Boxed Bytes → Bytes → Boxed Bytes → Result Told NotDone → Type 0
Heard b w b' r = Deals b (read_at_box ours b w) b' r

-- the settings are out of range, or there is no memory
abbrev pub Unstarted : (number tick : ℕ) → NotStarted → Type 0
Unstarted n tick (not_started.Wrong f) = (settles n tick ≡ false) × (f ≡ OutOfRange)
Unstarted n tick not_started.NoMemory = settles n tick ≡ true

-- it holds nothing and has the drawn bytes d, of which `left` is left; or it isn't there, and d is given back
abbrev pub Starts : {D : Type 0} → (D → List ℕ) → (number tick : ℕ) → Key → D → Result (ReaderBox D) (NotMade D) → Type 0
Starts left n tick k d (Ok b) = (settles n tick ≡ true) × (b.drawn ≡ d) × (seen b.chest (left b.drawn) ≡ fresh n tick k (left d))
Starts left n tick k d (Err x) = (x.drawn ≡ d) × Unstarted n tick x.why
