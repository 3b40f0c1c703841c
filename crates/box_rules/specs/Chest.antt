-- A box as its contracts see it, and the asking that it sends. Assumes nothing.
--
-- Boxed                 a box: whose, own key, tick, counts, three tables with the newest first, drawn bytes left
-- asked b k v l         the box that asked v under k for line l; asking_of: what it sent
-- ticket_of i hs        the ticket with that id
-- Starts                what is promised of a start; box_on_tick: a box that was told a tick
use Rattle.std.specs.Prelude.{◌≡◌, ℕ, ◌/◌, ◌%◌, ◌^◌, Bool, true, false, cond, not, ◌||◌, List, [], ◌∷◌, drop, replicate, Some, None, Ok, Err, Option, Result, ◌==◌, nat_le, nat_lt, slice_set}
use Rattle.box_rules.specs.Table.{put}
use Rattle.box_rules.specs.declared.chest.Chest.{Chest}
use Rattle.box_rules.specs.declared.line.Held.{Held}
use Rattle.box_rules.specs.declared.line.Line.{Line}
use Rattle.box_rules.specs.declared.line.Pending.{Pending}
use Rattle.parts.specs.Drawn.{number_of, salt_of}
use Rattle.parts.specs.declared.lock.Lock.{Lock}
use Rattle.parts.specs.declared.word.Asking.{Asking}
use Rattle.parts.specs.declared.word.Key.{Key}
use Rattle.parts.specs.declared.word.What.{What}
use Rattle.parts.specs.Tick.{clock}
use Rattle.parts.specs.declared.fault.Fault.TheVariants.{OutOfRange}
use Rattle.parts.specs.declared.tick.Ticked.{Ticked}
use Rattle.parts.specs.declared.tick.Ticked.TheVariants.{Back, On, Stopped}
use Rattle.box_rules.specs.declared.answer.NotStarted.{NotStarted}
use Rattle.box_rules.specs.declared.answer.NotStarted.TheVariants.{NoMemory, Wrong}

pub record Boxed (T : Type 0) : Type 0 where
  pub number : ℕ
  pub key : Key
  pub now : ℕ
  pub lines : ℕ
  pub taken : ℕ
  pub logins : List Pending
  pub tickets : List (Held T)
  pub askings : List Pending
  pub left : List ℕ

abbrev pub boxed : {T : Type 0} → Chest T → List ℕ → Boxed T
boxed c bs = record {
  number = c.number;
  key = c.key;
  now = c.now;
  lines = c.lines;
  taken = c.taken;
  logins = c.logins;
  tickets = c.tickets;
  askings = c.askings;
  left = bs;
}

-- a service's number in two bytes, as an asking for the house has it
abbrev pub two_bytes : ℕ → What
two_bytes v = record { len = 2; bytes = slice_set (slice_set (replicate 1024 0) 0 (v / 256)) 1 (v % 256) }

-- the house is asked for the line's service; a service for what the line says
abbrev pub what_of : ℕ → Line → What
what_of asks l = cond (asks == 0) (two_bytes l.service) l.what

-- an asking for the house carries the tick of sending, one to a service the tick of the line
abbrev pub tick_of : ℕ → ℕ → Line → ℕ
tick_of now asks l = cond (asks == 0) now l.tick

abbrev pub asking_of : {T : Type 0} → Boxed T → Key → ℕ → Line → Lock Asking
asking_of b k asks l = record {
  key = k;
  salt = salt_of (drop 16 b.left);
  inside = record { service = asks; number = number_of b.left; what = what_of asks l; tick = tick_of b.now asks l };
}

-- the asking is under way; 32 drawn bytes are used
abbrev pub asked : {T : Type 0} → Boxed T → Key → ℕ → Line → Boxed T
asked b k asks l = record {
  number = b.number;
  key = b.key;
  now = b.now;
  lines = b.lines;
  taken = b.taken;
  logins = b.logins;
  tickets = b.tickets;
  askings = put (record { number = number_of b.left; key = k; asks = asks; line = l }) b.askings;
  left = drop 32 b.left;
}

abbrev pub ticket_of : {T : Type 0} → ℕ → List (Held T) → Option T
ticket_of i [] = None
ticket_of i (h ∷ hs) = cond (h.pass.id == i) (Some h.ticket) (ticket_of i hs)

-- a box that holds nothing yet
abbrev pub fresh : {T : Type 0} → (number tick : ℕ) → Key → List ℕ → Boxed T
fresh n tick k bs = record {
  number = n;
  key = k;
  now = tick;
  lines = 0;
  taken = 0;
  logins = [];
  tickets = [];
  askings = [];
  left = bs;
}

-- settings in range: a number from 1 to 1,023 and a tick below 2^63
abbrev pub settles : (number tick : ℕ) → Bool
settles n tick = not (n == 0 || (nat_lt 1023 n || nat_le (2 ^ 63) tick))

-- it starts, or the settings are out of range, or there is no memory
abbrev pub Starts : {T : Type 0} → (number tick : ℕ) → Key → Result (Chest T) NotStarted → Type 0
Starts n tick k (Ok c) = (settles n tick ≡ true) × ((bs : List ℕ) → boxed c bs ≡ fresh n tick k bs)
Starts n tick k (Err (Wrong f)) = (settles n tick ≡ false) × (f ≡ OutOfRange)
Starts n tick k (Err NoMemory) = settles n tick ≡ true

abbrev pub set_tick : {T : Type 0} → Boxed T → ℕ → Ticked → ℕ
set_tick b to On = to
set_tick b to Back = b.now
set_tick b to Stopped = b.now

abbrev pub box_on_tick : {T : Type 0} → Boxed T → ℕ → Boxed T
box_on_tick b to = record {
  number = b.number;
  key = b.key;
  now = set_tick b to (clock b.now to);
  lines = b.lines;
  taken = b.taken;
  logins = b.logins;
  tickets = b.tickets;
  askings = b.askings;
  left = b.left;
}
