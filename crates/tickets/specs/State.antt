-- The state of the whole: what each reader wanted and asked, what the house gave, what was done, what was stolen,
-- and everything that was ever on the net.
-- A line: what a reader wanted of a service, once. A wish: a login or an asking for the house that is under way for a line.
-- A key made: a session key that the house drew. A deed: what a service, or the house, did. Assumes nothing.
use Rattle.std.specs.Prelude.{Bool, false, ◌||◌, List, [], ◌∷◌, ◌++◌, ◌≡◌, ℕ, ◌+◌, ◌≤◌, eqb}
use Rattle.tickets.specs.Term.{Term}

-- house: the house's number; life: for how many ticks a ticket is good; lag: for how many an asking is;
-- key_of: the name of a service's own key, since two services can have one key by a slip
pub record Rules : Type 0 where
  pub house : ℕ
  pub life : ℕ
  pub lag : ℕ
  pub key_of : ℕ → ℕ

-- a tick t is of lately at now: no more than early ahead of it, no more than late behind
pub record Lately (early late now t : ℕ) : Type 0 where
  pub not_ahead : t ≤ now + early
  pub not_old : now ≤ t + late

-- a ticket that is good until then is good now
abbrev pub Good : (now until : ℕ) → Type 0
Good now until = now ≤ until

-- what was done at a tick is remembered now, by whoever keeps it for so long
abbrev pub Remembered : (keep now at : ℕ) → Type 0
Remembered keep now at = now ≤ at + keep

-- how far ahead of the hearer's a tick may be, and for how long a deed is remembered
abbrev pub early : Rules → ℕ
early r = 0

abbrev pub keep : Rules → ℕ
keep r = r.lag

-- one line of a reader: which one (the number that was drawn for it first), whose, and what was wanted, and when
pub record Line : Type 0 where
  pub id : ℕ
  pub reader : ℕ
  pub service : ℕ
  pub what : Term
  pub at : ℕ

-- how far a line has come: its login is under way, or its asking for the house is
pub data Stage : Type 0 where
  LoggingIn : Stage
  AskingHouse : Stage

-- what is under way for a line: with which number, drawn when, and the key under which its letter will come
pub record Wish : Type 0 where
  pub line : Line
  pub stage : Stage
  pub number : ℕ
  pub since : ℕ
  pub key : Term

-- a session key that the house drew: for whom, for which service, upon which number, under which key its letter was locked,
-- when, until when it is good, and what had been stolen by then
pub record Key : Type 0 where
  pub who : ℕ
  pub service : ℕ
  pub key : ℕ
  pub upon : Term
  pub under : Term
  pub at : ℕ
  pub until : ℕ
  pub stolen : List ℕ

-- what the reader of a line asked of a service or of the house: under which key, by which number, in which words, at which tick;
-- the number of the login or asking whose letter brought the key, and since when that was under way; what had been stolen by then
pub record Asked : Type 0 where
  pub line : Line
  pub service : ℕ
  pub key : Term
  pub number : ℕ
  pub what : Term
  pub at : ℕ
  pub upon : ℕ
  pub since : ℕ
  pub stolen : List ℕ

-- what a service, or the house, did as asked by somebody, when, and what had been stolen by then
pub record Done : Type 0 where
  pub service : ℕ
  pub who : ℕ
  pub key : Term
  pub number : Term
  pub what : Term
  pub at : ℕ
  pub stolen : List ℕ

-- whose account was closed, and when
pub record Closing : Type 0 where
  pub who : ℕ
  pub at : ℕ

-- air: everything that was ever on the net, and what was stolen; taken: the numbers whose letter was taken;
-- next: the number that is drawn next; every list has the newest first
pub record State : Type 0 where
  pub now : ℕ
  pub next : ℕ
  pub air : List Term
  pub stolen : List ℕ
  pub closed : List Closing
  pub lines : List Line
  pub wishes : List Wish
  pub taken : List ℕ
  pub made : List Key
  pub asked : List Asked
  pub done : List Done

-- does a number stand in a list
unfoldable pub is_in : ℕ → List ℕ → Bool
is_in n [] = false
is_in n (x ∷ xs) = eqb x n || is_in n xs

-- does one of these numbers stand in a list
abbrev pub any_in : List ℕ → List ℕ → Bool
any_in [] xs = false
any_in (n ∷ ns) xs = is_in n xs || any_in ns xs

-- is somebody's account closed
unfoldable pub is_closed : ℕ → List Closing → Bool
is_closed a [] = false
is_closed a (c ∷ cs) = eqb c.who a || is_closed a cs

-- the keys on which a deed of a service for a reader relies: the reader's, the service's and the house's
abbrev pub relies : Rules → (who service : ℕ) → List ℕ
relies r a v = a ∷ r.key_of v ∷ r.key_of r.house ∷ []

-- none of these keys is among the stolen ones
abbrev pub Safe : Rules → List ℕ → (who service : ℕ) → Type 0
Safe r stolen a v = any_in (relies r a v) stolen ≡ false

-- nothing has happened yet
abbrev pub start : State
start =
    record {
      now = 0;
      next = 1;
      air = [];
      stolen = [];
      closed = [];
      lines = [];
      wishes = [];
      taken = [];
      made = [];
      asked = [];
      done = [];
    }

-- time goes on by a tick
abbrev pub ticked : State → State
ticked s = record { now = s.now + 1; next = s.next; air = s.air; stolen = s.stolen; closed = s.closed; lines = s.lines; wishes = s.wishes; taken = s.taken; made = s.made; asked = s.asked; done = s.done }

-- a number is drawn
abbrev pub drew : State → State
drew s = record { now = s.now; next = s.next + 1; air = s.air; stolen = s.stolen; closed = s.closed; lines = s.lines; wishes = s.wishes; taken = s.taken; made = s.made; asked = s.asked; done = s.done }

-- these words are on the net
abbrev pub said : List Term → State → State
said ts s = record { now = s.now; next = s.next; air = ts ++ s.air; stolen = s.stolen; closed = s.closed; lines = s.lines; wishes = s.wishes; taken = s.taken; made = s.made; asked = s.asked; done = s.done }

-- the own key with this name is stolen
abbrev pub with_stolen : ℕ → State → State
with_stolen a s = record { now = s.now; next = s.next; air = s.air; stolen = a ∷ s.stolen; closed = s.closed; lines = s.lines; wishes = s.wishes; taken = s.taken; made = s.made; asked = s.asked; done = s.done }

-- an account is closed
abbrev pub with_closed : Closing → State → State
with_closed c s = record { now = s.now; next = s.next; air = s.air; stolen = s.stolen; closed = c ∷ s.closed; lines = s.lines; wishes = s.wishes; taken = s.taken; made = s.made; asked = s.asked; done = s.done }

-- a reader has written a line
abbrev pub with_line : Line → State → State
with_line l s = record { now = s.now; next = s.next; air = s.air; stolen = s.stolen; closed = s.closed; lines = l ∷ s.lines; wishes = s.wishes; taken = s.taken; made = s.made; asked = s.asked; done = s.done }

-- something is under way
abbrev pub with_wish : Wish → State → State
with_wish x s = record { now = s.now; next = s.next; air = s.air; stolen = s.stolen; closed = s.closed; lines = s.lines; wishes = x ∷ s.wishes; taken = s.taken; made = s.made; asked = s.asked; done = s.done }

-- the letter for this number is taken
abbrev pub with_taken : ℕ → State → State
with_taken n s = record { now = s.now; next = s.next; air = s.air; stolen = s.stolen; closed = s.closed; lines = s.lines; wishes = s.wishes; taken = n ∷ s.taken; made = s.made; asked = s.asked; done = s.done }

-- a session key is made
abbrev pub with-key : Key → State → State
with-key m s = record { now = s.now; next = s.next; air = s.air; stolen = s.stolen; closed = s.closed; lines = s.lines; wishes = s.wishes; taken = s.taken; made = m ∷ s.made; asked = s.asked; done = s.done }

-- something is asked
abbrev pub with_asked : Asked → State → State
with_asked q s = record { now = s.now; next = s.next; air = s.air; stolen = s.stolen; closed = s.closed; lines = s.lines; wishes = s.wishes; taken = s.taken; made = s.made; asked = q ∷ s.asked; done = s.done }

-- something is done
abbrev pub with_done : Done → State → State
with_done d s = record { now = s.now; next = s.next; air = s.air; stolen = s.stolen; closed = s.closed; lines = s.lines; wishes = s.wishes; taken = s.taken; made = s.made; asked = s.asked; done = d ∷ s.done }
