-- Worked cases over the decisions' own definitions, with faults by their numbers: what happened, what comes next, how it is answered.
-- The proofs are in proofs/FaultsRow.antt. Assumes nothing.
--
-- Outcome         how an act is answered: what is given, done or sent, or the number of the fault
-- outcome c s e   how the act e is answered in the system s, by the definition that the side's contract cites
-- Case            acts with the newest first, one more, and its outcome; or a side at hand in place of the acts
-- stated          how a row says that its act is answered
-- answer_of       how it is answered
-- fault_cases     the table
-- WorkedFaults    each row of it is answered as stated
--
-- A word here is one that was opened. That a word locked with another key does not open, fault 3, and that what can't be read
-- is fault 1, is the affair of locks and of bytes, which stand elsewhere. Which words outsiders can have is in the table of the model.
use Rattle.std.specs.Prelude.{◌≡◌, ℕ, ◌+◌, ◌*◌, ◌^◌, true, false, List, [], ◌∷◌, ◌++◌, map, replicate, Some, None, Option, slice_index, Ok, Err}
use Rattle.parts.specs.Fault.{fault_number}
use Rattle.parts.specs.Tick.{clock, tick_fault}
use Rattle.parts.specs.declared.account.Account.TheVariants.{Absent, Open}
use Rattle.parts.specs.declared.fault.Fault.{Fault}
use Rattle.parts.specs.declared.word.Asking.{Asking}
use Rattle.parts.specs.declared.word.Key.{Key}
use Rattle.parts.specs.declared.word.Letter.{Letter}
use Rattle.parts.specs.declared.word.Login.{Login}
use Rattle.parts.specs.declared.word.Receipt.{Receipt}
use Rattle.parts.specs.declared.word.Ticket.{Ticket}
use Rattle.parts.specs.declared.word.What.{What}
use Rattle.service_rules.specs.Service.{View, view}
use Rattle.service_rules.specs.Service as service
use Rattle.service_rules.specs.Service.{Answer}
use Rattle.held.specs.declared.cut.Cut.TheVariants.{Junk, New, Old}
use Rattle.house_rules.specs.Change.{opened, shut}
use Rattle.house_rules.specs.House.{Home}
use Rattle.house_rules.specs.House as house
use Rattle.house_rules.specs.Change.{Answer as Changed}
use Rattle.house_rules.specs.declared.change.Changed.TheVariants as changed
use Rattle.house_rules.specs.Give.{Reply}
use Rattle.box_rules.specs.Chest.{two_bytes}
use Rattle.box_rules.specs.Line as line
use Rattle.box_rules.specs.Letter as letter
use Rattle.box_rules.specs.Line.{Told}
use Rattle.box_rules.specs.declared.answer.Answer.TheVariants as told
use Rattle.box_rules.specs.declared.line.Under.TheVariants.{Own as OwnKey, Session}
use Rattle.rows.specs.Name.{Bytes, Naming, own_of}
use Rattle.rows.specs.Word.{words_of}
use Rattle.rows.specs.Setting.{Setting}
use Rattle.rows.specs.System.{System, Act, House, Service, Reader, tells, hands, steals, opens, closes, wants, logs_in, asks_house, asks, takes, hears, device, crashes, run}
use Rattle.rows.specs.Happens.{key, number, session_key, words}

pub data Outcome : Type 0 where
  -- the house gives a ticket: for which service, whose it is, until when
  Gives : (service reader until : ℕ) → Outcome
  -- a service does it: for whom, in which words, asked at which tick
  Does : (reader : ℕ) (words : Bytes) (asked : ℕ) → Outcome
  -- a box logs in; or asks a side, which may be the house, with this tick
  LogsIn : (tick : ℕ) → Outcome
  Asks : (side tick : ℕ) → Outcome
  -- a box takes a letter: a ticket with this id, for which service, until when
  Takes : (id service until : ℕ) → Outcome
  -- a box is told that the line with this number was done
  Confirms : (line : ℕ) → Outcome
  -- an account is changed; it is as it was
  Changes : Outcome
  Stays : Outcome
  -- it happens, and nobody has to decide
  Happens : Outcome
  -- the fault with this number
  Fails : (number : ℕ) → Outcome

-- an answer of the house, by the ticket that goes out
abbrev pub of_reply : Reply → Outcome
of_reply (Ok x) = Gives x.ticket.inside.service x.ticket.inside.reader x.ticket.inside.until
of_reply (Err f) = Fails (fault_number f)

-- an answer of a service
abbrev pub of_answer : Answer → Outcome
of_answer (Ok x) = Does x.deed.reader (words_of x.deed.what) x.deed.asked
of_answer (Err f) = Fails (fault_number f)

-- an answer of a box, by what it sends
abbrev pub of_told : Told → Outcome
of_told (Ok (told.LogsIn l)) = LogsIn l.inside.tick
of_told (Ok (told.Asks i l)) = Asks l.inside.service l.inside.tick
of_told (Ok (told.Takes g l)) = Takes g.id g.service g.until
of_told (Ok (told.Receipt i)) = Confirms i
of_told (Ok (told.Shown k)) = Happens
of_told (Err f) = Fails (fault_number f)

-- an answer to an opening or a closing
abbrev pub of_changed : Changed → Outcome
of_changed (Ok changed.Done) = Changes
of_changed (Ok changed.Same) = Stays
of_changed (Err f) = Fails (fault_number f)

-- a fault, if there is one
abbrev pub of_fault : Option Fault → Outcome
of_fault None = Happens
of_fault (Some f) = Fails (fault_number f)

-- a tick is answered by the house; boxes and services go by the same clock
abbrev pub outcome : Setting → System → Act → Outcome
outcome c s (tells to) = of_fault (tick_fault (clock s.home.side.now to))
outcome c s (hands who bs) = Happens
outcome c s (steals m) = Happens
outcome c s (opens m k w) = of_changed (opened s.home.accounts m w)
outcome c s (closes m w) = of_changed (shut s.home.accounts m w)
outcome c s (wants a v by w) = of_told (line.wanted (s.box a) v by w)
outcome c s (logs_in a l) = of_reply (house.logged_in s.home a l)
outcome c s (asks_house t q) = of_reply (house.answered s.home t q (c.digest t.key q.number))
outcome c s (asks v t q) = of_answer (service.answered (s.side v) t q (c.digest t.key q.number))
outcome c s (takes a u l) = of_told (letter.taken (s.box a) u l)
outcome c s (hears who) = Happens
outcome c s (device who w) = Happens
outcome c s (crashes who cut) = Happens

pub data Case : Type 0 where
  -- from the first start at tick 100: these acts, the newest first; then this one, and how it is answered
  after : (c : Setting) (acts : List Act) (act : Act) (is : Outcome) → Case
  -- after such acts a box hears a receipt under this key
  confirmed : (c : Setting) (acts : List Act) (reader : ℕ) (k : Key) (r : Receipt) (is : Outcome) → Case
  -- a service or the house at hand, a ticket and an asking with its digest, and how it is answered
  at_service : (v : View) (t : Ticket) (q : Asking) (digest : ℕ) (is : Outcome) → Case
  at_house : (h : Home) (t : Ticket) (q : Asking) (digest : ℕ) (is : Outcome) → Case

-- how a row says that its act is answered
abbrev pub stated : Case → Outcome
stated (after c es e o) = o
stated (confirmed c es a k r o) = o
stated (at_service v t q d o) = o
stated (at_house h t q d o) = o

-- how it is answered, with any way to name keys and numbers
abbrev pub answer_of : ((c : Setting) → Naming c.own) → Case → Outcome
answer_of n (after c es e o) = outcome c (run c (n c) 100 es) e
answer_of n (confirmed c es a k r o) = of_told (letter.confirmed ((run c (n c) 100 es).box a).askings k r)
answer_of n (at_service v t q d o) = of_answer (service.answered v t q d)
answer_of n (at_house h t q d o) = of_reply (house.answered h t q d)

-- a ticket is good for 1,000 ticks, an asking for 5; what is remembered is told by the first bytes of key and number
abbrev pub having : List Key → Setting
having ks = record {
  life = 1000;
  lag = 5;
  own = ks;
  digest = λ k m. slice_index k.0 0 * 256 + slice_index m.0 0;
}

-- own keys of the numbers 0 to 8: each its own; or, by a slip, 8 has the key of 7
abbrev pub plain : Setting
plain = having (key 1 ∷ key 2 ∷ key 3 ∷ key 4 ∷ key 5 ∷ key 6 ∷ key 7 ∷ key 8 ∷ key 9 ∷ [])

abbrev pub slip : Setting
slip = having (key 1 ∷ key 2 ∷ key 3 ∷ key 4 ∷ key 5 ∷ key 6 ∷ key 7 ∷ key 8 ∷ key 8 ∷ [])

-- the accounts: the readers 5 and 6, the services 7 and 8
abbrev pub accounts : Setting → List Act
accounts c =
    opens 8 (own_of c.own 8) true
    ∷ opens 7 (own_of c.own 7) true
    ∷ opens 6 (own_of c.own 6) true
    ∷ opens 5 (own_of c.own 5) true
    ∷ []

-- with drawn bytes: the house for three keys, 21 to 23, the reader 5 for the numbers 11 to 14
abbrev pub ready : Setting → List Act
ready c =
    hands House (replicate 64 21 ++ (replicate 64 22 ++ replicate 64 23))
    ∷ hands (Reader 5) (replicate 32 11 ++ (replicate 32 12 ++ (replicate 32 13 ++ replicate 32 14)))
    ∷ hands (Service 7) (replicate 48 31)
    ∷ hands (Service 8) (replicate 16 32)
    ∷ accounts c

-- a login with this number
abbrev pub login : (n tick : ℕ) → Login
login n t = record { number = number n; tick = t }

-- the ticket for the house that 5 gets at 100, and its letter
abbrev pub house_ticket : Ticket
house_ticket = record { service = 0; reader = 5; key = session_key 21; until = 1100 }

abbrev pub house_letter : Letter
house_letter = record { number = number 11; service = 0; key = session_key 21; until = 1100 }

-- one from another login
abbrev pub old_letter : Letter
old_letter = record { number = number 10; service = 0; key = session_key 20; until = 1100 }

-- the house is asked for a service; a service is asked to do what the words say
abbrev pub for_service : (v n tick : ℕ) → Asking
for_service v n t = record { service = 0; number = number n; what = two_bytes v; tick = t }

abbrev pub asking : (v n tick : ℕ) → Asking
asking v n t = record { service = v; number = number n; what = words; tick = t }

-- the ticket for 7 that 5 gets at 200, and its letter
abbrev pub ticket7 : Ticket
ticket7 = record { service = 7; reader = 5; key = session_key 22; until = 1200 }

abbrev pub letter7 : Letter
letter7 = record { number = number 13; service = 7; key = session_key 22; until = 1200 }

-- another for 7, with another key, and one that somebody made up who has the service's key, for whomever
abbrev pub other7 : Ticket
other7 = record { service = 7; reader = 5; key = session_key 23; until = 1200 }

abbrev pub made_up : (service reader : ℕ) → Ticket
made_up v a = record { service = v; reader = a; key = key 99; until = 5000 }

-- 5 logs in at 100 and holds the house's ticket, with the id 1, from then on
abbrev pub logged_in : Setting → List Act
logged_in c = takes 5 OwnKey house_letter ∷ logs_in 5 (login 11 100) ∷ wants 5 7 None words ∷ ready c

-- by it 5 gets a ticket for 7 at 200, with the id 2
abbrev pub asked200 : Setting → List Act
asked200 c =
    takes 5 (Session (session_key 21)) letter7
    ∷ asks_house house_ticket (for_service 7 13 200)
    ∷ wants 5 7 (Some 1) words
    ∷ tells 200
    ∷ logged_in c

-- 7 does it
abbrev pub done200 : List Act
done200 = asks 7 ticket7 (asking 7 14 200) ∷ asked200 plain

-- and 5 gets another ticket for 7
abbrev pub two200 : List Act
two200 = asks_house house_ticket (for_service 7 15 200) ∷ done200

-- the account of 5 is closed at 300, and a tick goes by
abbrev pub closed301 : List Act
closed301 = tells 301 ∷ closes 5 true ∷ tells 300 ∷ done200

-- 7 crashes at 200, before it is asked, and the write that was cut left junk: it waits at the ticks 200 to 205
abbrev pub crashed7 : List Act
crashed7 = crashes (Service 7) Junk ∷ asked200 plain

-- so many drawn bytes for each
abbrev pub handed : (house reader service : ℕ) → List Act
handed h r v =
    hands House (replicate h 21)
    ∷ hands (Reader 5) (replicate r 11)
    ∷ hands (Service 7) (replicate v 31)
    ∷ accounts plain

-- the house crashes so at 100, and waits at the ticks 100 to 105
abbrev pub crashed_house : List Act
crashed_house = crashes House Junk ∷ ready plain

-- the service 7 at 200, with so many things remembered, all of one tick
abbrev pub remembering : (many tick : ℕ) → View
remembering n t =
    view (record { number = 7; lag = 5; now = 200; wake = 0 })
    (replicate n (record { digest = 1; tick = t })) false true (replicate 16 31)

-- the house so, with accounts up to 7
abbrev pub remembering_house : (many tick : ℕ) → Home
remembering_house n t = record {
  side = record { number = 0; lag = 5; now = 200; wake = 0 };
  life = 1000;
  key = key 1;
  accounts = replicate 5 Absent ++ (Open (key 6) ∷ Open (key 7) ∷ Open (key 8) ∷ []);
  kept = replicate n (record { digest = 1; tick = t });
  junk = false;
  writes = true;
  left = replicate 64 21;
}

-- words that are too long, and what is no service's number
abbrev pub long : What
long = record { len = 1025; bytes = [] }

abbrev pub three_bytes : Asking
three_bytes = record { service = 0; number = number 13; what = record { len = 3; bytes = 0 ∷ 7 ∷ 0 ∷ [] }; tick = 200 }

-- done for 5, asked at that tick
abbrev pub did : (asked : ℕ) → Outcome
did t = Does 5 (7 ∷ 8 ∷ []) t

-- the table
abbrev pub fault_cases : List Case
fault_cases =
    -- A: a ticket for the house until 1,100; at 200 one for 7 until 1,200; 7 does it at 200
    after plain (ready plain) (wants 5 7 None words) (LogsIn 100)
    ∷ after plain (wants 5 7 None words ∷ ready plain) (logs_in 5 (login 11 100)) (Gives 0 5 1100)
    ∷ after plain (logs_in 5 (login 11 100) ∷ wants 5 7 None words ∷ ready plain) (takes 5 OwnKey house_letter) (Takes 1 0 1100)
    ∷ after plain (tells 200 ∷ logged_in plain) (wants 5 7 (Some 1) words) (Asks 0 200)
    ∷ after plain (wants 5 7 (Some 1) words ∷ tells 200 ∷ logged_in plain) (asks_house house_ticket (for_service 7 13 200)) (Gives 7 5 1200)
    ∷ after plain (asks_house house_ticket (for_service 7 13 200) ∷ wants 5 7 (Some 1) words ∷ tells 200 ∷ logged_in plain)
    (takes 5 (Session (session_key 21)) letter7) (Takes 2 7 1200)
    ∷ after plain (asked200 plain) (asks 7 ticket7 (asking 7 14 200)) (did 200)
    -- B: the same asking again: at 201, at 205, the last tick of lately, and at 206
    ∷ after plain (tells 201 ∷ done200) (asks 7 ticket7 (asking 7 14 200)) (Fails 8)
    ∷ after plain (tells 205 ∷ done200) (asks 7 ticket7 (asking 7 14 200)) (Fails 8)
    ∷ after plain (tells 206 ∷ done200) (asks 7 ticket7 (asking 7 14 200)) (Fails 6)
    -- an asking of a tick that is still to come; a login and an asking for the house that are late
    ∷ after plain (asked200 plain) (asks 7 ticket7 (asking 7 14 201)) (Fails 6)
    ∷ after plain (tells 106 ∷ ready plain) (logs_in 5 (login 11 100)) (Fails 6)
    ∷ after plain (tells 105 ∷ ready plain) (logs_in 5 (login 11 100)) (Gives 0 5 1105)
    ∷ after plain (tells 206 ∷ logged_in plain) (asks_house house_ticket (for_service 7 13 200)) (Fails 6)
    -- the asking for the house again; that of 7 again after a crash that lost nothing, and after one whose write was whole,
    -- though nothing was done
    ∷ after plain (asked200 plain) (asks_house house_ticket (for_service 7 13 200)) (Fails 8)
    ∷ after plain (crashes (Service 7) Old ∷ done200) (asks 7 ticket7 (asking 7 14 200)) (Fails 8)
    ∷ after plain (crashes (Service 7) (New (plain.digest (session_key 22) (number 14))) ∷ asked200 plain)
    (asks 7 ticket7 (asking 7 14 200)) (Fails 8)
    -- C: the account of 5 is closed at 300; at 301 the house gives nothing upon a login, nor upon an asking by its ticket
    ∷ after plain (tells 300 ∷ done200) (closes 5 true) Changes
    ∷ after plain closed301 (logs_in 5 (login 15 301)) (Fails 5)
    ∷ after plain closed301 (asks_house house_ticket (for_service 7 16 301)) (Fails 5)
    -- without the closing it gives both
    ∷ after plain (tells 301 ∷ done200) (logs_in 5 (login 15 301)) (Gives 0 5 1301)
    ∷ after plain (tells 301 ∷ done200) (asks_house house_ticket (for_service 7 16 301)) (Gives 7 5 1301)
    -- 7 serves by the ticket that was given before until 1,200, and at 1,201 no more
    ∷ after plain (tells 1200 ∷ closed301) (asks 7 ticket7 (asking 7 17 1200)) (did 1200)
    ∷ after plain (tells 1201 ∷ closed301) (asks 7 ticket7 (asking 7 17 1201)) (Fails 7)
    -- so does the house with its own, until 1,100
    ∷ after plain (tells 1100 ∷ done200) (asks_house house_ticket (for_service 7 16 1100)) (Gives 7 5 2100)
    ∷ after plain (tells 1101 ∷ done200) (asks_house house_ticket (for_service 7 16 1101)) (Fails 7)
    -- what is closed is neither opened nor closed again; what the file doesn't hold isn't closed; who isn't there can't be;
    -- the house is no account
    ∷ after plain closed301 (opens 5 (key 6) true) Stays
    ∷ after plain closed301 (closes 5 true) Stays
    ∷ after plain done200 (closes 5 false) (Fails 14)
    ∷ after plain (closes 5 false ∷ done200) (logs_in 5 (login 15 200)) (Gives 0 5 1200)
    ∷ after plain done200 (closes 4 true) (Fails 2)
    ∷ after plain done200 (opens 0 (key 1) true) (Fails 2)
    ∷ after plain done200 (opens 4 (key 5) false) (Fails 14)
    ∷ after plain done200 (opens 4 (key 5) true) Changes
    -- D: 8 opens 7's ticket, where by a slip both have one key; an asking for 8 by 7's ticket; an asking for 7 by the house's
    -- (where each has a key of its own the ticket doesn't open, 3: that is the locks' affair)
    ∷ after slip (asked200 slip) (asks 8 ticket7 (asking 7 14 200)) (Fails 10)
    ∷ after slip (asked200 slip) (asks 8 ticket7 (asking 8 14 200)) (Fails 10)
    ∷ after plain (asked200 plain) (asks 7 ticket7 (asking 8 14 200)) (Fails 10)
    ∷ after plain (asked200 plain) (asks_house house_ticket (asking 7 15 200)) (Fails 10)
    -- the house is asked for itself as a service, for a service that isn't there, and for what is no number
    ∷ after plain (asked200 plain) (asks_house house_ticket (for_service 0 15 200)) (Fails 10)
    ∷ after plain (asked200 plain) (asks_house house_ticket (for_service 9 15 200)) (Fails 2)
    ∷ after plain (asked200 plain) (asks_house house_ticket three_bytes) (Fails 4)
    -- somebody logs in who isn't there
    ∷ after plain (ready plain) (logs_in 4 (login 11 100)) (Fails 2)
    -- E: the key of 5 is stolen, and the house gives to whoever logs in with it, and then to whoever asks by that ticket
    ∷ after plain (steals 5 ∷ ready plain) (logs_in 5 (login 41 100)) (Gives 0 5 1100)
    ∷ after plain (logs_in 5 (login 41 100) ∷ steals 5 ∷ ready plain) (asks_house house_ticket (for_service 7 42 100)) (Gives 7 5 1100)
    -- F: the key of 7 is stolen, and it does what is asked by a ticket that was made up; so does 8, if it has the same key
    ∷ after plain (steals 7 ∷ ready plain) (asks 7 (made_up 7 6) (asking 7 51 100)) (Does 6 (7 ∷ 8 ∷ []) 100)
    ∷ after slip (steals 7 ∷ ready slip) (asks 8 (made_up 8 6) (asking 8 51 100)) (Does 6 (7 ∷ 8 ∷ []) 100)
    -- but for nobody
    ∷ after plain (steals 7 ∷ ready plain) (asks 7 (made_up 7 0) (asking 7 51 100)) (Fails 2)
    ∷ after plain (steals 7 ∷ ready plain) (asks 7 (made_up 7 1024) (asking 7 51 100)) (Fails 2)
    -- G: one number under two keys: both are done, and neither again
    ∷ after plain done200 (asks_house house_ticket (for_service 7 15 200)) (Gives 7 5 1200)
    ∷ after plain two200 (asks 7 other7 (asking 7 14 200)) (did 200)
    ∷ after plain (asks 7 other7 (asking 7 14 200) ∷ two200) (asks 7 ticket7 (asking 7 14 200)) (Fails 8)
    ∷ after plain (asks 7 other7 (asking 7 14 200) ∷ two200) (asks 7 other7 (asking 7 14 200)) (Fails 8)
    -- after a crash with junk 7 waits for lag + 1 ticks, and does it at the next; the house gives nothing meanwhile
    ∷ after plain crashed7 (asks 7 ticket7 (asking 7 14 200)) (Fails 14)
    ∷ after plain (tells 205 ∷ crashed7) (asks 7 ticket7 (asking 7 14 205)) (Fails 14)
    ∷ after plain (tells 206 ∷ crashed7) (asks 7 ticket7 (asking 7 14 205)) (did 205)
    ∷ after plain (tells 105 ∷ crashed_house) (logs_in 5 (login 11 105)) (Fails 14)
    ∷ after plain (tells 106 ∷ crashed_house) (logs_in 5 (login 11 105)) (Gives 0 5 1106)
    ∷ after plain (crashes House Junk ∷ tells 200 ∷ logged_in plain) (asks_house house_ticket (for_service 7 13 200)) (Fails 14)
    -- what the device doesn't write isn't done; a login is not written
    ∷ after plain (device (Service 7) false ∷ asked200 plain) (asks 7 ticket7 (asking 7 14 200)) (Fails 14)
    ∷ after plain (device House false ∷ tells 200 ∷ logged_in plain) (asks_house house_ticket (for_service 7 13 200)) (Fails 14)
    ∷ after plain (device House false ∷ ready plain) (logs_in 5 (login 11 100)) (Gives 0 5 1100)
    -- drawn bytes: 16 for a receipt, 64 for a ticket and its letter, 32 for a login
    ∷ after plain (handed 64 32 15) (asks 7 ticket7 (asking 7 14 100)) (Fails 12)
    ∷ after plain (handed 64 32 16) (asks 7 ticket7 (asking 7 14 100)) (did 100)
    ∷ after plain (handed 63 32 16) (logs_in 5 (login 11 100)) (Fails 12)
    ∷ after plain (handed 63 32 16) (asks_house house_ticket (for_service 7 13 100)) (Fails 12)
    ∷ after plain (handed 64 32 16) (asks_house house_ticket (for_service 7 13 100)) (Gives 7 5 1100)
    ∷ after plain (handed 64 31 16) (wants 5 7 None words) (Fails 12)
    ∷ after plain (handed 64 32 16) (wants 5 7 None words) (LogsIn 100)
    -- the box: a ticket that isn't held; one that is over; the house as a service, and a ticket for another one
    ∷ after plain (logged_in plain) (wants 5 7 (Some 2) words) (Fails 2)
    ∷ after plain (tells 1100 ∷ logged_in plain) (wants 5 7 (Some 1) words) (Asks 0 1100)
    ∷ after plain (tells 1101 ∷ logged_in plain) (wants 5 7 (Some 1) words) (Fails 7)
    ∷ after plain (logged_in plain) (wants 5 0 (Some 1) words) (Fails 10)
    ∷ after plain (hands (Reader 5) (replicate 32 15) ∷ asked200 plain) (wants 5 8 (Some 2) words) (Fails 10)
    ∷ after plain (hands (Reader 5) (replicate 32 15) ∷ asked200 plain) (wants 5 7 (Some 2) words) (Asks 7 200)
    -- a letter for nothing that is under way: never asked for, taken already, for another login, under the wrong key
    ∷ after plain (ready plain) (takes 5 OwnKey house_letter) (Fails 11)
    ∷ after plain (logged_in plain) (takes 5 OwnKey house_letter) (Fails 11)
    ∷ after plain (wants 5 7 None words ∷ ready plain) (takes 5 OwnKey old_letter) (Fails 11)
    ∷ after plain (wants 5 7 (Some 1) words ∷ tells 200 ∷ logged_in plain) (takes 5 OwnKey letter7) (Fails 11)
    -- a receipt confirms the second line; one with another number, or under another key, belongs to nothing
    ∷ confirmed plain done200 5 (session_key 22) (record { number = number 14 }) (Confirms 2)
    ∷ confirmed plain done200 5 (session_key 22) (record { number = number 13 }) (Fails 11)
    ∷ confirmed plain done200 5 (session_key 23) (record { number = number 14 }) (Fails 11)
    -- too few drawn bytes for the asking that a letter brings
    ∷ after plain (wants 5 7 None words ∷ handed 64 63 16) (takes 5 OwnKey house_letter) (Fails 12)
    -- a service's number or words out of range; a tick that is past, or not below 2^63
    ∷ after plain (ready plain) (wants 5 1024 None words) (Fails 13)
    ∷ after plain (ready plain) (wants 5 7 None long) (Fails 13)
    ∷ after plain (ready plain) (tells 99) (Fails 13)
    ∷ after plain (ready plain) (tells (2 ^ 63)) (Fails 13)
    -- of several faults the lowest: an account closed and a login late; an asking late, its ticket over and for another service
    ∷ after plain closed301 (logs_in 5 (login 15 100)) (Fails 5)
    ∷ after slip (tells 1201 ∷ asked200 slip) (asks 8 ticket7 (asking 7 14 200)) (Fails 6)
    -- 8,192 things are remembered: there is no room until they are forgotten; with one less there is
    ∷ at_service (remembering 8192 195) ticket7 (asking 7 14 200) 2 (Fails 9)
    ∷ at_service (remembering 8192 194) ticket7 (asking 7 14 200) 2 (did 200)
    ∷ at_service (remembering 8191 195) ticket7 (asking 7 14 200) 2 (did 200)
    ∷ at_house (remembering_house 8192 195) house_ticket (for_service 7 13 200) 2 (Fails 9)
    ∷ at_house (remembering_house 8192 194) house_ticket (for_service 7 13 200) 2 (Gives 7 5 1200)
    ∷ at_house (remembering_house 8191 195) house_ticket (for_service 7 13 200) 2 (Gives 7 5 1200)
    ∷ []

-- there is a way to name keys and numbers, and by each way every row is answered as it says
pub record WorkedFaults : Type 0 where
  pub naming : (c : Setting) → Naming c.own
  pub answers : (n : (c : Setting) → Naming c.own) → map (answer_of n) fault_cases ≡ map stated fault_cases
