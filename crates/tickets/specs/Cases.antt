-- Worked cases: what happened, row by row, and what is so then. The proofs are in proofs/Cases.antt.
-- A row: the rules, the events with the newest first, and claims about the state that they leave. Assumes nothing.
use Rattle.std.specs.Prelude.{◌≡◌, cond, ℕ, zero, suc, eqb}
use mathlib.Core.List.{List, [], ◌∷◌, ◌++◌, Memᴰ}
use Rattle.tickets.specs.Term.{Term, Num, Drawn, Own, Gets, even}
use Rattle.tickets.specs.State.{Rules, Lately, Good, early, Line, LoggingIn, AskingHouse, Wish, Key, Asked, Done, State, Safe, start}
use Rattle.tickets.specs.Event.{Body, ticket, asking, Event, ticks, steals, closes, begins, grants, wants, wish, again, serves, asks, does, after, May, DoneBefore, Reach}
use Rattle.tickets.specs.Promise.{Origin, MadeFor, six}

-- the state that events leave
abbrev pub runs : Rules → List Event → State → State
runs r [] s = s
runs r (e ∷ es) s = after r e (runs r es s)

-- so many ticks later
abbrev pub waits : ℕ → List Event → List Event
waits zero es = es
waits (suc n) es = ticks ∷ waits n es

-- a ticket that was given, and a deed that was done, but for keys and numbers
pub record Given : Type 0 where
  pub who : ℕ
  pub service : ℕ
  pub at : ℕ
  pub until : ℕ

pub record Deed : Type 0 where
  pub service : ℕ
  pub who : ℕ
  pub what : Term
  pub at : ℕ

abbrev pub deed_of : Done → Deed
deed_of d = record { service = d.service; who = d.who; what = d.what; at = d.at }

abbrev pub givens : List Key → List Given
givens [] = []
givens (m ∷ ms) = record { who = m.who; service = m.service; at = m.at; until = m.until } ∷ givens ms

abbrev pub deeds : List Done → List Deed
deeds [] = []
deeds (d ∷ ds) = deed_of d ∷ deeds ds

-- what can be wrong with an asking that opens, with its ticket
pub data Why : Type 0 where
  NotLately : Why
  TicketOver : Why
  DoneAlready : Why

-- that it is right in this
abbrev pub Right : Rules → State → Body → (number : Term) → (at : ℕ) → Why → Type 0
Right r s b n t NotLately = Lately (early r) r.lag s.now t
Right r s b n t TicketOver = Good s.now b.until
Right r s b n t DoneAlready = DoneBefore r s b.service b.key n → ⊥

-- ticket and asking open and are right but for one thing
pub record WrongOnly (r : Rules) (s : State) (b : Body) (number what : Term) (at : ℕ) (why : Why) : Type 0 where
  pub ticket_heard : Gets s.air (ticket r b)
  pub asking_heard : Gets s.air (asking b.key b.service number what at)
  pub else_right : (y : Why) → (y ≡ why → ⊥) → Right r s b number at y
  pub wrong : Right r s b number at why → ⊥

-- what is claimed of a state
pub data Claim : Type 0 where
  -- it is this tick
  Now : ℕ → Claim
  -- these tickets were given, these deeds were done, these lines were written, and no others; the newest first
  Tickets : List Given → Claim
  Deeds : List Deed → Claim
  Lines : List Line → Claim
  -- this event may come next
  Happens : Event → Claim
  -- this event may not come next
  Refused : Event → Claim
  -- a service refuses this ticket and asking for this alone
  RefusedAs : Why → Body → (number what : Term) → (at : ℕ) → Claim
  -- the house gives this reader no ticket, whatever it hears
  NoTicketFor : (who : ℕ) → Claim
  -- no ticket for this service can be had, so it does nothing, whatever it hears
  NoneOpens : (service : ℕ) → Claim
  -- this ticket isn't one for another service, nor is this asking, whatever else they say
  NotForOther : Body → (number what : Term) → (at other : ℕ) → Claim
  -- outsiders can have this; they can't
  CanHave : Term → Claim
  CannotHave : Term → Claim
  -- every ticket that can be had was given by the house, but for those of this service
  GivenBut : (service : ℕ) → Claim
  -- this was done under this key and number
  DoneUnder : (service : ℕ) → (key number : Term) → Claim
  -- such a deed comes from a line of its reader; it comes from no line
  FromLine : Deed → Claim
  FromNoLine : Deed → Claim
  -- the promises speak of this reader and service; they don't
  Speaks : (who service : ℕ) → Claim
  Silent : (who service : ℕ) → Claim

-- one of the deeds that were done is such, and has this origin or none
pub record DeedWith (r : Rules) (s : State) (x : Deed) (P : Done → Type 0) : Type 0 where
  pub deed : Done
  pub known : Memᴰ deed s.done
  pub such : deed_of deed ≡ x
  pub origin : P deed

-- what a claim says
abbrev pub Holds : Rules → State → Claim → Type 0
Holds r s (Now t) = s.now ≡ t
Holds r s (Tickets xs) = givens s.made ≡ xs
Holds r s (Deeds xs) = deeds s.done ≡ xs
Holds r s (Lines xs) = s.lines ≡ xs
Holds r s (Happens e) = May r s e
Holds r s (Refused e) = May r s e → ⊥
Holds r s (RefusedAs y b n w t) = WrongOnly r s b n w t y
Holds r s (NoTicketFor a) =
    ((n : Term) (t : ℕ) → May r s (grants a n t) → ⊥) × ((b : Body) (n : Term) (v t : ℕ) → b.who ≡ a → May r s (serves b n v t) → ⊥)
Holds r s (NoneOpens v) =
    ((b : Body) → b.service ≡ v → Gets s.air (ticket r b) → ⊥) × ((b : Body) (n w : Term) (t : ℕ) → b.service ≡ v → May r s (does b n w t) → ⊥)
Holds r s (NotForOther b n w t v) =
    ((o : Body) → o.service ≡ v → ticket r o ≡ ticket r b → ⊥)
    × ((k m x : Term) (u : ℕ) → asking k v m x u ≡ asking b.key b.service n w t → ⊥)
Holds r s (CanHave t) = Gets s.air t
Holds r s (CannotHave t) = Gets s.air t → ⊥
Holds r s (GivenBut v) = (b : Body) → (b.service ≡ v → ⊥) → Gets s.air (ticket r b) → (m : Key) × MadeFor s b m
Holds r s (DoneUnder v k n) = DoneBefore r s v k n
Holds r s (FromLine x) = DeedWith r s x (λ d. Origin r s d)
Holds r s (FromNoLine x) = DeedWith r s x (λ d. Origin r s d → ⊥)
Holds r s (Speaks a v) = Safe r s.stolen a v
Holds r s (Silent a v) = Safe r s.stolen a v → ⊥

-- of each of these
abbrev pub Each : {A : Type 0} → (A → Type 0) → List A → Type 0
Each P [] = Unit {0}
Each P (x ∷ xs) = P x × Each P xs

pub record Row : Type 0 where
  pub rules : Rules
  pub events : List Event
  pub claims : List Claim

-- the events can happen, one after the other, and every claim holds then
pub record RowHolds (w : Row) : Type 0 where
  pub possible : Reach w.rules w.events (runs w.rules w.events start)
  pub claimed : Each (Holds w.rules (runs w.rules w.events start)) w.claims

-- the house is 0, a ticket is good for 1,000 ticks, an asking for 5
abbrev pub rules : (ℕ → ℕ) → Rules
rules k = record { house = 0; life = 1000; lag = 5; key_of = k }

-- each service has a key of its own; or, by a slip, 8 has the key of 7
abbrev pub plain : Rules
plain = rules (λ v. v)

abbrev pub slip : Rules
slip = rules (λ v. cond (eqb v 8) 7 v)

-- Reader 5 logs in at 100, with a line for service 7, and holds the house's ticket from then on.
abbrev pub line100 : Line
line100 = record { id = 1; reader = 5; service = 7; what = Num 31; at = 100 }

abbrev pub login100 : Wish
login100 = record { line = line100; stage = LoggingIn; number = 1; since = 100; key = Own 5 }

abbrev pub held100 : Asked
held100 = record { line = line100; service = 0; key = even 2; number = 3; what = Num 7; at = 100; upon = 1; since = 100; stolen = [] }

abbrev pub house_ticket : Body
house_ticket = record { service = 0; who = 5; key = even 2; until = 1100 }

abbrev pub logged_in : List Event
logged_in = wants login100 (even 2) 1100 ∷ grants 5 (even 1) 100 ∷ begins 5 7 (Num 31) ∷ waits 100 []

-- By a new line at 200 the reader asks the house for a ticket for service 7, and then asks 7.
abbrev pub line200 : Line
line200 = record { id = 4; reader = 5; service = 7; what = Num 32; at = 200 }

abbrev pub wish200 : Wish
wish200 = record { line = line200; stage = AskingHouse; number = 4; since = 200; key = even 2 }

abbrev pub held200 : Asked
held200 = record { line = line200; service = 7; key = even 5; number = 6; what = Num 32; at = 200; upon = 4; since = 200; stolen = [] }

abbrev pub ticket7 : Body
ticket7 = record { service = 7; who = 5; key = even 5; until = 1200 }

abbrev pub asked200 : List Event
asked200 = asks wish200 (even 5) 1200 ∷ serves house_ticket (even 4) 7 200 ∷ wish held100 7 (Num 32) ∷ waits 100 logged_in

-- Service 7 does it.
abbrev pub done200 : List Event
done200 = does ticket7 (even 6) (Num 32) 200 ∷ asked200

abbrev pub deed200 : Deed
deed200 = record { service = 7; who = 5; what = Num 32; at = 200 }

abbrev pub grant200 : Deed
grant200 = record { service = 0; who = 5; what = Num 7; at = 200 }

abbrev pub given100 : Given
given100 = record { who = 5; service = 0; at = 100; until = 1100 }

abbrev pub given200 : Given
given200 = record { who = 5; service = 7; at = 200; until = 1200 }

-- A: a house ticket until 1,100, a ticket for 7 until 1,200, and done at 200, from the line of 200
abbrev pub row_a : Row
row_a =
    record {
      rules = plain;
      events = done200;
      claims =
          Now 200
          ∷ Tickets (given200 ∷ given100 ∷ [])
          ∷ Deeds (deed200 ∷ grant200 ∷ [])
          ∷ Lines (line200 ∷ line100 ∷ [])
          ∷ FromLine deed200
          ∷ [];
    }

-- B: the same asking comes again at 201: done before, and nothing else is wrong
abbrev pub row_b201 : Row
row_b201 =
    record {
      rules = plain;
      events = waits 1 done200;
      claims = Refused (does ticket7 (even 6) (Num 32) 200) ∷ RefusedAs DoneAlready ticket7 (even 6) (Num 32) 200 ∷ [];
    }

-- and at 206: it is forgotten, and not of lately
abbrev pub row_b206 : Row
row_b206 =
    record {
      rules = plain;
      events = waits 6 done200;
      claims = Refused (does ticket7 (even 6) (Num 32) 200) ∷ RefusedAs NotLately ticket7 (even 6) (Num 32) 200 ∷ [];
    }

-- The account of 5 is closed at 300.
abbrev pub closed300 : List Event
closed300 = closes 5 ∷ waits 100 done200

-- The reader logs in at 301, and asks by the house's ticket too: the words are on the net.
abbrev pub tries : List Event → List Event
tries es = wish held100 7 (Num 34) ∷ begins 5 7 (Num 33) ∷ waits 1 es

-- C: after the closing neither brings a ticket
abbrev pub row_c301 : Row
row_c301 =
    record {
      rules = plain;
      events = tries closed300;
      claims =
          Now 301
          ∷ NoTicketFor 5
          ∷ Refused (grants 5 (even 7) 301)
          ∷ Refused (serves house_ticket (even 8) 7 301)
          ∷ Tickets (given200 ∷ given100 ∷ [])
          ∷ [];
    }

-- without the closing both do
abbrev pub row_c_open : Row
row_c_open =
    record {
      rules = plain;
      events = tries (waits 100 done200);
      claims = Now 301 ∷ Happens (grants 5 (even 7) 301) ∷ Happens (serves house_ticket (even 8) 7 301) ∷ [];
    }

-- The reader asks 7 again, by the ticket for it, so many ticks after the closing.
abbrev pub asks_again : ℕ → List Event
asks_again n = again held200 (Num 35) ∷ waits n closed300

-- the ticket that was given before the closing serves until 1,200
abbrev pub row_c1200 : Row
row_c1200 =
    record {
      rules = plain;
      events = does ticket7 (even 7) (Num 35) 1200 ∷ asks_again 900;
      claims = Now 1200 ∷ Deeds (record { service = 7; who = 5; what = Num 35; at = 1200 } ∷ deed200 ∷ grant200 ∷ []) ∷ [];
    }

-- and not at 1,201
abbrev pub row_c1201 : Row
row_c1201 =
    record {
      rules = plain;
      events = asks_again 901;
      claims =
          Now 1201
          ∷ Refused (does ticket7 (even 7) (Num 35) 1201)
          ∷ RefusedAs TicketOver ticket7 (even 7) (Num 35) 1201
          ∷ [];
    }

-- D: an asking for 7, brought to 8 with 7's ticket, doesn't open
abbrev pub row_d : Rules → Row
row_d r =
    record {
      rules = r;
      events = asked200;
      claims = Happens (does ticket7 (even 6) (Num 32) 200) ∷ NotForOther ticket7 (even 6) (Num 32) 200 8 ∷ NoneOpens 8 ∷ [];
    }

-- The key of 5 is stolen, and outsiders log in as 5 and have service 7 do something, all by themselves.
abbrev pub stolen5 : List Event
stolen5 = steals 5 ∷ waits 100 []

abbrev pub their_house_ticket : Body
their_house_ticket = record { service = 0; who = 5; key = even 1; until = 1100 }

abbrev pub their_ticket7 : Body
their_ticket7 = record { service = 7; who = 5; key = even 2; until = 1100 }

abbrev pub as_five : List Event
as_five =
    does their_ticket7 (Drawn 5) (Num 41) 100
    ∷ serves their_house_ticket (Drawn 3) 7 100
    ∷ grants 5 (Drawn 1) 100
    ∷ stolen5

-- E: what is done as 5 then comes from no line, and the promises don't speak of it; they speak of 6, who is served at the same tick
abbrev pub row_e : Row
row_e =
    record {
      rules = plain;
      events = six plain (runs plain as_five start) 6 7 (Num 42) ++ as_five;
      claims =
          Deeds
          (record { service = 7; who = 6; what = Num 42; at = 100 }
          ∷ record { service = 0; who = 6; what = Num 7; at = 100 }
          ∷ record { service = 7; who = 5; what = Num 41; at = 100 }
          ∷ record { service = 0; who = 5; what = Num 7; at = 100 }
          ∷ [])
          ∷ Lines (record { id = 3; reader = 6; service = 7; what = Num 42; at = 100 } ∷ [])
          ∷ Silent 5 7
          ∷ FromNoLine (record { service = 7; who = 5; what = Num 41; at = 100 })
          ∷ CanHave (even 1)
          ∷ CanHave (even 2)
          ∷ Speaks 6 7
          ∷ FromLine (record { service = 7; who = 6; what = Num 42; at = 100 })
          ∷ CannotHave (even 4)
          ∷ CannotHave (even 6)
          ∷ CannotHave (Own 6)
          ∷ [];
    }

-- A ticket that outsiders make up, for any reader and for as long as they like.
abbrev pub made_up : (service : ℕ) → Body
made_up v = record { service = v; who = 6; key = Drawn 1; until = 5000 }

-- F: the key of 7 is stolen: tickets for 7 can be made up, and for no other service
abbrev pub row_f : Row
row_f =
    record {
      rules = plain;
      events = steals 7 ∷ done200;
      claims =
          CanHave (ticket plain (made_up 7))
          ∷ Happens (does (made_up 7) (Drawn 3) (Num 51) 200)
          ∷ GivenBut 7
          ∷ NoneOpens 8
          ∷ CannotHave (ticket plain (made_up 0))
          ∷ Silent 6 7
          ∷ Speaks 6 8
          ∷ [];
    }

-- where 8 has the key of 7, for 8 too: one theft is both's
abbrev pub row_f_slip : Row
row_f_slip =
    record {
      rules = slip;
      events = steals 7 ∷ done200;
      claims = Happens (does (made_up 8) (Drawn 3) (Num 51) 200) ∷ Silent 6 8 ∷ Speaks 6 9 ∷ [];
    }

-- Outsiders who have 5's key get two tickets for 7, and ask by both with one number.
abbrev pub other_ticket7 : Body
other_ticket7 = record { service = 7; who = 5; key = even 3; until = 1100 }

abbrev pub two_tickets : List Event
two_tickets = serves their_house_ticket (Drawn 5) 7 100 ∷ serves their_house_ticket (Drawn 3) 7 100 ∷ grants 5 (Drawn 1) 100 ∷ stolen5

-- G: two askings with one number under two keys are both done, and neither again
abbrev pub row_g : Row
row_g =
    record {
      rules = plain;
      events = does other_ticket7 (Drawn 7) (Num 61) 100 ∷ does their_ticket7 (Drawn 7) (Num 61) 100 ∷ two_tickets;
      claims =
          Deeds
          (record { service = 7; who = 5; what = Num 61; at = 100 }
          ∷ record { service = 7; who = 5; what = Num 61; at = 100 }
          ∷ record { service = 0; who = 5; what = Num 7; at = 100 }
          ∷ record { service = 0; who = 5; what = Num 7; at = 100 }
          ∷ [])
          ∷ DoneUnder 7 (even 2) (Drawn 7)
          ∷ DoneUnder 7 (even 3) (Drawn 7)
          ∷ Refused (does their_ticket7 (Drawn 7) (Num 61) 100)
          ∷ Refused (does other_ticket7 (Drawn 7) (Num 61) 100)
          ∷ [];
    }

abbrev pub table : List Row
table =
    row_a ∷ row_b201 ∷ row_b206 ∷ row_c301 ∷ row_c_open ∷ row_c1200 ∷ row_c1201 ∷ row_d plain ∷ row_d slip ∷ row_e ∷ row_f ∷ row_f_slip ∷ row_g ∷ []

-- every row of the table holds
abbrev pub WorkedCases : Type 0
WorkedCases = Each RowHolds table
