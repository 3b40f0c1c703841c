-- What is promised of the whole, in every state that can be reached. The proofs are in proofs/Main.antt. Assumes nothing.
use Rattle.std.specs.Prelude.{◌≡◌, false, ℕ, ◌+◌, ◌≤◌}
use mathlib.Core.List.{List, [], ◌∷◌, ◌++◌, Memᴰ}
use Rattle.tickets.specs.Term.{Term, Num, Own, Gets, even}
use Rattle.tickets.specs.State.{Rules, Lately, Line, LoggingIn, AskingHouse, Wish, Key, Asked, Done, Closing, State, Safe, early, is_in, is_closed}
use Rattle.tickets.specs.Event.{Body, ticket, asking, receipt, Event, begins, grants, wants, serves, asks, does, new_line, new_wish, Later, Reach}

-- the deed was asked: by that reader, of that service, under that key and number, in those words, of lately
pub record Answers (r : Rules) (s : State) (d : Done) (q : Asked) : Type 0 where
  pub known : Memᴰ q s.asked
  pub by_reader : q.line.reader ≡ d.who
  pub of_service : q.service ≡ d.service
  pub same_key : q.key ≡ d.key
  pub same_number : even q.number ≡ d.number
  pub in_words : q.what ≡ d.what
  pub in_time : Lately (early r) r.lag d.at q.at
  pub from_line : Memᴰ q.line s.lines

-- an asking to a service says what its line says: of which service, in which words, at which tick
pub record AsWanted (q : Asked) : Type 0 where
  pub of_service : q.line.service ≡ q.service
  pub in_words : q.line.what ≡ q.what
  pub at_tick : q.line.at ≡ q.at

-- where a deed of a service comes from: a reader's asking, from a line that says the same
pub data Origin (r : Rules) (s : State) (d : Done) : Type 0 where
  by_reader : (q : Asked) → Answers r s d q → AsWanted q → Origin r s d

-- the line from which a deed comes
abbrev pub origin_line : {r : Rules} {s : State} {d : Done} → Origin r s d → Line
origin_line (by_reader q a w) = q.line

-- a key was made for this reader and service, upon this number, after it was under way
pub record MadeUpon (s : State) (who service : ℕ) (key : Term) (upon since : ℕ) (m : Key) : Type 0 where
  pub known : Memᴰ m s.made
  pub for_reader : m.who ≡ who
  pub for-service : m.service ≡ service
  pub same_key : key ≡ even m.key
  pub same_number : m.upon ≡ even upon
  pub not_before : since ≤ m.at

-- a ticket was made by the house, with just this inside
pub record MadeFor (s : State) (b : Body) (m : Key) : Type 0 where
  pub known : Memᴰ m s.made
  pub for_reader : m.who ≡ b.who
  pub for-service : m.service ≡ b.service
  pub same_key : b.key ≡ even m.key
  pub same_until : b.until ≡ m.until

-- what was under way when the key of an asking came: a login of that reader, for the house; an asking of that reader for that service, else
pub record CameBy (r : Rules) (s : State) (q : Asked) (x : Wish) : Type 0 where
  pub known : Memᴰ x s.wishes
  pub by_reader : x.line.reader ≡ q.line.reader
  pub same_number : x.number ≡ q.upon
  pub same_since : x.since ≡ q.since
  pub login : q.service ≡ r.house → x.stage ≡ LoggingIn
  pub asking : (q.service ≡ r.house → ⊥) → x.stage ≡ AskingHouse
  pub for-service : (q.service ≡ r.house → ⊥) → x.line.service ≡ q.service
  pub from_line : Memᴰ x.line s.lines

-- an asking under the key m that names a service, sent by the reader that the key was made for, to that service
pub record SentUnder (s : State) (m : Key) (service : ℕ) (number what : Term) (at : ℕ) (q : Asked) : Type 0 where
  pub known : Memᴰ q s.asked
  pub by_reader : q.line.reader ≡ m.who
  pub of_service : q.service ≡ service
  pub key_for_service : m.service ≡ service
  pub same_key : q.key ≡ even m.key
  pub same_number : even q.number ≡ number
  pub in_words : q.what ≡ what
  pub at_tick : q.at ≡ at
  pub from_line : Memᴰ q.line s.lines

-- a login that this reader began, no longer than the lag before the key was made upon it
pub record Began (r : Rules) (s : State) (m : Key) (x : Wish) : Type 0 where
  pub known : Memᴰ x s.wishes
  pub at_login : x.stage ≡ LoggingIn
  pub by_reader : x.line.reader ≡ m.who
  pub same_number : m.upon ≡ even x.number
  pub in_time : Lately (early r) r.lag m.at x.since
  pub from_line : Memᴰ x.line s.lines

-- an asking for the house by this reader, by a line for the key's service, no longer than the lag before the key was made upon it
pub record WantedBy (r : Rules) (s : State) (m : Key) (q : Asked) : Type 0 where
  pub known : Memᴰ q s.asked
  pub by_reader : q.line.reader ≡ m.who
  pub of_house : q.service ≡ r.house
  pub for-service : q.line.service ≡ m.service
  pub same_key : q.key ≡ m.under
  pub same_number : m.upon ≡ even q.number
  pub in_time : Lately (early r) r.lag m.at q.at
  pub from_line : Memᴰ q.line s.lines

-- the key that the house made by a deed of its own
pub record GaveKey (s : State) (d : Done) (m : Key) : Type 0 where
  pub known : Memᴰ m s.made
  pub for_reader : m.who ≡ d.who
  pub for-service : Num m.service ≡ d.what
  pub same_number : m.upon ≡ d.number
  pub same_key : m.under ≡ d.key
  pub same_tick : m.at ≡ d.at

-- the six events by which a reader is served from a state, the newest first
abbrev pub six : Rules → State → (reader service : ℕ) → (what : Term) → List Event
six r s a v w =
    does (record { service = v; who = a; key = even (s.next + 1 + 1 + 1); until = s.now + r.life }) (even (s.next + 1 + 1 + 1 + 1)) w s.now
    ∷ asks (record { line = new_line s a v w; stage = AskingHouse; number = s.next + 1 + 1; since = s.now; key = even (s.next + 1) }) (even (s.next + 1 + 1 + 1)) (s.now + r.life)
    ∷ serves (record { service = r.house; who = a; key = even (s.next + 1); until = s.now + r.life }) (even (s.next + 1 + 1)) v s.now
    ∷ wants (new_wish s (new_line s a v w) LoggingIn (Own a)) (even (s.next + 1)) (s.now + r.life)
    ∷ grants a (even s.next) s.now
    ∷ begins a v w
    ∷ []

-- after the six events: the same tick, nothing stolen or closed, one line more, a new deed of just this line, and a receipt for it
pub record ServedBy (r : Rules) (s : State) (a v : ℕ) (w : Term) (t : State) : Type 0 where
  pub possible : Later r s (six r s a v w) t
  pub same_tick : t.now ≡ s.now
  pub nothing_stolen : t.stolen ≡ s.stolen
  pub nothing_closed : t.closed ≡ s.closed
  pub one_line : t.lines ≡ new_line s a v w ∷ s.lines
  pub deed : Done
  pub ticket_given : Done
  pub two_deeds : t.done ≡ deed ∷ ticket_given ∷ s.done
  pub as_reader : deed.who ≡ a
  pub by_service : deed.service ≡ v
  pub in_words : deed.what ≡ w
  pub at_once : deed.at ≡ s.now
  pub the_asking : Asked
  pub accounts : Answers r t deed the_asking
  pub of-line : the_asking.line ≡ new_line s a v w
  pub told : Gets t.air (receipt the_asking.key (even the_asking.number))

-- What a service did, the reader asked of it, in those words, not later and no more than the lag before, from a line of that reader that says the same; unless a key of the three had been stolen by then.
abbrev pub AskedFor : Rules → State → Type 0
AskedFor r s =
    (d : Done) → Memᴰ d s.done → (d.service ≡ r.house → ⊥) → Safe r d.stolen d.who d.service → Origin r s d

-- A ticket that the house gave by a ticket, the reader asked for, by a line for that service; unless the reader's or the house's key had been stolen by then.
abbrev pub Granted : Rules → State → Type 0
Granted r s =
    (d : Done) → Memᴰ d s.done → d.service ≡ r.house → Safe r d.stolen d.who d.service
    → (q : Asked) × Answers r s d q × (Num q.line.service ≡ d.what)

-- Whatever the house does is to give a ticket, to that reader and for the service that the words name, whatever is stolen.
abbrev pub HouseGave : Rules → State → Type 0
HouseGave r s = (d : Done) → Memᴰ d s.done → d.service ≡ r.house → (m : Key) × GaveKey s d m

-- A ticket for a service is made only upon an asking for the house by this reader, by a line for that service, no longer than the lag before, unless the reader's or the house's key had been stolen by then.
abbrev pub TicketAsked : Rules → State → Type 0
TicketAsked r s =
    (m : Key) → Memᴰ m s.made → (m.service ≡ r.house → ⊥) → Safe r m.stolen m.who r.house → (q : Asked) × WantedBy r s m q

-- Two deeds of services come from different lines, unless a key on which the later one relies had been stolen by then.
abbrev pub Once : Rules → State → Type 0
Once r s =
    (ds es : List Done) (d e : Done) → s.done ≡ ds ++ (d ∷ es) → Memᴰ e es → Safe r d.stolen d.who d.service
    → (o : Origin r s d) (p : Origin r s e) → (origin_line o).id ≡ (origin_line p).id → ⊥

-- Nothing is done twice by one service, or by the house, under one key and number, unless a key on which the later one relies had been stolen by then.
abbrev pub OnceByNumber : Rules → State → Type 0
OnceByNumber r s =
    (ds es : List Done) (d e : Done) → s.done ≡ ds ++ (d ∷ es) → Memᴰ e es → Safe r d.stolen d.who d.service
    → e.service ≡ d.service → e.key ≡ d.key → e.number ≡ d.number → ⊥

-- A key that was made for a reader and a service can't be worked out while no key of the three is stolen.
abbrev pub Kept : Rules → State → Type 0
Kept r s = (m : Key) → Memᴰ m s.made → Safe r s.stolen m.who m.service → Gets s.air (even m.key) → ⊥

-- An own key that isn't stolen can't be worked out.
abbrev pub OwnKept : Rules → State → Type 0
OwnKept r s = (a : ℕ) → is_in a s.stolen ≡ false → Gets s.air (Own a) → ⊥

-- What opens as a ticket of a service was made by the house, for that reader and service, unless the service's key is stolen.
abbrev pub TicketMade : Rules → State → Type 0
TicketMade r s = (b : Body) → is_in (r.key_of b.service) s.stolen ≡ false → Gets s.air (ticket r b) → (m : Key) × MadeFor s b m

-- What opens as an asking under a session key was sent by its reader, to the service that it names and that the key was made for, in those words, at that tick, while no key of the three is stolen.
abbrev pub AskingMade : Rules → State → Type 0
AskingMade r s =
    (m : Key) (v : ℕ) (n w : Term) (t : ℕ) → Memᴰ m s.made → Safe r s.stolen m.who m.service
    → Gets s.air (asking (even m.key) v n w t) → (q : Asked) × SentUnder s m v n w t q

-- Nothing is done as a reader later than one life after the closing, unless the service's key had been stolen by then, whatever else is.
abbrev pub Over : Rules → State → Type 0
Over r s =
    (c : Closing) (d : Done) → Memᴰ c s.closed → Memᴰ d s.done → d.who ≡ c.who
    → is_in (r.key_of d.service) d.stolen ≡ false → d.at ≤ c.at + r.life

-- No key is made for a reader after the closing, whatever is stolen.
abbrev pub NoTicket : Rules → State → Type 0
NoTicket r s = (c : Closing) (m : Key) → Memᴰ c s.closed → Memᴰ m s.made → m.who ≡ c.who → m.at ≤ c.at

-- A ticket for the house is made only upon a login that this reader began, no longer than the lag before, unless the reader's key had been stolen.
abbrev pub LoggedIn : Rules → State → Type 0
LoggedIn r s =
    (m : Key) → Memᴰ m s.made → m.service ≡ r.house → is_in m.who m.stolen ≡ false → (x : Wish) × Began r s m x

-- Whoever asks does so under a key made for this reader and service, after and upon the number of this very login or asking, unless the reader's or the house's key had been stolen.
abbrev pub Fresh : Rules → State → Type 0
Fresh r s =
    (q : Asked) → Memᴰ q s.asked → Safe r q.stolen q.line.reader r.house
    → (x : Wish) × CameBy r s q x × (m : Key) × MadeUpon s q.line.reader q.service q.key x.number x.since m

-- A receipt under the key and for the number of an asking to a service means that it was done, if no key of the three is stolen.
abbrev pub Heard : Rules → State → Type 0
Heard r s =
    (q : Asked) → Memᴰ q s.asked → (q.service ≡ r.house → ⊥) → Safe r s.stolen q.line.reader q.service
    → Gets s.air (receipt q.key (even q.number)) → (d : Done) × Memᴰ d s.done × Answers r s d q

-- Whoever has an open account can have anything done by any service, by six events, at once.
abbrev pub Served : Rules → State → Type 0
Served r s =
    (a v : ℕ) (w : Term) → (v ≡ r.house → ⊥) → is_closed a s.closed ≡ false → Gets s.air w → (t : State) × ServedBy r s a v w t

-- all the promises, of one state
pub record Whole (r : Rules) (s : State) : Type 0 where
  pub asked-for : AskedFor r s
  pub granted : Granted r s
  pub house_gave : HouseGave r s
  pub ticket_asked : TicketAsked r s
  pub once : Once r s
  pub once_by_number : OnceByNumber r s
  pub kept : Kept r s
  pub own_kept : OwnKept r s
  pub ticket-made : TicketMade r s
  pub asking-made : AskingMade r s
  pub over : Over r s
  pub no_ticket : NoTicket r s
  pub logged-in : LoggedIn r s
  pub fresh : Fresh r s
  pub heard : Heard r s
  pub served : Served r s

-- a promise holds of every state that can be reached, by whatever rules
abbrev pub Always : (Rules → State → Type 0) → Type 0
Always P = (r : Rules) (es : List Event) (s : State) → Reach r es s → P r s

-- THE MAIN PROMISE: all of this holds of every state that can be reached
abbrev pub Main : Type 0
Main = Always Whole
