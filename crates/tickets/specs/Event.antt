-- Everything that may happen, what each event needs, and what it leaves.
-- The net is the outsiders': whoever hears a word hears what can be worked out of all that was sent and stolen. Assumes nothing.
use Rattle.std.specs.Prelude.{◌≡◌, false, ℕ, ◌+◌}
use mathlib.Core.List.{List, [], ◌∷◌, Memᴰ}
use Rattle.tickets.specs.Term.{Term, Num, Own, Pair, Lock, Gets, even}
use Rattle.tickets.specs.State.{Rules, Lately, Good, Remembered, early, keep, Line, Stage, LoggingIn, AskingHouse, Wish, Key, Asked, Done, State, is_in, is_closed, start, ticked, drew, said, with_stolen, with_closed, with_line, with_wish, with_taken, with-key, with_asked, with_done}

-- what stands in a ticket: for which service, whose it is, the session key, until when it is good
pub record Body : Type 0 where
  pub service : ℕ
  pub who : ℕ
  pub key : Term
  pub until : ℕ

-- a ticket's inside as a term
abbrev pub body_term : Body → Term
body_term b = Pair (Num b.service) (Pair (Num b.who) (Pair b.key (Num b.until)))

-- a ticket: its inside locked with the service's own key, kind 1
abbrev pub ticket : Rules → Body → Term
ticket r b = Lock 1 (Own (r.key_of b.service)) (body_term b)

-- a letter, kind 2: the number of what it belongs to, the service, the session key, until when
abbrev pub letter : (key number : Term) → (service : ℕ) → (session : Term) → (until : ℕ) → Term
letter key n v k u = Lock 2 key (Pair n (Pair (Num v) (Pair k (Num u))))

-- an asking, kind 3, under a session key: for which service, its number, what is asked, the tick
abbrev pub asking : (key : Term) → (service : ℕ) → (number what : Term) → (at : ℕ) → Term
asking key v n w t = Lock 3 key (Pair (Num v) (Pair n (Pair w (Num t))))

-- a login, kind 4, under the reader's own key: its number and the tick
abbrev pub login : (who : ℕ) → (number : Term) → (at : ℕ) → Term
login a n t = Lock 4 (Own a) (Pair n (Num t))

-- a receipt, kind 5, under the session key: the number of what was done
abbrev pub receipt : (key number : Term) → Term
receipt key n = Lock 5 key n

-- what the house tells with a session key: the ticket for the service, and the letter for the reader
abbrev pub body_of : Key → Body
body_of m = record { service = m.service; who = m.who; key = even m.key; until = m.until }

abbrev pub letter_of : Key → Term
letter_of m = letter m.under m.upon m.service (even m.key) m.until

-- an asking as it is sent
abbrev pub asking_of : Asked → Term
asking_of q = asking q.key q.service (even q.number) q.what q.at

-- a login as it is sent
abbrev pub login_of : Wish → Term
login_of x = login x.line.reader (even x.number) x.since

-- what may happen
pub data Event : Type 0 where
  -- time goes on by a tick
  ticks : Event
  -- the own key with this name is stolen
  steals : (name : ℕ) → Event
  -- the house closes an account
  closes : (who : ℕ) → Event
  -- a reader wants something of a service, and a login is begun for it
  begins : (who service : ℕ) (what : Term) → Event
  -- the house hears a login with this number and tick, and gives a ticket for itself
  grants : (who : ℕ) (number : Term) (at : ℕ) → Event
  -- a box takes the house's letter for a login, with this session key, and asks the house for the service
  wants : (login : Wish) (session : Term) (until : ℕ) → Event
  -- a reader wants something of a service by a ticket for the house under whose key something was asked before
  wish : (held : Asked) (service : ℕ) (what : Term) → Event
  -- a reader wants something by a ticket for a service under whose key something was asked before
  again : (held : Asked) (what : Term) → Event
  -- the house hears a ticket for itself and an asking under its key, and gives a ticket for a service
  serves : (ticket : Body) (number : Term) (service at : ℕ) → Event
  -- a box takes the house's letter for an asking, with this session key, and asks the service what the line wants
  asks : (asking : Wish) (session : Term) (until : ℕ) → Event
  -- a service hears a ticket for itself and an asking under its key, does what is asked, and sends a receipt
  does : (ticket : Body) (number what : Term) (at : ℕ) → Event

-- the line that a reader writes now
abbrev pub new_line : State → (reader service : ℕ) → (what : Term) → Line
new_line s a v w = record { id = s.next; reader = a; service = v; what = w; at = s.now }

-- the wish with the number that is drawn next
abbrev pub new_wish : State → Line → Stage → (key : Term) → Wish
new_wish s l g k = record { line = l; stage = g; number = s.next; since = s.now; key = k }

-- the asking with the number that is drawn next, under a key that came upon a number that was under way since a tick
abbrev pub new_asked : State → Line → (service : ℕ) → (key what : Term) → (at upon since : ℕ) → Asked
new_asked s l v k w t n f = record { line = l; service = v; key = k; number = s.next; what = w; at = t; upon = n; since = f; stolen = s.stolen }

-- the session key that is drawn next
abbrev pub new_key : Rules → State → (who service : ℕ) → (upon under : Term) → Key
new_key r s a v n k = record { who = a; service = v; key = s.next; upon = n; under = k; at = s.now; until = s.now + r.life; stolen = s.stolen }

-- the deed that is done now
abbrev pub new_done : State → Body → (number what : Term) → Done
new_done s b n w = record { service = b.service; who = b.who; key = b.key; number = n; what = w; at = s.now; stolen = s.stolen }

-- the house draws a session key, and sends ticket and letter
abbrev pub gives : Rules → Key → State → State
gives r m s = said (ticket r (body_of m) ∷ letter_of m ∷ []) (drew (with-key m s))

-- a box draws a number for an asking, and sends it
abbrev pub sends : Asked → State → State
sends q s = said (asking_of q ∷ []) (drew (with_asked q s))

-- a box asks the house for the service of a line, and waits for the letter
abbrev pub asks_house : Rules → Line → (key : Term) → (upon since : ℕ) → State → State
asks_house r l k n f s =
    sends (new_asked s l r.house k (Num l.service) s.now n f)
    (with_wish (new_wish s l AskingHouse k) s)

-- what an event leaves
abbrev pub after : Rules → Event → State → State
after r ticks s = ticked s
after r (steals a) s = said (Own a ∷ []) (with_stolen a s)
after r (closes a) s = with_closed (record { who = a; at = s.now }) s
after r (begins a v w) s =
    said (login_of (new_wish s (new_line s a v w) LoggingIn (Own a)) ∷ [])
    (drew (with_wish (new_wish s (new_line s a v w) LoggingIn (Own a)) (with_line (new_line s a v w) s)))
after r (grants a n t) s = gives r (new_key r s a r.house n (Own a)) s
after r (wants x k u) s = with_taken x.number (asks_house r x.line k x.number x.since s)
after r (wish q v w) s =
    with_line (new_line s q.line.reader v w)
    (asks_house r (new_line s q.line.reader v w) q.key q.upon q.since s)
after r (again q w) s =
    with_line (new_line s q.line.reader q.service w)
    (sends (new_asked s (new_line s q.line.reader q.service w) q.service q.key w s.now q.upon q.since) s)
after r (serves b n v t) s =
    with_done (new_done s b n (Num v)) (gives r (new_key r s b.who v n b.key) s)
after r (asks x k u) s =
    with_taken x.number
    (sends (new_asked s x.line x.line.service k x.line.what x.line.at x.number x.since) s)
after r (does b n w t) s = said (receipt b.key n ∷ []) (with_done (new_done s b n w) s)

-- something was done under this key and number by this service, and is still remembered
pub record DoneBefore (r : Rules) (s : State) (service : ℕ) (key number : Term) : Type 0 where
  pub deed : Done
  pub known : Memᴰ deed s.done
  pub at-service : deed.service ≡ service
  pub same_key : deed.key ≡ key
  pub same_number : deed.number ≡ number
  pub remembered : Remembered (keep r) s.now deed.at

-- a reader can want of any service but the house, in words that anybody can write
pub record Wants (r : Rules) (s : State) (service : ℕ) (what : Term) : Type 0 where
  pub a_service : service ≡ r.house → ⊥
  pub writable : Gets s.air what

-- the house hears a login of lately, of an account that is open
pub record HearsLogin (r : Rules) (s : State) (who : ℕ) (number : Term) (at : ℕ) : Type 0 where
  pub heard : Gets s.air (login who number at)
  pub in_time : Lately (early r) r.lag s.now at
  pub is_open : is_closed who s.closed ≡ false

-- the house or a service hears a ticket for itself and an asking of lately under its key, for the first time
pub record Hears (r : Rules) (s : State) (b : Body) (number what : Term) (at : ℕ) : Type 0 where
  pub ticket_heard : Gets s.air (ticket r b)
  pub asking_heard : Gets s.air (asking b.key b.service number what at)
  pub in_time : Lately (early r) r.lag s.now at
  pub is_good : Good s.now b.until
  pub is-new : DoneBefore r s b.service b.key number → ⊥

-- a letter comes for something that is under way at this stage, and for which none was taken yet
pub record Takes (s : State) (x : Wish) (stage : Stage) (key : Term) (service : ℕ) (session : Term) (until : ℕ) : Type 0 where
  pub known : Memᴰ x s.wishes
  pub at_stage : x.stage ≡ stage
  pub not_taken : is_in x.number s.taken ≡ false
  pub heard : Gets s.air (letter key (even x.number) service session until)

-- a ticket is held: something was asked under its key
pub record HoldsHouse (r : Rules) (s : State) (q : Asked) : Type 0 where
  pub known : Memᴰ q s.asked
  pub the_house : q.service ≡ r.house

pub record HoldsService (r : Rules) (s : State) (q : Asked) : Type 0 where
  pub known : Memᴰ q s.asked
  pub a_service : q.service ≡ r.house → ⊥

-- what the house needs for giving a ticket for a service
pub record Serves (r : Rules) (s : State) (b : Body) (number : Term) (service at : ℕ) : Type 0 where
  pub for-house : b.service ≡ r.house
  pub a_service : service ≡ r.house → ⊥
  pub hears : Hears r s b number (Num service) at
  pub is_open : is_closed b.who s.closed ≡ false

-- what a service needs for doing what is asked
pub record Does (r : Rules) (s : State) (b : Body) (number what : Term) (at : ℕ) : Type 0 where
  pub a_service : b.service ≡ r.house → ⊥
  pub hears : Hears r s b number what at

-- what an event needs
abbrev pub May : Rules → State → Event → Type 0
May r s ticks = Unit {0}
May r s (steals a) = Unit {0}
May r s (closes a) = Unit {0}
May r s (begins a v w) = Wants r s v w
May r s (grants a n t) = HearsLogin r s a n t
May r s (wants x k u) = Takes s x LoggingIn (Own x.line.reader) r.house k u
May r s (wish q v w) = HoldsHouse r s q × Wants r s v w
May r s (again q w) = HoldsService r s q × Gets s.air w
May r s (serves b n v t) = Serves r s b n v t
May r s (asks x k u) = Takes s x AskingHouse x.key x.line.service k u
May r s (does b n w t) = Does r s b n w t

-- from a state, by these events, the newest first, to another
pub data Later (r : Rules) (s : State) : List Event → State → Type 0 where
  here : Later r s [] s
  onward : {es : List Event} {t : State} → Later r s es t → (e : Event) → May r t e → Later r s (e ∷ es) (after r e t)

-- a state that can be reached from the start by these events
abbrev pub Reach : Rules → List Event → State → Type 0
Reach r es s = Later r start es s
