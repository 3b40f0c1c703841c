-- What a row of acts tells: lines, deeds, keys given, logins and askings begun, letters taken; and what is promised of them.
-- Newest first: in e ∷ es, es came before e; a place is how many acts came before. The proofs are in proofs/Promises.antt. Assumes nothing.
use Rattle.std.specs.Prelude.{◌≡◌, ℕ, ◌+◌, ◌<◌, ◌≤◌, Bool, true, false, cond, List, [], ◌∷◌, ◌++◌, length, Err, Ok}
use mathlib.Core.List.{Memᴰ}
use Rattle.parts.specs.declared.word.Letter.{Letter}
use Rattle.service_rules.specs.Service as service
use Rattle.service_rules.specs.Service.{Answer}
use Rattle.house_rules.specs.Account.{closed}
use Rattle.house_rules.specs.House as house
use Rattle.house_rules.specs.Give.{Reply}
use Rattle.box_rules.specs.Line as line
use Rattle.box_rules.specs.Letter as letter
use Rattle.box_rules.specs.Line.{Told}
use Rattle.box_rules.specs.declared.answer.Answer.TheVariants as told
use Rattle.tickets.specs.Term.{Term, Gets}
use Rattle.tickets.specs.State.{Done, State, Safe, is_in}
use Rattle.tickets.specs.Event.{Event, Reach}
use Rattle.rows.specs.Name.{Bytes, Naming, spell}
use Rattle.rows.specs.Word.{words_of}
use Rattle.rows.specs.Setting.{Setting, rules_of}
use Rattle.rows.specs.System.{System, Act, Possible, run}
use Rattle.rows.specs.System

-- what a reader wanted, and was not refused by the box
pub record Wanted : Type 0 where
  pub place : ℕ
  pub reader : ℕ
  pub service : ℕ
  pub what : Bytes
  pub at : ℕ

-- what a service did; stolen: the keys that had been stolen by then
pub record Deed : Type 0 where
  pub place : ℕ
  pub service : ℕ
  pub reader : ℕ
  pub key : Bytes
  pub number : Bytes
  pub what : Bytes
  pub at : ℕ
  pub stolen : List ℕ

-- a session key that the house gave: to whom, for which service, upon which number, when and until when
pub record Given : Type 0 where
  pub place : ℕ
  pub reader : ℕ
  pub service : ℕ
  pub key : Bytes
  pub number : Bytes
  pub at : ℕ
  pub until : ℕ
  pub stolen : List ℕ

-- a login, or an asking for the house, that a box began
pub record Begun : Type 0 where
  pub place : ℕ
  pub reader : ℕ
  pub number : Bytes
  pub at : ℕ
  pub login : Bool

-- a letter that a box took, and asked under the key in it
pub record Taken : Type 0 where
  pub place : ℕ
  pub reader : ℕ
  pub service : ℕ
  pub key : Bytes
  pub number : Bytes
  pub stolen : List ℕ

-- the line of an answer that is no refusal
abbrev pub line_told : Told → Wanted → List Wanted
line_told (Ok (told.LogsIn l)) w = w ∷ []
line_told (Ok (told.Asks i l)) w = w ∷ []
line_told (Ok (told.Takes g l)) w = []
line_told (Ok (told.Receipt i)) w = []
line_told (Ok (told.Shown k)) w = []
line_told (Err f) w = []

-- what is begun with an answer: a login, or an asking that is for the house
abbrev pub begun_told : Told → (place reader at : ℕ) → List Begun
begun_told (Ok (told.LogsIn l)) p a t = record { place = p; reader = a; number = l.inside.number.0; at = t; login = true } ∷ []
begun_told (Ok (told.Asks i l)) p a t = cond (house.for_house l.inside) (record { place = p; reader = a; number = l.inside.number.0; at = t; login = false } ∷ []) []
begun_told (Ok (told.Takes g l)) p a t = cond (house.for_house l.inside) (record { place = p; reader = a; number = l.inside.number.0; at = t; login = false } ∷ []) []
begun_told (Ok (told.Receipt i)) p a t = []
begun_told (Ok (told.Shown k)) p a t = []
begun_told (Err f) p a t = []

-- the letter that an answer takes
abbrev pub taken_told : Told → (place reader : ℕ) → Letter → List ℕ → List Taken
taken_told (Ok (told.LogsIn x)) p a l st = []
taken_told (Ok (told.Asks i x)) p a l st = []
taken_told (Ok (told.Takes g x)) p a l st = record { place = p; reader = a; service = l.service; key = l.key.0; number = l.number.0; stolen = st } ∷ []
taken_told (Ok (told.Receipt i)) p a l st = []
taken_told (Ok (told.Shown k)) p a l st = []
taken_told (Err f) p a l st = []

-- the deed of an answer that is no refusal
abbrev pub deed_told : Answer → (place service at : ℕ) → List ℕ → List Deed
deed_told (Ok x) p v t st =
    record { place = p; service = v; reader = x.deed.reader; key = x.receipt.key.0; number = x.deed.number.0; what = words_of x.deed.what; at = t; stolen = st } ∷ []
deed_told (Err f) p v t st = []

-- the key of a reply that is no refusal
abbrev pub key_told : Reply → (place at : ℕ) → List ℕ → List Given
key_told (Ok x) p now st =
    record { place = p; reader = x.ticket.inside.reader; service = x.ticket.inside.service; key = x.ticket.inside.key.0; number = x.letter.inside.number.0; at = now; until = x.ticket.inside.until; stolen = st } ∷ []
key_told (Err f) p now st = []

module _ (c : Setting) (n : Naming c.own) where
  -- what one act tells, in the system that it comes to, at a place
  abbrev pub line_by : Act → System → ℕ → List Wanted
  line_by (System.tells to) s p = []
  line_by (System.hands who bs) s p = []
  line_by (System.steals m) s p = []
  line_by (System.opens m k w) s p = []
  line_by (System.closes m w) s p = []
  line_by (System.wants a v by w) s p =
      line_told (line.wanted (s.box a) v by w) (record { place = p; reader = a; service = v; what = words_of w; at = (s.box a).now })
  line_by (System.logs_in a l) s p = []
  line_by (System.asks_house t q) s p = []
  line_by (System.asks v t q) s p = []
  line_by (System.takes a u l) s p = []
  line_by (System.hears who) s p = []
  line_by (System.device who w) s p = []
  line_by (System.crashes who cut) s p = []

  abbrev pub deed_by : Act → System → ℕ → List Deed
  deed_by (System.tells to) s p = []
  deed_by (System.hands who bs) s p = []
  deed_by (System.steals m) s p = []
  deed_by (System.opens m k w) s p = []
  deed_by (System.closes m w) s p = []
  deed_by (System.wants a v by w) s p = []
  deed_by (System.logs_in a l) s p = []
  deed_by (System.asks_house t q) s p = []
  deed_by (System.asks v t q) s p =
      deed_told (service.answered (s.side v) t q (c.digest t.key q.number)) p v (s.side v).side.now s.stolen
  deed_by (System.takes a u l) s p = []
  deed_by (System.hears who) s p = []
  deed_by (System.device who w) s p = []
  deed_by (System.crashes who cut) s p = []

  abbrev pub key_by : Act → System → ℕ → List Given
  key_by (System.tells to) s p = []
  key_by (System.hands who bs) s p = []
  key_by (System.steals m) s p = []
  key_by (System.opens m k w) s p = []
  key_by (System.closes m w) s p = []
  key_by (System.wants a v by w) s p = []
  key_by (System.logs_in a l) s p = key_told (house.logged_in s.home a l) p s.home.side.now s.stolen
  key_by (System.asks_house t q) s p = key_told (house.answered s.home t q (c.digest t.key q.number)) p s.home.side.now s.stolen
  key_by (System.asks v t q) s p = []
  key_by (System.takes a u l) s p = []
  key_by (System.hears who) s p = []
  key_by (System.device who w) s p = []
  key_by (System.crashes who cut) s p = []

  abbrev pub begun_by : Act → System → ℕ → List Begun
  begun_by (System.tells to) s p = []
  begun_by (System.hands who bs) s p = []
  begun_by (System.steals m) s p = []
  begun_by (System.opens m k w) s p = []
  begun_by (System.closes m w) s p = []
  begun_by (System.wants a v by w) s p = begun_told (line.wanted (s.box a) v by w) p a (s.box a).now
  begun_by (System.logs_in a l) s p = []
  begun_by (System.asks_house t q) s p = []
  begun_by (System.asks v t q) s p = []
  begun_by (System.takes a u l) s p = begun_told (letter.taken (s.box a) u l) p a (s.box a).now
  begun_by (System.hears who) s p = []
  begun_by (System.device who w) s p = []
  begun_by (System.crashes who cut) s p = []

  abbrev pub taken_by : Act → System → ℕ → List Taken
  taken_by (System.tells to) s p = []
  taken_by (System.hands who bs) s p = []
  taken_by (System.steals m) s p = []
  taken_by (System.opens m k w) s p = []
  taken_by (System.closes m w) s p = []
  taken_by (System.wants a v by w) s p = []
  taken_by (System.logs_in a l) s p = []
  taken_by (System.asks_house t q) s p = []
  taken_by (System.asks v t q) s p = []
  taken_by (System.takes a u l) s p = taken_told (letter.taken (s.box a) u l) p a l s.stolen
  taken_by (System.hears who) s p = []
  taken_by (System.device who w) s p = []
  taken_by (System.crashes who cut) s p = []

  -- what a whole row tells, from its first tick
  abbrev pub lines : ℕ → List Act → List Wanted
  lines t [] = []
  lines t (e ∷ es) = line_by e (run c n t es) (length es) ++ lines t es

  abbrev pub deeds : ℕ → List Act → List Deed
  deeds t [] = []
  deeds t (e ∷ es) = deed_by e (run c n t es) (length es) ++ deeds t es

  abbrev pub keys : ℕ → List Act → List Given
  keys t [] = []
  keys t (e ∷ es) = key_by e (run c n t es) (length es) ++ keys t es

  abbrev pub begun : ℕ → List Act → List Begun
  begun t [] = []
  begun t (e ∷ es) = begun_by e (run c n t es) (length es) ++ begun t es

  abbrev pub takens : ℕ → List Act → List Taken
  takens t [] = []
  takens t (e ∷ es) = taken_by e (run c n t es) (length es) ++ takens t es

  -- none of the three keys had been stolen before the deed
  abbrev pub SafeDeed : Deed → Type 0
  SafeDeed d = Safe (rules_of c n) d.stolen d.reader d.service

  -- this deed was asked by that line
  pub record For (d : Deed) (l : Wanted) : Type 0 where
    pub reader : l.reader ≡ d.reader
    pub service : l.service ≡ d.service
    pub what : l.what ≡ d.what
    pub before : l.place < d.place
    pub not_later : l.at ≤ d.at
    pub lately : d.at ≤ l.at + c.lag

  -- each deed has its line, and no two deeds have one line
  pub record Accounted (ls : List Wanted) (ds : List Deed) : Type 0 where
    pub line_for : (d : Deed) → Memᴰ d ds → SafeDeed d → Wanted
    pub known : (d : Deed) (h : Memᴰ d ds) (w : SafeDeed d) → Memᴰ (line_for d h w) ls
    pub asked : (d : Deed) (h : Memᴰ d ds) (w : SafeDeed d) → For d (line_for d h w)
    pub once : (d e : Deed) (h : Memᴰ d ds) (k : Memᴰ e ds) (w : SafeDeed d) (u : SafeDeed e) → (line_for d h w).place ≡ (line_for e k u).place → d.place ≡ e.place

  -- Asked and Once: whatever a service does was asked, by that reader, of that service, in those words, once and just now; unless a key of the three had been stolen before.
  abbrev pub AskedOnce : Type 0
  AskedOnce = (t : ℕ) (es : List Act) → Possible c n t es → Accounted (lines t es) (deeds t es)

  -- Kept: a key that the house gave can't be worked out while none of the three keys is stolen.
  abbrev pub Kept : Type 0
  Kept =
      (t : ℕ) (es : List Act) → Possible c n t es → (g : Given) → Memᴰ g (keys t es)
      → Safe (rules_of c n) (run c n t es).stolen g.reader g.service → Gets (run c n t es).air (n.name g.key) → ⊥

  -- Over: once an account is closed, nothing is done as that reader later than one life after, whatever else is stolen, unless the service's key had been.
  abbrev pub Over : Type 0
  Over =
      (t : ℕ) (es fs : List Act) → Possible c n t (fs ++ es) → (a : ℕ) → closed (run c n t es).home.accounts a ≡ true
      → (d : Deed) → Memᴰ d (deeds t (fs ++ es)) → d.reader ≡ a → is_in (n.key_of d.service) d.stolen ≡ false
      → d.at ≤ (run c n t es).home.side.now + c.life

  -- Logged in: a ticket for the house is given only upon a login that this reader began, no longer than the lag before, unless the reader's key had been stolen.
  abbrev pub LoggedIn : Type 0
  LoggedIn =
      (t : ℕ) (es : List Act) → Possible c n t es → (g : Given) → Memᴰ g (keys t es) → g.service ≡ 0 → is_in g.reader g.stolen ≡ false
      → (b : Begun) × Memᴰ b (begun t es) × (b.login ≡ true) × (b.reader ≡ g.reader) × (b.number ≡ g.number) × (b.at ≤ g.at) × (g.at ≤ b.at + c.lag)

  -- Fresh: a letter that a box takes brings a key that the house gave for this reader and service, upon the number of this very login or asking, after it was begun, unless the reader's or the house's key had been stolen.
  abbrev pub Fresh : Type 0
  Fresh =
      (t : ℕ) (es : List Act) → Possible c n t es → (x : Taken) → Memᴰ x (takens t es) → Safe (rules_of c n) x.stolen x.reader 0
      → (g : Given) × Memᴰ g (keys t es) × (g.reader ≡ x.reader) × (g.service ≡ x.service) × (g.key ≡ x.key) × (g.number ≡ x.number) × (g.place < x.place)
      × ((b : Begun) × Memᴰ b (begun t es) × (b.reader ≡ x.reader) × (b.number ≡ x.number) × (b.at ≤ g.at))

  -- a row is done by events of the model: they lead to a state at the same tick, with the same thefts, in which everything stands that was sent, and each deed
  pub record RunOf (t : ℕ) (es : List Act) (evs : List Event) (m : State) : Type 0 where
    pub reach : Reach (rules_of c n) evs m
    pub same_tick : (run c n t es).home.side.now ≡ m.now
    pub same_thefts : m.stolen ≡ (run c n t es).stolen
    pub sent : (x : Term) → Memᴰ x (run c n t es).air → Memᴰ x m.air
    pub done : (d : Deed) → Memᴰ d (deeds t es)
        → (e : Done) × Memᴰ e m.done × (e.service ≡ d.service) × (e.who ≡ d.reader) × (e.key ≡ n.name d.key) × (e.number ≡ n.name d.number) × (e.what ≡ spell d.what) × (e.at ≡ d.at)

  -- Every possible row is a run of the model, whatever crashes, devices that do not write, full memories and boxes, and lack of drawn bytes there are.
  abbrev pub IsRun : Type 0
  IsRun = (t : ℕ) (es : List Act) → Possible c n t es → (evs : List Event) × (m : State) × RunOf t es evs m

-- a promise over rows, in every setting and by every way of naming
abbrev pub InEvery : ((c : Setting) → Naming c.own → Type 0) → Type 0
InEvery P = (c : Setting) (n : Naming c.own) → P c n
