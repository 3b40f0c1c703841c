-- What a row of calls over bytes tells, and what is promised of it, by its calls alone: lines, deeds, keys given, logins and askings
-- begun, letters taken. Newest first: in e ∷ es, es came before e; a place is how many calls came before. The records of what is told, and
-- what it is to be accounted for, are those of the crate rows. The proofs are in proofs/Promises.antt. Assumes nothing.
use Rattle.std.specs.Prelude.{◌≡◌, ℕ, ◌+◌, ◌<◌, ◌≤◌, true, false, List, [], ◌∷◌, ◌++◌, length}
use Rattle.box_rules.specs.Line.{wanted}
use Rattle.box_rules.specs.Letter.{taken}
use Rattle.box_side.specs.Box as box
use Rattle.box_side.specs.Tickets.{boxed_by}
use Rattle.byte_rows.specs.Premise.{Fair, Row, whole_of}
use Rattle.byte_rows.specs.System.{Basis, Bytewise, Call, answered, brings, closes, crashes, device, hands, opens, read_by_box, replied, run, setting_of, steals, tells, told_by, wants}
use Rattle.byte_rows.specs.System as system
use Rattle.byte_rows.specs.Term.{Whole, air_of, name_in}
use Rattle.house_rules.specs.Account.{closed}
use Rattle.house_side.specs.House as house
use Rattle.locked.specs.Locked.{Locks, ours}
use Rattle.rows.proofs.Names.{name-apart, own-named}
use Rattle.rows.specs.Name.{Naming, name_of}
use Rattle.rows.specs.Row.{Accounted, Begun, Deed, Given, Taken, Wanted, begun_told, deed_told, key_told, line_told, taken_told}
use Rattle.rows.specs.Row as rows
use Rattle.rows.specs.Setting.{rules_of}
use Rattle.rows.specs.System.{Act, House, Possible, Reader, Service}
use Rattle.rows.specs.System as acts
use Rattle.rows.specs.Word.{words_of}
use Rattle.service_side.specs.Service as service
use Rattle.tickets.specs.Event.{Event}
use Rattle.tickets.specs.State.{Safe, State, is_in}
use Rattle.tickets.specs.Term.{Gets}
use mathlib.Core.List.{Memᴰ}

-- the letter that a box takes, if it was read and nothing is wrong with it
abbrev pub taken_read : system.Bytewise → (place reader : ℕ) → box.Read → List Taken
taken_read s p a (box.brings ticket u x) = taken_told (taken (s.box a) u x) p a x s.stolen
taken_read s p a (box.confirms k r) = []
taken_read s p a (box.refuses k) = []
taken_read s p a (box.wrong f) = []

module _ (l : Locks) (c : Basis) where
  -- what one call tells, in the system that it comes to, at a place
  abbrev pub line_by : Call → Bytewise → ℕ → List Wanted
  line_by (tells to) s p = []
  line_by (hands who bs) s p = []
  line_by (steals m) s p = []
  line_by (opens m k w) s p = []
  line_by (closes m w) s p = []
  line_by (wants a v by w) s p =
      line_told (wanted (s.box a) v by w) (record { place = p; reader = a; service = v; what = words_of w; at = (s.box a).now })
  line_by (brings who w) s p = []
  line_by (device who w) s p = []
  line_by (crashes who cut) s p = []

  abbrev pub deed_by : Call → Bytewise → ℕ → List Deed
  deed_by (tells to) s p = []
  deed_by (hands who bs) s p = []
  deed_by (steals m) s p = []
  deed_by (opens m k w) s p = []
  deed_by (closes m w) s p = []
  deed_by (wants a v by w) s p = []
  deed_by (brings House w) s p = []
  deed_by (brings (Service v) w) s p = deed_told (answered l c s v w) p v (s.side v).side.now s.stolen
  deed_by (brings (Reader a) w) s p = []
  deed_by (device who w) s p = []
  deed_by (crashes who cut) s p = []

  abbrev pub key_by : Call → Bytewise → ℕ → List Given
  key_by (tells to) s p = []
  key_by (hands who bs) s p = []
  key_by (steals m) s p = []
  key_by (opens m k w) s p = []
  key_by (closes m w) s p = []
  key_by (wants a v by w) s p = []
  key_by (brings House w) s p = key_told (replied l c s w) p s.home.side.now s.stolen
  key_by (brings (Service v) w) s p = []
  key_by (brings (Reader a) w) s p = []
  key_by (device who w) s p = []
  key_by (crashes who cut) s p = []

  abbrev pub begun_by : Call → Bytewise → ℕ → List Begun
  begun_by (tells to) s p = []
  begun_by (hands who bs) s p = []
  begun_by (steals m) s p = []
  begun_by (opens m k w) s p = []
  begun_by (closes m w) s p = []
  begun_by (wants a v by w) s p = begun_told (wanted (s.box a) v by w) p a (s.box a).now
  begun_by (brings House w) s p = []
  begun_by (brings (Service v) w) s p = []
  begun_by (brings (Reader a) w) s p = begun_told (told_by l c s a w) p a (s.box a).now
  begun_by (device who w) s p = []
  begun_by (crashes who cut) s p = []

  abbrev pub taken_by : Call → Bytewise → ℕ → List Taken
  taken_by (tells to) s p = []
  taken_by (hands who bs) s p = []
  taken_by (steals m) s p = []
  taken_by (opens m k w) s p = []
  taken_by (closes m w) s p = []
  taken_by (wants a v by w) s p = []
  taken_by (brings House w) s p = []
  taken_by (brings (Service v) w) s p = []
  taken_by (brings (Reader a) w) s p = taken_read s p a (read_by_box l c s a w)
  taken_by (device who w) s p = []
  taken_by (crashes who cut) s p = []

  -- what a whole row tells, from its first tick
  abbrev pub lines : ℕ → List Call → List Wanted
  lines t [] = []
  lines t (e ∷ es) = line_by e (run l c t es) (length es) ++ lines t es

  abbrev pub deeds : ℕ → List Call → List Deed
  deeds t [] = []
  deeds t (e ∷ es) = deed_by e (run l c t es) (length es) ++ deeds t es

  abbrev pub keys : ℕ → List Call → List Given
  keys t [] = []
  keys t (e ∷ es) = key_by e (run l c t es) (length es) ++ keys t es

  abbrev pub begun : ℕ → List Call → List Begun
  begun t [] = []
  begun t (e ∷ es) = begun_by e (run l c t es) (length es) ++ begun t es

  abbrev pub takens : ℕ → List Call → List Taken
  takens t [] = []
  takens t (e ∷ es) = taken_by e (run l c t es) (length es) ++ takens t es

  -- keys and numbers are named by the own keys and by the draws of the whole row
  abbrev pub names_of : Whole → Naming c.own
  names_of g = record {
    name = name_of c.own g.draws;
    key_of = system.key_name c.own;
    apart = name-apart c.own g.draws;
    of_own = own-named c.own g.draws;
  }

  -- the three keys of a reader and a service are not among those stolen
  abbrev pub Safely : Whole → List ℕ → (reader service : ℕ) → Type 0
  Safely g st a v = Safe (rules_of (setting_of l c) (names_of g)) st a v

  -- Asked and Once: whatever a service does was asked, by that reader, of that service, in those words, once and just now; unless a key of the three had been stolen before.
  abbrev pub AskedOnce : Type 0
  AskedOnce = (t : ℕ) (es : List Call) → Row l c t es → Accounted (setting_of l c) (names_of (whole_of l c t es)) (lines t es) (deeds t es)

  -- Kept: a key that the house gave can't be worked out of all that was sent and stolen while none of the three keys is stolen.
  abbrev pub Kept : Type 0
  Kept =
      (t : ℕ) (es : List Call) → Row l c t es → (k : Given) → Memᴰ k (keys t es)
      → Safely (whole_of l c t es) (run l c t es).stolen k.reader k.service
      → Gets (air_of l c (whole_of l c t es) (run l c t es)) (name_in l c (whole_of l c t es) k.key) → ⊥

  -- Over: once an account is closed, nothing is done as that reader later than one life after, whatever else is stolen, unless the service's key had been.
  abbrev pub Over : Type 0
  Over =
      (t : ℕ) (es fs : List Call) → Row l c t (fs ++ es) → (a : ℕ) → closed (run l c t es).home.accounts a ≡ true
      → (d : Deed) → Memᴰ d (deeds t (fs ++ es)) → d.reader ≡ a → is_in (system.key_name c.own d.service) d.stolen ≡ false
      → d.at ≤ (run l c t es).home.side.now + c.life

  -- Logged in: a ticket for the house is given only upon a login that this reader began, no longer than the lag before, unless the reader's key had been stolen.
  abbrev pub LoggedIn : Type 0
  LoggedIn =
      (t : ℕ) (es : List Call) → Row l c t es → (k : Given) → Memᴰ k (keys t es) → k.service ≡ 0 → is_in k.reader k.stolen ≡ false
      → (b : Begun) × Memᴰ b (begun t es) × (b.login ≡ true) × (b.reader ≡ k.reader) × (b.number ≡ k.number) × (b.at ≤ k.at) × (k.at ≤ b.at + c.lag)

  -- Fresh: a letter that a box takes brings a key that the house gave for this reader and service, upon the number of this very login or asking, after it was begun, unless the reader's or the house's key had been stolen.
  abbrev pub Fresh : Type 0
  Fresh =
      (t : ℕ) (es : List Call) → Row l c t es → (x : Taken) → Memᴰ x (takens t es) → Safely (whole_of l c t es) x.stolen x.reader 0
      → (k : Given) × Memᴰ k (keys t es) × (k.reader ≡ x.reader) × (k.service ≡ x.service) × (k.key ≡ x.key) × (k.number ≡ x.number) × (k.place < x.place)
      × ((b : Begun) × Memᴰ b (begun t es) × (b.reader ≡ x.reader) × (b.number ≡ x.number) × (b.at ≤ k.at))

  -- what a word is to the house, a service and a box, as an act on what was opened
  abbrev pub act_at_house : house.Read → Act
  act_at_house (house.logs a x) = acts.logs_in a x
  act_at_house (house.asks t q) = acts.asks_house t q
  act_at_house (house.wrong f) = acts.hears House

  abbrev pub act_at_service : ℕ → service.Read → Act
  act_at_service v (service.asks t q) = acts.asks v t q
  act_at_service v (service.wrong f) = acts.hears (Service v)

  abbrev pub act_at_box : ℕ → box.Read → Act
  act_at_box a (box.brings ticket u x) = acts.takes a u x
  act_at_box a (box.confirms k r) = acts.hears (Reader a)
  act_at_box a (box.refuses k) = acts.hears (Reader a)
  act_at_box a (box.wrong f) = acts.hears (Reader a)

  -- a call as an act on what was opened, in the system that it comes to
  abbrev pub act_of : Bytewise → Call → Act
  act_of s (tells to) = acts.tells to
  act_of s (hands who bs) = acts.hands who bs
  act_of s (steals m) = acts.steals m
  act_of s (opens m k w) = acts.opens m k w
  act_of s (closes m w) = acts.closes m w
  act_of s (wants a v by w) = acts.wants a v by w
  act_of s (brings House w) = act_at_house (system.read_by_house l c s w)
  act_of s (brings (Service v) w) = act_at_service v (system.read_by_service l c s v w)
  act_of s (brings (Reader a) w) = act_at_box a (read_by_box l c s a w)
  act_of s (device who w) = acts.device who w
  act_of s (crashes who cut) = acts.crashes who cut

  abbrev pub acts_of : ℕ → List Call → List Act
  acts_of t [] = []
  acts_of t (e ∷ es) = act_of (run l c t es) e ∷ acts_of t es

  -- A row of calls is a row of acts on what was opened: each act can happen where it does, they lead to the same house, services, boxes,
  -- draws and thefts, whatever bytes the boxes' tickets are, and tell the same lines and deeds; and so it is a run of the model.
  pub record SameRow (t : ℕ) (es : List Call) (g : Whole) : Type 0 where
    pub possible : Possible (setting_of l c) (names_of g) t (acts_of t es)
    pub home : (acts.run (setting_of l c) (names_of g) t (acts_of t es)).home ≡ (run l c t es).home
    pub side : (v : ℕ) → (acts.run (setting_of l c) (names_of g) t (acts_of t es)).side v ≡ (run l c t es).side v
    pub box : (a : ℕ) → (acts.run (setting_of l c) (names_of g) t (acts_of t es)).box a ≡ boxed_by (λ _. tt) ((run l c t es).box a)
    pub used : (acts.run (setting_of l c) (names_of g) t (acts_of t es)).used ≡ (run l c t es).used
    pub stolen : (acts.run (setting_of l c) (names_of g) t (acts_of t es)).stolen ≡ (run l c t es).stolen
    pub lines : rows.lines (setting_of l c) (names_of g) t (acts_of t es) ≡ lines t es
    pub deeds : rows.deeds (setting_of l c) (names_of g) t (acts_of t es) ≡ deeds t es
    pub model : (evs : List Event) × (m : State) × rows.RunOf (setting_of l c) (names_of g) t (acts_of t es) evs m

  abbrev pub IsRow : Type 0
  IsRow = (t : ℕ) (es : List Call) → Row l c t es → SameRow t es (whole_of l c t es)

-- a promise over rows of bytes, for every fair way to lock and in every setting; and for the locks of this code
abbrev pub InEvery : ((l : Locks) → Basis → Type 0) → Type 0
InEvery P = (l : Locks) → Fair l → (c : Basis) → P l c

abbrev pub InOurs : ((l : Locks) → Basis → Type 0) → Type 0
InOurs P = (c : Basis) → P ours c
