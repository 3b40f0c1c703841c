-- What is assumed of a row of calls over bytes, one record. Assumes nothing itself.
--
-- Fair l           the drawn bytes stand first in a lock, and a lock fits into a word; proved of this code's own locks
-- Try              a lock that is tried with a key, as a kind; house_tries .. box_tries: which are when a word comes
-- Sound            whichever is tried and opens was made so, or could be made by whoever has all that was sent and stolen
-- Heard            a word brought can be worked out of what was sent and stolen before it, and its locks are sound
-- Meets            what a call rests on, at its moment
-- Row              the premises over a whole row of calls
--
-- The outsiders' part: each word brought can be worked out from what was sent and stolen before it (Heard.worked). Bytes that nobody made can
-- be worked out by everybody, whatever they are.
-- The locks' part: a lock that is tried, with a key that is tried on it and as the kind it is tried as, and that opens, was made with that key,
-- kind and inside before; or both the key and what is inside can be worked out at that moment (Heard.sound). Nothing is assumed of other keys,
-- of receipts, nor of locks that nobody tries.
-- The draws' part: keys and numbers that were drawn differ, and no own key is among them; the drawn bytes of locks differ in their first 12.
-- The setting's part: readers who log in have own keys of their own, the house is told the own keys that are, a write is cut only where one is
-- made, and numbers and ticks are in range.
-- That a lock that was made stands for what was locked, that words and insides read back as they were written, and that what is written fits
-- its field are proved, not assumed. Words that spell a secret key or number, asked for by a reader, are outside of this: what is asked counts
-- as what anybody can write. That two digests never meet is not assumed: where they do, an asking is refused that need not be.
use Rattle.std.specs.Prelude.{◌≡◌, ℕ, ◌^◌, ◌<◌, ◌≤◌, ◌⊎◌, List, [], ◌∷◌, map, length, take, Some, Ok, Err, Result}
use Rattle.box_rules.specs.Chest.{Boxed}
use Rattle.box_rules.specs.Keys.{letter_keys}
use Rattle.byte_rows.specs.System.{Basis, Bytewise, Call, Made, brings, closes, crashes, device, hands, key_name, opens, read_by_house, run, steals, tells, wants}
use Rattle.byte_rows.specs.Term.{Whole, air_of, inside_term, name_in, word_term}
use Rattle.contents.specs.Field.{Bytes as Octets}
use Rattle.house_rules.specs.Account.{own_key}
use Rattle.house_rules.specs.House.{Home}
use Rattle.house_side.specs.House.{logs}
use Rattle.locked.specs.Locked.{Bytes, Locks, ticket_in}
use Rattle.parts.specs.declared.fault.Fault.{Fault}
use Rattle.parts.specs.declared.word.Key.{Key}
use Rattle.parts.specs.declared.word.Login.{Login}
use Rattle.parts.specs.declared.word.Ticket.{Ticket}
use Rattle.rows.specs.Name.{Apart, own_of}
use Rattle.rows.specs.Setting.{Writing}
use Rattle.rows.specs.System.{House, Reader, Service}
use Rattle.tickets.specs.Term.{Gets}
use Rattle.wire.specs.Word.{Frame, framed}
use Rattle.wire.specs.Word as frame
use mathlib.Core.List.{Memᴰ}

-- what a way to lock must be like; the largest inside is that of an asking, 1,053 bytes
pub record Fair (l : Locks) : Type 0 where
  pub front : (kind : ℕ) (key drawn inside : Bytes) → length drawn ≡ 16 → take 16 (l.lock kind key drawn inside) ≡ drawn
  pub long : (kind : ℕ) (key drawn inside : Bytes) → length drawn ≡ 16 → 32 ≤ length (l.lock kind key drawn inside)
  pub short : (kind : ℕ) (key drawn inside : Bytes) → length drawn ≡ 16 → length inside ≤ 1053 → length (l.lock kind key drawn inside) ≤ 65535

-- a lock that is tried with a key, as a kind
pub record Try : Type 0 where
  pub kind : ℕ
  pub key : Bytes
  pub lock : Bytes

-- all draws and locks of these calls
abbrev pub whole_of : Locks → Basis → ℕ → List Call → Whole
whole_of l c t es = record { draws = (run l c t es).used; made = (run l c t es).made }

-- a reader has an own key that no other has
pub record Alone (c : Basis) (a : ℕ) : Type 0 where
  pub there : a < length c.own
  pub alone : key_name c.own a ≡ a

-- the house is told the own key that the card or the service has
pub record OwnKeyTold (c : Basis) (m : ℕ) (k : Key) : Type 0 where
  pub there : m < length c.own
  pub own : k ≡ own_of c.own m

module _ (l : Locks) where
  -- an asking is tried with the key of the ticket that comes with it
  abbrev pub asking_tries : Bytes → Result Ticket Fault → List Try
  asking_tries q (Ok t) = record { kind = 3; key = t.key.0; lock = q } ∷ []
  asking_tries q (Err f) = []

  abbrev pub ticket_tries : Key → (ticket asking : Bytes) → List Try
  ticket_tries k t q = record { kind = 1; key = k.0; lock = t } ∷ asking_tries q (ticket_in l k t)

  -- a login is tried with the reader's own key, a ticket with the house's
  abbrev pub house_tries : Home → Frame → List Try
  house_tries h (frame.login reader lock) = record { kind = 4; key = (own_key h.accounts reader).0; lock = lock } ∷ []
  house_tries h (frame.ticket_and_letter t x) = []
  house_tries h (frame.asking t q) = ticket_tries h.key t q
  house_tries h (frame.receipt lock) = []
  house_tries h (frame.refusal class) = []

  -- a ticket is tried with the service's own key
  abbrev pub service_tries : Key → Frame → List Try
  service_tries k (frame.login reader lock) = []
  service_tries k (frame.ticket_and_letter t x) = []
  service_tries k (frame.asking t q) = ticket_tries k t q
  service_tries k (frame.receipt lock) = []
  service_tries k (frame.refusal class) = []

  -- a letter is tried with some keys in turn; no promise rests on a receipt
  abbrev pub box_tries : Boxed Bytes → Frame → List Try
  box_tries b (frame.login reader lock) = []
  box_tries b (frame.ticket_and_letter t x) = map (λ k. record { kind = 2; key = k.0; lock = x }) (letter_keys b)
  box_tries b (frame.asking t q) = []
  box_tries b (frame.receipt lock) = []
  box_tries b (frame.refusal class) = []

abbrev pub tries_in : (Frame → List Try) → Result Frame Fault → List Try
tries_in f (Ok x) = f x
tries_in f (Err e) = []

module _ (l : Locks) (c : Basis) (g : Whole) where
  -- this lock was made before: as this kind, with this key, over this inside
  pub record MadeSo (s : Bytewise) (x : Try) (inside : Bytes) : Type 0 where
    pub drawn : Bytes
    pub known : Memᴰ (record { kind = x.kind; key = x.key; drawn = drawn; inside = inside }) s.made
    pub same : l.lock x.kind x.key drawn inside ≡ x.lock

  -- whoever has all that was sent and stolen so far has the key and what is inside
  pub record WorkedOut (s : Bytewise) (x : Try) (inside : Bytes) : Type 0 where
    pub key : Gets (air_of l c g s) (name_in l c g x.key)
    pub content : Gets (air_of l c g s) (inside_term l c g x.kind inside)

  -- whichever lock is tried and opens was made so, or whoever has all that was sent and stolen could have made it
  abbrev pub Sound : Bytewise → List Try → Type 0
  Sound s xs =
      (x : Try) → Memᴰ x xs → (inside : Bytes) → l.opens x.kind x.key x.lock ≡ Some inside
      → MadeSo s x inside ⊎ WorkedOut s x inside

  -- a word that is brought: bytes, which can be worked out of all that was sent and stolen so far, and whose locks are sound
  pub record Heard (s : Bytewise) (w : Bytes) (tries : List Try) : Type 0 where
    pub octets : Octets w
    pub worked : Gets (air_of l c g s) (word_term l c g w)
    pub sound : Sound s tries

  -- whose login opens has an own key that no other has
  pub record HeardByHouse (s : Bytewise) (w : Bytes) : Type 0 where
    pub heard : Heard s w (tries_in (house_tries l s.home) (framed w))
    pub reader : (a : ℕ) (x : Login) → read_by_house l c s w ≡ logs a x → Alone c a

  -- a service is not the house, and has an own key
  pub record HeardByService (s : Bytewise) (v : ℕ) (w : Bytes) : Type 0 where
    pub a_service : v ≡ 0 → ⊥
    pub there : v < length c.own
    pub heard : Heard s w (tries_in (service_tries l (own_of c.own v)) (framed w))

  pub record HeardByBox (s : Bytewise) (a : ℕ) (w : Bytes) : Type 0 where
    pub reader : Alone c a
    pub heard : Heard s w (tries_in (box_tries l (s.box a)) (framed w))

  -- what a call rests on, at its moment
  abbrev pub Meets : Bytewise → Call → Type 0
  Meets s (tells to) = Unit {0}
  Meets s (hands who bs) = Unit {0}
  Meets s (steals m) = m < length c.own
  Meets s (opens m k w) = OwnKeyTold c m k
  Meets s (closes m w) = Unit {0}
  Meets s (wants a v by w) = Alone c a
  Meets s (brings House w) = HeardByHouse s w
  Meets s (brings (Service v) w) = HeardByService s v w
  Meets s (brings (Reader a) w) = HeardByBox s a w
  Meets s (device who w) = Unit {0}
  Meets s (crashes House cut) = Writing cut s.home.side.now s.home.side.wake
  Meets s (crashes (Service v) cut) = Writing cut (s.side v).side.now (s.side v).side.wake
  Meets s (crashes (Reader a) cut) = Unit {0}

  -- every call, each at its moment; the house has an own key
  abbrev pub Each : ℕ → List Call → Type 0
  Each t [] = 0 < length c.own
  Each t (e ∷ es) = Meets (run l c t es) e × Each t es

-- the first 12 drawn bytes of each lock, which the cipher uses once
abbrev pub nonces : List Made → List Bytes
nonces ms = map (λ m. take 12 m.drawn) ms

-- The premises over a row of calls that starts at tick t:
-- each call meets what it rests on; keys and numbers drawn are apart, and no own key is among them; so are the drawn bytes of locks;
-- the start, the life of tickets and the numbers are in range, so that every number fits its field
pub record Row (l : Locks) (c : Basis) (t : ℕ) (es : List Call) : Type 0 where
  pub each : Each l c (whole_of l c t es) t es
  pub draws : Apart c.own (run l c t es).used
  pub locks : Apart [] (nonces (run l c t es).made)
  pub start : t < 2 ^ 63
  pub life : c.life < 2 ^ 63
  pub numbers : length c.own ≤ 2 ^ 16
