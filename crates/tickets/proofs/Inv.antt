-- What holds of every state that can be reached, and what follows of it for what outsiders may know. Assumes nothing.
use mathlib.Core.Path.{◌≡◌, refl, sym, subst}
use mathlib.Core.Bool.{true, false}
use mathlib.Core.Logic.{◌⊎◌, inl, inr}
use mathlib.Core.List.{List, [], ◌∷◌, Memᴰ}
use Prim.Native.Nat.{ℕ, ◌+◌, ◌*◌, ◌≤◌, ◌<◌}
use native.Mathlib.Omega.{arith}
use Rattle.tickets.specs.Term.{Term, Num, Drawn, Own, Pair, Lock, Gets, has, num, pair, left, right, lock, open', even}
use Rattle.tickets.specs.Term
use Rattle.tickets.specs.State.{Rules, Line, LoggingIn, AskingHouse, Wish, Key, Asked, Done, Closing, State, Safe, is_in, relies}
use Rattle.tickets.specs.Event.{body_term, body_of}
use Rattle.tickets.specs.Promise.{Answers, AsWanted, MadeUpon, CameBy, Began, WantedBy, GaveKey}
use Rattle.tickets.specs.State.{any_in}
use Rattle.tickets.proofs.Bools
use Rattle.tickets.proofs.Bools.{Sub, Unsafe, clash, unsafe-reader, unsafe-service, unsafe-house, unsafe-wider, even-injective}
use Rattle.tickets.proofs.Known.{Known}

-- a session key that was made for this reader and service
pub record GivenKey (s : State) (who service : ℕ) (key : Term) (m : Key) : Type 0 where
  pub known : Memᴰ m s.made
  pub for_reader : m.who ≡ who
  pub for-service : m.service ≡ service
  pub same_key : key ≡ even m.key

-- how a letter was locked: with its reader's own key, with the key of that reader's ticket for the house, or with a key that is known, the house's being stolen
pub data Under (r : Rules) (s : State) (m : Key) : Type 0 where
  by-own : m.under ≡ Own m.who → Under r s m
  by-session : (h : Key) → GivenKey s m.who r.house m.under h → Under r s m
  by-forged : Known r s m.under → is_in (r.key_of r.house) s.stolen ≡ true → Under r s m

-- a key that somebody asks under is one that the house made for them, or known, the reader's key or the house's being stolen
pub data HoldsKey (r : Rules) (s : State) (who : ℕ) (key : Term) (Made : Key → Type 0) : Type 0 where
  key-given : (m : Key) → Made m → HoldsKey r s who key Made
  key-forged : Known r s key → Unsafe r s.stolen who r.house → HoldsKey r s who key Made

pub record LineOk (r : Rules) (s : State) (l : Line) : Type 0 where
  pub low : l.id < s.next
  pub a_service : l.service ≡ r.house → ⊥
  pub writable : Known r s l.what

pub record WishOk (r : Rules) (s : State) (x : Wish) : Type 0 where
  pub low : x.number < s.next
  pub past : x.since ≤ s.now
  pub line : Memᴰ x.line s.lines
  pub holds : x.stage ≡ AskingHouse → HoldsKey r s x.line.reader x.key (GivenKey s x.line.reader r.house x.key)

pub record KeyOk (r : Rules) (s : State) (m : Key) : Type 0 where
  pub low : m.key < s.next
  pub past : m.at ≤ s.now
  pub lives : m.until ≡ m.at + r.life
  pub thefts : Sub m.stolen s.stolen
  pub upon : Known r s m.upon
  pub under : Under r s m
  pub began : m.service ≡ r.house → is_in m.who m.stolen ≡ false → (x : Wish) × Began r s m x
  pub wanted : (m.service ≡ r.house → ⊥) → Safe r m.stolen m.who r.house → (q : Asked) × WantedBy r s m q

pub record AskedOk (r : Rules) (s : State) (q : Asked) : Type 0 where
  pub low : q.number < s.next
  pub thefts : Sub q.stolen s.stolen
  pub what : Known r s q.what
  pub line : Memᴰ q.line s.lines
  pub holds : HoldsKey r s q.line.reader q.key (MadeUpon s q.line.reader q.service q.key q.upon q.since)
  pub house_what : q.service ≡ r.house → q.what ≡ Num q.line.service
  pub as_wanted : (q.service ≡ r.house → ⊥) → AsWanted q
  pub came : (x : Wish) × CameBy r s q x
  pub fresh : Safe r q.stolen q.line.reader r.house
      → (m : Key) × MadeUpon s q.line.reader q.service q.key q.upon q.since m

-- by which ticket something was done: one that was made for this reader and service, still good, or one that was made up with the service's stolen key
pub data Ticketed (r : Rules) (s : State) (d : Done) : Type 0 where
  ticket-made : (m : Key) → GivenKey s d.who d.service d.key m → d.at ≤ m.until → Ticketed r s d
  ticket-forged : Known r s d.key → is_in (r.key_of d.service) d.stolen ≡ true → Ticketed r s d

pub record DoneOk (r : Rules) (s : State) (d : Done) : Type 0 where
  pub past : d.at ≤ s.now
  pub thefts : Sub d.stolen s.stolen
  pub number : Known r s d.number
  pub ticketed : Ticketed r s d
  pub answers : Safe r d.stolen d.who d.service → (q : Asked) × Answers r s d q
  pub gave : d.service ≡ r.house → (m : Key) × GaveKey s d m

-- no deed before is of the same service, key and number
abbrev pub NotBefore : Rules → Done → List Done → Type 0
NotBefore r d es =
    (e : Done) → Memᴰ e es → Safe r d.stolen d.who d.service → e.service ≡ d.service → e.key ≡ d.key → e.number ≡ d.number → ⊥

-- each deed is the first of its service, key and number
abbrev pub EachOnce : Rules → List Done → Type 0
EachOnce r [] = Unit {0}
EachOnce r (d ∷ es) = NotBefore r d es × EachOnce r es

pub record Inv (r : Rules) (s : State) : Type 0 where
  pub air : (x : Term) → Memᴰ x s.air → Known r s x
  pub lines : (l : Line) → Memᴰ l s.lines → LineOk r s l
  pub wishes : (x : Wish) → Memᴰ x s.wishes → WishOk r s x
  pub made : (m : Key) → Memᴰ m s.made → KeyOk r s m
  pub asked : (q : Asked) → Memᴰ q s.asked → AskedOk r s q
  pub done : (d : Done) → Memᴰ d s.done → DoneOk r s d
  pub one_key : (m n : Key) → Memᴰ m s.made → Memᴰ n s.made → m.key ≡ n.key → m ≡ n
  pub one_asking : (p q : Asked) → Memᴰ p s.asked → Memᴰ q s.asked → p.number ≡ q.number → p ≡ q
  pub one_number : (x y : Wish) → Memᴰ x s.wishes → Memᴰ y s.wishes → x.number ≡ y.number → x ≡ y
  pub key_no_wish : (m : Key) (x : Wish) → Memᴰ m s.made → Memᴰ x s.wishes → m.key ≡ x.number → ⊥
  pub key_no_asking : (m : Key) (q : Asked) → Memᴰ m s.made → Memᴰ q s.asked → m.key ≡ q.number → ⊥
  -- a line has one login and one asking for the house; once it asks the house its login is taken; once it asks the service all is taken; and that it does once
  pub one_wish : (x y : Wish) → Memᴰ x s.wishes → Memᴰ y s.wishes → x.stage ≡ y.stage → x.line.id ≡ y.line.id → x ≡ y
  pub login_taken : (x y : Wish) → Memᴰ x s.wishes → Memᴰ y s.wishes → x.stage ≡ AskingHouse → y.stage ≡ LoggingIn
      → x.line.id ≡ y.line.id → is_in y.number s.taken ≡ true
  pub wish_taken : (q : Asked) (x : Wish) → Memᴰ q s.asked → Memᴰ x s.wishes → (q.service ≡ r.house → ⊥)
      → q.line.id ≡ x.line.id → is_in x.number s.taken ≡ true
  pub one_of_line : (p q : Asked) → Memᴰ p s.asked → Memᴰ q s.asked → (p.service ≡ r.house → ⊥) → (q.service ≡ r.house → ⊥)
      → p.line.id ≡ q.line.id → p ≡ q
  -- a key that was made upon the number of a login or an asking was made after it
  pub upon_after : (m : Key) (x : Wish) → Memᴰ m s.made → Memᴰ x s.wishes → m.upon ≡ even x.number → x.since ≤ m.at
  pub closings : (c : Closing) (m : Key) → Memᴰ c s.closed → Memᴰ m s.made → m.who ≡ c.who → m.at ≤ c.at
  pub each_once : EachOnce r s.done
  pub taken_low : (n : ℕ) → is_in n s.taken ≡ true → n < s.next

module _ {r : Rules} {s : State} (i : Inv r s) where
  -- a draw of the honest that may be known was drawn
  pub known-low : (n d : ℕ) → d ≡ n * 2 → Known r s (Drawn d) → n < s.next
  known-low n d e (Known.odd k c h) = absurd (omega arith)
  known-low n d e (Known.wish-number x c h f) = let l = (i.wishes x h).low in omega arith
  known-low n d e (Known.asking-number q c h f) = let l = (i.asked q h).low in omega arith
  known-low n d e (Known.unsafe-key m c h u f) = let l = (i.made m h).low in omega arith

  -- a safe session key isn't known
  pub safe-unknown : (m : Key) → Memᴰ m s.made → Safe r s.stolen m.who m.service → (d : ℕ) → d ≡ m.key * 2 → Known r s (Drawn d) → ⊥
  safe-unknown m h w d e (Known.odd k c f) = omega arith
  safe-unknown m h w d e (Known.wish-number x c k f) = i.key_no_wish m x h k (omega arith)
  safe-unknown m h w d e (Known.asking-number q c k f) = i.key_no_asking m q h k (omega arith)
  safe-unknown m h w d e (Known.unsafe-key n c k u f) =
      let q : m ≡ n = i.one_key m n h k (omega arith) in
      let v : Safe r s.stolen n.who n.service = subst (λ (x : Key). Safe r s.stolen x.who x.service) q w in
      clash u v

  -- a session key that is known isn't safe
  pub known-unsafe : (m : Key) → Memᴰ m s.made → Known r s (even m.key) → Unsafe r s.stolen m.who m.service
  known-unsafe m h k = go (Bools.either (any_in (relies r m.who m.service) s.stolen))
    where
      go : (Unsafe r s.stolen m.who m.service) ⊎ (Safe r s.stolen m.who m.service) → Unsafe r s.stolen m.who m.service
      go (inl e) = e
      go (inr e) = absurd (safe-unknown m h e (m.key * 2) refl k)

  -- an own key that is known is stolen
  pub own-stolen : (a : ℕ) → Known r s (Own a) → is_in a s.stolen ≡ true
  own-stolen a (Known.stolen b h) = h

  -- an unsafe session key may be known
  pub unsafe-known : (m : Key) → Memᴰ m s.made → Unsafe r s.stolen m.who m.service → Known r s (even m.key)
  unsafe-known m h u = Known.unsafe-key m (m.key * 2) h u refl

  -- what the body of a made ticket says may be known with the service's key
  body-known : (m : Key) → Memᴰ m s.made → Known r s (Own (r.key_of m.service)) → Known r s (body_term (body_of m))
  body-known m h k =
      Known.pair (Known.number m.service) (Known.pair (Known.number m.who)
      (Known.pair (unsafe-known m h (unsafe-service r s.stolen m.who m.service (own-stolen (r.key_of m.service) k))) (Known.number m.until)))

  -- a letter whose key is known brings a key that isn't safe
  pub letter-unsafe : (m : Key) → Memᴰ m s.made → Known r s m.under → Unsafe r s.stolen m.who m.service
  letter-unsafe m h k = go (i.made m h).under
    where
      go : Under r s m → Unsafe r s.stolen m.who m.service
      go (by-own e) = unsafe-reader r s.stolen m.who m.service (own-stolen m.who (subst (Known r s) e k))
      go (by-session g e) =
          let u : Unsafe r s.stolen g.who g.service = known-unsafe g e.known (subst (Known r s) e.same_key k) in
          let v : Unsafe r s.stolen m.who r.house =
          subst (λ (x : ℕ). Unsafe r s.stolen x r.house) e.for_reader (subst (λ (x : ℕ). Unsafe r s.stolen g.who x) e.for-service u)
          in
          unsafe-wider r s.stolen m.who m.service v
      go (by-forged e h) = unsafe-house r s.stolen m.who m.service h

  -- with a key that is known, what is in a lock is known
  pub opens : (n : ℕ) (k x : Term) → Known r s (Lock n k x) → Known r s k → Known r s x
  opens n k x (Known.lock p a e) w = e
  opens n k x (Known.a-ticket m p q h e f) w =
      subst (Known r s) (sym f) (body-known m h (subst (Known r s) e w))
  opens n k x (Known.a-letter m p q h e f) w =
      let u = letter-unsafe m h (subst (Known r s) e w) in
      subst (Known r s) (sym f)
      (Known.pair (i.made m h).upon (Known.pair (Known.number m.service) (Known.pair (unsafe-known m h u) (Known.number m.until))))
  opens n k x (Known.an-asking q p j h e f) w =
      subst (Known r s) (sym f)
      (Known.pair (Known.number q.service) (Known.pair (Known.asking-number q (q.number * 2) h refl) (Known.pair (i.asked q h).what (Known.number q.at))))
  opens n k x (Known.a-login y p q h g e f) w =
      subst (Known r s) (sym f) (Known.pair (Known.wish-number y (y.number * 2) h refl) (Known.number y.since))
  opens n k x (Known.a-receipt d p q h e f) w = subst (Known r s) (sym f) (i.done d h).number

  first-known : (a e : Term) → Known r s (Pair a e) → Known r s a
  first-known a e (Known.pair x y) = x

  second-known : (a e : Term) → Known r s (Pair a e) → Known r s e
  second-known a e (Known.pair x y) = y

  -- whatever can be worked out from the air may be known
  pub gets-known : {x : Term} → Gets s.air x → Known r s x
  gets-known {x} (Term.has h) = i.air x h
  gets-known (Term.num n) = Known.number n
  gets-known (Term.odd n) = Known.odd n (n * 2 + 1) refl
  gets-known (Term.pair a e) = Known.pair (gets-known a) (gets-known e)
  gets-known (Term.left {a} {e} h) = first-known a e (gets-known h)
  gets-known (Term.right {a} {e} h) = second-known a e (gets-known h)
  gets-known (Term.lock n k x) = Known.lock n (gets-known k) (gets-known x)
  gets-known (Term.open' {k} {t} n l h) = opens n k t (gets-known l) (gets-known h)

-- which locks of a kind may be known: those of known parts, and the honest ones
pub ticket-cases : {r : Rules} {s : State} {k x : Term} → Known r s (Lock 1 k x)
    → (Known r s k × Known r s x) ⊎ ((m : Key) × Memᴰ m s.made × (k ≡ Own (r.key_of m.service)) × (x ≡ body_term (body_of m)))
ticket-cases (Known.lock n a e) = inl (a, e)
ticket-cases (Known.a-ticket m p q h e f) = inr (m, h, e, f)

pub letter-cases : {r : Rules} {s : State} {k x : Term} → Known r s (Lock 2 k x)
    → (Known r s k × Known r s x)
    ⊎ ((m : Key) × Memᴰ m s.made × (k ≡ m.under) × (x ≡ Pair m.upon (Pair (Num m.service) (Pair (even m.key) (Num m.until)))))
letter-cases (Known.lock n a e) = inl (a, e)
letter-cases (Known.a-letter m p q h e f) = inr (m, h, e, f)

pub asking-cases : {r : Rules} {s : State} {k x : Term} → Known r s (Lock 3 k x)
    → (Known r s k × Known r s x)
    ⊎ ((q : Asked) × Memᴰ q s.asked × (k ≡ q.key) × (x ≡ Pair (Num q.service) (Pair (even q.number) (Pair q.what (Num q.at)))))
asking-cases (Known.lock n a e) = inl (a, e)
asking-cases (Known.an-asking q p j h e f) = inr (q, h, e, f)

pub login-cases : {r : Rules} {s : State} {k x : Term} → Known r s (Lock 4 k x)
    → (Known r s k × Known r s x)
    ⊎ ((y : Wish) × Memᴰ y s.wishes × (y.stage ≡ LoggingIn) × (k ≡ Own y.line.reader) × (x ≡ Pair (even y.number) (Num y.since)))
login-cases (Known.lock n a e) = inl (a, e)
login-cases (Known.a-login y p q h g e f) = inr (y, h, g, e, f)

pub receipt-cases : {r : Rules} {s : State} {k x : Term} → Known r s (Lock 5 k x)
    → (Known r s k × Known r s x) ⊎ ((d : Done) × Memᴰ d s.done × (k ≡ d.key) × (x ≡ d.number))
receipt-cases (Known.lock n a e) = inl (a, e)
receipt-cases (Known.a-receipt d p q h e f) = inr (d, h, e, f)
