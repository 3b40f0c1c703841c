-- What is answered and left, by what was found wrong. Assumes nothing.
use Rattle.std.proofs.Common.{◌≡◌, ℕ, ◌+◌, ◌<◌, ◌≤◌, Bool, true, false, cond, not, ◌&&◌, List, length, drop, Some, None, Err, Option, sym, refl, ap, ◌∙◌, subst}
use Rattle.house_rules.specs.Account.{own_key}
use Rattle.house_rules.specs.Give.{Reply, giving}
use Rattle.house_rules.specs.House.{Decides, Home, LogsIn, asked_given, conditions, drew, granted, home, judged, logged_in, login_after, login_conditions, login_given, login_judged, noted, readable, refusal, until_of, wanted}
use Rattle.house_rules.specs.declared.give.Given.{Given}
use Rattle.house_rules.specs.declared.house.House.{House}
use Rattle.parts.proofs.Conditions.{first_fault-cons, first_fault-last-none, first_fault-last-some, first_fault-nil, lowest-first, passed}
use Rattle.parts.specs.Condition.{Lowest, first_fault, unless}
use Rattle.parts.specs.declared.account.Account.{Account}
use Rattle.parts.specs.declared.account.Entry.{Entry}
use Rattle.parts.specs.declared.fault.Fault.{Fault}
use Rattle.parts.specs.declared.fault.Fault.TheVariants.{BadInside, NotNow}
use Rattle.parts.specs.declared.tick.Clock.{Clock}
use Rattle.parts.specs.declared.word.Asking.{Asking}
use Rattle.parts.specs.declared.word.Key.{Key}
use Rattle.parts.specs.declared.word.Login.{Login}
use Rattle.parts.specs.declared.word.Number.{Number}
use Rattle.parts.specs.declared.word.Ticket.{Ticket}
use Rattle.service_rules.specs.Memory.{live_of, recorded}
use Rattle.service_rules.specs.Side.{clock_of}
use Rattle.service_rules.specs.declared.side.Side.{Side}
use Rattle.std.proofs.lemmas.Bool.{both_ways, leb-false, ltb-false}

-- the lowest of a table is told, whatever is given where there is none
pub told : (o : Option Fault) (u : ℕ) (bs : List ℕ) (g : Given) → refusal (unless o (giving u bs g) Err) ≡ o
told None u bs g = refl
told (Some f) u bs g = refl

-- the same is given, by what the accounts say
pub asked-same :
    (u : ℕ) (bs : List ℕ) (xs : List Account) (v v' : ℕ) (k under : Key) (a : ℕ) (n : Number) (t : ℕ) → v ≡ v' → k ≡ own_key xs v →
    giving u bs (record { service = v; reader = a; number = n; asked = t; own = k; under = under })
    ≡ giving u bs (record { service = v'; reader = a; number = n; asked = t; own = own_key xs v'; under = under })
asked-same u bs xs v v' k under a n t e f =
    ap (λ (o : Key). giving u bs (record { service = v; reader = a; number = n; asked = t; own = o; under = under })) f
    ∙ ap (λ (w : ℕ). giving u bs (record { service = w; reader = a; number = n; asked = t; own = own_key xs w; under = under })) e

pub login-same :
    (u : ℕ) (bs : List ℕ) (own k k' : Key) (a : ℕ) (n : Number) (t : ℕ) → k ≡ k' →
    giving u bs (record { service = 0; reader = a; number = n; asked = t; own = own; under = k })
    ≡ giving u bs (record { service = 0; reader = a; number = n; asked = t; own = own; under = k' })
login-same u bs own k k' a n t e =
    ap (λ (o : Key). giving u bs (record { service = 0; reader = a; number = n; asked = t; own = own; under = o })) e

-- Logins

pub login-drawn : (s : Side) (xs : List Account) (bs : List ℕ) (a : ℕ) (l : Login) → None ≡ first_fault (login_judged s xs bs a l) → 64 ≤ length bs
login-drawn s xs bs a l h =
    let p2 = passed _ _ (sym h) in
    let p5 = passed _ _ p2.1 in
    let p6 = passed _ _ p5.1 in
    let p12 = passed _ _ p6.1 in
    ltb-false _ _ p12.0

pub login-lowest : (h : Home) (a : ℕ) (l : Login) (r : Reply) → r ≡ logged_in h a l → Lowest (login_conditions h a l) (refusal r)
login-lowest h a l r e =
    lowest-first (login_conditions h a l) (refusal r)
    (ap (λ (x : Reply). refusal x) e ∙ told (first_fault (login_conditions h a l)) (until_of h) h.left (login_given h a l))
    refl

pub login-refused : (h : Home) (a : ℕ) (l : Login) (f : Fault) → Some f ≡ first_fault (login_conditions h a l) → LogsIn h a l (Err f) h
login-refused h a l f e =
    let x : Err f ≡ logged_in h a l = ap (λ (o : Option Fault). unless o (giving (until_of h) h.left (login_given h a l)) Err) e in
    record { answer = x; after = ap (λ (o : Option Fault). unless o (drew h) (λ _. h)) e; lowest = login-lowest h a l (Err f) x }

pub login-granted :
    (H : House) (xs : List Account) (es : List Entry) (j w : Bool) (bs bs' : List ℕ) (a : ℕ) (l : Login) (r : Reply) (k : Key) →
    None ≡ first_fault (login_judged H.side xs bs a l) → k ≡ own_key xs a →
    r ≡ giving (H.side.now + H.life) bs (record { service = 0; reader = a; number = l.number; asked = l.tick; own = H.key; under = k }) →
    bs' ≡ drop 64 bs →
    LogsIn (home H xs es j w bs) a l r (home H xs es j w bs')
login-granted H xs es j w bs bs' a l r k e f v m = by (home H xs es j w bs) refl
  where
    h : Home
    h = home H xs es j w bs

    x : r ≡ logged_in h a l
    x = v ∙ login-same (H.side.now + H.life) bs H.key k (own_key xs a) a l.number l.tick f ∙ ap (λ (o : Option Fault). unless o (giving (until_of h) bs (login_given h a l)) Err) e

    y : home H xs es j w bs' ≡ login_after h a l
    y = ap (λ (b : List ℕ). home H xs es j w b) m ∙ ap (λ (o : Option Fault). unless o (drew h) (λ _. h)) e

    by : (k : Home) → k ≡ h → LogsIn h a l r (home H xs es j w bs')
    by _ _ = record { answer = x; after = y; lowest = login-lowest h a l r x }

-- Askings

-- nothing is wrong before the write
abbrev pub Clear : Side → List Account → List Entry → List ℕ → Ticket → Asking → ℕ → Type 0
Clear s xs es bs t q d = None ≡ first_fault (judged s xs es bs t q d)

pub record Met (s : Side) (es : List Entry) (bs : List ℕ) : Type 0 where
  pub room : length (live_of s.now s.lag es) < 8192
  pub drawn : 64 ≤ length bs

pub met : (s : Side) (xs : List Account) (es : List Entry) (bs : List ℕ) (t : Ticket) (q : Asking) (d : ℕ) → Clear s xs es bs t q d → Met s es bs
met s xs es bs t q d h =
    let p2 = passed _ _ (sym h) in
    let p5 = passed _ _ p2.1 in
    let p6 = passed _ _ p5.1 in
    let p7 = passed _ _ p6.1 in
    let p8 = passed _ _ p7.1 in
    let p9 = passed _ _ p8.1 in
    let p10 = passed _ _ p9.1 in
    let p12 = passed _ _ p10.1 in
    record { room = leb-false _ _ p9.0; drawn = ltb-false _ _ p12.0 }

-- there is room at the clock of the side
pub room_at : (s : Side) (k : Clock) (xs : List Account) (es : List Entry) (bs : List ℕ) (t : Ticket) (q : Asking) (d : ℕ) → k ≡ clock_of s → Clear s xs es bs t q d → length (live_of k.tick k.lag es) < 8192
room_at s k xs es bs t q d e h = subst (λ (x : Clock). length (live_of x.tick x.lag es) < 8192) (sym e) (met s xs es bs t q d h).room

-- an asking that was read is answered by its table
pub by-table : (h : Home) (t : Ticket) (q : Asking) (d : ℕ) (o : Option Fault) (r : Reply) (h' : Home) →
    readable q ≡ true → first_fault (conditions h t q d) ≡ o → r ≡ unless o (granted h t q) Err → h' ≡ unless o (drew (noted h d)) (λ _. h) →
    Decides h t q d r h'
by-table h t q d o r h' y e v m =
    let x : r ≡ unless (first_fault (conditions h t q d)) (granted h t q) Err = v ∙ ap (λ (p : Option Fault). unless p (granted h t q) Err) (sym e) in
    record {
      answer = x ∙ ap (λ (b : Bool). cond b (unless (first_fault (conditions h t q d)) (granted h t q) Err) (Err BadInside)) (sym y);
      after = m ∙ ap (λ (p : Option Fault). unless p (drew (noted h d)) (λ _. h)) (sym e) ∙ ap (λ (b : Bool). cond b (unless (first_fault (conditions h t q d)) (drew (noted h d)) (λ _. h)) h) (sym y);
      lowest = λ _. lowest-first (conditions h t q d) (refusal r) (ap (λ (z : Reply). refusal z) x ∙ told (first_fault (conditions h t q d)) (until_of h) h.left (asked_given h t q)) refl;
    }

pub unreadable : (h : Home) (t : Ticket) (q : Asking) (d : ℕ) → readable q ≡ false → Decides h t q d (Err BadInside) h
unreadable h t q d n = record {
  answer = ap (λ (b : Bool). cond b (unless (first_fault (conditions h t q d)) (granted h t q) Err) (Err BadInside)) (sym n);
  after = ap (λ (b : Bool). cond b (unless (first_fault (conditions h t q d)) (drew (noted h d)) (λ _. h)) h) (sym n);
  lowest = λ y. absurd (both_ways (readable q) n y);
}

pub refuses : (h : Home) (t : Ticket) (q : Asking) (d : ℕ) (f : Fault) → readable q ≡ true →
    Some f ≡ first_fault (judged h.side h.accounts h.kept h.left t q d) → Decides h t q d (Err f) h
refuses h t q d f y e = by-table h t q d (Some f) (Err f) h y (first_fault-last-some _ _ f e) refl refl

-- what is left to go wrong is the write
pub at-write : (h : Home) (t : Ticket) (q : Asking) (d : ℕ) → Clear h.side h.accounts h.kept h.left t q d → first_fault (conditions h t q d) ≡ cond (not h.writes) (Some NotNow) None
at-write h t q d e =
    first_fault-last-none _ _ (sym e) ∙ first_fault-cons _ _ ∙ ap (λ (o : Option Fault). cond (not h.writes) (Some NotNow) o) first_fault-nil

pub left_alone :
    (H : House) (c : Clock) (xs : List Account) (es es' : List Entry) (j j' w r : Bool) (bs : List ℕ) (t : Ticket) (q : Asking) (d : ℕ) →
    readable q ≡ true → Clear H.side xs es bs t q d → r ≡ w → r ≡ false → es' ≡ cond r (recorded c.tick c.lag d es) es → j' ≡ (not r && j) →
    Decides (home H xs es j w bs) t q d (Err NotNow) (home H xs es' j' w bs)
left_alone H c xs es es' j j' w r bs t q d y h e f k l =
    let k' : es' ≡ es = k ∙ ap (λ (b : Bool). cond b (recorded c.tick c.lag d es) es) f in
    let l' : j' ≡ j = l ∙ ap (λ (b : Bool). not b && j) f in
    by-table (home H xs es j w bs) t q d (Some NotNow) (Err NotNow) (home H xs es' j' w bs) y
    (at-write (home H xs es j w bs) t q d h ∙ ap (λ (b : Bool). cond (not b) (Some NotNow) None) (sym e ∙ f))
    refl
    (ap (λ (x : List Entry). home H xs x j' w bs) k' ∙ ap (λ (x : Bool). home H xs es x w bs) l')

pub written :
    (H : House) (c : Clock) (xs : List Account) (es es' : List Entry) (j j' w r : Bool) (bs bs' : List ℕ) (t : Ticket) (q : Asking) (d : ℕ) (z : Reply) (v : ℕ) (k : Key) →
    readable q ≡ true → c ≡ clock_of H.side → Clear H.side xs es bs t q d → r ≡ w → r ≡ true → es' ≡ cond r (recorded c.tick c.lag d es) es → j' ≡ (not r && j) →
    v ≡ wanted q → k ≡ own_key xs v →
    z ≡ giving (H.side.now + H.life) bs (record { service = v; reader = t.reader; number = q.number; asked = q.tick; own = k; under = t.key }) →
    bs' ≡ drop 64 bs →
    Decides (home H xs es j w bs) t q d z (home H xs es' j' w bs')
written H c xs es es' j j' w r bs bs' t q d z v k y cc' h e f n l vw kk zz m =
    let k' : es' ≡ recorded H.side.now H.side.lag d es = n ∙ ap (λ (b : Bool). cond b (recorded c.tick c.lag d es) es) f ∙ ap (λ (x : Clock). recorded x.tick x.lag d es) cc' in
    let l' : j' ≡ false = l ∙ ap (λ (b : Bool). not b && j) f in
    by-table (home H xs es j w bs) t q d None z (home H xs es' j' w bs') y
    (at-write (home H xs es j w bs) t q d h ∙ ap (λ (b : Bool). cond (not b) (Some NotNow) None) (sym e ∙ f))
    (zz ∙ asked-same (H.side.now + H.life) bs xs v (wanted q) k t.key t.reader q.number q.tick vw kk)
    (ap (λ (x : List Entry). home H xs x j' w bs') k'
    ∙ ap (λ (x : Bool). home H xs (recorded H.side.now H.side.lag d es) x w bs') l'
    ∙ ap (λ (x : List ℕ). home H xs (recorded H.side.now H.side.lag d es) false w x) m)
