-- The decisions of the house are what the house must be. Assumes nothing.
use Rattle.std.proofs.Common.{◌≡◌, ℕ, ◌<◌, Bool, true, false, cond, not, ◌&&◌, ◌||◌, eqb, ltb, List, length, Some, None, Ok, Err, Option, sym, refl, ap, ◌∙◌, arith}
use Rattle.code.proofs.Serves.{clear, not'}
use Rattle.code.specs.Code.{MayGrant, MayLogIn}
use Rattle.code.specs.Sides.{HouseStands, KeptHome, home_of, home_view, with_accounts}
use Rattle.house_rules.proofs.Decided.{told}
use Rattle.house_rules.specs.Account.{account_of, closed, unknown}
use Rattle.parts.specs.Account.{is_closed}
use Rattle.house_rules.specs.Change.{Answer, changed, closed_of, shut, shut_after, shut_from}
use Rattle.house_rules.specs.Give.{giving}
use Rattle.house_rules.specs.House.{Home, after, answered, asked_given, conditions, drew, for_house, granted, logged_in, login_conditions, login_given, missing, misled, noted, readable, refusal, until_of, wanted}
use Rattle.house_rules.specs.declared.change.Changed.TheVariants.{Done, Same}
use Rattle.parts.proofs.Conditions.{first_fault-nil, passed}
use Rattle.parts.specs.Condition.{first_fault, unless}
use Rattle.parts.specs.declared.account.Account.{Account}
use Rattle.parts.specs.declared.account.Account.TheVariants.{Absent, Closed, Open}
use Rattle.parts.specs.declared.fault.Fault.{Fault}
use Rattle.parts.specs.declared.fault.Fault.TheVariants.{AccountClosed, BadInside, DoneBefore, NoDrawnBytes, NoRoom, NotLately, NotNow, TicketOver, Unknown, WrongService}
use Rattle.parts.specs.declared.word.Asking.{Asking}
use Rattle.parts.specs.declared.word.Login.{Login}
use Rattle.parts.specs.declared.word.Ticket.{Ticket}
use Rattle.service_rules.specs.Service.{nobody}
use Rattle.std.proofs.lemmas.List.{get_or-set_other, get_or-set_same}
use Rattle.std.proofs.lemmas.Bool.{both_ways, eq-eqb, eqb-true, le-ltb, leb-false, lt-leb, ltb-false, not-false, or_from, or_parts, or_right}

-- Logins

login-none : (h : Home) (a : ℕ) (l : Login) → MayLogIn h.side.lag h.side.now (ltb h.side.now h.side.wake) h.accounts h.left a l → first_fault (login_conditions h a l) ≡ None
login-none h a l m =
    clear Unknown _ _ m.known
    (clear AccountClosed _ _ m.open'
    (clear NotLately _ _ (not' _ _ m.recent)
    (clear NoDrawnBytes _ _ (le-ltb _ _ m.drawn)
    (clear NotNow _ _ m.awake first_fault-nil))))

login-all : (h : Home) (a : ℕ) (l : Login) → first_fault (login_conditions h a l) ≡ None → MayLogIn h.side.lag h.side.now (ltb h.side.now h.side.wake) h.accounts h.left a l
login-all h a l e =
    let p2 = passed _ _ e in
    let p5 = passed _ _ p2.1 in
    let p6 = passed _ _ p5.1 in
    let p12 = passed _ _ p6.1 in
    let p14 = passed _ _ p12.1 in
    record { known = p2.0; open' = p5.0; recent = not-false _ p6.0; drawn = ltb-false _ _ p12.0; awake = p14.0 }

login-told : (h : Home) (a : ℕ) (l : Login) → first_fault (login_conditions h a l) ≡ refusal (logged_in h a l)
login-told h a l = sym (told (first_fault (login_conditions h a l)) (until_of h) h.left (login_given h a l))

-- Askings

-- the asking is for the house and can be read, and the service it names is there and not the house
record Names (xs : List Account) (q : Asking) : Type 0 where
  asking : q.service ≡ 0
  read : q.what.len ≡ 2
  other : eqb (wanted q) 0 ≡ false
  there : unknown xs (wanted q) ≡ false

names-readable : (xs : List Account) (q : Asking) → Names xs q → readable q ≡ true
names-readable xs q n = or_right (not (for_house q)) _ (eq-eqb _ _ n.read)

names-there : (xs : List Account) (q : Asking) → Names xs q → missing xs q ≡ false
names-there xs q n = by (for_house q) (eqb (wanted q) 0) (unknown xs (wanted q)) n.there
  where
    by : (b c u : Bool) → u ≡ false → (b && (not c && u)) ≡ false
    by true true u e = refl
    by true false u e = e
    by false c u e = refl

names-right : (xs : List Account) (q : Asking) → Names xs q → misled q ≡ false
names-right xs q n = or_from (not (for_house q)) _ (not' _ _ (eq-eqb _ _ n.asking)) n.other

none-wrong : (h : Home) (t : Ticket) (q : Asking) (d : ℕ) → MayGrant h.side.lag h.side.now (ltb h.side.now h.side.wake) h.writes h.accounts h.kept h.left t q d → first_fault (conditions h t q d) ≡ None
none-wrong h t q d m =
    let n : Names h.accounts q = record { asking = m.asking; read = m.read; other = m.other; there = m.there } in
    clear Unknown _ _ (or_from _ _ m.known (names-there h.accounts q n))
    (clear AccountClosed _ _ m.open'
    (clear NotLately _ _ (not' _ _ m.recent)
    (clear TicketOver _ _ m.good
    (clear DoneBefore _ _ m.free.new
    (clear NoRoom _ _ (lt-leb _ _ m.free.room)
    (clear WrongService _ _ (or_from _ _ (not' _ _ (eq-eqb _ _ m.ticket)) (names-right h.accounts q n))
    (clear NoDrawnBytes _ _ (le-ltb _ _ m.drawn)
    (clear NotNow _ _ m.free.awake
    (clear NotNow _ _ (not' _ _ m.free.writing) first_fault-nil)))))))))

-- what can be read off a table without a fault
named : (xs : List Account) (q : Asking) → readable q ≡ true → missing xs q ≡ false → misled q ≡ false → Names xs q
named xs q r m w =
    let p = or_parts (not (for_house q)) (eqb (wanted q) 0) w in
    let f : for_house q ≡ true = not-false _ p.0 in
    record {
      asking = eqb-true _ _ f;
      read = eqb-true _ _ (second (for_house q) (eqb q.what.len 2) f r);
      other = p.1;
      there = third (for_house q) (eqb (wanted q) 0) (unknown xs (wanted q)) f p.1 m;
    }
  where
    second : (b c : Bool) → b ≡ true → (not b || c) ≡ true → c ≡ true
    second true c e h = h
    second false c e h = absurd (both_ways false refl e)

    third : (b c u : Bool) → b ≡ true → c ≡ false → (b && (not c && u)) ≡ false → u ≡ false
    third true true u e f h = absurd (both_ways true f refl)
    third true false u e f h = h
    third false c u e f h = absurd (both_ways false refl e)

all-holds : (h : Home) (t : Ticket) (q : Asking) (d : ℕ) → readable q ≡ true → first_fault (conditions h t q d) ≡ None →
    MayGrant h.side.lag h.side.now (ltb h.side.now h.side.wake) h.writes h.accounts h.kept h.left t q d
all-holds h t q d r e =
    let p2 = passed _ _ e in
    let p5 = passed _ _ p2.1 in
    let p6 = passed _ _ p5.1 in
    let p7 = passed _ _ p6.1 in
    let p8 = passed _ _ p7.1 in
    let p9 = passed _ _ p8.1 in
    let p10 = passed _ _ p9.1 in
    let p12 = passed _ _ p10.1 in
    let p14 = passed _ _ p12.1 in
    let p15 = passed _ _ p14.1 in
    let k = or_parts (unknown h.accounts t.reader) (missing h.accounts q) p2.0 in
    let w = or_parts (not (eqb t.service 0)) (misled q) p10.0 in
    let n = named h.accounts q r k.1 w.1 in
    record {
      known = k.0;
      open' = p5.0;
      recent = not-false _ p6.0;
      good = p7.0;
      ticket = eqb-true _ _ (not-false _ w.0);
      asking = n.asking;
      read = n.read;
      other = n.other;
      there = n.there;
      drawn = ltb-false _ _ p12.0;
      free = record { new = p8.0; room = leb-false _ _ p9.0; awake = p14.0; writing = not-false _ p15.0 };
    }

-- a grant was read, and nothing was wrong with it
pub record Read (h : Home) (t : Ticket) (q : Asking) (d : ℕ) : Type 0 where
  pub read : readable q ≡ true
  pub clear : first_fault (conditions h t q d) ≡ None

some-none : (f : Fault) → Some f ≡ None → ⊥
some-none f e = let z : ◌≡◌ {A = ℕ} 0 1 = cc in omega arith

reads : (h : Home) (t : Ticket) (q : Asking) (d : ℕ) → refusal (answered h t q d) ≡ None → Read h t q d
reads h t q d e = by (readable q) refl e
  where
    by : (b : Bool) → readable q ≡ b → refusal (cond b (unless (first_fault (conditions h t q d)) (granted h t q) Err) (Err BadInside)) ≡ None → Read h t q d
    by true r k = record { read = r; clear = sym (told (first_fault (conditions h t q d)) (until_of h) h.left (asked_given h t q)) ∙ k }
    by false r k = absurd (some-none BadInside k)

-- what was granted, answered and left
answers : (h : Home) (t : Ticket) (q : Asking) (d : ℕ) → Read h t q d → answered h t q d ≡ granted h t q
answers h t q d r =
    ap (λ (b : Bool). cond b (unless (first_fault (conditions h t q d)) (granted h t q) Err) (Err BadInside)) r.read
    ∙ ap (λ (o : Option Fault). unless o (granted h t q) Err) r.clear

leaves : (h : Home) (t : Ticket) (q : Asking) (d : ℕ) → Read h t q d → after h t q d ≡ drew (noted h d)
leaves h t q d r =
    ap (λ (b : Bool). cond b (unless (first_fault (conditions h t q d)) (drew (noted h d)) (λ _. h)) h) r.read
    ∙ ap (λ (o : Option Fault). unless o (drew (noted h d)) (λ _. h)) r.clear

-- a refusal leaves all as it was
stays : (h : Home) (t : Ticket) (q : Asking) (d : ℕ) (f : Fault) → refusal (answered h t q d) ≡ Some f → after h t q d ≡ h
stays h t q d f e = by (readable q) e
  where
    by : (b : Bool) → refusal (cond b (unless (first_fault (conditions h t q d)) (granted h t q) Err) (Err BadInside)) ≡ Some f →
        cond b (unless (first_fault (conditions h t q d)) (drew (noted h d)) (λ _. h)) h ≡ h
    by true k = ap (λ (o : Option Fault). unless o (drew (noted h d)) (λ _. h)) (sym (told (first_fault (conditions h t q d)) (until_of h) h.left (asked_given h t q)) ∙ k)
    by false k = refl

may_read : (h : Home) (t : Ticket) (q : Asking) (d : ℕ) → MayGrant h.side.lag h.side.now (ltb h.side.now h.side.wake) h.writes h.accounts h.kept h.left t q d → Read h t q d
may_read h t q d m = record {
  read = names-readable h.accounts q (record { asking = m.asking; read = m.read; other = m.other; there = m.there });
  clear = none-wrong h t q d m;
}

-- Closings

-- an account that was closed is closed
shut-closed : (xs : List Account) (a : ℕ) (w : Bool) → a < length xs → shut xs a w ≡ Ok Done → closed (shut_after xs a w) a ≡ true
shut-closed xs a w l e =
    ap (λ (c : Answer). closed (changed xs a (closed_of (account_of xs a)) c) a) e
    ∙ ap (λ (x : Account). is_closed x) (get_or-set_same xs a (closed_of (account_of xs a)) Absent l)
    ∙ by (nobody a) (account_of xs a) e
  where
    by : (b : Bool) (x : Account) → cond b (Err Unknown) (shut_from x w) ≡ Ok Done → is_closed (closed_of x) ≡ true
    by true x k = let z : true ≡ true = refl in cc
    by false Absent k = cc
    by false (Open y) k = refl
    by false (Closed y) k = refl

shut-others : (xs : List Account) (a b : ℕ) (w : Bool) → (b ≡ a → ⊥) → account_of (shut_after xs a w) b ≡ account_of xs b
shut-others xs a b w n = by (shut xs a w)
  where
    by : (c : Answer) → account_of (changed xs a (closed_of (account_of xs a)) c) b ≡ account_of xs b
    by (Ok Done) = get_or-set_other xs a b (closed_of (account_of xs a)) Absent n
    by (Ok Same) = refl
    by (Err f) = refl

pub house-so : HouseStands
house-so lag life k = record {
  lets_so = λ a l s m. ap (λ (o : Option Fault). unless o (giving (until_of (view false s)) s.left (login_given (view false s) a l)) Err) (login-none (view false s) a l m);
  lets_only = λ a l s e. login-all (view false s) a l (login-told (view false s) a l ∙ e);
  let_in_so = λ a l s e. let x = ap (λ (o : Option Fault). unless o (drew (view false s)) (λ _. view false s)) (login-told (view false s) a l ∙ e) in
      (ap (λ (y : Home). y.left) x, ap (λ (y : Home). y.kept) x, ap (λ (y : Home). y.accounts) x);
  let_in_not = λ a l f s e. ap (λ (o : Option Fault). home_of (unless o (drew (view false s)) (λ _. view false s))) (login-told (view false s) a l ∙ e);
  grants_so = λ w t q d s m. answers (view w s) t q d (may_read (view w s) t q d m);
  grants_only = λ w t q d s e. let r = reads (view w s) t q d e in all-holds (view w s) t q d r.read r.clear;
  after_so = λ w t q d s m. let x = leaves (view w s) t q d (may_read (view w s) t q d m) in
      (ap (λ (y : Home). y.kept) x, ap (λ (y : Home). y.left) x, ap (λ (y : Home). y.accounts) x);
  refused_so = λ w t q d f s e. ap (λ (y : Home). home_of y) (stays (view w s) t q d f e);
  closes_not = λ w a f s e. ap (λ (c : Answer). with_accounts (changed s.accounts a (closed_of (account_of s.accounts a)) c) s) e;
  closes_so = λ w a s l e. shut-closed s.accounts a w l e;
  others_so = λ w a b s n. shut-others s.accounts a b w n;
}
  where
    view : Bool → KeptHome → Home
    view w s = home_view lag life k w s
