-- What box, house and service answer to the six acts, each by its own definitions. Assumes nothing.
use Rattle.std.proofs.Common.{◌≡◌, ℕ, ◌+◌, ◌-◌, ◌*◌, ◌^◌, ◌<◌, ◌≤◌, Bool, true, false, cond, not, ◌&&◌, ◌||◌, eqb, ltb, leb, ◌⊎◌, List, [], ◌∷◌, length, get_or, is_some, Some, None, Option, sym, refl, ap, ◌∙◌, inl, inr, arith, Err, Ok}
use mathlib.Core.List.{Memᴰ}
use Rattle.std.proofs.lemmas.Bool.{le-ltb, le-leb, lt-leb, eq-eqb, ne_eqb, or_from, and_from, and_right, not_from_true, cond-false}
use Rattle.std.specs.Str.{bytes_eq}
use Rattle.parts.specs.Condition.{first_fault, row, unless}
use Rattle.parts.specs.Tick.{lately, over}
use Rattle.parts.proofs.Conditions.{first_fault-cons, first_fault-nil}
use Rattle.parts.specs.declared.condition.Condition.{Condition}
use Rattle.parts.specs.declared.fault.Fault.{Fault}
use Rattle.parts.specs.declared.fault.Fault.TheVariants.{OutOfRange}
use Rattle.parts.specs.declared.word.Asking.{Asking}
use Rattle.parts.specs.declared.word.Key.{Key}
use Rattle.parts.specs.declared.word.Letter.{Letter}
use Rattle.parts.specs.declared.word.Login.{Login}
use Rattle.parts.specs.declared.word.Number.{Number}
use Rattle.parts.specs.declared.word.Ticket.{Ticket}
use Rattle.parts.specs.declared.word.What.{What}
use Rattle.service_rules.specs.Memory.{live_of, stands}
use Rattle.service_rules.specs.Service.{View, nobody}
use Rattle.service_rules.specs.Service as service
use Rattle.service_rules.specs.Side.{waiting}
use Rattle.house_rules.specs.Account.{account_of, closed, unknown, own_key}
use Rattle.parts.specs.Account.{is_absent}
use Rattle.house_rules.specs.Give.{giving}
use Rattle.house_rules.specs.House.{Home, until_of, wanted, missing, misled, readable}
use Rattle.house_rules.specs.House as house
use Rattle.house_rules.specs.declared.give.Given.{Given}
use Rattle.box_rules.specs.Chest.{asked, asking_of, two_bytes}
use Rattle.box_rules.specs.Table.{matches, oldest, older}
use Rattle.box_rules.specs.Line as line
use Rattle.box_rules.specs.Letter as letter
use Rattle.box_rules.specs.declared.answer.Answer.TheVariants as told
use Rattle.box_rules.specs.declared.line.Pending.{Pending}
use Rattle.box_rules.specs.declared.line.Sought.{Sought}
use Rattle.box_rules.specs.declared.line.Under.{Under}
use Rattle.tickets.specs.Term.{even}
use Rattle.tickets.proofs.Bools.{either, or-false-left, or-false-right, even-injective}
use Rattle.rows.specs.Name.{Bytes, Naming}
use Rattle.rows.specs.Setting.{Setting}
use Rattle.rows.specs.System.{Box}
use Rattle.rows.proofs.Names.{same-eq}
use Rattle.rows.proofs.ServedSteady.{Below}

-- a row that is met
pub none-cons : (f : Fault) (b : Bool) (cs : List Condition) → b ≡ false → first_fault cs ≡ None → first_fault (row f b ∷ cs) ≡ None
none-cons f b cs e h = first_fault-cons (row f b) cs ∙ (ap (λ (x : Bool). cond x (Some f) (first_fault cs)) e ∙ h)

pub unless-none : {A : Type 0} (o : Option Fault) (x : A) (f : Fault → A) → o ≡ None → unless o x f ≡ x
unless-none o x f e = ap (λ (p : Option Fault). unless p x f) e

-- now is of lately, and a ticket given now is good
pub lately-now : (now lag t : ℕ) → t ≡ now → lately now lag t ≡ true
lately-now now lag t e = and_from (leb t now) (leb (now - t) lag) (le-leb t now (omega arith)) (le-leb (now - t) lag (omega arith))

pub not-over : (now life : ℕ) → over now (now + life) ≡ false
not-over now life = le-ltb (now + life) now (omega arith)

-- a line that is in range
unread-no : (lines v : ℕ) (w : What) → nobody v ≡ false → w.len ≤ 1024 → lines < 2 ^ 64 - 1 → line.unread lines v w ≡ false
unread-no lines v w e h k =
    or_from (ltb 1023 v) (ltb 1024 w.len || eqb lines (2 ^ 64 - 1)) (or-false-right (eqb v 0) (ltb 1023 v) e)
    (or_from (ltb 1024 w.len) (eqb lines (2 ^ 64 - 1)) (le-ltb 1024 w.len h) (ne_eqb lines (2 ^ 64 - 1) (λ x. omega arith)))

line_clear : (b : Box) (v : ℕ) → nobody v ≡ false → 32 ≤ length b.left → first_fault (line.line_conditions b v None) ≡ None
line_clear b v e h =
    none-cons _ _ _ refl
    (none-cons _ _ _ refl
    (none-cons _ _ _ (or_from (eqb v 0) false (or-false-left (eqb v 0) (ltb 1023 v) e) refl)
    (none-cons _ _ _ (le-ltb (length b.left) 32 h) first_fault-nil)))

pub line-answer : (b : Box) (v : ℕ) (w : What) → nobody v ≡ false → w.len ≤ 1024 → b.lines < 2 ^ 64 - 1 → 32 ≤ length b.left
    → line.wanted b v None w ≡ Ok (told.LogsIn (line.login_of b))
line-answer b v w e h k l =
    cond-false (line.unread b.lines v w) (Err OutOfRange) (unless (first_fault (line.line_conditions b v None)) (Ok (told.LogsIn (line.login_of b))) Err) (unread-no b.lines v w e h k)
    ∙ unless-none (first_fault (line.line_conditions b v None)) (Ok (told.LogsIn (line.login_of b))) Err (line_clear b v e l)

pub line_after : (b : Box) (v : ℕ) (w : What) → nobody v ≡ false → w.len ≤ 1024 → b.lines < 2 ^ 64 - 1 → 32 ≤ length b.left
    → line.wanted_after b v None w ≡ line.logged_in (line.counted b) (line.line_of b v w)
line_after b v w e h k l =
    cond-false (line.unread b.lines v w) b (unless (first_fault (line.line_conditions b v None)) (line.logged_in (line.counted b) (line.line_of b v w)) (λ _. b)) (unread-no b.lines v w e h k)
    ∙ unless-none (first_fault (line.line_conditions b v None)) (line.logged_in (line.counted b) (line.line_of b v w)) (λ _. b) (line_clear b v e l)

-- a login that is in order
login-clear : (h : Home) (a : ℕ) (l : Login) → unknown h.accounts a ≡ false → closed h.accounts a ≡ false → l.tick ≡ h.side.now → 64 ≤ length h.left → waiting h.side ≡ false
    → first_fault (house.login_conditions h a l) ≡ None
login-clear h a l known open' e d w =
    none-cons _ _ _ known
    (none-cons _ _ _ open'
    (none-cons _ _ _ (not_from_true (lately h.side.now h.side.lag l.tick) (lately-now h.side.now h.side.lag l.tick e))
    (none-cons _ _ _ (le-ltb (length h.left) 64 d)
    (none-cons _ _ _ w first_fault-nil))))

pub login-answer : (h : Home) (a : ℕ) (l : Login) → unknown h.accounts a ≡ false → closed h.accounts a ≡ false → l.tick ≡ h.side.now → 64 ≤ length h.left → waiting h.side ≡ false
    → house.logged_in h a l ≡ giving (until_of h) h.left (house.login_given h a l)
login-answer h a l known open' e d w = unless-none (first_fault (house.login_conditions h a l)) (giving (until_of h) h.left (house.login_given h a l)) Err (login-clear h a l known open' e d w)

pub login-after : (h : Home) (a : ℕ) (l : Login) → unknown h.accounts a ≡ false → closed h.accounts a ≡ false → l.tick ≡ h.side.now → 64 ≤ length h.left → waiting h.side ≡ false
    → house.login_after h a l ≡ house.drew h
login-after h a l known open' e d w = unless-none (first_fault (house.login_conditions h a l)) (house.drew h) (λ _. h) (login-clear h a l known open' e d w)

-- a letter that belongs to something under way
letter-clear : (b : Box) (u : Under) (l : Letter) (p : Pending) → letter.pending_for b u l ≡ Some p → 32 ≤ length b.left → b.taken < 2 ^ 64 - 1 → first_fault (letter.letter_conditions b u l) ≡ None
letter-clear b u l p e d t =
    none-cons _ _ _ (ap (λ (o : Option Pending). not (is_some o)) e)
    (none-cons _ _ _ (le-ltb (length b.left) 32 d)
    (none-cons _ _ _ (lt-leb (2 ^ 64 - 1) b.taken t) first_fault-nil))

pub letter-answer : (b : Box) (u : Under) (l : Letter) (p : Pending) → letter.pending_for b u l ≡ Some p → 32 ≤ length b.left → b.taken < 2 ^ 64 - 1
    → letter.taken b u l ≡ Ok (told.Takes (record { id = b.taken + 1; service = l.service; until = l.until }) (asking_of b l.key l.service p.line))
letter-answer b u l p e d t =
    unless-none (first_fault (letter.letter_conditions b u l)) (letter.taken_by b l (letter.pending_for b u l)) Err (letter-clear b u l p e d t)
    ∙ ap (λ (o : Option Pending). letter.taken_by b l o) e

pub letter-after : (b : Box) (u : Under) (l : Letter) (p : Pending) → letter.pending_for b u l ≡ Some p → 32 ≤ length b.left → b.taken < 2 ^ 64 - 1
    → letter.taken_after b u l tt ≡ asked (letter.stored (letter.settled b u l) l tt) l.key l.service p.line
letter-after b u l p e d t =
    unless-none (first_fault (letter.letter_conditions b u l)) (letter.taken_from b u l tt (letter.pending_for b u l)) (λ _. b) (letter-clear b u l p e d t)
    ∙ ap (λ (o : Option Pending). letter.taken_from b u l tt o) e

-- where no older one matches, the newest is found
oldest-none : (q : Sought) (ps : List Pending) → ((x : Pending) → Memᴰ x ps → matches q x ≡ false) → oldest q ps ≡ None
oldest-none q [] h = refl
oldest-none q (x ∷ ps) h =
    ap (λ (o : Option Pending). older o (cond (matches q x) (Some x) None)) (oldest-none q ps (λ y m. h y (Memᴰ.tail m)))
    ∙ ap (λ (b : Bool). cond b (Some x) None) (h x (Memᴰ.head refl))

pub oldest-newest : (q : Sought) (p : Pending) (ps : List Pending) → matches q p ≡ true → ((x : Pending) → Memᴰ x ps → matches q x ≡ false) → oldest q (p ∷ ps) ≡ Some p
oldest-newest q p ps e h =
    ap (λ (o : Option Pending). older o (cond (matches q p) (Some p) None)) (oldest-none q ps h)
    ∙ ap (λ (b : Bool). cond b (Some p) None) e

-- a number with a new name is none of those under way
pub not-under-way : (c : Setting) (n : Naming c.own) (k j : ℕ) (ps : List Pending) (x : Bytes) → Below c n k ps → n.name x ≡ even j → k < j
    → (p : Pending) → Memᴰ p ps → bytes_eq p.number.0 x ≡ false
not-under-way c n k j ps x b e h p m = go (either (bytes_eq p.number.0 x))
  where
    go : (bytes_eq p.number.0 x ≡ true) ⊎ (bytes_eq p.number.0 x ≡ false) → bytes_eq p.number.0 x ≡ false
    go (inr f) = f
    go (inl f) =
        let r = b p m in
        let q = r.2 in
        let g = even-injective r.0 j (sym r.1 ∙ (ap (λ (y : Bytes). n.name y) (same-eq p.number.0 x f) ∙ e)) in
        absurd (omega arith)

-- the service's number in two bytes is read again
pub two_bytes_lem : (v : ℕ) → get_or (two_bytes v).bytes 0 0 * 256 + get_or (two_bytes v).bytes 1 0 ≡ v
two_bytes_lem v = omega arith

-- a ticket for the house, and an asking for it
abbrev pub house_t : (a : ℕ) → Key → ℕ → Ticket
house_t a k until = record { service = 0; reader = a; key = k; until = until }

abbrev pub house_q : (v : ℕ) → Number → ℕ → Asking
house_q v m t = record { service = 0; number = m; what = two_bytes v; tick = t }

-- an asking that the house finds in order
pub record HouseFine (h : Home) (a v until t d : ℕ) : Type 0 where
  pub known : unknown h.accounts a ≡ false
  pub there : unknown h.accounts v ≡ false
  pub is_open : closed h.accounts a ≡ false
  pub in_time : t ≡ h.side.now
  pub is_good : h.side.now ≤ until
  pub is-new : stands d (live_of h.side.now h.side.lag h.kept) ≡ false
  pub room : length (live_of h.side.now h.side.lag h.kept) < 8192
  pub drawn : 64 ≤ length h.left
  pub awake : waiting h.side ≡ false
  pub writes : h.writes ≡ true

house-clear : (h : Home) (a v : ℕ) (k : Key) (m : Number) (until t d : ℕ) → HouseFine h a v until t d → first_fault (house.conditions h (house_t a k until) (house_q v m t) d) ≡ None
house-clear h a v k m until t d f =
    none-cons _ _ _ (or_from (unknown h.accounts a) (missing h.accounts (house_q v m t)) f.known there)
    (none-cons _ _ _ f.is_open
    (none-cons _ _ _ (not_from_true (lately h.side.now h.side.lag t) (lately-now h.side.now h.side.lag t f.in_time))
    (none-cons _ _ _ (le-ltb until h.side.now f.is_good)
    (none-cons _ _ _ f.is-new
    (none-cons _ _ _ (lt-leb 8192 (length (live_of h.side.now h.side.lag h.kept)) f.room)
    (none-cons _ _ _ a_service
    (none-cons _ _ _ (le-ltb (length h.left) 64 f.drawn)
    (none-cons _ _ _ f.awake
    (none-cons _ _ _ (not_from_true h.writes f.writes) first_fault-nil)))))))))
  where
    there : missing h.accounts (house_q v m t) ≡ false
    there =
        and_right (not (eqb (wanted (house_q v m t)) 0)) (unknown h.accounts (wanted (house_q v m t)))
        (ap (λ (x : ℕ). unknown h.accounts x) (two_bytes_lem v) ∙ f.there)

    a_service : eqb (wanted (house_q v m t)) 0 ≡ false
    a_service = ap (λ (x : ℕ). eqb x 0) (two_bytes_lem v) ∙ or-false-left (eqb v 0) (ltb 1023 v) (or-false-left (nobody v) (is_absent (account_of h.accounts v)) f.there)

-- what it then gives
abbrev pub given_for : Home → (a v : ℕ) → Key → Number → ℕ → Given
given_for h a v k m t = record { service = v; reader = a; number = m; asked = t; own = own_key h.accounts v; under = k }

pub house-answer : (h : Home) (a v : ℕ) (k : Key) (m : Number) (until t d : ℕ) → HouseFine h a v until t d
    → house.answered h (house_t a k until) (house_q v m t) d ≡ giving (until_of h) h.left (given_for h a v k m t)
house-answer h a v k m until t d f =
    unless-none (first_fault (house.conditions h (house_t a k until) (house_q v m t) d)) (giving (until_of h) h.left (house.asked_given h (house_t a k until) (house_q v m t))) Err (house-clear h a v k m until t d f)
    ∙ ap (λ (x : ℕ). giving (until_of h) h.left (given_for h a x k m t)) (two_bytes_lem v)

pub house-after : (h : Home) (a v : ℕ) (k : Key) (m : Number) (until t d : ℕ) → HouseFine h a v until t d
    → house.after h (house_t a k until) (house_q v m t) d ≡ house.drew (house.noted h d)
house-after h a v k m until t d f =
    unless-none (first_fault (house.conditions h (house_t a k until) (house_q v m t) d)) (house.drew (house.noted h d)) (λ _. h) (house-clear h a v k m until t d f)

-- a ticket for a service, and an asking to it
abbrev pub service_t : (a v : ℕ) → Key → ℕ → Ticket
service_t a v k until = record { service = v; reader = a; key = k; until = until }

abbrev pub service_q : (v : ℕ) → Number → What → ℕ → Asking
service_q v m w t = record { service = v; number = m; what = w; tick = t }

-- an asking that a service finds in order
pub record ServiceFine (u : View) (a v until t d : ℕ) : Type 0 where
  pub somebody : nobody a ≡ false
  pub number_is : u.side.number ≡ v
  pub in_time : t ≡ u.side.now
  pub is_good : u.side.now ≤ until
  pub is-new : stands d (live_of u.side.now u.side.lag u.kept) ≡ false
  pub room : length (live_of u.side.now u.side.lag u.kept) < 8192
  pub drawn : 16 ≤ length u.left
  pub awake : waiting u.side ≡ false
  pub writes : u.writes ≡ true

service-clear : (u : View) (a v : ℕ) (k : Key) (m : Number) (w : What) (until t d : ℕ) → ServiceFine u a v until t d → first_fault (service.conditions u (service_t a v k until) (service_q v m w t) d) ≡ None
service-clear u a v k m w until t d f =
    let here : eqb v u.side.number ≡ true = eq-eqb v u.side.number (sym f.number_is) in
    none-cons _ _ _ f.somebody
    (none-cons _ _ _ (not_from_true (lately u.side.now u.side.lag t) (lately-now u.side.now u.side.lag t f.in_time))
    (none-cons _ _ _ (le-ltb until u.side.now f.is_good)
    (none-cons _ _ _ f.is-new
    (none-cons _ _ _ (lt-leb 8192 (length (live_of u.side.now u.side.lag u.kept)) f.room)
    (none-cons _ _ _ (not_from_true (eqb v u.side.number && eqb v u.side.number) (and_from (eqb v u.side.number) (eqb v u.side.number) here here))
    (none-cons _ _ _ (le-ltb (length u.left) 16 f.drawn)
    (none-cons _ _ _ f.awake
    (none-cons _ _ _ (not_from_true u.writes f.writes) first_fault-nil))))))))

pub service-answer : (u : View) (a v : ℕ) (k : Key) (m : Number) (w : What) (until t d : ℕ) → ServiceFine u a v until t d
    → service.answered u (service_t a v k until) (service_q v m w t) d ≡ service.done (service.deed_of (service_t a v k until) (service_q v m w t)) (service.receipt_of u (service_t a v k until) (service_q v m w t))
service-answer u a v k m w until t d f =
    unless-none (first_fault (service.conditions u (service_t a v k until) (service_q v m w t) d)) (service.done (service.deed_of (service_t a v k until) (service_q v m w t)) (service.receipt_of u (service_t a v k until) (service_q v m w t))) Err (service-clear u a v k m w until t d f)
