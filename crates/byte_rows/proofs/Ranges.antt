-- What is locked fits its fields: numbers of two bytes and ticks of eight, drawn bytes of their lengths. Assumes nothing.
use Rattle.std.proofs.Common.{◌≡◌, ℕ, zero, suc, ◌+◌, ◌-◌, ◌*◌, ◌^◌, ◌<◌, ◌≤◌, Bool, true, false, cond, not, ◌&&◌, eqb, ltb, leb, ◌⊎◌, List, [], ◌∷◌, length, get_or, take, drop, replicate, Some, None, Ok, Err, Option, Result, sym, refl, ap, subst, inl, inr, arith, length-drop}
use Rattle.box_rules.specs.Chest.{Boxed, asking_of, two_bytes}
use Rattle.box_rules.specs.Letter.{letter_conditions, letter_judged, pending_for, pending_in, settled, stored, taken, taken_after, taken_by, taken_from}
use Rattle.box_rules.specs.Letter as letters
use Rattle.box_rules.specs.Line.{line_conditions, line_of, pass_by, sent_after, sent_by, unread, wanted, wanted_after}
use Rattle.box_rules.specs.Table.{oldest}
use Rattle.box_rules.specs.Line.{Told}
use Rattle.box_rules.specs.declared.answer.Answer.TheVariants as told
use Rattle.box_rules.specs.declared.line.Held.{Held}
use Rattle.box_rules.specs.declared.line.Line.{Line}
use Rattle.box_rules.specs.declared.line.Pass.{Pass}
use Rattle.box_rules.specs.declared.line.Pending.{Pending}
use Rattle.box_rules.specs.declared.line.Sought.TheVariants.{AtHouse, Login as ByLogin}
use Rattle.box_rules.specs.declared.line.Under.{Under}
use Rattle.box_rules.specs.declared.line.Under.TheVariants.{Own as OwnKey, Session}
use Rattle.codec.proofs.Numbers.{length_part}
use Rattle.codec.proofs.Insides.{both}
use Rattle.codec.specs.Law.{AskingFits, LetterFits, LoginFits, ReceiptFits, TicketFits}
use Rattle.contents.specs.Inside.{Asked, begins, is_asking, is_inside, read_asking, read_login, what_length}
use Rattle.house_rules.specs.Account.{unknown, account_of}
use Rattle.parts.specs.Account.{is_absent}
use Rattle.house_rules.specs.Give.{giving}
use Rattle.house_rules.specs.House.{Home, until_of}
use Rattle.house_rules.specs.House as house-rules
use Rattle.house_rules.specs.declared.give.Given.{Given}
use Rattle.house_rules.specs.Give.{Reply}
use Rattle.locked.specs.Locked.{Bytes, asked_of, asking_ok, words_in}
use Rattle.locked.specs.Locked as locked
use Rattle.parts.proofs.Conditions.{passed}
use Rattle.parts.specs.Condition.{first_fault, unless}
use Rattle.parts.specs.declared.account.Account.{Account}
use Rattle.parts.specs.declared.fault.Fault.{Fault}
use Rattle.parts.specs.declared.fault.Fault.TheVariants.{BadInside, OutOfRange}
use Rattle.parts.specs.declared.lock.Lock.{Lock}
use Rattle.parts.specs.declared.word.Asking.{Asking}
use Rattle.parts.specs.declared.word.Key.{Key}
use Rattle.parts.specs.declared.word.Letter.{Letter}
use Rattle.parts.specs.declared.word.Login.{Login}
use Rattle.parts.specs.declared.word.Ticket.{Ticket}
use Rattle.parts.specs.declared.word.What.{What}
use Rattle.rows.proofs.Sides.{clear-home, and_right}
use Rattle.rows.proofs.Tables.{oldest-found, pass-by, put-cases, without-there}
use Rattle.rows.specs.Name.{spell}
use Rattle.rows.specs.Word.{what_term, words_of}
use Rattle.service_rules.specs.Service.{View, nobody}
use Rattle.service_rules.specs.Service as service-rules
use Rattle.service_rules.specs.Service.{Answer}
use Rattle.std.proofs.lemmas.List.{length-take-le, take_at}
use Rattle.std.proofs.lemmas.Bool.{eqb-true, ltb-false}
use Rattle.std.specs.Str.{bytes_eq}
use Rattle.tickets.proofs.Bools.{or-false-left, or-false-right}
use Rattle.tickets.specs.Term.{Num}
use Rattle.wire.specs.Word.{lock_fits}
use mathlib.Core.List.{Memᴰ}

-- the first n are at most n
pub take_short : (n : ℕ) (xs : List ℕ) → length (take n xs) ≤ n
take_short zero xs = omega arith
take_short (suc n) [] = omega arith
take_short (suc n) (x ∷ xs) = let h = take_short n xs in omega arith

-- drawn bytes
front-16 : (bs : List ℕ) → 16 ≤ length bs → length (take 16 bs) ≡ 16
front-16 bs h = length-take-le 16 bs h

later-16 : (n : ℕ) (bs : List ℕ) → n + 16 ≤ length bs → length (take 16 (drop n bs)) ≡ 16
later-16 n bs h = let d = length-drop n bs in length-take-le 16 (drop n bs) (omega arith)

-- a number that is somebody's
known-low : (xs : List Account) (n : ℕ) → unknown xs n ≡ false → n < 1024
known-low xs n h =
    let p = or-false-left (nobody n) (is_absent (account_of xs n)) h in
    let q = ltb-false 1023 n (or-false-right (eqb n 0) (ltb 1023 n) p) in
    omega arith

-- numbers that were read have 16 bytes
ok-so : {X : Type 0} (f : Fault) (b : Bool) (x y : X) → cond b (Ok x) (Err f) ≡ Ok y → (b ≡ true) × (x ≡ y)
ok-so f true x y e = (refl, cc)
ok-so f false x y e = absurd (let z : ◌≡◌ {A = ℕ} 0 1 = cc in omega arith)

pub login-number : (bs : Bytes) (x : Login) → read_login bs ≡ Ok x → length x.number.0 ≡ 16
login-number bs x e =
    let o = ok-so BadInside (is_inside 4 25 bs) _ x e in
    let n = eqb-true (length bs) 25 (both (eqb (length bs) 25) (begins 4 bs) o.0).0 in
    subst (λ (y : Login). length y.number.0 ≡ 16) o.1 (length_part 1 16 bs (omega arith))

pub asking-number : (bs : Bytes) (q : Asking) → asking_ok (read_asking bs) ≡ Ok q → length q.number.0 ≡ 16
asking-number bs q e = go (read_asking bs) refl e
  where
    go : (r : Result Asked Fault) → read_asking bs ≡ r → asking_ok r ≡ Ok q → length q.number.0 ≡ 16
    go (Err f) i j = absurd (let z : ◌≡◌ {A = ℕ} 0 1 = cc in omega arith)
    go (Ok a) i j =
        let o = ok-so BadInside (is_asking bs) _ a i in
        let k = (both (is_inside 3 (29 + what_length bs) bs) (leb (what_length bs) 1024) o.0).0 in
        let n = eqb-true (length bs) (29 + what_length bs) (both (eqb (length bs) (29 + what_length bs)) (begins 3 bs) k).0 in
        let m : length a.number.0 ≡ 16 = subst (λ (y : Asked). length y.number.0 ≡ 16) o.1 (length_part 3 16 bs (omega arith)) in
        let p : locked.asking_of a ≡ q = cc in
        subst (λ (y : Asking). length y.number.0 ≡ 16) p m

-- what the house gives
abbrev pub GoodReply : Reply → Type 0
GoodReply (Ok y) = TicketFits y.ticket.inside × LetterFits y.letter.inside × (length y.ticket.salt.0 ≡ 16) × (length y.letter.salt.0 ≡ 16)
GoodReply (Err f) = Unit {0}

giving-good : (h : Home) (v : Given) → 64 ≤ length h.left → v.service < 1024 → v.reader < 1024 → length v.number.0 ≡ 16 → h.side.now < 2 ^ 63 → h.life < 2 ^ 63
    → GoodReply (giving (until_of h) h.left v)
giving-good h v drawn s r n now life =
    let key : length (take 32 h.left) ≡ 32 = length-take-le 32 h.left (omega arith) in
    let until : h.side.now + h.life < 2 ^ 64 = omega arith in (
      (omega arith, omega arith, key, until),
      (n, omega arith, key, until),
      later-16 32 h.left (omega arith),
      later-16 48 h.left (omega arith),
    )

pub login-good : (h : Home) (a : ℕ) (x : Login) → length x.number.0 ≡ 16 → h.side.now < 2 ^ 63 → h.life < 2 ^ 63 → GoodReply (house-rules.logged_in h a x)
login-good h a x n now life = go (first_fault (house-rules.login_conditions h a x)) refl
  where
    go : (o : Option Fault) → first_fault (house-rules.login_conditions h a x) ≡ o → GoodReply (unless o (giving (until_of h) h.left (house-rules.login_given h a x)) Err)
    go (Some f) e = tt
    go None e =
        let p1 = passed _ _ e in
        let p2 = passed _ _ p1.1 in
        let p3 = passed _ _ p2.1 in
        let p4 = passed _ _ p3.1 in
        giving-good h (house-rules.login_given h a x) (ltb-false _ _ p4.0) (omega arith) (known-low h.accounts a p1.0) n now life

pub ask-good : (h : Home) (t : Ticket) (q : Asking) (d : ℕ) → length q.number.0 ≡ 16 → h.side.now < 2 ^ 63 → h.life < 2 ^ 63 → GoodReply (house-rules.answered h t q d)
ask-good h t q d n now life = go (house-rules.readable q) (first_fault (house-rules.conditions h t q d)) refl
  where
    go : (r : Bool) (o : Option Fault) → first_fault (house-rules.conditions h t q d) ≡ o → GoodReply (cond r (unless o (house-rules.granted h t q) Err) (Err BadInside))
    go false o e = tt
    go true (Some f) e = tt
    go true None e =
        let k = clear-home h t q d e in
        let p1 = passed _ _ e in
        let p2 = passed _ _ p1.1 in
        let p3 = passed _ _ p2.1 in
        let p4 = passed _ _ p3.1 in
        let p5 = passed _ _ p4.1 in
        let p6 = passed _ _ p5.1 in
        let p7 = passed _ _ p6.1 in
        let p8 = passed _ _ p7.1 in
        let w : unknown h.accounts (house-rules.wanted q) ≡ false =
        subst (λ (b : Bool). (not b && unknown h.accounts (house-rules.wanted q)) ≡ false) k.a_service
        (subst (λ (b : Bool). (b && (not (eqb (house-rules.wanted q) 0) && unknown h.accounts (house-rules.wanted q))) ≡ false) k.asks-house k.there)
        in
        giving-good h (house-rules.asked_given h t q) (ltb-false _ _ p8.0) (known-low h.accounts (house-rules.wanted q) w) (known-low h.accounts t.reader k.known) n now life

-- what a service sends
abbrev pub GoodAnswer : Answer → Type 0
GoodAnswer (Ok y) = ReceiptFits y.receipt.inside × (length y.receipt.salt.0 ≡ 16)
GoodAnswer (Err f) = Unit {0}

pub service-good : (v : View) (t : Ticket) (q : Asking) (d : ℕ) → length q.number.0 ≡ 16 → GoodAnswer (service-rules.answered v t q d)
service-good v t q d n = go (first_fault (service-rules.conditions v t q d)) refl
  where
    go : (o : Option Fault) → first_fault (service-rules.conditions v t q d) ≡ o → GoodAnswer (unless o (service-rules.done (service-rules.deed_of t q) (service-rules.receipt_of v t q)) Err)
    go (Some f) e = tt
    go None e =
        let p1 = passed _ _ e in
        let p2 = passed _ _ p1.1 in
        let p3 = passed _ _ p2.1 in
        let p4 = passed _ _ p3.1 in
        let p5 = passed _ _ p4.1 in
        let p6 = passed _ _ p5.1 in
        let p7 = passed _ _ p6.1 in
        (n, front-16 v.left (ltb-false _ _ p7.0))

-- a line of the reader
pub record LineOk (n : Line) : Type 0 where
  pub service : n.service < 1024
  pub len : n.what.len ≤ 1024
  pub tick : n.tick < 2 ^ 63

-- a box with the number a
pub record BoxOk (a : ℕ) (x : Boxed Bytes) : Type 0 where
  pub number : x.number ≡ a
  pub now : x.now < 2 ^ 63
  pub logins : (p : Pending) → Memᴰ p x.logins → LineOk p.line
  pub askings : (p : Pending) → Memᴰ p x.askings → LineOk p.line
  pub tickets : (h : Held Bytes) → Memᴰ h x.tickets → (h.pass.service < 1024) × (lock_fits h.ticket ≡ true)

-- an asking that a box sends
pub record GoodAsking (q : Lock Asking) : Type 0 where
  pub fits : AskingFits (asked_of q.inside)
  pub salt : length q.salt.0 ≡ 16
  pub what : what_term (locked.asking_of (asked_of q.inside)) ≡ what_term q.inside

abbrev pub GoodTold : Told → Type 0
GoodTold (Ok (told.LogsIn x)) = LoginFits x.inside × (length x.salt.0 ≡ 16)
GoodTold (Ok (told.Asks i q)) = GoodAsking q
GoodTold (Ok (told.Takes d q)) = GoodAsking q
GoodTold (Ok (told.Receipt n)) = Unit {0}
GoodTold (Ok (told.Shown k)) = Unit {0}
GoodTold (Err f) = Unit {0}

-- the service that an asking for the house names
abbrev wanted_in : What → ℕ
wanted_in w = get_or w.bytes 0 0 * 256 + get_or w.bytes 1 0

asking-good : (x : Boxed Bytes) (k : Key) (asks : ℕ) (n : Line) → 32 ≤ length x.left → x.now < 2 ^ 63 → asks < 1024 → LineOk n → GoodAsking (asking_of x k asks n)
asking-good x k asks n drawn now low line =
    record {
      fits = (omega arith, front-16 x.left (omega arith), words (eqb asks 0), tick (eqb asks 0));
      salt = later-16 16 x.left (omega arith);
      what = same (eqb asks 0);
    }
  where
    words : (b : Bool) → length (words_in (cond b (two_bytes n.service) n.what)) ≤ 1024
    words true = omega arith
    words false = let s = take_short n.what.len n.what.bytes in let m = line.len in omega arith

    tick : (b : Bool) → cond b x.now n.tick < 2 ^ 64
    tick true = omega arith
    tick false = let m = line.tick in omega arith

    same : (b : Bool)
        → cond b (Num (wanted_in (locked.what_in (words_in (cond b (two_bytes n.service) n.what))))) (spell (words_of (locked.what_in (words_in (cond b (two_bytes n.service) n.what)))))
        ≡ cond b (Num (wanted_in (cond b (two_bytes n.service) n.what))) (spell (words_of (cond b (two_bytes n.service) n.what)))
    same true = refl
    same false = ap spell (take_at (words_in n.what) (replicate (1024 - length (words_in n.what)) 0) (length (words_in n.what)) refl)

-- a box after a line
pub wanted-good : (a : ℕ) (x : Boxed Bytes) → BoxOk a x → (v : ℕ) (by : Option ℕ) (w : What) → GoodTold (wanted x v by w) × BoxOk a (wanted_after x v by w)
wanted-good a x ok v by w = go (unread x.lines v w) refl (first_fault (line_conditions x v by)) refl (pass_by by x.tickets) refl
  where
    go : (u : Bool) → unread x.lines v w ≡ u → (o : Option Fault) → first_fault (line_conditions x v by) ≡ o → (p : Option Pass) → pass_by by x.tickets ≡ p
        → GoodTold (cond u (Err OutOfRange) (unless o (sent_by x p (line_of x v w)) Err)) × BoxOk a (cond u x (unless o (sent_after x p (line_of x v w)) (λ _. x)))
    go true e o f p g = (tt, ok)
    go false e (Some k) f p g = (tt, ok)
    go false e None f p g =
        let p1 = passed _ _ f in
        let p2 = passed _ _ p1.1 in
        let p3 = passed _ _ p2.1 in
        let p4 = passed _ _ p3.1 in
        let drawn : 32 ≤ length x.left = ltb-false _ _ p4.0 in
        let low = ltb-false 1023 v (or-false-left (ltb 1023 v) _ e) in
        let len = ltb-false 1024 w.len (or-false-left (ltb 1024 w.len) _ (or-false-right (ltb 1023 v) _ e)) in
        by-pass p g drawn (record { service = omega arith; len = len; tick = ok.now })
      where
        new : (ps : List Pending) (p q : Pending) → LineOk p.line → ((r : Pending) → Memᴰ r ps → LineOk r.line) → (q ≡ p) ⊎ Memᴰ q ps → LineOk q.line
        new ps p q l old (inl i) = subst (λ (r : Pending). LineOk r.line) (sym i) l
        new ps p q l old (inr i) = old q i

        by-pass : (p : Option Pass) → pass_by by x.tickets ≡ p → 32 ≤ length x.left → LineOk (line_of x v w)
            → GoodTold (sent_by x p (line_of x v w)) × BoxOk a (sent_after x p (line_of x v w))
        by-pass None i drawn l = (
          ((front-16 x.left (omega arith), (let m = ok.now in omega arith)), later-16 16 x.left (omega arith)),
          record { number = ok.number; now = ok.now; logins = λ p k. new x.logins _ p l ok.logins (put-cases _ x.logins p k); askings = ok.askings; tickets = ok.tickets },
        )
        by-pass (Some p) i drawn l =
            let h = pass-by by x.tickets p i in
            let s : p.service < 1024 = subst (λ (y : Pass). y.service < 1024) h.2 (ok.tickets h.0 h.1).0 in (
              asking-good x p.key p.service (line_of x v w) drawn ok.now s l,
              record { number = ok.number; now = ok.now; logins = ok.logins; askings = λ p k. new x.askings _ p l ok.askings (put-cases _ x.askings p k); tickets = ok.tickets },
            )

-- what a letter belongs to, and its service
pending-ok : (a : ℕ) (x : Boxed Bytes) → BoxOk a x → (u : Under) (y : Letter) (p : Pending) → pending_in x.logins x.askings u y ≡ Some p → LineOk p.line × (y.service < 1024)
pending-ok a x ok OwnKey y p e = go (eqb y.service 0) refl e
  where
    go : (b : Bool) → eqb y.service 0 ≡ b → cond b (oldest (ByLogin y.number) x.logins) None ≡ Some p → LineOk p.line × (y.service < 1024)
    go true i j = let z = eqb-true y.service 0 i in (ok.logins p (oldest-found (ByLogin y.number) x.logins p j).0, omega arith)
    go false i j = absurd (let z : ◌≡◌ {A = ℕ} 0 1 = cc in omega arith)
pending-ok a x ok (Session k) y p e =
    let f = oldest-found (AtHouse k y.number y.service) x.askings p e in
    let l = ok.askings p f.0 in
    let m1 = and_right (eqb p.asks 0) _ f.1 in
    let m2 = and_right (bytes_eq p.key.0 k.0) _ m1 in
    let m3 = and_right (bytes_eq p.number.0 y.number.0) _ m2 in
    let s = eqb-true p.line.service y.service m3 in
    let low = l.service in
    (l, omega arith)

-- a box after a letter
pub taken-good : (a : ℕ) (x : Boxed Bytes) → BoxOk a x → (u : Under) (y : Letter) (ticket : Bytes) → lock_fits ticket ≡ true → GoodTold (taken x u y) × BoxOk a (taken_after x u y ticket)
taken-good a x ok u y ticket fit = go (first_fault (letter_conditions x u y)) refl (pending_for x u y) refl
  where
    go : (o : Option Fault) → first_fault (letter_conditions x u y) ≡ o → (p : Option Pending) → pending_for x u y ≡ p
        → GoodTold (unless o (taken_by x y p) Err) × BoxOk a (unless o (taken_from x u y ticket p) (λ _. x))
    go (Some f) e p i = (tt, ok)
    go None e None i = (tt, ok)
    go None e (Some p) i =
        let p1 = passed _ _ e in
        let p2 = passed _ _ p1.1 in
        let drawn : 32 ≤ length x.left = ltb-false _ _ p2.0 in
        let q = pending-ok a x ok u y p i in (
          asking-good x y.key y.service p.line drawn ok.now q.1 q.0,
          record {
            number = ok.number;
            now = ok.now;
            logins = λ r k. ok.logins r (logins-back u r k);
            askings = λ r k. askings q.0 r (put-cases _ (letters.askings_without u y x.askings) r k);
            tickets = λ h k. tickets (q.1, fit) h (put-cases _ x.tickets h k);
          },
        )
      where
        logins-back : (u : Under) (r : Pending) → Memᴰ r (letters.logins_without u y x.logins) → Memᴰ r x.logins
        logins-back OwnKey r k = (without-there y.number x.logins r k).0
        logins-back (Session z) r k = k

        askings-back : (u : Under) (r : Pending) → Memᴰ r (letters.askings_without u y x.askings) → Memᴰ r x.askings
        askings-back OwnKey r k = k
        askings-back (Session z) r k = (without-there y.number x.askings r k).0

        askings : {n : Pending} → LineOk n.line → (r : Pending) → (r ≡ n) ⊎ Memᴰ r (letters.askings_without u y x.askings) → LineOk r.line
        askings l r (inl j) = subst (λ (z : Pending). LineOk z.line) (sym j) l
        askings l r (inr k) = ok.askings r (askings-back u r k)

        tickets : {n : Held Bytes} → (n.pass.service < 1024) × (lock_fits n.ticket ≡ true) → (h : Held Bytes) → (h ≡ n) ⊎ Memᴰ h x.tickets → (h.pass.service < 1024) × (lock_fits h.ticket ≡ true)
        tickets s h (inr k) = ok.tickets h k
        tickets s h (inl j) = subst (λ (z : Held Bytes). (z.pass.service < 1024) × (lock_fits z.ticket ≡ true)) (sym j) s
