-- Every word that is sent frames as it was written, and the locks in it stand for what was locked. Assumes nothing.
use Rattle.std.proofs.Common.{◌≡◌, ℕ, ◌^◌, ◌<◌, ◌≤◌, Bool, true, false, cond, eqb, ltb, leb, ◌⊎◌, List, [], ◌∷◌, ◌++◌, length, take, Some, None, Ok, Err, Option, Result, sym, refl, ap, ◌∙◌, subst, inl, inr, arith}
use Rattle.box_rules.specs.Chest.{Boxed, box_on_tick, fresh, ticket_of}
use Rattle.box_rules.specs.Chest as chest
use Rattle.box_rules.specs.Line.{wanted, wanted_after}
use Rattle.box_rules.specs.Letter.{shown_for}
use Rattle.box_rules.specs.Table.{oldest}
use Rattle.box_rules.specs.Line.{Told}
use Rattle.box_rules.specs.declared.answer.Answer.TheVariants as told
use Rattle.box_rules.specs.declared.line.Held.{Held}
use Rattle.box_rules.specs.declared.line.Pending.{Pending}
use Rattle.box_rules.specs.declared.line.Sought.TheVariants.{AtService}
use Rattle.box_side.specs.Box as box
use Rattle.byte_rows.proofs.Air.{Fronted, made-stands}
use Rattle.byte_rows.proofs.Ranges.{BoxOk, GoodAnswer, GoodAsking, GoodReply, GoodTold, ask-good, asking-number, login-good, login-number, service-good, taken-good, wanted-good}
use Rattle.byte_rows.proofs.Reading.{asking-read-house, asking-read-service, letter-read, login-read}
use Rattle.byte_rows.proofs.Rows.{EachFits, Part, grown-made, made_by, part-before}
use Rattle.byte_rows.proofs.Simulates.{FitsAnswer, FitsAsking, FitsCall, FitsReply, FitsTold, ticket-held}
use Rattle.byte_rows.specs.Premise.{Each, Fair, HeardByBox, Meets, Row, nonces, whole_of}
use Rattle.byte_rows.specs.System.{Basis, Bytewise, Call, Made, answer_made, answered, asking_made, box_left, brings, closes, crashes, device, hands, lock_of, opens, read_by_box, read_by_house, read_by_service, replied, reply_made, run, steals, step, tells, told_by, told_made, wants}
use Rattle.byte_rows.specs.Term.{Content, Whole, content_term, lock_term, name_in, read_or}
use Rattle.codec.proofs.Insides.{asking-codec, both, cond-both-true, letter-codec, login-codec, receipt-codec, ticket-codec}
use Rattle.codec.proofs.Words.{word-codec}
use Rattle.codec.specs.Law.{AskingFits, LetterFits, LoginFits, ReceiptFits, TicketFits}
use Rattle.contents.specs.Inside.{Asked, write_asking, write_letter, write_login, write_receipt, write_ticket}
use Rattle.house_rules.specs.House.{Home}
use Rattle.house_rules.specs.House as house-rules
use Rattle.house_rules.specs.Give.{Reply}
use Rattle.house_side.specs.House as house
use Rattle.locked.specs.Locked.{Bytes, Locks, asked_of, asking_lock, asking_ok, digest_of, letter_lock, login_lock, receipt_lock, ticket_lock}
use Rattle.parts.specs.Condition.{first_fault, unless}
use Rattle.parts.specs.declared.fault.Fault.{Fault}
use Rattle.parts.specs.declared.fault.Fault.TheVariants.{OutOfRange}
use Rattle.parts.specs.declared.lock.Lock.{Lock}
use Rattle.parts.specs.declared.tick.Ticked.TheVariants.{Back, On, Stopped}
use Rattle.parts.specs.declared.word.Asking.{Asking}
use Rattle.parts.specs.declared.word.Letter.{Letter}
use Rattle.parts.specs.declared.word.Login.{Login}
use Rattle.parts.specs.declared.word.Receipt.{Receipt}
use Rattle.parts.specs.declared.word.Ticket.{Ticket}
use Rattle.rows.specs.Name.{Apart, own_of}
use Rattle.rows.specs.System.{House, Reader, Service, at, restarted}
use Rattle.rows.specs.Word.{asking_term, letter_term, login_term, receipt_term, ticket_term}
use Rattle.service_rules.specs.Side.{on_tick, set_tick}
use Rattle.service_rules.specs.Service.{Answer}
use Rattle.service_rules.specs.declared.side.Side.{Side}
use Rattle.service_side.specs.Service as service
use Rattle.std.proofs.lemmas.List.{length-append, take-take}
use Rattle.std.proofs.lemmas.Bool.{eqb-true, le-leb, leb-false}
use Rattle.tickets.specs.Term.{Num, Pair, Term}
use Rattle.wire.specs.Word.{Frame, framed, lock_fits, write_word}
use Rattle.wire.specs.Word as frame
use mathlib.Core.List.Memᴰ
use mathlib.Core.List.{Memᴰ}

-- how long the insides are
pub long-ticket : (t : Ticket) → TicketFits t → length (write_ticket t) ≤ 1053
long-ticket t f = let k = f.2 in simp length-append (omega arith)

pub long-letter : (x : Letter) → LetterFits x → length (write_letter x) ≤ 1053
long-letter x f = let n = f.0 in let k = f.2 in simp length-append (omega arith)

pub long-asking : (a : Asked) → AskingFits a → length (write_asking a) ≤ 1053
long-asking a f = let n = f.1 in let k = f.2 in simp length-append (omega arith)

pub long-login : (x : Login) → LoginFits x → length (write_login x) ≤ 1053
long-login x f = let n = f.0 in simp length-append (omega arith)

long-receipt : (x : Receipt) → ReceiptFits x → length (write_receipt x) ≤ 1053
long-receipt x f = omega arith

-- ticks stay below 2^63
tick-side : (s : Side) (to : ℕ) → s.now < 2 ^ 63 → (on_tick s to).now < 2 ^ 63
tick-side s to h = go (leb (2 ^ 63) to) refl (ltb to s.now)
  where
    go : (b : Bool) → leb (2 ^ 63) to ≡ b → (d : Bool) → (set_tick s to (cond b Stopped (cond d Back On))).now < 2 ^ 63
    go true e d = h
    go false e true = h
    go false e false = leb-false (2 ^ 63) to e

tick-box : (x : Boxed Bytes) (to : ℕ) → x.now < 2 ^ 63 → (box_on_tick x to).now < 2 ^ 63
tick-box x to h = go (leb (2 ^ 63) to) refl (ltb to x.now)
  where
    go : (b : Bool) → leb (2 ^ 63) to ≡ b → (d : Bool) → chest.set_tick x to (cond b Stopped (cond d Back On)) < 2 ^ 63
    go true e d = h
    go false e true = h
    go false e false = leb-false (2 ^ 63) to e

-- a side that starts again is at the tick at which it was
crash-tick : (s : Side) (u : Bool) (y : Side) → y.now ≡ s.now → (restarted s (cond u (Err OutOfRange) (Ok y))).now ≡ s.now
crash-tick s true y e = refl
crash-tick s false y e = e

-- the whole system is in range
pub record InRange (b : Bytewise) : Type 0 where
  pub now : b.home.side.now < 2 ^ 63
  pub life : b.home.life < 2 ^ 63
  pub box : (a : ℕ) → BoxOk a (b.box a)

boxes-at : (a : ℕ) (x : Boxed Bytes) (f : ℕ → Boxed Bytes) → BoxOk a x → ((k : ℕ) → BoxOk k (f k)) → (k : ℕ) → BoxOk k (at a x f k)
boxes-at a x f new old k = go (eqb k a) refl
  where
    go : (b : Bool) → eqb k a ≡ b → BoxOk k (cond b x (f k))
    go true e = subst (λ (i : ℕ). BoxOk i x) (sym (eqb-true k a e)) new
    go false e = old k

empty-ok : (a t : ℕ) (x : Boxed Bytes) → x.number ≡ a → x.now < 2 ^ 63 → x.logins ≡ [] → x.askings ≡ [] → x.tickets ≡ [] → BoxOk a x
empty-ok a t x n h i j k =
    record {
      number = n;
      now = h;
      logins = λ p m. absurd (Memᴰ.not-nil (subst (λ (ps : List Pending). Memᴰ p ps) i m));
      askings = λ p m. absurd (Memᴰ.not-nil (subst (λ (ps : List Pending). Memᴰ p ps) j m));
      tickets = λ p m. absurd (Memᴰ.not-nil (subst (λ (ps : List (Held Bytes)). Memᴰ p ps) k m));
    }

module _ (l : Locks) (c : Basis) where
  -- a word leaves the house at its tick
  house-stays : (h : Home) (r : house.Read) → ((house.after_word l h r).side.now ≡ h.side.now) × ((house.after_word l h r).life ≡ h.life)
  house-stays h (house.logs a x) = go (first_fault (house-rules.login_conditions h a x))
    where
      go : (o : Option Fault) → ((unless o (house-rules.drew h) (λ _. h)).side.now ≡ h.side.now) × ((unless o (house-rules.drew h) (λ _. h)).life ≡ h.life)
      go None = (refl, refl)
      go (Some f) = (refl, refl)
  house-stays h (house.asks t q) = go (house-rules.readable q) (first_fault (house-rules.conditions h t q (digest_of l t.key q.number)))
    where
      d : ℕ
      d = digest_of l t.key q.number

      go : (r : Bool) (o : Option Fault) → ((cond r (unless o (house-rules.drew (house-rules.noted h (digest_of l t.key q.number))) (λ _. h)) h).side.now ≡ h.side.now) × ((cond r (unless o (house-rules.drew (house-rules.noted h (digest_of l t.key q.number))) (λ _. h)) h).life ≡ h.life)
      go false o = (refl, refl)
      go true None = (refl, refl)
      go true (Some f) = (refl, refl)
  house-stays h (house.wrong f) = (refl, refl)

  -- what is locked by a call fits, and is locked with 16 drawn bytes
  abbrev pub GoodCall : Bytewise → Call → Type 0
  GoodCall s (tells to) = Unit {0}
  GoodCall s (hands who bs) = Unit {0}
  GoodCall s (steals m) = Unit {0}
  GoodCall s (opens m k w) = Unit {0}
  GoodCall s (closes m w) = Unit {0}
  GoodCall s (wants a v by w) = GoodTold (wanted (s.box a) v by w) × BoxOk a (wanted_after (s.box a) v by w) × (a < length c.own)
  GoodCall s (brings House w) = GoodReply (replied l c s w)
  GoodCall s (brings (Service v) w) = GoodAnswer (answered l c s v w)
  GoodCall s (brings (Reader a) w) = GoodTold (told_by l c s a w) × BoxOk a (box.after_word (s.box a) (read_by_box l c s a w)) × (a < length c.own)
  GoodCall s (device who w) = Unit {0}
  GoodCall s (crashes who cut) = Unit {0}

  good-house : (b : Bytewise) (w : Bytes) → InRange b → GoodReply (replied l c b w)
  good-house b w h = go (read_by_house l c b w) refl
    where
      go : (r : house.Read) → read_by_house l c b w ≡ r → GoodReply (house.answer_to l b.home r)
      go (house.logs a x) e = let r = login-read l b.home w a x e in login-good b.home a x (login-number r.opened.inside x r.opened.reads) h.now h.life
      go (house.asks t q) e = let r = asking-read-house l b.home w t q e in ask-good b.home t q (digest_of l t.key q.number) (asking-number r.opened.inside q r.opened.reads) h.now h.life
      go (house.wrong f) e = tt

  good-service : (b : Bytewise) (v : ℕ) (w : Bytes) → GoodAnswer (answered l c b v w)
  good-service b v w = go (read_by_service l c b v w) refl
    where
      go : (r : service.Read) → read_by_service l c b v w ≡ r → GoodAnswer (service.answer_to l (b.side v) r)
      go (service.asks t q) e = let r = asking-read-service l (own_of c.own v) w t q e in service-good (b.side v) t q (digest_of l t.key q.number) (asking-number r.opened.inside q r.opened.reads)
      go (service.wrong f) e = tt

  good-box : (g : Whole) (b : Bytewise) (a : ℕ) (w : Bytes) → HeardByBox l c g b a w → InRange b → GoodTold (told_by l c b a w) × BoxOk a (box.after_word (b.box a) (read_by_box l c b a w))
  good-box g b a w h ok = go (read_by_box l c b a w) refl
    where
      confirms : (o : Option Pending) → GoodTold (shown_for o)
      confirms None = tt
      confirms (Some p) = tt

      go : (r : box.Read) → read_by_box l c b a w ≡ r → GoodTold (box.answer_to (b.box a) r) × BoxOk a (box.after_word (b.box a) r)
      go (box.brings ticket u x) e =
          let r = letter-read l (b.box a) w ticket u x e in
          let f = word-codec.within w (frame.ticket_and_letter ticket r.letter) h.heard.octets r.frames in
          taken-good a (b.box a) (ok.box a) u x ticket (both (lock_fits ticket) (lock_fits r.letter) f.0).0
      go (box.confirms k r) e = (confirms (oldest (AtService k r.number) (b.box a).askings), ok.box a)
      go (box.refuses k) e = (tt, ok.box a)
      go (box.wrong f) e = (tt, ok.box a)

  pub good-call : (g : Whole) (b : Bytewise) (e : Call) → Meets l c g b e → InRange b → GoodCall b e
  good-call g b (tells to) h ok = tt
  good-call g b (hands who bs) h ok = tt
  good-call g b (steals m) h ok = tt
  good-call g b (opens m k w) h ok = tt
  good-call g b (closes m w) h ok = tt
  good-call g b (wants a v by w) h ok = let r = wanted-good a (b.box a) (ok.box a) v by w in (r.0, r.1, h.there)
  good-call g b (brings House w) h ok = good-house b w ok
  good-call g b (brings (Service v) w) h ok = good-service b v w
  good-call g b (brings (Reader a) w) h ok = let r = good-box g b a w h ok in (r.0, r.1, h.reader.there)
  good-call g b (device who w) h ok = tt
  good-call g b (crashes who cut) h ok = tt

  pub range-step : (b : Bytewise) (e : Call) → GoodCall b e → InRange b → InRange (step l c e b)
  range-step b (tells to) h ok =
      record {
        now = tick-side b.home.side to ok.now;
        life = ok.life;
        box = λ a. record { number = (ok.box a).number; now = tick-box (b.box a) to (ok.box a).now; logins = (ok.box a).logins; askings = (ok.box a).askings; tickets = (ok.box a).tickets };
      }
  range-step b (hands House bs) h ok = record { now = ok.now; life = ok.life; box = ok.box }
  range-step b (hands (Service v) bs) h ok = record { now = ok.now; life = ok.life; box = ok.box }
  range-step b (hands (Reader a) bs) h ok =
      record {
        now = ok.now;
        life = ok.life;
        box =
            boxes-at a (box_left ((b.box a).left ++ bs) (b.box a)) b.box
            (record { number = (ok.box a).number; now = (ok.box a).now; logins = (ok.box a).logins; askings = (ok.box a).askings; tickets = (ok.box a).tickets }) ok.box;
      }
  range-step b (steals m) h ok = record { now = ok.now; life = ok.life; box = ok.box }
  range-step b (opens m k w) h ok = record { now = ok.now; life = ok.life; box = ok.box }
  range-step b (closes m w) h ok = record { now = ok.now; life = ok.life; box = ok.box }
  range-step b (wants a v by w) h ok = record { now = ok.now; life = ok.life; box = boxes-at a (wanted_after (b.box a) v by w) b.box h.1 ok.box }
  range-step b (brings House w) h ok =
      let s = house-stays b.home (read_by_house l c b w) in
      record { now = subst (λ (n : ℕ). n < 2 ^ 63) (sym s.0) ok.now; life = subst (λ (n : ℕ). n < 2 ^ 63) (sym s.1) ok.life; box = ok.box }
  range-step b (brings (Service v) w) h ok = record { now = ok.now; life = ok.life; box = ok.box }
  range-step b (brings (Reader a) w) h ok = record { now = ok.now; life = ok.life; box = boxes-at a (box.after_word (b.box a) (read_by_box l c b a w)) b.box h.1 ok.box }
  range-step b (device House w) h ok = record { now = ok.now; life = ok.life; box = ok.box }
  range-step b (device (Service v) w) h ok = record { now = ok.now; life = ok.life; box = ok.box }
  range-step b (device (Reader a) w) h ok = ok
  range-step b (crashes House cut) h ok =
      record {
        now = subst (λ (n : ℕ). n < 2 ^ 63) (sym (crash-tick b.home.side _ _ refl)) ok.now;
        life = ok.life;
        box = ok.box;
      }
  range-step b (crashes (Service v) cut) h ok = record { now = ok.now; life = ok.life; box = ok.box }
  range-step b (crashes (Reader a) cut) h ok =
      record { now = ok.now; life = ok.life; box = boxes-at a _ b.box (empty-ok a (b.box a).now (fresh (b.box a).number (b.box a).now (b.box a).key (b.box a).left) (ok.box a).number (ok.box a).now refl refl refl) ok.box }

  -- everything is in range all along
  pub ranges : (g : Whole) (t : ℕ) (es : List Call) → t < 2 ^ 63 → c.life < 2 ^ 63 → Each l c g t es → InRange (run l c t es)
  ranges g t [] s f h = record { now = s; life = f; box = λ a. empty-ok a t (fresh a t (own_of c.own a) []) refl s refl refl refl }
  ranges g t (e ∷ es) s f h = let r = ranges g t es s f h.1 in range-step (run l c t es) e (good-call g (run l c t es) e h.0 r) r

  -- each lock was made with 16 drawn bytes
  salted-told : (r : Told) → GoodTold r → (m : Made) → Memᴰ m (told_made r) → length m.drawn ≡ 16
  salted-told (Ok (told.LogsIn x)) h m k = ap (λ (z : Made). length z.drawn) (Memᴰ.eq_of_singleton k) ∙ h.1
  salted-told (Ok (told.Asks i x)) h m k = ap (λ (z : Made). length z.drawn) (Memᴰ.eq_of_singleton k) ∙ h.salt
  salted-told (Ok (told.Takes d x)) h m k = ap (λ (z : Made). length z.drawn) (Memᴰ.eq_of_singleton k) ∙ h.salt
  salted-told (Ok (told.Receipt i)) h m k = absurd (Memᴰ.not-nil k)
  salted-told (Ok (told.Shown i)) h m k = absurd (Memᴰ.not-nil k)
  salted-told (Err f) h m k = absurd (Memᴰ.not-nil k)

  salted-reply : (r : Reply) → GoodReply r → (m : Made) → Memᴰ m (reply_made r) → length m.drawn ≡ 16
  salted-reply (Ok y) h m k = go (Memᴰ.cases_cons k)
    where
      go : (m ≡ record { kind = 1; key = y.ticket.key.0; drawn = y.ticket.salt.0; inside = write_ticket y.ticket.inside }) ⊎ Memᴰ m (record { kind = 2; key = y.letter.key.0; drawn = y.letter.salt.0; inside = write_letter y.letter.inside } ∷ []) → length m.drawn ≡ 16
      go (inl e) = ap (λ (z : Made). length z.drawn) e ∙ h.2
      go (inr e) = ap (λ (z : Made). length z.drawn) (Memᴰ.eq_of_singleton e) ∙ h.3
  salted-reply (Err f) h m k = absurd (Memᴰ.not-nil k)

  salted-answer : (r : Answer) → GoodAnswer r → (m : Made) → Memᴰ m (answer_made r) → length m.drawn ≡ 16
  salted-answer (Ok y) h m k = ap (λ (z : Made). length z.drawn) (Memᴰ.eq_of_singleton k) ∙ h.1
  salted-answer (Err f) h m k = absurd (Memᴰ.not-nil k)

  salted-call : (b : Bytewise) (e : Call) → GoodCall b e → (m : Made) → Memᴰ m (made_by l c b e) → length m.drawn ≡ 16
  salted-call b (tells to) h m k = absurd (Memᴰ.not-nil k)
  salted-call b (hands who bs) h m k = absurd (Memᴰ.not-nil k)
  salted-call b (steals n) h m k = absurd (Memᴰ.not-nil k)
  salted-call b (opens n x w) h m k = absurd (Memᴰ.not-nil k)
  salted-call b (closes n w) h m k = absurd (Memᴰ.not-nil k)
  salted-call b (wants a v by w) h m k = salted-told (wanted (b.box a) v by w) h.0 m k
  salted-call b (brings House w) h m k = salted-reply (replied l c b w) h m k
  salted-call b (brings (Service v) w) h m k = salted-answer (answered l c b v w) h m k
  salted-call b (brings (Reader a) w) h m k = salted-told (told_by l c b a w) h.0 m k
  salted-call b (device who w) h m k = absurd (Memᴰ.not-nil k)
  salted-call b (crashes who cut) h m k = absurd (Memᴰ.not-nil k)

  salted : (g : Whole) (t : ℕ) (es : List Call) → t < 2 ^ 63 → c.life < 2 ^ 63 → Each l c g t es → (m : Made) → Memᴰ m (run l c t es).made → length m.drawn ≡ 16
  salted g t [] s f h m k = absurd (Memᴰ.not-nil k)
  salted g t (e ∷ es) s f h m k =
      go (λ i. salted g t es s f h.1 m i) (Memᴰ.append_cases (made_by l c (run l c t es) e) (subst (λ (ms : List Made). Memᴰ m ms) (grown-made l c (run l c t es) e) k))
    where
      go : (Memᴰ m (run l c t es).made → length m.drawn ≡ 16) → Memᴰ m (made_by l c (run l c t es) e) ⊎ Memᴰ m (run l c t es).made → length m.drawn ≡ 16
      go rest (inl i) = salted-call (run l c t es) e (good-call g (run l c t es) e h.0 (ranges g t es s f h.1)) m i
      go rest (inr i) = rest i

  module _ (fair : Fair l) where
    -- so the drawn bytes stand first in each lock
    pub fronts : (t : ℕ) (es : List Call) → Row l c t es → Fronted l c (whole_of l c t es) (run l c t es).made
    fronts t es r m k =
        let n = salted (whole_of l c t es) t es r.start r.life r.each m k in
        sym (take-take 12 16 (lock_of l m) (omega arith)) ∙ ap (λ (bs : Bytes). take 12 bs) (fair.front m.kind m.key m.drawn m.inside n)

    -- a lock fits into a word
    pub lock-fits : (kind : ℕ) (key drawn inside : Bytes) → length drawn ≡ 16 → length inside ≤ 1053 → lock_fits (l.lock kind key drawn inside) ≡ true
    lock-fits kind key drawn inside n s = cond-both-true _ _ (le-leb 32 _ (fair.long kind key drawn inside n)) (le-leb _ 65535 (fair.short kind key drawn inside n s))

    module _ (g : Whole) (locks : Apart [] (nonces g.made)) (fronted : Fronted l c g g.made) where
      ticket-stands : (x : Lock Ticket) → TicketFits x.inside → Memᴰ (record { kind = 1; key = x.key.0; drawn = x.salt.0; inside = write_ticket x.inside }) g.made
          → lock_term l c g (ticket_lock l x) ≡ ticket_term (name_in l c g) x.key x.inside
      ticket-stands x f m =
          made-stands l c g locks fronted _ m
          ∙ ap (λ (r : Result Ticket Fault). Term.Lock 1 (name_in l c g x.key.0) (content_term (name_in l c g) (read_or Content.ticket (write_ticket x.inside) r))) (ticket-codec.back x.inside f)

      letter-stands : (x : Lock Letter) → LetterFits x.inside → Memᴰ (record { kind = 2; key = x.key.0; drawn = x.salt.0; inside = write_letter x.inside }) g.made
          → lock_term l c g (letter_lock l x) ≡ letter_term (name_in l c g) x.key x.inside
      letter-stands x f m =
          made-stands l c g locks fronted _ m
          ∙ ap (λ (r : Result Letter Fault). Term.Lock 2 (name_in l c g x.key.0) (content_term (name_in l c g) (read_or Content.letter (write_letter x.inside) r))) (letter-codec.back x.inside f)

      asking-stands : (x : Lock Asking) → GoodAsking x → Memᴰ (asking_made x) g.made → lock_term l c g (asking_lock l x) ≡ asking_term (name_in l c g) x.key x.inside
      asking-stands x f m =
          made-stands l c g locks fronted _ m
          ∙ ap (λ (r : Result Asked Fault). Term.Lock 3 (name_in l c g x.key.0) (content_term (name_in l c g) (read_or Content.asking (write_asking (asked_of x.inside)) (asking_ok r)))) (asking-codec.back (asked_of x.inside) f.fits)
          ∙ ap (λ (w : Term). Term.Lock 3 (name_in l c g x.key.0) (Pair (Num x.inside.service) (Pair (name_in l c g x.inside.number.0) (Pair w (Num x.inside.tick))))) f.what

      login-stands : (x : Lock Login) → LoginFits x.inside → Memᴰ (record { kind = 4; key = x.key.0; drawn = x.salt.0; inside = write_login x.inside }) g.made
          → lock_term l c g (login_lock l x) ≡ login_term (name_in l c g) x.key x.inside
      login-stands x f m =
          made-stands l c g locks fronted _ m
          ∙ ap (λ (r : Result Login Fault). Term.Lock 4 (name_in l c g x.key.0) (content_term (name_in l c g) (read_or Content.login (write_login x.inside) r))) (login-codec.back x.inside f)

      receipt-stands : (x : Lock Receipt) → ReceiptFits x.inside → Memᴰ (record { kind = 5; key = x.key.0; drawn = x.salt.0; inside = write_receipt x.inside }) g.made
          → lock_term l c g (receipt_lock l x) ≡ receipt_term (name_in l c g) x.key x.inside
      receipt-stands x f m =
          made-stands l c g locks fronted _ m
          ∙ ap (λ (r : Result Receipt Fault). Term.Lock 5 (name_in l c g x.key.0) (content_term (name_in l c g) (read_or Content.receipt (write_receipt x.inside) r))) (receipt-codec.back x.inside f)

      fits-reply : (r : Reply) → GoodReply r → ((m : Made) → Memᴰ m (reply_made r) → Memᴰ m g.made) → FitsReply l c g r
      fits-reply (Ok y) h m = (
        word-codec.back (frame.ticket_and_letter (ticket_lock l y.ticket) (letter_lock l y.letter))
            (cond-both-true _ _ (lock-fits 1 y.ticket.key.0 y.ticket.salt.0 _ h.2 (long-ticket y.ticket.inside h.0)) (lock-fits 2 y.letter.key.0 y.letter.salt.0 _ h.3 (long-letter y.letter.inside h.1)), tt),
        ticket-stands y.ticket h.0 (m _ (Memᴰ.head refl)),
        letter-stands y.letter h.1 (m _ (Memᴰ.tail (Memᴰ.head refl))),
      )
      fits-reply (Err f) h m = tt

      fits-answer : (r : Answer) → GoodAnswer r → ((m : Made) → Memᴰ m (answer_made r) → Memᴰ m g.made) → FitsAnswer l c g r
      fits-answer (Ok y) h m = (
        word-codec.back (frame.receipt (receipt_lock l y.receipt)) (lock-fits 5 y.receipt.key.0 y.receipt.salt.0 _ h.1 (long-receipt y.receipt.inside h.0), tt),
        receipt-stands y.receipt h.0 (m _ (Memᴰ.head refl)),
      )
      fits-answer (Err f) h m = tt

      fits_told : (a : ℕ) (x : Boxed Bytes) → BoxOk a x → a < 2 ^ 16 → (r : Told) → GoodTold r → ((m : Made) → Memᴰ m (told_made r) → Memᴰ m g.made) → FitsTold l c g x r
      fits_told a x ok low r h m = go r h m
        where
          asks : (i : ℕ) (q : Lock Asking) → GoodAsking q → Memᴰ (asking_made q) g.made → FitsAsking l c g i x q
          asks i q f k = (
            λ t e. word-codec.back (frame.asking t (asking_lock l q)) (cond-both-true _ _ (held t (ticket-held i x.tickets t e)) (lock-fits 3 q.key.0 q.salt.0 _ f.salt (long-asking (asked_of q.inside) f.fits)), tt),
            asking-stands q f k,
          )
            where
              held : (t : Bytes) → (y : Held Bytes) × Memᴰ y x.tickets × (y.ticket ≡ t) → lock_fits t ≡ true
              held t p = subst (λ (z : Bytes). lock_fits z ≡ true) p.2 (ok.tickets p.0 p.1).1

          go : (r : Told) → GoodTold r → ((m : Made) → Memᴰ m (told_made r) → Memᴰ m g.made) → FitsTold l c g x r
          go (Ok (told.LogsIn y)) h m = (
            word-codec.back (frame.login x.number (login_lock l y)) (lock-fits 4 y.key.0 y.salt.0 _ h.1 (long-login y.inside h.0), subst (λ (k : ℕ). k < 2 ^ 16) (sym ok.number) low),
            login-stands y h.0 (m _ (Memᴰ.head refl)),
          )
          go (Ok (told.Asks i q)) h m = asks i q h (m _ (Memᴰ.head refl))
          go (Ok (told.Takes d q)) h m = asks d.id q h (m _ (Memᴰ.head refl))
          go (Ok (told.Receipt i)) h m = tt
          go (Ok (told.Shown i)) h m = tt
          go (Err f) h m = tt

      fits-call : length c.own ≤ 2 ^ 16 → (b : Bytewise) (e : Call) → GoodCall b e → ((m : Made) → Memᴰ m (made_by l c b e) → Memᴰ m g.made) → FitsCall l c g b e
      fits-call n b (tells to) h m = tt
      fits-call n b (hands who bs) h m = tt
      fits-call n b (steals k) h m = tt
      fits-call n b (opens k x w) h m = tt
      fits-call n b (closes k w) h m = tt
      fits-call n b (wants a v by w) h m = fits_told a (wanted_after (b.box a) v by w) h.1 (let k = h.2 in omega arith) (wanted (b.box a) v by w) h.0 m
      fits-call n b (brings House w) h m = fits-reply (replied l c b w) h m
      fits-call n b (brings (Service v) w) h m = fits-answer (answered l c b v w) h m
      fits-call n b (brings (Reader a) w) h m = fits_told a (box.after_word (b.box a) (read_by_box l c b a w)) h.1 (let k = h.2 in omega arith) (told_by l c b a w) h.0 m
      fits-call n b (device who w) h m = tt
      fits-call n b (crashes who cut) h m = tt

      pub fits_each : length c.own ≤ 2 ^ 16 → (t : ℕ) (es : List Call) → t < 2 ^ 63 → c.life < 2 ^ 63 → Each l c g t es → Part l c g (run l c t es) → EachFits l c g t es
      fits_each n t [] s f h p = tt
      fits_each n t (e ∷ es) s f h p = (
        fits-call n (run l c t es) e (good-call g (run l c t es) e h.0 (ranges g t es s f h.1))
            (λ m k. p.made m (subst (λ (ms : List Made). Memᴰ m ms) (sym (grown-made l c (run l c t es) e)) (Memᴰ.append_left (run l c t es).made k))),
        fits_each n t es s f h.1 (part-before l c g (run l c t es) e p),
      )

    pub fits : (t : ℕ) (es : List Call) → Row l c t es → EachFits l c (whole_of l c t es) t es
    fits t es r = fits_each (whole_of l c t es) r.locks (fronts t es r) r.numbers t es r.start r.life r.each (record { later = []; draws = refl; made = λ m k. k })
