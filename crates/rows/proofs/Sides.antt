-- What the house and a service decide, as events of the model. Assumes nothing.
use Rattle.std.proofs.Common.{◌≡◌, ℕ, ◌-◌, ◌<◌, ◌≤◌, Bool, true, false, cond, not, ◌&&◌, eqb, leb, ◌⊎◌, List, length, None, sym, refl, ap, ◌∙◌, subst, inl, inr, arith, eq-eqb, eqb-true}
use Rattle.std.proofs.lemmas.Bool.{leb-true, ltb-false}
use Rattle.parts.specs.Condition.{first_fault}
use Rattle.parts.specs.Tick.{lately, over}
use Rattle.parts.proofs.Conditions.{passed}
use Rattle.parts.specs.declared.word.Key.{Key}
use Rattle.parts.specs.declared.word.Ticket.{Ticket}
use Rattle.parts.specs.declared.word.Asking.{Asking}
use Rattle.parts.specs.declared.word.Login.{Login}
use Rattle.service_rules.specs.Memory.{live_of, stands}
use Rattle.service_rules.specs.Service.{View}
use Rattle.service_rules.specs.Service as service
use Rattle.house_rules.specs.Account.{closed, unknown, own_key}
use Rattle.house_rules.specs.House.{Home, for_house, wanted, readable, missing, misled}
use Rattle.house_rules.specs.House as house
use Rattle.tickets.specs.Term.{Term, Num, Own, Gets}
use Rattle.tickets.specs.State.{Lately, State}
use Rattle.tickets.specs.Event
use Rattle.tickets.specs.Event.{body_term, Does, Serves, HearsLogin, DoneBefore, ticket, login}
use Rattle.tickets.proofs.Bools.{clash, either, or-false-left, or-false-right}
use Rattle.rows.specs.Name.{Naming, own_of, spell}
use Rattle.rows.specs.Word.{body_of, words_of, ticket_term, asking_term, login_term}
use Rattle.rows.specs.Setting.{Setting, rules_of}
use Rattle.rows.proofs.Noting.{not_new}
use Rattle.rows.proofs.Matches.{HomeOk, SideOk}

-- tests that fail and pass
pub not-false : (b : Bool) → not b ≡ false → b ≡ true
not-false true h = refl
not-false false h = absurd (clash {b = true} refl h)

pub and_left : (a e : Bool) → (a && e) ≡ true → a ≡ true
and_left true e h = refl
and_left false e h = h

pub and_right : (a e : Bool) → (a && e) ≡ true → e ≡ true
and_right true e h = h
and_right false e h = absurd (clash {b = false} h refl)

-- a tick of lately, as the model has it
pub lately-so : (now lag t : ℕ) → lately now lag t ≡ true → Lately 0 lag now t
lately-so now lag t h =
    let p = leb-true t now (and_left (leb t now) (leb (now - t) lag) h) in
    let q = leb-true (now - t) lag (and_right (leb t now) (leb (now - t) lag) h) in
    record { not_ahead = omega arith; not_old = omega arith }

-- all that a service found right
pub record Clear (w : View) (t : Ticket) (q : Asking) (d : ℕ) : Type 0 where
  pub in_time : lately w.side.now w.side.lag q.tick ≡ true
  pub is_good : over w.side.now t.until ≡ false
  pub is-new : stands d (live_of w.side.now w.side.lag w.kept) ≡ false
  pub for_me : t.service ≡ w.side.number
  pub asks_me : q.service ≡ w.side.number
  pub awake : w.side.wake ≤ w.side.now
  pub writes : w.writes ≡ true

pub clear : (w : View) (t : Ticket) (q : Asking) (d : ℕ) → first_fault (service.conditions w t q d) ≡ None → Clear w t q d
clear w t q d h =
    let p2 = passed _ _ h in
    let p6 = passed _ _ p2.1 in
    let p7 = passed _ _ p6.1 in
    let p8 = passed _ _ p7.1 in
    let p9 = passed _ _ p8.1 in
    let p10 = passed _ _ p9.1 in
    let p12 = passed _ _ p10.1 in
    let p14 = passed _ _ p12.1 in
    let p15 = passed _ _ p14.1 in
    let here = not-false _ p10.0 in
    record {
      in_time = not-false _ p6.0;
      is_good = p7.0;
      is-new = p8.0;
      for_me = eqb-true _ _ (and_left (eqb t.service w.side.number) (eqb q.service w.side.number) here);
      asks_me = eqb-true _ _ (and_right (eqb t.service w.side.number) (eqb q.service w.side.number) here);
      awake = ltb-false _ _ p14.0;
      writes = not-false _ p15.0;
    }

-- all that the house found right with an asking
pub record ClearHome (h : Home) (t : Ticket) (q : Asking) (d : ℕ) : Type 0 where
  pub known : unknown h.accounts t.reader ≡ false
  pub there : missing h.accounts q ≡ false
  pub is_open : closed h.accounts t.reader ≡ false
  pub in_time : lately h.side.now h.side.lag q.tick ≡ true
  pub is_good : over h.side.now t.until ≡ false
  pub is-new : stands d (live_of h.side.now h.side.lag h.kept) ≡ false
  pub for-house : t.service ≡ 0
  pub asks-house : for_house q ≡ true
  pub a_service : eqb (wanted q) 0 ≡ false
  pub awake : h.side.wake ≤ h.side.now
  pub writes : h.writes ≡ true

pub clear-home : (h : Home) (t : Ticket) (q : Asking) (d : ℕ) → first_fault (house.conditions h t q d) ≡ None → ClearHome h t q d
clear-home h t q d f =
    let p2 = passed _ _ f in
    let p5 = passed _ _ p2.1 in
    let p6 = passed _ _ p5.1 in
    let p7 = passed _ _ p6.1 in
    let p8 = passed _ _ p7.1 in
    let p9 = passed _ _ p8.1 in
    let p10 = passed _ _ p9.1 in
    let p12 = passed _ _ p10.1 in
    let p14 = passed _ _ p12.1 in
    let p15 = passed _ _ p14.1 in
    let mine = or-false-left (not (eqb t.service 0)) (misled q) p10.0 in
    let rest = or-false-right (not (eqb t.service 0)) (misled q) p10.0 in
    record {
      known = or-false-left (unknown h.accounts t.reader) (missing h.accounts q) p2.0;
      there = or-false-right (unknown h.accounts t.reader) (missing h.accounts q) p2.0;
      is_open = p5.0;
      in_time = not-false _ p6.0;
      is_good = p7.0;
      is-new = p8.0;
      for-house = eqb-true _ _ (not-false _ mine);
      asks-house = not-false _ (or-false-left (not (for_house q)) (eqb (wanted q) 0) rest);
      a_service = or-false-right (not (for_house q)) (eqb (wanted q) 0) rest;
      awake = ltb-false _ _ p14.0;
      writes = not-false _ p15.0;
    }

module _ (c : Setting) (n : Naming c.own) (m : State) where
  -- what is heard under an own key, as the model has it
  own-ticket : (v : ℕ) (t : Ticket) → v < length c.own → t.service ≡ v → {air : List Term} → Gets air (ticket_term n.name (own_of c.own v) t) → Gets air (ticket (rules_of c n) (body_of n.name t))
  own-ticket v t there e {air} h =
      subst (λ (k : ℕ). Gets air (Term.Lock 1 (Own (n.key_of k)) (body_term (body_of n.name t)))) (sym e)
      (subst (λ (x : Term). Gets air (Term.Lock 1 x (body_term (body_of n.name t)))) (n.of_own v there) h)

  -- a service that does something does what the model lets it do
  pub does_so : (v : ℕ) (w : View) (t : Ticket) (q : Asking) → (v ≡ 0 → ⊥) → v < length c.own → SideOk c n m v w
      → first_fault (service.conditions w t q (c.digest t.key q.number)) ≡ None
      → Gets m.air (ticket_term n.name (own_of c.own v) t) → Gets m.air (asking_term n.name t.key q)
      → Does (rules_of c n) m (body_of n.name t) (n.name q.number.0) (spell (words_of q.what)) q.tick
  does_so v w t q service there o h ht hq =
      record {
        a_service = λ e. service (sym tv ∙ e);
        hears =
            record {
              ticket_heard = own-ticket v t there tv ht;
              asking_heard = asking;
              in_time = subst (λ (x : ℕ). Lately 0 x m.now q.tick) o.lag_is (subst (λ (x : ℕ). Lately 0 w.side.lag x q.tick) o.now_is (lately-so _ _ _ k.in_time));
              is_good = let e = o.now_is in let g = ltb-false _ _ k.is_good in omega arith;
              is-new = λ b. new (not_new c n m v w.side.wake w.junk w.kept t.key q.number o.notes (subst (λ (x : ℕ). DoneBefore (rules_of c n) m x (n.name t.key.0) (n.name q.number.0)) tv b));
            };
      }
    where
      k : Clear w t q (c.digest t.key q.number)
      k = clear w t q (c.digest t.key q.number) h

      tv : t.service ≡ v
      tv = k.for_me ∙ o.number_is

      qv : q.service ≡ v
      qv = k.asks_me ∙ o.number_is

      not-house : for_house q ≡ false
      not-house = go (either (eqb q.service 0))
        where
          go : (eqb q.service 0 ≡ true) ⊎ (eqb q.service 0 ≡ false) → eqb q.service 0 ≡ false
          go (inl e) = absurd (service (sym qv ∙ eqb-true q.service 0 e))
          go (inr e) = e

      asking : Gets m.air (Event.asking (n.name t.key.0) t.service (n.name q.number.0) (spell (words_of q.what)) q.tick)
      asking =
          subst (λ (x : ℕ). Gets m.air (Event.asking (n.name t.key.0) x (n.name q.number.0) (spell (words_of q.what)) q.tick)) (qv ∙ sym tv)
          (subst (λ (b : Bool). Gets m.air (Event.asking (n.name t.key.0) q.service (n.name q.number.0) (cond b (Num (wanted q)) (spell (words_of q.what))) q.tick)) not-house hq)

      new : (stands (c.digest t.key q.number) (live_of m.now c.lag w.kept) ≡ true) ⊎ (m.now < w.side.wake) → ⊥
      new (inl e) =
          clash e
          (subst (λ (x : ℕ). stands (c.digest t.key q.number) (live_of x c.lag w.kept) ≡ false) o.now_is
          (subst (λ (x : ℕ). stands (c.digest t.key q.number) (live_of w.side.now x w.kept) ≡ false) o.lag_is k.is-new))
      new (inr e) = let a = k.awake in let f = o.now_is in omega arith

  -- what the house grants upon a login the model lets it grant
  pub logs-so : (h : Home) (a : ℕ) (l : Login) → HomeOk c n m h → n.key_of a ≡ a → first_fault (house.login_conditions h a l) ≡ None
      → Gets m.air (login_term n.name (own_key h.accounts a) l) → HearsLogin (rules_of c n) m a (n.name l.number.0) l.tick
  logs-so h a l o alone f hl =
      let p2 = passed _ _ f in
      let p5 = passed _ _ p2.1 in
      let p6 = passed _ _ p5.1 in
      let k = o.accounts a p2.0 in
      let name : n.name (own_key h.accounts a).0 ≡ Own a =
      ap (λ (x : Key). n.name x.0) k.own ∙ n.of_own a k.there ∙ ap (λ (x : ℕ). Own x) alone
      in
      record {
        heard = subst (λ (x : Term). Gets m.air (Term.Lock 4 x (Term.Pair (n.name l.number.0) (Num l.tick)))) name hl;
        in_time = subst (λ (x : ℕ). Lately 0 x m.now l.tick) o.lag_is (subst (λ (x : ℕ). Lately 0 h.side.lag x l.tick) o.now_is (lately-so _ _ _ (not-false _ p6.0)));
        is_open = o.is_open a p5.0;
      }

  -- the service for which a ticket is given has an account
  pub wanted-known : (h : Home) (t : Ticket) (q : Asking) (d : ℕ) → ClearHome h t q d → unknown h.accounts (wanted q) ≡ false
  wanted-known h t q d k =
      subst (λ (b : Bool). (not b && unknown h.accounts (wanted q)) ≡ false) k.a_service
      (subst (λ (b : Bool). (b && (not (eqb (wanted q) 0) && unknown h.accounts (wanted q))) ≡ false) k.asks-house k.there)

  -- what the house gives upon a ticket the model lets it give
  pub serves-so : (h : Home) (t : Ticket) (q : Asking) → 0 < length c.own → HomeOk c n m h → (k : ClearHome h t q (c.digest t.key q.number))
      → Gets m.air (ticket_term n.name h.key t) → Gets m.air (asking_term n.name t.key q)
      → Serves (rules_of c n) m (body_of n.name t) (n.name q.number.0) (wanted q) q.tick
  serves-so h t q there o k ht hq =
      record {
        for-house = k.for-house;
        a_service = λ e. clash (eq-eqb (wanted q) 0 e) k.a_service;
        hears =
            record {
              ticket_heard = own-ticket 0 t there k.for-house (subst (λ (x : Key). Gets m.air (ticket_term n.name x t)) o.key_is ht);
              asking_heard = asking;
              in_time = subst (λ (x : ℕ). Lately 0 x m.now q.tick) o.lag_is (subst (λ (x : ℕ). Lately 0 h.side.lag x q.tick) o.now_is (lately-so _ _ _ k.in_time));
              is_good = let e = o.now_is in let g = ltb-false _ _ k.is_good in omega arith;
              is-new = λ b. new (not_new c n m 0 h.side.wake h.junk h.kept t.key q.number o.notes (subst (λ (x : ℕ). DoneBefore (rules_of c n) m x (n.name t.key.0) (n.name q.number.0)) k.for-house b));
            };
        is_open = o.is_open t.reader k.is_open;
      }
    where
      asking : Gets m.air (Event.asking (n.name t.key.0) t.service (n.name q.number.0) (Num (wanted q)) q.tick)
      asking =
          subst (λ (x : ℕ). Gets m.air (Event.asking (n.name t.key.0) x (n.name q.number.0) (Num (wanted q)) q.tick))
          (eqb-true q.service 0 k.asks-house ∙ sym k.for-house)
          (subst (λ (b : Bool). Gets m.air (Event.asking (n.name t.key.0) q.service (n.name q.number.0) (cond b (Num (wanted q)) (spell (words_of q.what))) q.tick)) k.asks-house hq)

      new : (stands (c.digest t.key q.number) (live_of m.now c.lag h.kept) ≡ true) ⊎ (m.now < h.side.wake) → ⊥
      new (inl e) =
          clash e
          (subst (λ (x : ℕ). stands (c.digest t.key q.number) (live_of x c.lag h.kept) ≡ false) o.now_is
          (subst (λ (x : ℕ). stands (c.digest t.key q.number) (live_of h.side.now x h.kept) ≡ false) o.lag_is k.is-new))
      new (inr e) = let a = k.awake in let f = o.now_is in omega arith
