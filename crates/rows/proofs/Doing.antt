-- What the house and the services hear: logins, askings for tickets, askings to services. Assumes nothing.
use Rattle.std.proofs.Common.{◌≡◌, ℕ, suc, ◌+◌, ◌<◌, Bool, true, false, cond, eqb, ◌⊎◌, List, [], ◌∷◌, ◌++◌, length, Some, None, Option, sym, refl, ap, ◌∙◌, subst, inl, inr, arith, eq-eqb, eqb-true, Err}
use mathlib.Core.List.Memᴰ
use mathlib.Core.List.{Memᴰ}
use Rattle.parts.specs.Condition.{first_fault, unless}
use Rattle.parts.proofs.Conditions.{passed}
use Rattle.parts.specs.declared.fault.Fault.{Fault}
use Rattle.parts.specs.declared.fault.Fault.TheVariants.{BadInside}
use Rattle.parts.specs.declared.word.Key.{Key as Bytes32}
use Rattle.parts.specs.declared.word.Ticket.{Ticket}
use Rattle.parts.specs.declared.word.Asking.{Asking}
use Rattle.parts.specs.declared.word.Login.{Login}
use Rattle.service_rules.specs.Memory.{recorded}
use Rattle.service_rules.specs.Service.{View}
use Rattle.service_rules.specs.Service as service
use Rattle.house_rules.specs.Account.{own_key}
use Rattle.house_rules.specs.Fresh.{fresh_of}
use Rattle.house_rules.specs.Give.{giving}
use Rattle.house_rules.specs.House.{Home, until_of, readable, wanted}
use Rattle.house_rules.specs.House as house
use Rattle.house_rules.specs.Give.{Reply}
use Rattle.tickets.specs.Term.{Term, Num, Own, Gets, even}
use Rattle.tickets.specs.State.{Closing, Key, Done, State, Safe}
use Rattle.tickets.specs.Event.{Event, Body, after, Reach, ticket, letter_of, new_key, new_done}
use Rattle.tickets.specs.Event as events
use Rattle.tickets.specs.Promise.{Origin, by_reader}
use Rattle.tickets.proofs.Keep.{Change}
use Rattle.tickets.proofs.Reached.{reached, change}
use Rattle.tickets.proofs.Main.{main}
use Rattle.tickets.proofs.Bools.{clash}
use Rattle.rows.specs.Name.{Naming, spell}
use Rattle.rows.specs.Word.{body_of, words_of, ticket_term, letter_term, reply_sent, reply_drawn, answer_sent}
use Rattle.rows.specs.Setting.{Setting, rules_of}
use Rattle.rows.specs.System.{System, at, with_home, with-side, with_sent, New, HeardLogin, HeardAtHouse, HeardAtService}
use Rattle.rows.specs.Row.{Wanted, Deed, Given, Begun, Taken, SafeDeed, key_told, deed_told}
use Rattle.rows.proofs.Pairs.{both, Among, skip, down-more, down-low, pairs-at}
use Rattle.rows.proofs.Noting.{Notes, notes-done}
use Rattle.rows.proofs.Matches.{HomeOk, SideOk, AccountOk, gets_more, home_stays, side-stays, box-stays}
use Rattle.rows.proofs.Sides.{Clear, clear, ClearHome, clear-home, wanted-known, does_so, logs-so, serves-so}
use Rattle.rows.proofs.Tied.{Tied, SameDeed, LineFact, unseen, deeds-stay, taken-stays}
use Rattle.rows.proofs.Quiet.{matches-home, matches-side}

-- one of many: the changed one, or another, as before
pub at_other : {A : Type 0} (P : ℕ → A → Type 0) (k : ℕ) (x : A) (f : ℕ → A) → P k x → (j : ℕ) → ((j ≡ k → ⊥) → P j (f j)) → P j (at k x f j)
at_other {A} P k x f h j old = go (eqb j k) refl
  where
    go : (b : Bool) → eqb j k ≡ b → P j (cond b x (f j))
    go true e = subst (λ (i : ℕ). P i x) (sym (eqb-true j k e)) h
    go false e = old (λ i. clash (eq-eqb j k i) e)

-- a home that differs in its drawn bytes
home-drew : (c : Setting) (n : Naming c.own) (m : State) (h : Home) → HomeOk c n m h → HomeOk c n m (house.drew h)
home-drew c n m h o =
    record {
      now_is = o.now_is;
      lag_is = o.lag_is;
      number_is = o.number_is;
      life_is = o.life_is;
      key_is = o.key_is;
      accounts = o.accounts;
      is_open = o.is_open;
      is-closed = o.is-closed;
      notes = o.notes;
    }

module _ (c : Setting) (n : Naming c.own) {K : List Closing} {p : ℕ} {s : System} {ls : List Wanted} {gs : List Given} {bs : List Begun} {ds : List Deed} {xs : List Taken} (o : Tied c n K p s ls gs bs ds xs) where
  heard : {x : Term} → Gets s.air x → Gets o.model.air x
  heard h = gets_more o.matches.net.air h

  -- the house's own ticket and letter, as the model sends them
  given-air : (x : Term) (tk lt : Term) (t l : Term) → t ≡ tk → l ≡ lt → Memᴰ x (t ∷ l ∷ s.air) → Memᴰ x (tk ∷ lt ∷ o.model.air)
  given-air x tk lt t l e f h = go (Memᴰ.cases_cons h)
    where
      rest : (x ≡ l) ⊎ Memᴰ x s.air → Memᴰ x (lt ∷ o.model.air)
      rest (inl i) = Memᴰ.head (i ∙ f)
      rest (inr i) = Memᴰ.tail (o.matches.net.air x i)

      go : (x ≡ t) ⊎ Memᴰ x (l ∷ s.air) → Memᴰ x (tk ∷ lt ∷ o.model.air)
      go (inl i) = Memᴰ.head (i ∙ e)
      go (inr i) = Memᴰ.tail (rest (Memᴰ.cases_cons i))

  until-is : s.home.side.now + s.home.life ≡ o.model.now + c.life
  until-is = let a = o.matches.home.now_is in let b = o.matches.home.life_is in omega arith

  fresh-is : n.name (fresh_of s.home.left).key.0 ≡ even (suc (length s.used)) → n.name (fresh_of s.home.left).key.0 ≡ even o.model.next
  fresh-is h = h ∙ ap (λ (x : ℕ). even x) (sym o.matches.net.next)

  pub logs-in : (a : ℕ) (l : Login) → HeardLogin c n s a l → 0 < length c.own
      → Tied c n K (suc p)
      (with_sent (reply_sent n.name (house.logged_in s.home a l)) (reply_drawn (house.logged_in s.home a l)) (with_home (house.login_after s.home a l) s))
      ls (key_told (house.logged_in s.home a l) p s.home.side.now s.stolen ++ gs) bs ds xs
  logs-in a l h there = go (first_fault (house.login_conditions s.home a l)) refl h.new
    where
      R : Option Fault → Reply
      R f = unless f (giving (until_of s.home) s.home.left (house.login_given s.home a l)) Err

      granted : first_fault (house.login_conditions s.home a l) ≡ None → n.name (fresh_of s.home.left).key.0 ≡ even (suc (length s.used))
          → Tied c n K (suc p)
          (with_sent (reply_sent n.name (R None)) (reply_drawn (R None)) (with_home (house.drew s.home) s))
          ls (key_told (R None) p s.home.side.now s.stolen ++ gs) bs ds xs
      granted e new =
          record {
            events = events.grants a (n.name l.number.0) l.tick ∷ o.events;
            model = t;
            reach = events.onward o.reach (events.grants a (n.name l.number.0) l.tick) may;
            matches =
                record {
                  net =
                      record {
                        air = λ x k. given-air x _ _ _ _ tk lt k;
                        next = let z = o.matches.net.next in omega arith;
                        stolen = o.matches.net.stolen;
                      };
                  home = home_stays c n {m = o.model} {t = t} (house.drew s.home) refl (λ d k f. k) refl (home-drew c n o.model s.home o.matches.home);
                  side = λ v z. side-stays c n {m = o.model} {t = t} v (s.side v) refl (λ d k f. k) (o.matches.side v z);
                  box = λ b. box-stays c n {m = o.model} {t = t} b (s.box b) refl g.grows (λ q y z. z.not_taken) (o.matches.box b);
                };
            lines = o.lines;
            keys =
                both
                (record {
                  reader = refl;
                  service = refl;
                  key = sym (fresh-is new);
                  number = refl;
                  at = sym o.matches.home.now_is;
                  stolen = o.matches.net.stolen;
                })
                o.keys;
            begun = o.begun;
            deeds = deeds-stay c n ls ls o.model t g.grows (λ w l k. k) o.deeds;
            takens = λ x k. taken-stays c n gs _ bs bs x (λ y z. Memᴰ.tail z) (λ y z. z) (o.takens x k);
            since = o.since;
            low_lines = down-more (λ (w : Wanted). w.place) p (suc p) ls (omega arith) o.low_lines;
            low_keys = (omega arith, o.low_keys);
          }
        where
          may : events.HearsLogin (rules_of c n) o.model a (n.name l.number.0) l.tick
          may = logs-so c n o.model s.home a l o.matches.home h.reader.alone e (heard h.login)

          t : State
          t = after (rules_of c n) (events.grants a (n.name l.number.0) l.tick) o.model

          g : Change (rules_of c n) o.model t
          g = change (reached o.reach) (events.grants a (n.name l.number.0) l.tick) may

          mk : Key
          mk = new_key (rules_of c n) o.model a 0 (n.name l.number.0) (Own a)

          account : AccountOk c n s.home.accounts a
          account = o.matches.home.accounts a (passed _ _ e).0

          tk : ticket_term n.name s.home.key (record { service = 0; reader = a; key = (fresh_of s.home.left).key; until = until_of s.home }) ≡ ticket (rules_of c n) (events.body_of mk)
          tk =
              let i : n.name s.home.key.0 ≡ Own (n.key_of 0) = ap (λ (x : Bytes32). n.name x.0) o.matches.home.key_is ∙ n.of_own 0 there in
              let j = fresh-is new in
              let u = until-is in
              cc

          lt : letter_term n.name (own_key s.home.accounts a) (record { number = l.number; service = 0; key = (fresh_of s.home.left).key; until = until_of s.home }) ≡ letter_of mk
          lt =
              let i : n.name (own_key s.home.accounts a).0 ≡ Own a =
              ap (λ (x : Bytes32). n.name x.0) account.own ∙ n.of_own a account.there ∙ ap (λ (x : ℕ). Own x) h.reader.alone
              in
              let j = fresh-is new in
              let u = until-is in
              cc

      go : (f : Option Fault) → first_fault (house.login_conditions s.home a l) ≡ f → New c n s (reply_drawn (R f))
          → Tied c n K (suc p)
          (with_sent (reply_sent n.name (R f)) (reply_drawn (R f)) (with_home (unless f (house.drew s.home) (λ _. s.home)) s))
          ls (key_told (R f) p s.home.side.now s.stolen ++ gs) bs ds xs
      go None e new = granted e new
      go (Some f) e new = unseen c n o _ (matches-home c n s o.model s.home o.matches o.matches.home)

  pub asks-house : (tk : Ticket) (q : Asking) → HeardAtHouse c n s tk q → 0 < length c.own
      → Tied c n K (suc p)
      (with_sent (reply_sent n.name (house.answered s.home tk q (c.digest tk.key q.number))) (reply_drawn (house.answered s.home tk q (c.digest tk.key q.number)))
      (with_home (house.after s.home tk q (c.digest tk.key q.number)) s))
      ls (key_told (house.answered s.home tk q (c.digest tk.key q.number)) p s.home.side.now s.stolen ++ gs) bs ds xs
  asks-house tk q h there = go (readable q) (first_fault (house.conditions s.home tk q (c.digest tk.key q.number))) refl h.new
    where
      R : Bool → Option Fault → Reply
      R b f = cond b (unless f (house.granted s.home tk q) Err) (Err BadInside)

      refused : Tied c n K (suc p) (with_home s.home s) ls gs bs ds xs
      refused = unseen c n o _ (matches-home c n s o.model s.home o.matches o.matches.home)

      granted : first_fault (house.conditions s.home tk q (c.digest tk.key q.number)) ≡ None → n.name (fresh_of s.home.left).key.0 ≡ even (suc (length s.used))
          → Tied c n K (suc p)
          (with_sent (reply_sent n.name (house.granted s.home tk q)) (reply_drawn (house.granted s.home tk q)) (with_home (house.drew (house.noted s.home (c.digest tk.key q.number))) s))
          ls (key_told (house.granted s.home tk q) p s.home.side.now s.stolen ++ gs) bs ds xs
      granted e new =
          record {
            events = ev ∷ o.events;
            model = t;
            reach = events.onward o.reach ev may;
            matches =
                record {
                  net =
                      record {
                        air = λ x k. given-air x _ _ _ _ tt' lt k;
                        next = let z = o.matches.net.next in omega arith;
                        stolen = o.matches.net.stolen;
                      };
                  home =
                      record {
                        now_is = o.matches.home.now_is;
                        lag_is = o.matches.home.lag_is;
                        number_is = o.matches.home.number_is;
                        life_is = o.matches.home.life_is;
                        key_is = o.matches.home.key_is;
                        accounts = o.matches.home.accounts;
                        is_open = o.matches.home.is_open;
                        is-closed = λ k f. let x = o.matches.home.is-closed k f in record { closing = x.closing; known = x.known; whose = x.whose; past = x.past };
                        notes = notes;
                      };
                  side = λ v z. side-stays c n {m = o.model} {t = t} v (s.side v) refl (λ d k f. other v z d f (Memᴰ.cases_cons k)) (o.matches.side v z);
                  box = λ b. box-stays c n {m = o.model} {t = t} b (s.box b) refl g.grows (λ y w z. z.not_taken) (o.matches.box b);
                };
            lines = o.lines;
            keys =
                both
                (record {
                  reader = refl;
                  service = refl;
                  key = sym (fresh-is new);
                  number = refl;
                  at = sym o.matches.home.now_is;
                  stolen = o.matches.net.stolen;
                })
                o.keys;
            begun = o.begun;
            deeds = skip (deeds-stay c n ls ls o.model t g.grows (λ w l k. k) o.deeds);
            takens = λ x k. taken-stays c n gs _ bs bs x (λ y z. Memᴰ.tail z) (λ y z. z) (o.takens x k);
            since = o.since;
            low_lines = down-more (λ (w : Wanted). w.place) p (suc p) ls (omega arith) o.low_lines;
            low_keys = (omega arith, o.low_keys);
          }
        where
          k : ClearHome s.home tk q (c.digest tk.key q.number)
          k = clear-home s.home tk q (c.digest tk.key q.number) e

          ev : Event
          ev = events.serves (body_of n.name tk) (n.name q.number.0) (wanted q) q.tick

          may : events.Serves (rules_of c n) o.model (body_of n.name tk) (n.name q.number.0) (wanted q) q.tick
          may = serves-so c n o.model s.home tk q there o.matches.home k (heard h.ticket) (heard h.asking)

          t : State
          t = after (rules_of c n) ev o.model

          g : Change (rules_of c n) o.model t
          g = change (reached o.reach) ev may

          new-deed : Done
          new-deed = new_done o.model (body_of n.name tk) (n.name q.number.0) (Num (wanted q))

          mk : Key
          mk = new_key (rules_of c n) o.model tk.reader (wanted q) (n.name q.number.0) (n.name tk.key.0)

          account : AccountOk c n s.home.accounts (wanted q)
          account = o.matches.home.accounts (wanted q) (wanted-known c n o.model s.home tk q (c.digest tk.key q.number) k)

          other : (v : ℕ) → (v ≡ 0 → ⊥) → (d : Done) → d.service ≡ v → (d ≡ new-deed) ⊎ Memᴰ d o.model.done → Memᴰ d o.model.done
          other v z d f (inl i) = absurd (z (sym f ∙ ap (λ (x : Done). x.service) i ∙ k.for-house))
          other v z d f (inr i) = i

          notes : Notes c n t 0 s.home.side.wake false (recorded s.home.side.now s.home.side.lag (c.digest tk.key q.number) s.home.kept)
          notes =
              subst (λ (x : ℕ). Notes c n t 0 s.home.side.wake false (recorded x s.home.side.lag (c.digest tk.key q.number) s.home.kept)) (sym o.matches.home.now_is)
              (subst (λ (x : ℕ). Notes c n t 0 s.home.side.wake false (recorded o.model.now x (c.digest tk.key q.number) s.home.kept)) (sym o.matches.home.lag_is)
              (notes-done c n o.model t 0 s.home.side.wake s.home.junk false s.home.kept new-deed tk.key q.number refl
              (let i = k.awake in let j = o.matches.home.now_is in omega arith) (λ d i. Memᴰ.cases_cons i) refl refl refl o.matches.home.notes))

          tt' : ticket_term n.name (own_key s.home.accounts (wanted q)) (record { service = wanted q; reader = tk.reader; key = (fresh_of s.home.left).key; until = until_of s.home }) ≡ ticket (rules_of c n) (events.body_of mk)
          tt' =
              let i : n.name (own_key s.home.accounts (wanted q)).0 ≡ Own (n.key_of (wanted q)) =
              ap (λ (x : Bytes32). n.name x.0) account.own ∙ n.of_own (wanted q) account.there
              in
              let j = fresh-is new in
              let u = until-is in
              cc

          lt : letter_term n.name tk.key (record { number = q.number; service = wanted q; key = (fresh_of s.home.left).key; until = until_of s.home }) ≡ letter_of mk
          lt =
              let j = fresh-is new in
              let u = until-is in
              cc

      go : (b : Bool) (f : Option Fault) → first_fault (house.conditions s.home tk q (c.digest tk.key q.number)) ≡ f → New c n s (reply_drawn (R b f))
          → Tied c n K (suc p)
          (with_sent (reply_sent n.name (R b f)) (reply_drawn (R b f)) (with_home (cond b (unless f (house.drew (house.noted s.home (c.digest tk.key q.number))) (λ _. s.home)) s.home) s))
          ls (key_told (R b f) p s.home.side.now s.stolen ++ gs) bs ds xs
      go true None e new = granted e new
      go true (Some f) e new = refused
      go false f e new = refused

  pub asks-service : (v : ℕ) (tk : Ticket) (q : Asking) → HeardAtService c n s v tk q
      → Tied c n K (suc p)
      (with_sent (answer_sent n.name (service.answered (s.side v) tk q (c.digest tk.key q.number))) []
      (with-side v (service.after (s.side v) tk q (c.digest tk.key q.number)) s))
      ls gs bs (deed_told (service.answered (s.side v) tk q (c.digest tk.key q.number)) p v (s.side v).side.now s.stolen ++ ds) xs
  asks-service v tk q h = go (first_fault (service.conditions (s.side v) tk q (c.digest tk.key q.number))) refl
    where
      ok : SideOk c n o.model v (s.side v)
      ok = o.matches.side v h.a_service

      done : first_fault (service.conditions (s.side v) tk q (c.digest tk.key q.number)) ≡ None
          → Tied c n K (suc p)
          (with_sent (answer_sent n.name (service.done (service.deed_of tk q) (service.receipt_of (s.side v) tk q))) [] (with-side v (service.done_by (s.side v) (c.digest tk.key q.number)) s))
          ls gs bs (deed_told (service.done (service.deed_of tk q) (service.receipt_of (s.side v) tk q)) p v (s.side v).side.now s.stolen ++ ds) xs
      done e =
          record {
            events = ev ∷ o.events;
            model = t;
            reach = reach;
            matches =
                record {
                  net =
                      record {
                        air = λ x i. receipt x (Memᴰ.cases_cons i);
                        next = o.matches.net.next;
                        stolen = o.matches.net.stolen;
                      };
                  home = home_stays c n {m = o.model} {t = t} s.home refl (λ d i f. other 0 (λ z. h.a_service (sym z)) d f (Memᴰ.cases_cons i)) refl o.matches.home;
                  side =
                      λ j. at_other (λ (i : ℕ) (x : View). (i ≡ 0 → ⊥) → SideOk c n t i x) v (service.done_by (s.side v) (c.digest tk.key q.number)) s.side
                      (λ _. record { now_is = ok.now_is; lag_is = ok.lag_is; number_is = ok.number_is; notes = notes }) j
                      (λ apart z. side-stays c n {m = o.model} {t = t} j (s.side j) refl (λ d i f. other j apart d f (Memᴰ.cases_cons i)) (o.matches.side j z));
                  box = λ b. box-stays c n {m = o.model} {t = t} b (s.box b) refl g.grows (λ y w z. z.not_taken) (o.matches.box b);
                };
            lines = o.lines;
            keys = o.keys;
            begun = o.begun;
            deeds = Among.both (record { same_deed = same_deed; from = line }) (deeds-stay c n ls ls o.model t g.grows (λ w l k. k) o.deeds);
            takens = o.takens;
            since = o.since;
            low_lines = down-more (λ (w : Wanted). w.place) p (suc p) ls (omega arith) o.low_lines;
            low_keys = down-more (λ (g : Given). g.place) p (suc p) gs (omega arith) o.low_keys;
          }
        where
          k : Clear (s.side v) tk q (c.digest tk.key q.number)
          k = clear (s.side v) tk q (c.digest tk.key q.number) e

          tv : tk.service ≡ v
          tv = k.for_me ∙ ok.number_is

          ev : Event
          ev = events.does (body_of n.name tk) (n.name q.number.0) (spell (words_of q.what)) q.tick

          may : events.Does (rules_of c n) o.model (body_of n.name tk) (n.name q.number.0) (spell (words_of q.what)) q.tick
          may = does_so c n o.model v (s.side v) tk q h.a_service h.there ok e (heard h.ticket) (heard h.asking)

          t : State
          t = after (rules_of c n) ev o.model

          reach : Reach (rules_of c n) (ev ∷ o.events) t
          reach = events.onward o.reach ev may

          g : Change (rules_of c n) o.model t
          g = change (reached o.reach) ev may

          new-deed : Done
          new-deed = new_done o.model (body_of n.name tk) (n.name q.number.0) (spell (words_of q.what))

          receipt : (x : Term) → (x ≡ events.receipt (n.name tk.key.0) (n.name q.number.0)) ⊎ Memᴰ x s.air → Memᴰ x (events.receipt (n.name tk.key.0) (n.name q.number.0) ∷ o.model.air)
          receipt x (inl i) = Memᴰ.head i
          receipt x (inr i) = Memᴰ.tail (o.matches.net.air x i)

          other : (j : ℕ) → (j ≡ v → ⊥) → (d : Done) → d.service ≡ j → (d ≡ new-deed) ⊎ Memᴰ d o.model.done → Memᴰ d o.model.done
          other j z d f (inl i) = absurd (z (sym f ∙ ap (λ (x : Done). x.service) i ∙ tv))
          other j z d f (inr i) = i

          notes : Notes c n t v (s.side v).side.wake false (recorded (s.side v).side.now (s.side v).side.lag (c.digest tk.key q.number) (s.side v).kept)
          notes =
              subst (λ (x : ℕ). Notes c n t v (s.side v).side.wake false (recorded x (s.side v).side.lag (c.digest tk.key q.number) (s.side v).kept)) (sym ok.now_is)
              (subst (λ (x : ℕ). Notes c n t v (s.side v).side.wake false (recorded o.model.now x (c.digest tk.key q.number) (s.side v).kept)) (sym ok.lag_is)
              (notes-done c n o.model t v (s.side v).side.wake (s.side v).junk false (s.side v).kept new-deed tk.key q.number refl
              (let i = k.awake in let j = ok.now_is in omega arith) (λ d i. Memᴰ.cases_cons i) refl refl refl ok.notes))

          told : Deed
          told = record { place = p; service = v; reader = tk.reader; key = tk.key.0; number = q.number.0; what = words_of q.what; at = (s.side v).side.now; stolen = s.stolen }

          same_deed : SameDeed c n told new-deed
          same_deed = record { service = tv; reader = refl; key = refl; number = refl; what = refl; at = sym ok.now_is; stolen = o.matches.net.stolen }

          safe : SafeDeed c n told → Safe (rules_of c n) new-deed.stolen new-deed.who new-deed.service
          safe z =
              subst (λ (x : List ℕ). Safe (rules_of c n) x tk.reader tk.service) (sym o.matches.net.stolen)
              (subst (λ (x : ℕ). Safe (rules_of c n) s.stolen tk.reader x) (sym tv) z)

          line : SafeDeed c n told → LineFact c n ls t told new-deed
          line z = from ((main (rules_of c n) (ev ∷ o.events) t reach).asked-for new-deed (Memᴰ.head refl) (λ i. h.a_service (sym tv ∙ i)) (safe z))
            where
              from : Origin (rules_of c n) t new-deed → LineFact c n ls t told new-deed
              from (by_reader y a x) =
                  let i = pairs-at o.lines y.line a.from_line in
                  record {
                    asked = y;
                    answers = a;
                    as_wanted = x;
                    line = i.0;
                    beside = i.1;
                    before = down-low (λ (w : Wanted). w.place) p i.1 o.low_lines;
                  }

      go : (f : Option Fault) → first_fault (service.conditions (s.side v) tk q (c.digest tk.key q.number)) ≡ f
          → Tied c n K (suc p)
          (with_sent (answer_sent n.name (unless f (service.done (service.deed_of tk q) (service.receipt_of (s.side v) tk q)) Err)) []
          (with-side v (unless f (service.done_by (s.side v) (c.digest tk.key q.number)) (λ _. s.side v)) s))
          ls gs bs (deed_told (unless f (service.done (service.deed_of tk q) (service.receipt_of (s.side v) tk q)) Err) p v (s.side v).side.now s.stolen ++ ds) xs
      go None e = done e
      go (Some f) e = unseen c n o _ (matches-side c n s o.model v (s.side v) o.matches (λ _. ok))
