-- A letter at a box: its login or asking has its letter, and whom the ticket is for is asked. Assumes nothing.
use Rattle.std.proofs.Common.{◌≡◌, ℕ, suc, ◌+◌, ◌*◌, Bool, true, false, cond, ◌&&◌, eqb, ◌⊎◌, List, [], ◌∷◌, ◌++◌, length, get_or, Some, None, Option, sym, refl, ap, ◌∙◌, subst, inl, inr, arith, eq-eqb, eqb-true, Err, Ok}
use mathlib.Core.List.Memᴰ
use mathlib.Core.List.{Memᴰ}
use Rattle.std.specs.Str.{bytes_eq}
use Rattle.parts.specs.Condition.{first_fault, unless}
use Rattle.parts.specs.Drawn.{number_of}
use Rattle.parts.specs.declared.fault.Fault.{Fault}
use Rattle.parts.specs.declared.word.Key.{Key as Bytes32}
use Rattle.parts.specs.declared.word.Letter.{Letter}
use Rattle.box_rules.specs.Chest.{two_bytes}
use Rattle.box_rules.specs.Chest as chest
use Rattle.box_rules.specs.Letter as letter
use Rattle.box_rules.specs.Table.{oldest, without}
use Rattle.box_rules.specs.Line.{Told}
use Rattle.box_rules.specs.declared.answer.Answer.TheVariants.{Takes}
use Rattle.box_rules.specs.declared.line.Held.{Held}
use Rattle.box_rules.specs.declared.line.Pending.{Pending}
use Rattle.box_rules.specs.declared.line.Sought.TheVariants.{Login, AtHouse}
use Rattle.box_rules.specs.declared.line.Under.{Under}
use Rattle.box_rules.specs.declared.line.Under.TheVariants.{Own as OwnKey, Session}
use Rattle.tickets.specs.Term.{Term, Num, Own, Gets, even}
use Rattle.tickets.specs.State.{Closing, Stage, LoggingIn, AskingHouse, Wish, Key, Asked, State, Safe, is_in}
use Rattle.tickets.specs.Event.{Event, after, Reach, new_wish, new_asked}
use Rattle.tickets.specs.Event as events
use Rattle.tickets.proofs.Keep.{Change}
use Rattle.tickets.proofs.Inv.{Inv}
use Rattle.tickets.proofs.Reached.{reached, change}
use Rattle.tickets.proofs.Main.{main}
use Rattle.tickets.proofs.Bools.{either}
use Rattle.rows.specs.Name.{Bytes, Naming, spell}
use Rattle.rows.specs.Word.{words_of, letter_term, asking_term, told_sent, told_drawn}
use Rattle.rows.specs.Setting.{Setting, rules_of}
use Rattle.rows.specs.System.{System, Box, with_box, with_sent, New, Alone, HeardLetter}
use Rattle.rows.specs.Row.{Wanted, Deed, Given, Begun, Taken, begun_told, taken_told}
use Rattle.rows.proofs.Pairs.{Pairs, both, down-more, down-low, pairs-at, at_first}
use Rattle.rows.proofs.Matches.{BoxOk, PendingOk, TicketOk, gets_more, home_stays, side-stays, box-stays, pending-stays, ticket-stays}
use Rattle.rows.proofs.Sides.{and_left, and_right}
use Rattle.rows.proofs.Names.{same-eq}
use Rattle.rows.proofs.Tables.{put-cases, without-there, oldest-found, two_bytes_lem, not-taken-more}
use Rattle.rows.proofs.Tied.{Tied, SameBegun, TakenFact, unseen, deeds-stay, taken-stays}
use Rattle.rows.proofs.Quiet.{matches-box}
use Rattle.rows.proofs.Doing.{at_other}
use Rattle.rows.proofs.Wanting.{behind, untaken, drawn-is}

module _ (c : Setting) (n : Naming c.own) {K : List Closing} {p : ℕ} {s : System} {ls : List Wanted} {gs : List Given} {bs : List Begun} {ds : List Deed} {xs : List Taken} (o : Tied c n K p s ls gs bs ds xs)
    (a : ℕ) (l : Letter) (alone : Alone c n a) where
  inv : Inv (rules_of c n) o.model
  inv = reached o.reach

  ok : BoxOk c n o.model a (s.box a)
  ok = o.matches.box a

  own_is : n.name (s.box a).key.0 ≡ Own a
  own_is = ap (λ (x : Bytes32). n.name x.0) ok.key_is ∙ n.of_own a alone.there ∙ ap (λ (x : ℕ). Own x) alone.alone

  sent-one : (t : State) (x y z : Term) → y ≡ z → t.air ≡ z ∷ o.model.air → Memᴰ x (y ∷ s.air) → Memᴰ x t.air
  sent-one t x y z e f h = subst (λ (u : List Term). Memᴰ x u) (sym f) (go (Memᴰ.cases_cons h))
    where
      go : (x ≡ y) ⊎ Memᴰ x s.air → Memᴰ x (z ∷ o.model.air)
      go (inl i) = Memᴰ.head (i ∙ e)
      go (inr i) = Memᴰ.tail (o.matches.net.air x i)

  -- a number under way that is the letter's
  named : (q : Pending) (x : Wish) → q.number.0 ≡ l.number.0 → n.name q.number.0 ≡ even x.number → n.name l.number.0 ≡ even x.number
  named q x e h = ap (λ (y : Bytes). n.name y) (sym e) ∙ h

  -- what else is under way keeps its letter
  module _ (x : Wish) (known : Memᴰ x o.model.wishes) (number : n.name l.number.0 ≡ even x.number) where
    same-wish : (y : Wish) → Memᴰ y o.model.wishes → y.number ≡ x.number → y ≡ x
    same-wish y h e = inv.one_number y x h known e

    other-box : (j : ℕ) → (j ≡ a → ⊥) → x.line.reader ≡ a → (q : Pending) (g : Stage) → (k : PendingOk c n o.model j g q) → is_in k.wish.number (x.number ∷ o.model.taken) ≡ false
    other-box j apart reader q g k =
        not-taken-more k.wish.number x.number o.model.taken k.not_taken
        (λ e. apart (sym k.line.reader ∙ ap (λ (y : Wish). y.line.reader) (same-wish k.wish k.known e) ∙ reader))

    other-stage : (q : Pending) (g : Stage) → (k : PendingOk c n o.model a g q) → (x.stage ≡ g → ⊥) → is_in k.wish.number (x.number ∷ o.model.taken) ≡ false
    other-stage q g k apart =
        not-taken-more k.wish.number x.number o.model.taken k.not_taken
        (λ e. apart (ap (λ (y : Wish). y.stage) (sym (same-wish k.wish k.known e)) ∙ k.at_stage))

    other-number : (q : Pending) (g : Stage) → (k : PendingOk c n o.model a g q) → (q.number.0 ≡ l.number.0 → ⊥) → is_in k.wish.number (x.number ∷ o.model.taken) ≡ false
    other-number q g k apart =
        not-taken-more k.wish.number x.number o.model.taken k.not_taken
        (λ e. apart (n.apart _ _ (k.number ∙ ap (λ (y : ℕ). even y) e ∙ sym number)))

    new-untaken : is_in o.model.next (x.number ∷ o.model.taken) ≡ false
    new-untaken =
        not-taken-more o.model.next x.number o.model.taken (untaken c n o)
        (λ e. let h = (inv.wishes x known).low in omega arith)

    -- the key in the letter was given for just this
    fresh-fact : (t : State) (ev : Event) → Reach (rules_of c n) (ev ∷ o.events) t → t.made ≡ o.model.made → (v : ℕ) → v ≡ l.service → (q : Asked) → Memᴰ q t.asked → q.stolen ≡ o.model.stolen
        → q.line.reader ≡ a → q.service ≡ v → q.key ≡ n.name l.key.0 → q.upon ≡ x.number → q.since ≡ x.since → x.line.reader ≡ a
        → TakenFact c n gs bs (record { place = p; reader = a; service = l.service; key = l.key.0; number = l.number.0; stolen = s.stolen })
    fresh-fact t ev reach made v ve q known-q stolen reader service key upon since line safe =
        let w : Safe (rules_of c n) q.stolen q.line.reader 0 =
        subst (λ (y : ℕ). Safe (rules_of c n) q.stolen y 0) (sym reader) (subst (λ (y : List ℕ). Safe (rules_of c n) y a 0) (sym (stolen ∙ o.matches.net.stolen)) safe)
        in
        let m = (main (rules_of c n) (ev ∷ o.events) t reach).fresh q known-q w in
        let came = m.1 in
        let mk = m.2 in
        let u = m.3 in
        let same_since : m.0.since ≡ x.since = came.same_since ∙ since in
        let k = pairs-at o.keys mk (subst (λ (y : List Key). Memᴰ mk y) made u.known) in
        let b = pairs-at o.begun x known in
        let g-key : k.0.key ≡ l.key.0 = n.apart _ _ (sym k.2.key ∙ sym u.same_key ∙ key) in
        let g-number : k.0.number ≡ l.number.0 = n.apart _ _ (sym k.2.number ∙ u.same_number ∙ ap (λ (y : ℕ). even y) (came.same_number ∙ upon) ∙ sym number) in
        let b-number : b.0.number ≡ l.number.0 = n.apart _ _ (sym b.2.number ∙ sym number) in (
          k.0,
          at_first k.1,
          sym k.2.reader ∙ u.for_reader ∙ reader,
          sym k.2.service ∙ u.for-service ∙ service ∙ ve,
          g-key,
          g-number,
          down-low (λ (g : Given). g.place) p k.1 o.low_keys,
          (
            b.0,
            at_first b.1,
            sym b.2.reader ∙ line,
            b-number,
            (let i = u.not_before in let j = b.2.at in let h = k.2.at in omega arith),
          ),
        )

  -- what a box answers when it takes a letter for what is under way
  abbrev took : Pending → Told
  took q = Ok (Takes (record { id = (s.box a).taken + 1; service = l.service; until = l.until }) (chest.asking_of (s.box a) l.key l.service q.line))

  abbrev After : Under → Pending → Type 0
  After u q =
      Tied c n K (suc p)
      (with_sent (told_sent n.name (took q)) (told_drawn (took q)) (with_box a (chest.asked (letter.stored (letter.settled (s.box a) u l) l tt) l.key l.service q.line) s))
      ls gs (begun_told (took q) p a (s.box a).now ++ bs) ds (taken_told (took q) p a l s.stolen ++ xs)

  abbrev NewNumber : Type 0
  NewNumber = n.name (number_of (s.box a).left).0 ≡ even (suc (length s.used))

  -- the ticket that is taken
  abbrev ticket-taken : Held (Unit {0})
  ticket-taken = record { pass = record { id = (s.box a).taken + 1; service = l.service; key = l.key; until = l.until }; ticket = tt }

  -- the letter of a login
  at_login : (q : Pending) → Memᴰ q (s.box a).logins → q.number.0 ≡ l.number.0 → l.service ≡ 0 → Gets s.air (letter_term n.name (s.box a).key l) → NewNumber → After OwnKey q
  at_login q under same_number house heard-letter new =
      record {
        events = ev ∷ o.events;
        model = t;
        reach = reach;
        matches =
            record {
              net =
                  record {
                    air = λ y k. sent-one t y _ _ word refl k;
                    next = let z = o.matches.net.next in omega arith;
                    stolen = o.matches.net.stolen;
                  };
              home = home_stays c n {m = o.model} {t = t} s.home refl (λ d k f. k) refl o.matches.home;
              side = λ j z. side-stays c n {m = o.model} {t = t} j (s.side j) refl (λ d k f. k) (o.matches.side j z);
              box =
                  λ j. at_other (λ (i : ℕ) (y : Box). BoxOk c n t i y) a _ s.box mine j
                  (λ apart. box-stays c n {m = o.model} {t = t} j (s.box j) refl g.grows (λ y st z. other-box x pend.known number j apart pend.line.reader y st z) (o.matches.box j));
            };
        lines = o.lines;
        keys = o.keys;
        begun =
            subst (λ (b : Bool). Pairs (SameBegun c n) (cond b (record { place = p; reader = a; number = (number_of (s.box a).left).0; at = (s.box a).now; login = false } ∷ []) [] ++ bs) t.wishes) (sym is-house)
            (both (record { reader = pend.line.reader; number = sym (drawn-is c n o _ new); at = sym ok.now_is; stage = refl }) o.begun);
        deeds = deeds-stay c n ls ls o.model t g.grows (λ y z k. k) o.deeds;
        takens = λ y k. takens y (Memᴰ.cases_cons k);
        since = o.since;
        low_lines = down-more (λ (w : Wanted). w.place) p (suc p) ls (omega arith) o.low_lines;
        low_keys = down-more (λ (g : Given). g.place) p (suc p) gs (omega arith) o.low_keys;
      }
    where
      is-house : eqb l.service 0 ≡ true
      is-house = eq-eqb l.service 0 house

      pend : PendingOk c n o.model a LoggingIn q
      pend = ok.logins q under

      x : Wish
      x = pend.wish

      number : n.name l.number.0 ≡ even x.number
      number = named q x same_number pend.number

      ev : Event
      ev = events.wants x (n.name l.key.0) l.until

      heard-so : Gets o.model.air (events.letter (Own x.line.reader) (even x.number) 0 (n.name l.key.0) l.until)
      heard-so =
          subst (λ (y : Term). Gets o.model.air y)
          (let i = own_is in
          let j = number in
          let k = pend.line.reader in
          cc)
          (gets_more o.matches.net.air heard-letter)

      may : events.Takes o.model x LoggingIn (Own x.line.reader) 0 (n.name l.key.0) l.until
      may = record { known = pend.known; at_stage = pend.at_stage; not_taken = pend.not_taken; heard = heard-so }

      t : State
      t = after (rules_of c n) ev o.model

      reach : Reach (rules_of c n) (ev ∷ o.events) t
      reach = events.onward o.reach ev may

      g : Change (rules_of c n) o.model t
      g = change (reached o.reach) ev may

      q₀ : Asked
      q₀ = new_asked o.model x.line 0 (n.name l.key.0) (Num x.line.service) o.model.now x.number x.since

      word : asking_term n.name l.key (chest.asking_of (s.box a) l.key l.service q.line).inside ≡ events.asking_of q₀
      word =
          ap (λ (b : Bool). events.asking (n.name l.key.0) l.service (n.name (number_of (s.box a).left).0) (cond b (Num (get_or (cond b (two_bytes q.line.service) q.line.what).bytes 0 0 * 256 + get_or (cond b (two_bytes q.line.service) q.line.what).bytes 1 0)) (spell (words_of (cond b (two_bytes q.line.service) q.line.what)))) (cond b (s.box a).now q.line.tick)) is-house
          ∙ (let j = drawn-is c n o _ new in
          let k = ok.now_is in
          let u = two_bytes_lem q.line.service in
          let v = pend.line.service in
          cc)

      pending : Pending
      pending = record { number = number_of (s.box a).left; key = l.key; asks = l.service; line = q.line }

      begun-now : PendingOk c n t a AskingHouse pending
      begun-now =
          record {
            wish = new_wish o.model x.line AskingHouse (n.name l.key.0);
            known = Memᴰ.head refl;
            at_stage = refl;
            number = drawn-is c n o _ new;
            key = refl;
            not_taken = new-untaken x pend.known number;
            line = pend.line;
          }

      login-no-asking : x.stage ≡ AskingHouse → ⊥
      login-no-asking e = let f = pend.at_stage in let z : ◌≡◌ {A = ℕ} 0 1 = cc in omega arith

      mine : BoxOk c n t a (chest.asked (letter.stored (letter.settled (s.box a) OwnKey l) l tt) l.key l.service q.line)
      mine =
          record {
            now_is = ok.now_is;
            key_is = ok.key_is;
            logins = λ y k. logins y (without-there l.number (s.box a).logins y k);
            askings = λ y k e. askings y e (put-cases _ _ y k);
            tickets = λ y k. tickets y (put-cases _ _ y k);
          }
        where
          logins : (y : Pending) → Memᴰ y (s.box a).logins × (y.number.0 ≡ l.number.0 → ⊥) → PendingOk c n t a LoggingIn y
          logins y k = let z = ok.logins y k.0 in pending-stays c n {m = o.model} {t = t} a LoggingIn y g.grows.wishes z (other-number x pend.known number y LoggingIn z k.1)

          askings : (y : Pending) → y.asks ≡ 0 → (y ≡ pending) ⊎ Memᴰ y (s.box a).askings → PendingOk c n t a AskingHouse y
          askings y e (inl f) = subst (λ (z : Pending). PendingOk c n t a AskingHouse z) (sym f) begun-now
          askings y e (inr k) = let z = ok.askings y k e in pending-stays c n {m = o.model} {t = t} a AskingHouse y g.grows.wishes z (other-stage x pend.known number y AskingHouse z login-no-asking)

          tickets : (y : Held (Unit {0})) → (y ≡ ticket-taken) ⊎ Memᴰ y (s.box a).tickets → TicketOk c n t a y
          tickets y (inl e) =
              subst (λ (z : Held (Unit {0})). TicketOk c n t a z) (sym e)
              (record { asked = q₀; known = Memᴰ.head refl; reader = pend.line.reader; service = sym house; key = refl })
          tickets y (inr k) = ticket-stays c n {m = o.model} {t = t} a y g.grows.asked (ok.tickets y k)

      takens : (y : Taken) → (y ≡ record { place = p; reader = a; service = l.service; key = l.key.0; number = l.number.0; stolen = s.stolen }) ⊎ Memᴰ y xs
          → TakenFact c n gs (begun_told (took q) p a (s.box a).now ++ bs) y
      takens y (inl e) =
          subst (λ (z : Taken). TakenFact c n gs (begun_told (took q) p a (s.box a).now ++ bs) z) (sym e)
          (taken-stays c n gs gs bs _ _ (λ z k. k) (λ z k. behind (eqb l.service 0) _ bs z k)
          (fresh-fact x pend.known number t ev reach refl 0 (sym house) q₀ (Memᴰ.head refl) refl pend.line.reader refl refl refl refl pend.line.reader))
      takens y (inr k) = taken-stays c n gs gs bs _ y (λ z k. k) (λ z k. behind (eqb l.service 0) _ bs z k) (o.takens y k)

  -- the letter of an asking for the house
  at-asking : (k : Bytes32) (q : Pending) → Memᴰ q (s.box a).askings → q.asks ≡ 0 → q.key.0 ≡ k.0 → q.number.0 ≡ l.number.0 → q.line.service ≡ l.service
      → Gets s.air (letter_term n.name k l) → NewNumber → After (Session k) q
  at-asking k q under asks same_key same_number same-service heard-letter new =
      record {
        events = ev ∷ o.events;
        model = t;
        reach = reach;
        matches =
            record {
              net =
                  record {
                    air = λ y k. sent-one t y _ _ word refl k;
                    next = let z = o.matches.net.next in omega arith;
                    stolen = o.matches.net.stolen;
                  };
              home = home_stays c n {m = o.model} {t = t} s.home refl (λ d k f. k) refl o.matches.home;
              side = λ j z. side-stays c n {m = o.model} {t = t} j (s.side j) refl (λ d k f. k) (o.matches.side j z);
              box =
                  λ j. at_other (λ (i : ℕ) (y : Box). BoxOk c n t i y) a _ s.box mine j
                  (λ apart. box-stays c n {m = o.model} {t = t} j (s.box j) refl g.grows (λ y st z. other-box x pend.known number j apart pend.line.reader y st z) (o.matches.box j));
            };
        lines = o.lines;
        keys = o.keys;
        begun =
            subst (λ (b : Bool). Pairs (SameBegun c n) (cond b (record { place = p; reader = a; number = (number_of (s.box a).left).0; at = (s.box a).now; login = false } ∷ []) [] ++ bs) t.wishes) (sym no-house)
            o.begun;
        deeds = deeds-stay c n ls ls o.model t g.grows (λ y z k. k) o.deeds;
        takens = λ y k. takens y (Memᴰ.cases_cons k);
        since = o.since;
        low_lines = down-more (λ (w : Wanted). w.place) p (suc p) ls (omega arith) o.low_lines;
        low_keys = down-more (λ (g : Given). g.place) p (suc p) gs (omega arith) o.low_keys;
      }
    where
      pend : PendingOk c n o.model a AskingHouse q
      pend = ok.askings q under asks

      x : Wish
      x = pend.wish

      service-is : x.line.service ≡ l.service
      service-is = pend.line.service ∙ same-service

      a_service : l.service ≡ 0 → ⊥
      a_service e = (inv.lines x.line (inv.wishes x pend.known).line).a_service (service-is ∙ e)

      no-house : eqb l.service 0 ≡ false
      no-house = go (either (eqb l.service 0))
        where
          go : (eqb l.service 0 ≡ true) ⊎ (eqb l.service 0 ≡ false) → eqb l.service 0 ≡ false
          go (inl e) = absurd (a_service (eqb-true l.service 0 e))
          go (inr e) = e

      number : n.name l.number.0 ≡ even x.number
      number = named q x same_number pend.number

      ev : Event
      ev = events.asks x (n.name l.key.0) l.until

      heard-so : Gets o.model.air (events.letter x.key (even x.number) x.line.service (n.name l.key.0) l.until)
      heard-so =
          subst (λ (y : Term). Gets o.model.air y)
          (let i : n.name k.0 ≡ x.key = ap (λ (y : Bytes). n.name y) (sym same_key) ∙ sym pend.key in
          let j = number in
          let u = service-is in
          cc)
          (gets_more o.matches.net.air heard-letter)

      may : events.Takes o.model x AskingHouse x.key x.line.service (n.name l.key.0) l.until
      may = record { known = pend.known; at_stage = pend.at_stage; not_taken = pend.not_taken; heard = heard-so }

      t : State
      t = after (rules_of c n) ev o.model

      reach : Reach (rules_of c n) (ev ∷ o.events) t
      reach = events.onward o.reach ev may

      g : Change (rules_of c n) o.model t
      g = change (reached o.reach) ev may

      q₀ : Asked
      q₀ = new_asked o.model x.line x.line.service (n.name l.key.0) x.line.what x.line.at x.number x.since

      word : asking_term n.name l.key (chest.asking_of (s.box a) l.key l.service q.line).inside ≡ events.asking_of q₀
      word =
          ap (λ (b : Bool). events.asking (n.name l.key.0) l.service (n.name (number_of (s.box a).left).0) (cond b (Num (get_or (cond b (two_bytes q.line.service) q.line.what).bytes 0 0 * 256 + get_or (cond b (two_bytes q.line.service) q.line.what).bytes 1 0)) (spell (words_of (cond b (two_bytes q.line.service) q.line.what)))) (cond b (s.box a).now q.line.tick)) no-house
          ∙ (let j = drawn-is c n o _ new in
          let u = service-is in
          let v = pend.line.what in
          let w = pend.line.at in
          cc)

      pending : Pending
      pending = record { number = number_of (s.box a).left; key = l.key; asks = l.service; line = q.line }

      asking-no-login : x.stage ≡ LoggingIn → ⊥
      asking-no-login e = let f = pend.at_stage in let z : ◌≡◌ {A = ℕ} 0 1 = cc in omega arith

      mine : BoxOk c n t a (chest.asked (letter.stored (letter.settled (s.box a) (Session k) l) l tt) l.key l.service q.line)
      mine =
          record {
            now_is = ok.now_is;
            key_is = ok.key_is;
            logins = λ y i. let z = ok.logins y i in pending-stays c n {m = o.model} {t = t} a LoggingIn y g.grows.wishes z (other-stage x pend.known number y LoggingIn z asking-no-login);
            askings = λ y i e. askings y e (put-cases _ _ y i);
            tickets = λ y i. tickets y (put-cases _ _ y i);
          }
        where
          left : (y : Pending) → y.asks ≡ 0 → Memᴰ y (s.box a).askings × (y.number.0 ≡ l.number.0 → ⊥) → PendingOk c n t a AskingHouse y
          left y e i = let z = ok.askings y i.0 e in pending-stays c n {m = o.model} {t = t} a AskingHouse y g.grows.wishes z (other-number x pend.known number y AskingHouse z i.1)

          askings : (y : Pending) → y.asks ≡ 0 → (y ≡ pending) ⊎ Memᴰ y (without l.number (s.box a).askings) → PendingOk c n t a AskingHouse y
          askings y e (inl f) = absurd (a_service (sym (ap (λ (z : Pending). z.asks) f) ∙ e))
          askings y e (inr i) = left y e (without-there l.number (s.box a).askings y i)

          tickets : (y : Held (Unit {0})) → (y ≡ ticket-taken) ⊎ Memᴰ y (s.box a).tickets → TicketOk c n t a y
          tickets y (inl e) =
              subst (λ (z : Held (Unit {0})). TicketOk c n t a z) (sym e)
              (record { asked = q₀; known = Memᴰ.head refl; reader = pend.line.reader; service = service-is; key = refl })
          tickets y (inr i) = ticket-stays c n {m = o.model} {t = t} a y g.grows.asked (ok.tickets y i)

      takens : (y : Taken) → (y ≡ record { place = p; reader = a; service = l.service; key = l.key.0; number = l.number.0; stolen = s.stolen }) ⊎ Memᴰ y xs
          → TakenFact c n gs (begun_told (took q) p a (s.box a).now ++ bs) y
      takens y (inl e) =
          subst (λ (z : Taken). TakenFact c n gs (begun_told (took q) p a (s.box a).now ++ bs) z) (sym e)
          (taken-stays c n gs gs bs _ _ (λ z i. i) (λ z i. behind (eqb l.service 0) _ bs z i)
          (fresh-fact x pend.known number t ev reach refl x.line.service service-is q₀ (Memᴰ.head refl) refl pend.line.reader refl refl refl refl pend.line.reader))
      takens y (inr i) = taken-stays c n gs gs bs _ y (λ z i. i) (λ z i. behind (eqb l.service 0) _ bs z i) (o.takens y i)

  abbrev Answered : Under → Told → Box → Type 0
  Answered u r b = Tied c n K (suc p) (with_sent (told_sent n.name r) (told_drawn r) (with_box a b s)) ls gs (begun_told r p a (s.box a).now ++ bs) ds (taken_told r p a l s.stolen ++ xs)

  -- a letter belongs to what is under way
  found : (u : Under) (q : Pending) → letter.pending_for (s.box a) u l ≡ Some q → HeardLetter c n s a u l → NewNumber → After u q
  found OwnKey q e h new = go (eqb l.service 0) refl e
    where
      go : (b : Bool) → eqb l.service 0 ≡ b → cond b (oldest (Login l.number) (s.box a).logins) None ≡ Some q → After OwnKey q
      go true f k =
          let z = oldest-found (Login l.number) (s.box a).logins q k in
          at_login q z.0 (same-eq _ _ z.1) (eqb-true l.service 0 f) h.letter_heard new
      go false f k = absurd (let z : ◌≡◌ {A = ℕ} 0 1 = cc in omega arith)
  found (Session k) q e h new =
      let z = oldest-found (AtHouse k l.number l.service) (s.box a).askings q e in
      let m1 = and_left (eqb q.asks 0) (bytes_eq q.key.0 k.0 && (bytes_eq q.number.0 l.number.0 && eqb q.line.service l.service)) z.1 in
      let after-asks = and_right (eqb q.asks 0) (bytes_eq q.key.0 k.0 && (bytes_eq q.number.0 l.number.0 && eqb q.line.service l.service)) z.1 in
      let m2 = and_left (bytes_eq q.key.0 k.0) (bytes_eq q.number.0 l.number.0 && eqb q.line.service l.service) after-asks in
      let after-key = and_right (bytes_eq q.key.0 k.0) (bytes_eq q.number.0 l.number.0 && eqb q.line.service l.service) after-asks in
      let m3 = and_left (bytes_eq q.number.0 l.number.0) (eqb q.line.service l.service) after-key in
      let m4 = and_right (bytes_eq q.number.0 l.number.0) (eqb q.line.service l.service) after-key in
      at-asking k q z.0 (eqb-true q.asks 0 m1) (same-eq _ _ m2) (same-eq _ _ m3) (eqb-true _ _ m4) h.letter_heard new

  pub takes-so : (u : Under) → HeardLetter c n s a u l → Answered u (letter.taken (s.box a) u l) (letter.taken_after (s.box a) u l tt)
  takes-so u h = go (first_fault (letter.letter_conditions (s.box a) u l)) (letter.pending_for (s.box a) u l) refl refl h.new
    where
      refused : Tied c n K (suc p) (with_box a (s.box a) s) ls gs bs ds xs
      refused = unseen c n o _ (matches-box c n s o.model a (s.box a) o.matches ok)

      go : (f : Option Fault) (k : Option Pending) → first_fault (letter.letter_conditions (s.box a) u l) ≡ f → letter.pending_for (s.box a) u l ≡ k
          → New c n s (told_drawn (unless f (letter.taken_by (s.box a) l k) Err))
          → Answered u (unless f (letter.taken_by (s.box a) l k) Err) (unless f (letter.taken_from (s.box a) u l tt k) (λ _. s.box a))
      go (Some f) k e g new = refused
      go None None e g new = refused
      go None (Some q) e g new = found u q g h new
