-- A reader's line at a box: a login, an asking for the house, or an asking to a service. Assumes nothing.
use Rattle.std.proofs.Common.{◌≡◌, ℕ, suc, ◌+◌, ◌*◌, Bool, true, false, cond, not, ◌||◌, eqb, ◌⊎◌, List, [], ◌∷◌, ◌++◌, length, get_or, Some, None, Option, sym, refl, ap, ◌∙◌, subst, inl, inr, arith, eq-eqb, eqb-true, Err, Ok}
use mathlib.Core.List.Memᴰ
use mathlib.Core.List.{Memᴰ}
use Rattle.parts.specs.Condition.{first_fault, unless}
use Rattle.parts.specs.Drawn.{number_of}
use Rattle.parts.proofs.Conditions.{passed}
use Rattle.parts.specs.declared.fault.Fault.{Fault}
use Rattle.parts.specs.declared.fault.Fault.TheVariants.{OutOfRange}
use Rattle.parts.specs.declared.word.Key.{Key as Bytes32}
use Rattle.parts.specs.declared.word.What.{What}
use Rattle.box_rules.specs.Chest.{two_bytes, what_of, tick_of}
use Rattle.box_rules.specs.Chest as chest
use Rattle.box_rules.specs.Line as line
use Rattle.box_rules.specs.declared.answer.Answer.TheVariants.{Asks, LogsIn}
use Rattle.box_rules.specs.declared.line.Held.{Held}
use Rattle.box_rules.specs.declared.line.Pass.{Pass}
use Rattle.box_rules.specs.declared.line.Pending.{Pending}
use Rattle.tickets.specs.Term.{Term, Num, Own, Gets, even}
use Rattle.tickets.specs.State.{Closing, Line, LoggingIn, AskingHouse, Wish, Asked, State, is_in}
use Rattle.tickets.specs.Event.{Event, after, Reach, new_line, new_wish, new_asked}
use Rattle.tickets.specs.Event as events
use Rattle.tickets.proofs.Keep.{Change}
use Rattle.tickets.proofs.Inv.{Inv}
use Rattle.tickets.proofs.Reached.{reached, change}
use Rattle.tickets.proofs.Bools.{clash, either, or_cases, or-false-left, or-false-right}
use Rattle.rows.proofs.Sides.{not-false}
use Rattle.rows.specs.Name.{Bytes, Naming, spell}
use Rattle.rows.specs.Word.{words_of, login_term, asking_term, told_sent, told_drawn}
use Rattle.rows.specs.Setting.{Setting, rules_of}
use Rattle.rows.specs.System.{System, Box, with_box, with_sent, New, Alone, Wanting}
use Rattle.rows.specs.Row.{Wanted, Deed, Given, Begun, Taken, line_told, begun_told}
use Rattle.rows.proofs.Pairs.{Pairs, both, there, down-more}
use Rattle.rows.proofs.Matches.{BoxOk, PendingOk, TicketOk, home_stays, side-stays, box-stays}
use Rattle.rows.proofs.Tables.{gets-spell, put-cases, pass-by, two_bytes_lem}
use Rattle.rows.proofs.Tied.{Tied, SameBegun, unseen, deeds-stay, taken-stays}
use Rattle.rows.proofs.Quiet.{at-cases, matches-box}

-- what stands in a list stands in it behind others
pub behind : {A : Type 0} (b : Bool) (x : A) (xs : List A) (y : A) → Memᴰ y xs → Memᴰ y (cond b (x ∷ []) [] ++ xs)
behind true x xs y h = Memᴰ.tail h
behind false x xs y h = h

-- an asking for the house asks for a service by its number
pub house_what : (v : ℕ) → get_or (two_bytes v).bytes 0 0 * 256 + get_or (two_bytes v).bytes 1 0 ≡ v
house_what v = two_bytes_lem v

module _ (c : Setting) (n : Naming c.own) {K : List Closing} {p : ℕ} {s : System} {ls : List Wanted} {gs : List Given} {bs : List Begun} {ds : List Deed} {xs : List Taken} (o : Tied c n K p s ls gs bs ds xs) where
  inv : Inv (rules_of c n) o.model
  inv = reached o.reach

  -- a number that is drawn now has no letter that was taken
  pub untaken : is_in o.model.next o.model.taken ≡ false
  untaken = go (either (is_in o.model.next o.model.taken))
    where
      go : (is_in o.model.next o.model.taken ≡ true) ⊎ (is_in o.model.next o.model.taken ≡ false) → is_in o.model.next o.model.taken ≡ false
      go (inl e) = absurd (let l = inv.taken_low o.model.next e in omega arith)
      go (inr e) = e

  -- a draw is named by the number that the model draws
  pub drawn-is : (x : Bytes) → n.name x ≡ even (suc (length s.used)) → n.name x ≡ even o.model.next
  drawn-is x h = h ∙ ap (λ (y : ℕ). even y) (sym o.matches.net.next)

  module _ (a v : ℕ) (w : What) (alone : Alone c n a) where
    ok : BoxOk c n o.model a (s.box a)
    ok = o.matches.box a

    own_is : n.name (s.box a).key.0 ≡ Own a
    own_is = ap (λ (x : Bytes32). n.name x.0) ok.key_is ∙ n.of_own a alone.there ∙ ap (λ (x : ℕ). Own x) alone.alone

    abbrev told : Wanted
    told = record { place = p; reader = a; service = v; what = words_of w; at = (s.box a).now }

    sent-one : (t : State) (x y z : Term) → y ≡ z → t.air ≡ z ∷ o.model.air → Memᴰ x (y ∷ s.air) → Memᴰ x t.air
    sent-one t x y z e f h = subst (λ (u : List Term). Memᴰ x u) (sym f) (go (Memᴰ.cases_cons h))
      where
        go : (x ≡ y) ⊎ Memᴰ x s.air → Memᴰ x (z ∷ o.model.air)
        go (inl i) = Memᴰ.head (i ∙ e)
        go (inr i) = Memᴰ.tail (o.matches.net.air x i)

    -- by no ticket: a login
    login : (v ≡ 0 → ⊥) → n.name (number_of (s.box a).left).0 ≡ even (suc (length s.used))
        → Tied c n K (suc p)
        (with_sent (told_sent n.name (Ok (LogsIn (line.login_of (s.box a))))) (told_drawn (Ok (LogsIn (line.login_of (s.box a))))) (with_box a (line.logged_in (line.counted (s.box a)) (line.line_of (s.box a) v w)) s))
        (told ∷ ls) gs (begun_told (Ok (LogsIn (line.login_of (s.box a)))) p a (s.box a).now ++ bs) ds xs
    login service new =
        record {
          events = ev ∷ o.events;
          model = t;
          reach = events.onward o.reach ev may;
          matches =
              record {
                net =
                    record {
                      air = λ x h. sent-one t x _ _ word refl h;
                      next = let z = o.matches.net.next in omega arith;
                      stolen = o.matches.net.stolen;
                    };
                home = home_stays c n {m = o.model} {t = t} s.home refl (λ d k f. k) refl o.matches.home;
                side = λ j z. side-stays c n {m = o.model} {t = t} j (s.side j) refl (λ d k f. k) (o.matches.side j z);
                box = λ j. at-cases (λ (i : ℕ) (x : Box). BoxOk c n t i x) a _ s.box mine j (stays j);
              };
          lines = both (record { reader = refl; service = refl; what = refl; at = sym ok.now_is }) o.lines;
          keys = o.keys;
          begun = both (record { reader = refl; number = sym (drawn-is _ new); at = sym ok.now_is; stage = refl }) o.begun;
          deeds = deeds-stay c n ls (told ∷ ls) o.model t g.grows (λ y l h. there h) o.deeds;
          takens = λ x h. taken-stays c n gs gs bs _ x (λ y z. z) (λ y z. Memᴰ.tail z) (o.takens x h);
          since = o.since;
          low_lines = (omega arith, o.low_lines);
          low_keys = down-more (λ (g : Given). g.place) p (suc p) gs (omega arith) o.low_keys;
        }
      where
        ev : Event
        ev = events.begins a v (spell (words_of w))

        may : events.Wants (rules_of c n) o.model v (spell (words_of w))
        may = record { a_service = service; writable = gets-spell o.model.air (words_of w) }

        t : State
        t = after (rules_of c n) ev o.model

        g : Change (rules_of c n) o.model t
        g = change (reached o.reach) ev may

        x₀ : Wish
        x₀ = new_wish o.model (new_line o.model a v (spell (words_of w))) LoggingIn (Own a)

        word : login_term n.name (s.box a).key (record { number = number_of (s.box a).left; tick = (s.box a).now }) ≡ events.login_of x₀
        word =
            let i = own_is in
            let j = drawn-is _ new in
            let k = ok.now_is in
            cc

        stays : (j : ℕ) → BoxOk c n t j (s.box j)
        stays j = box-stays c n {m = o.model} {t = t} j (s.box j) refl g.grows (λ q y z. z.not_taken) (o.matches.box j)

        pending : Pending
        pending = record { number = number_of (s.box a).left; key = (s.box a).key; asks = 0; line = line.line_of (s.box a) v w }

        begun-now : PendingOk c n t a LoggingIn pending
        begun-now =
            record {
              wish = x₀;
              known = Memᴰ.head refl;
              at_stage = refl;
              number = drawn-is _ new;
              key = sym own_is;
              not_taken = untaken;
              line = record { reader = refl; service = refl; what = refl; at = sym ok.now_is };
            }

        mine : BoxOk c n t a (line.logged_in (line.counted (s.box a)) (line.line_of (s.box a) v w))
        mine =
            record {
              now_is = ok.now_is;
              key_is = ok.key_is;
              logins = λ q h. logins q (put-cases _ _ q h);
              askings = (stays a).askings;
              tickets = (stays a).tickets;
            }
          where
            logins : (q : Pending) → (q ≡ pending) ⊎ Memᴰ q (s.box a).logins → PendingOk c n t a LoggingIn q
            logins q (inl e) = subst (λ (y : Pending). PendingOk c n t a LoggingIn y) (sym e) begun-now
            logins q (inr h) = (stays a).logins q h

    -- by a ticket for the house: an asking for the house
    by-house : (v ≡ 0 → ⊥) → (q : Pass) → q.service ≡ 0 → (h : Held (Unit {0})) → Memᴰ h (s.box a).tickets → h.pass ≡ q
        → n.name (number_of (s.box a).left).0 ≡ even (suc (length s.used))
        → Tied c n K (suc p)
        (with_sent (told_sent n.name (Ok (Asks q.id (chest.asking_of (s.box a) q.key q.service (line.line_of (s.box a) v w))))) (told_drawn (Ok (Asks q.id (chest.asking_of (s.box a) q.key q.service (line.line_of (s.box a) v w)))))
        (with_box a (chest.asked (line.counted (s.box a)) q.key q.service (line.line_of (s.box a) v w)) s))
        (told ∷ ls) gs (begun_told (Ok (Asks q.id (chest.asking_of (s.box a) q.key q.service (line.line_of (s.box a) v w)))) p a (s.box a).now ++ bs) ds xs
    by-house service q house h held pass new =
        record {
          events = ev ∷ o.events;
          model = t;
          reach = events.onward o.reach ev may;
          matches =
              record {
                net =
                    record {
                      air = λ x k. sent-one t x _ _ word refl k;
                      next = let z = o.matches.net.next in omega arith;
                      stolen = o.matches.net.stolen;
                    };
                home = home_stays c n {m = o.model} {t = t} s.home refl (λ d k f. k) refl o.matches.home;
                side = λ j z. side-stays c n {m = o.model} {t = t} j (s.side j) refl (λ d k f. k) (o.matches.side j z);
                box = λ j. at-cases (λ (i : ℕ) (x : Box). BoxOk c n t i x) a _ s.box mine j (stays j);
              };
          lines = both (record { reader = tick.reader; service = refl; what = refl; at = sym ok.now_is }) o.lines;
          keys = o.keys;
          begun =
              subst (λ (b : Bool). Pairs (SameBegun c n) (cond b (record { place = p; reader = a; number = (number_of (s.box a).left).0; at = (s.box a).now; login = false } ∷ []) [] ++ bs) t.wishes) (sym is-house)
              (both (record { reader = tick.reader; number = sym (drawn-is _ new); at = sym ok.now_is; stage = refl }) o.begun);
          deeds = deeds-stay c n ls (told ∷ ls) o.model t g.grows (λ y l k. there k) o.deeds;
          takens = λ x k. taken-stays c n gs gs bs _ x (λ y z. z) (λ y z. behind (eqb q.service 0) _ bs y z) (o.takens x k);
          since = o.since;
          low_lines = (omega arith, o.low_lines);
          low_keys = down-more (λ (g : Given). g.place) p (suc p) gs (omega arith) o.low_keys;
        }
      where
        is-house : eqb q.service 0 ≡ true
        is-house = eq-eqb q.service 0 house

        tick : TicketOk c n o.model a h
        tick = ok.tickets h held

        ev : Event
        ev = events.wish tick.asked v (spell (words_of w))

        may : events.HoldsHouse (rules_of c n) o.model tick.asked × events.Wants (rules_of c n) o.model v (spell (words_of w))
        may = (
          record { known = tick.known; the_house = tick.service ∙ ap (λ (x : Pass). x.service) pass ∙ house },
          record { a_service = service; writable = gets-spell o.model.air (words_of w) },
        )

        t : State
        t = after (rules_of c n) ev o.model

        g : Change (rules_of c n) o.model t
        g = change (reached o.reach) ev may

        l₀ : Line
        l₀ = new_line o.model tick.asked.line.reader v (spell (words_of w))

        q₀ : Asked
        q₀ = new_asked o.model l₀ 0 tick.asked.key (Num v) o.model.now tick.asked.upon tick.asked.since

        x₀ : Wish
        x₀ = new_wish o.model l₀ AskingHouse tick.asked.key

        key_is : n.name q.key.0 ≡ tick.asked.key
        key_is = ap (λ (x : Pass). n.name x.key.0) (sym pass) ∙ sym tick.key

        word : asking_term n.name q.key (chest.asking_of (s.box a) q.key q.service (line.line_of (s.box a) v w)).inside ≡ events.asking_of q₀
        word =
            ap (λ (b : Bool). events.asking (n.name q.key.0) q.service (n.name (number_of (s.box a).left).0) (cond b (Num (get_or (cond b (two_bytes v) w).bytes 0 0 * 256 + get_or (cond b (two_bytes v) w).bytes 1 0)) (spell (words_of (cond b (two_bytes v) w)))) (cond b (s.box a).now (s.box a).now)) is-house
            ∙ (let i = key_is in
            let j = drawn-is _ new in
            let k = ok.now_is in
            let u = two_bytes_lem v in
            cc)

        stays : (j : ℕ) → BoxOk c n t j (s.box j)
        stays j = box-stays c n {m = o.model} {t = t} j (s.box j) refl g.grows (λ q y z. z.not_taken) (o.matches.box j)

        pending : Pending
        pending = record { number = number_of (s.box a).left; key = q.key; asks = q.service; line = line.line_of (s.box a) v w }

        begun-now : PendingOk c n t a AskingHouse pending
        begun-now =
            record {
              wish = x₀;
              known = Memᴰ.head refl;
              at_stage = refl;
              number = drawn-is _ new;
              key = sym key_is;
              not_taken = untaken;
              line = record { reader = tick.reader; service = refl; what = refl; at = sym ok.now_is };
            }

        mine : BoxOk c n t a (chest.asked (line.counted (s.box a)) q.key q.service (line.line_of (s.box a) v w))
        mine =
            record {
              now_is = ok.now_is;
              key_is = ok.key_is;
              logins = (stays a).logins;
              askings = λ y k e. askings y e (put-cases _ _ y k);
              tickets = (stays a).tickets;
            }
          where
            askings : (y : Pending) → y.asks ≡ 0 → (y ≡ pending) ⊎ Memᴰ y (s.box a).askings → PendingOk c n t a AskingHouse y
            askings y e (inl f) = subst (λ (z : Pending). PendingOk c n t a AskingHouse z) (sym f) begun-now
            askings y e (inr k) = (stays a).askings y k e

    -- by a ticket for the service: an asking to it
    by_service : (v ≡ 0 → ⊥) → (q : Pass) → q.service ≡ v → (h : Held (Unit {0})) → Memᴰ h (s.box a).tickets → h.pass ≡ q
        → n.name (number_of (s.box a).left).0 ≡ even (suc (length s.used))
        → Tied c n K (suc p)
        (with_sent (told_sent n.name (Ok (Asks q.id (chest.asking_of (s.box a) q.key q.service (line.line_of (s.box a) v w))))) (told_drawn (Ok (Asks q.id (chest.asking_of (s.box a) q.key q.service (line.line_of (s.box a) v w)))))
        (with_box a (chest.asked (line.counted (s.box a)) q.key q.service (line.line_of (s.box a) v w)) s))
        (told ∷ ls) gs (begun_told (Ok (Asks q.id (chest.asking_of (s.box a) q.key q.service (line.line_of (s.box a) v w)))) p a (s.box a).now ++ bs) ds xs
    by_service service q mine-is h held pass new =
        record {
          events = ev ∷ o.events;
          model = t;
          reach = events.onward o.reach ev may;
          matches =
              record {
                net =
                    record {
                      air = λ x k. sent-one t x _ _ word refl k;
                      next = let z = o.matches.net.next in omega arith;
                      stolen = o.matches.net.stolen;
                    };
                home = home_stays c n {m = o.model} {t = t} s.home refl (λ d k f. k) refl o.matches.home;
                side = λ j z. side-stays c n {m = o.model} {t = t} j (s.side j) refl (λ d k f. k) (o.matches.side j z);
                box = λ j. at-cases (λ (i : ℕ) (x : Box). BoxOk c n t i x) a _ s.box mine j (stays j);
              };
          lines = both (record { reader = tick.reader; service = asked-service; what = refl; at = sym ok.now_is }) o.lines;
          keys = o.keys;
          begun =
              subst (λ (b : Bool). Pairs (SameBegun c n) (cond b (record { place = p; reader = a; number = (number_of (s.box a).left).0; at = (s.box a).now; login = false } ∷ []) [] ++ bs) t.wishes) (sym no-house)
              o.begun;
          deeds = deeds-stay c n ls (told ∷ ls) o.model t g.grows (λ y l k. there k) o.deeds;
          takens = λ x k. taken-stays c n gs gs bs _ x (λ y z. z) (λ y z. behind (eqb q.service 0) _ bs y z) (o.takens x k);
          since = o.since;
          low_lines = (omega arith, o.low_lines);
          low_keys = down-more (λ (g : Given). g.place) p (suc p) gs (omega arith) o.low_keys;
        }
      where
        no-house : eqb q.service 0 ≡ false
        no-house = go (either (eqb q.service 0))
          where
            go : (eqb q.service 0 ≡ true) ⊎ (eqb q.service 0 ≡ false) → eqb q.service 0 ≡ false
            go (inl e) = absurd (service (sym mine-is ∙ eqb-true q.service 0 e))
            go (inr e) = e

        tick : TicketOk c n o.model a h
        tick = ok.tickets h held

        asked-service : tick.asked.service ≡ v
        asked-service = tick.service ∙ ap (λ (x : Pass). x.service) pass ∙ mine-is

        ev : Event
        ev = events.again tick.asked (spell (words_of w))

        may : events.HoldsService (rules_of c n) o.model tick.asked × Gets o.model.air (spell (words_of w))
        may = (record { known = tick.known; a_service = λ e. service (sym asked-service ∙ e) }, gets-spell o.model.air (words_of w))

        t : State
        t = after (rules_of c n) ev o.model

        g : Change (rules_of c n) o.model t
        g = change (reached o.reach) ev may

        l₀ : Line
        l₀ = new_line o.model tick.asked.line.reader tick.asked.service (spell (words_of w))

        q₀ : Asked
        q₀ = new_asked o.model l₀ tick.asked.service tick.asked.key (spell (words_of w)) o.model.now tick.asked.upon tick.asked.since

        key_is : n.name q.key.0 ≡ tick.asked.key
        key_is = ap (λ (x : Pass). n.name x.key.0) (sym pass) ∙ sym tick.key

        word : asking_term n.name q.key (chest.asking_of (s.box a) q.key q.service (line.line_of (s.box a) v w)).inside ≡ events.asking_of q₀
        word =
            ap (λ (b : Bool). events.asking (n.name q.key.0) q.service (n.name (number_of (s.box a).left).0) (cond b (Num (get_or (cond b (two_bytes v) w).bytes 0 0 * 256 + get_or (cond b (two_bytes v) w).bytes 1 0)) (spell (words_of (cond b (two_bytes v) w)))) (cond b (s.box a).now (s.box a).now)) no-house
            ∙ (let i = key_is in
            let j = drawn-is _ new in
            let k = ok.now_is in
            let u : q.service ≡ tick.asked.service = mine-is ∙ sym asked-service in
            cc)

        stays : (j : ℕ) → BoxOk c n t j (s.box j)
        stays j = box-stays c n {m = o.model} {t = t} j (s.box j) refl g.grows (λ q y z. z.not_taken) (o.matches.box j)

        pending : Pending
        pending = record { number = number_of (s.box a).left; key = q.key; asks = q.service; line = line.line_of (s.box a) v w }

        mine : BoxOk c n t a (chest.asked (line.counted (s.box a)) q.key q.service (line.line_of (s.box a) v w))
        mine =
            record {
              now_is = ok.now_is;
              key_is = ok.key_is;
              logins = (stays a).logins;
              askings = λ y k e. askings y e (put-cases _ _ y k);
              tickets = (stays a).tickets;
            }
          where
            askings : (y : Pending) → y.asks ≡ 0 → (y ≡ pending) ⊎ Memᴰ y (s.box a).askings → PendingOk c n t a AskingHouse y
            askings y e (inl f) = absurd (service (sym mine-is ∙ sym (ap (λ (z : Pending). z.asks) f) ∙ e))
            askings y e (inr k) = (stays a).askings y k e

    pub wants-so : (by : Option ℕ) → Wanting c n s a v by w
        → Tied c n K (suc p)
        (with_sent (told_sent n.name (line.wanted (s.box a) v by w)) (told_drawn (line.wanted (s.box a) v by w)) (with_box a (line.wanted_after (s.box a) v by w) s))
        (line_told (line.wanted (s.box a) v by w) told ++ ls) gs (begun_told (line.wanted (s.box a) v by w) p a (s.box a).now ++ bs) ds xs
    wants-so by h = go (line.unread (s.box a).lines v w) (first_fault (line.line_conditions (s.box a) v by)) (line.pass_by by (s.box a).tickets) refl refl h.new
      where
        refused : Tied c n K (suc p) (with_box a (s.box a) s) ls gs bs ds xs
        refused = unseen c n o _ (matches-box c n s o.model a (s.box a) o.matches ok)

        right : (f : Option Fault) → first_fault (line.line_conditions (s.box a) v by) ≡ None → (eqb v 0 || line.misfit v (line.pass_by by (s.box a).tickets)) ≡ false
        right f e = let p2 = passed _ _ e in let p7 = passed _ _ p2.1 in (passed _ _ p7.1).0

        go : (b : Bool) (f : Option Fault) (k : Option Pass) → first_fault (line.line_conditions (s.box a) v by) ≡ f → line.pass_by by (s.box a).tickets ≡ k
            → New c n s (told_drawn (cond b (Err OutOfRange) (unless f (line.sent_by (s.box a) k (line.line_of (s.box a) v w)) Err)))
            → Tied c n K (suc p)
            (with_sent (told_sent n.name (cond b (Err OutOfRange) (unless f (line.sent_by (s.box a) k (line.line_of (s.box a) v w)) Err)))
            (told_drawn (cond b (Err OutOfRange) (unless f (line.sent_by (s.box a) k (line.line_of (s.box a) v w)) Err)))
            (with_box a (cond b (s.box a) (unless f (line.sent_after (s.box a) k (line.line_of (s.box a) v w)) (λ _. s.box a))) s))
            (line_told (cond b (Err OutOfRange) (unless f (line.sent_by (s.box a) k (line.line_of (s.box a) v w)) Err)) told ++ ls) gs
            (begun_told (cond b (Err OutOfRange) (unless f (line.sent_by (s.box a) k (line.line_of (s.box a) v w)) Err)) p a (s.box a).now ++ bs) ds xs
        go true f k e g new = refused
        go false (Some f) k e g new = refused
        go false None None e g new = login (λ z. clash (eq-eqb v 0 z) (or-false-left (eqb v 0) _ (right None e))) new
        go false None (Some q) e g new =
            which (fits (not-false _ (or-false-right (eqb v 0) (not (eqb q.service 0 || eqb q.service v)) (subst (λ (y : Option Pass). (eqb v 0 || line.misfit v y) ≡ false) g (right None e)))))
          where
            service : v ≡ 0 → ⊥
            service z = clash (eq-eqb v 0 z) (or-false-left (eqb v 0) _ (right None e))

            held : (h : Held (Unit {0})) × Memᴰ h (s.box a).tickets × (h.pass ≡ q)
            held = pass-by by (s.box a).tickets q g

            Goal : Type 0
            Goal =
                Tied c n K (suc p)
                (with_sent (told_sent n.name (Ok (Asks q.id (chest.asking_of (s.box a) q.key q.service (line.line_of (s.box a) v w))))) (told_drawn (Ok (Asks q.id (chest.asking_of (s.box a) q.key q.service (line.line_of (s.box a) v w)))))
                (with_box a (chest.asked (line.counted (s.box a)) q.key q.service (line.line_of (s.box a) v w)) s))
                (told ∷ ls) gs (begun_told (Ok (Asks q.id (chest.asking_of (s.box a) q.key q.service (line.line_of (s.box a) v w)))) p a (s.box a).now ++ bs) ds xs

            fits : (eqb q.service 0 || eqb q.service v) ≡ true → (eqb q.service 0 ≡ true) ⊎ (eqb q.service v ≡ true)
            fits y = or_cases (eqb q.service 0) (eqb q.service v) y

            which : (eqb q.service 0 ≡ true) ⊎ (eqb q.service v ≡ true) → Goal
            which (inl y) = by-house service q (eqb-true q.service 0 y) held.0 held.1 held.2 new
            which (inr y) = by_service service q (eqb-true q.service v y) held.0 held.1 held.2 new
