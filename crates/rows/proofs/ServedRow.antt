-- Six acts upon any row that can happen, and whoever is ready is served. Assumes nothing.
use Rattle.std.proofs.Common.{◌≡◌, ℕ, suc, ◌+◌, ◌≤◌, Bool, false, cond, ◌&&◌, eqb, ltb, List, [], ◌∷◌, ◌++◌, length, take, drop, Some, None, sym, refl, ap, ◌∙◌, subst, arith, length-drop, Ok}
use mathlib.Core.List.{Memᴰ}
use Rattle.std.proofs.lemmas.Bool.{eq-eqb, eqb-false, and_left, and_right, and_from, cond-true}
use Rattle.std.specs.Str.{bytes_eq}
use Rattle.parts.specs.Condition.{first_fault}
use Rattle.parts.specs.Drawn.{number_of, key_of}
use Rattle.parts.specs.declared.word.Asking.{Asking}
use Rattle.parts.specs.declared.word.Key.{Key}
use Rattle.parts.specs.declared.word.Letter.{Letter}
use Rattle.parts.specs.declared.word.Login.{Login}
use Rattle.parts.specs.declared.word.Number.{Number}
use Rattle.parts.specs.declared.word.Ticket.{Ticket}
use Rattle.parts.specs.declared.word.What.{What}
use Rattle.service_rules.specs.Service.{View, nobody}
use Rattle.service_rules.specs.Service as service
use Rattle.service_rules.specs.Service.{Answer}
use Rattle.service_rules.specs.declared.side.Side.{Side}
use Rattle.house_rules.specs.Account.{account_of, own_key}
use Rattle.parts.specs.Account.{is_absent}
use Rattle.house_rules.specs.Give.{giving}
use Rattle.house_rules.specs.House.{Home, until_of}
use Rattle.house_rules.specs.House as house
use Rattle.house_rules.specs.Give.{Reply}
use Rattle.box_rules.specs.Chest.{asked, asking_of, two_bytes}
use Rattle.box_rules.specs.Line as line
use Rattle.box_rules.specs.Letter as letter
use Rattle.box_rules.specs.Line.{Told}
use Rattle.box_rules.specs.declared.answer.Answer.TheVariants as told
use Rattle.box_rules.specs.declared.line.Line.{Line}
use Rattle.box_rules.specs.declared.line.Sought.TheVariants.{AtHouse, Login as ByNumber}
use Rattle.box_rules.specs.declared.line.Under.TheVariants.{Own as OwnKey, Session}
use Rattle.tickets.specs.Term.{Term, Gets, even, has}
use Rattle.tickets.proofs.Bools.{or-false-left}
use Rattle.rows.specs.Name.{Bytes, Naming, own_of}
use Rattle.rows.specs.Word.{words_of, told_sent, told_drawn, reply_sent, reply_drawn, ticket_term, letter_term, asking_term, login_term, receipt_term, answer_sent}
use Rattle.rows.specs.Setting.{Setting}
use Rattle.rows.specs.System.{System, Box, at, step, run, Can, Possible, New, wants, logs_in, takes, asks_house, asks, with_home, with_box, with_sent}
use Rattle.rows.specs.Row.{Deed, deed_told, deeds, Wanted, line_told, lines}
use Rattle.rows.specs.Served.{Ready, Served, first_login, house_ticket, house_letter, house_asking, service_ticket, service_letter, service_asking, new_deed, wanted_line, six_calls, six_sent}
use Rattle.rows.proofs.Names.{same_refl}
use Rattle.rows.proofs.ServedSteady.{Steady, row-steady, at-either, unless-either, below-take}
use Rattle.rows.proofs.ServedActs.{line-answer, line_after, login-answer, login-after, letter-answer, letter-after, oldest-newest, not-under-way, HouseFine, house-answer, house-after, given_for, ServiceFine, service-answer}

-- the changed one of many
at_here : {A : Type 0} (k : ℕ) (x : A) (f : ℕ → A) → at k x f k ≡ x
at_here k x f = cond-true (eqb k k) x (f k) (eq-eqb k k refl)

-- the house, and the box of a, as they are seen in a system, with what was sent and drawn
record Looks (a : ℕ) (s : System) (h : Home) (b : Box) (air : List Term) (used : List Bytes) : Type 0 where
  home : s.home ≡ h
  box : s.box a ≡ b
  air-is : s.air ≡ air
  used-is : s.used ≡ used

module _ (name : Bytes → Term) (a : ℕ) where
  -- a box, or the house, answers
  box-looks : {s : System} {h : Home} {b : Box} {air : List Term} {used : List Bytes} → Looks a s h b air used → {r r' : Told} → r ≡ r' → {x x' : Box} → x ≡ x'
      → Looks a (with_sent (told_sent name r) (told_drawn r) (with_box a x s)) h x' (told_sent name r' ++ air) (told_drawn r' ++ used)
  box-looks {s} l {r} {r'} p {x} q =
      record {
        home = l.home;
        box = at_here a x s.box ∙ q;
        air-is = ap (λ (y : Told). told_sent name y ++ s.air) p ∙ ap (λ (y : List Term). told_sent name r' ++ y) l.air-is;
        used-is = ap (λ (y : Told). told_drawn y ++ s.used) p ∙ ap (λ (y : List Bytes). told_drawn r' ++ y) l.used-is;
      }

  home-looks : {s : System} {h : Home} {b : Box} {air : List Term} {used : List Bytes} → Looks a s h b air used → {r r' : Reply} → r ≡ r' → {x x' : Home} → x ≡ x'
      → Looks a (with_sent (reply_sent name r) (reply_drawn r) (with_home x s)) x' b (reply_sent name r' ++ air) (reply_drawn r' ++ used)
  home-looks {s} l {r} {r'} p q =
      record {
        home = q;
        box = l.box;
        air-is = ap (λ (y : Reply). reply_sent name y ++ s.air) p ∙ ap (λ (y : List Term). reply_sent name r' ++ y) l.air-is;
        used-is = ap (λ (y : Reply). reply_drawn y ++ s.used) p ∙ ap (λ (y : List Bytes). reply_drawn r' ++ y) l.used-is;
      }

module _ (c : Setting) (n : Naming c.own) (s : System) (a v : ℕ) (w : What) where
  -- the box, the house, and what the six acts bring
  abbrev b : Box
  b = s.box a

  abbrev h : Home
  h = s.home

  abbrev the_line : Line
  the_line = line.line_of b v w

  abbrev m₁ : Number
  m₁ = number_of b.left

  abbrev m₂ : Number
  m₂ = number_of (drop 32 b.left)

  abbrev m₃ : Number
  m₃ = number_of (drop 32 (drop 32 b.left))

  abbrev k₁ : Key
  k₁ = key_of h.left

  abbrev k₂ : Key
  k₂ = key_of (drop 64 h.left)

  abbrev login₁ : Login
  login₁ = first_login b

  abbrev ticket₁ : Ticket
  ticket₁ = house_ticket h a

  abbrev letter₁ : Letter
  letter₁ = house_letter b h

  abbrev asking₁ : Asking
  asking₁ = house_asking b v

  abbrev ticket₂ : Ticket
  ticket₂ = service_ticket h a v

  abbrev letter₂ : Letter
  letter₂ = service_letter b h v

  abbrev asking₂ : Asking
  asking₂ = service_asking b v w

  -- the house and the box on the way
  abbrev h₁ : Home
  h₁ = house.drew h

  abbrev b₁ : Box
  b₁ = line.logged_in (line.counted b) the_line

  abbrev b₂ : Box
  b₂ = asked (letter.stored (letter.settled b₁ OwnKey letter₁) letter₁ tt) k₁ 0 the_line

  -- the five systems on the way, and the last
  abbrev s₁ : System
  s₁ = step c n (wants a v None w) s

  abbrev s₂ : System
  s₂ = step c n (logs_in a login₁) s₁

  abbrev s₃ : System
  s₃ = step c n (takes a OwnKey letter₁) s₂

  abbrev s₄ : System
  s₄ = step c n (asks_house ticket₁ asking₁) s₃

  abbrev s₅ : System
  s₅ = step c n (takes a (Session k₁) letter₂) s₄

  abbrev s₆ : System
  s₆ = step c n (asks v ticket₂ asking₂) s₅

  -- what is sent
  abbrev air₁ : List Term
  air₁ = login_term n.name b.key login₁ ∷ s.air

  abbrev air₂ : List Term
  air₂ = ticket_term n.name h.key ticket₁ ∷ letter_term n.name (own_key h.accounts a) letter₁ ∷ air₁

  abbrev air₃ : List Term
  air₃ = asking_term n.name k₁ asking₁ ∷ air₂

  abbrev air₄ : List Term
  air₄ = ticket_term n.name (own_key h.accounts v) ticket₂ ∷ letter_term n.name k₁ letter₂ ∷ air₃

  abbrev air₅ : List Term
  air₅ = asking_term n.name k₂ asking₂ ∷ air₄

  -- what is drawn
  abbrev used₁ : List Bytes
  used₁ = m₁.0 ∷ s.used

  abbrev used₂ : List Bytes
  used₂ = k₁.0 ∷ used₁

  abbrev used₃ : List Bytes
  used₃ = m₂.0 ∷ used₂

  abbrev used₄ : List Bytes
  used₄ = k₂.0 ∷ used₃

  abbrev used₅ : List Bytes
  used₅ = m₃.0 ∷ used₄

  -- the digest that the house remembers
  abbrev digest₁ : ℕ
  digest₁ = c.digest k₁ m₂

  module _ (o : Steady c n s) (r : Ready c n s a v w) where
    service-there : nobody v ≡ false
    service-there = or-false-left (nobody v) (is_absent (account_of h.accounts v)) r.service_known

    not-house : eqb v 0 ≡ false
    not-house = or-false-left (eqb v 0) (ltb 1023 v) service-there

    reader-there : nobody a ≡ false
    reader-there = or-false-left (nobody a) (is_absent (account_of h.accounts a)) r.known

    -- the account has the key that the box has
    own-a : own_key h.accounts a ≡ b.key
    own-a = (o.accounts a r.known).own ∙ sym (o.boxes a).key_is

    drawn₂ : 32 ≤ length (drop 32 b.left)
    drawn₂ = let e = length-drop 32 b.left in let d = r.box_at_work.drawn in omega arith

    drawn₃ : 32 ≤ length (drop 32 (drop 32 b.left))
    drawn₃ = let e = length-drop 32 b.left in let f = length-drop 32 (drop 32 b.left) in let d = r.box_at_work.drawn in omega arith

    home-drawn : 64 ≤ length (drop 64 h.left)
    home-drawn = let e = length-drop 64 h.left in let d = r.house_at_work.drawn in omega arith

    -- 1: the line
    wanted₁ : line.wanted b v None w ≡ Ok (told.LogsIn (line.login_of b))
    wanted₁ = line-answer b v w service-there r.words r.box_at_work.lines (let d = r.box_at_work.drawn in omega arith)

    looks₁ : Looks a s₁ h b₁ air₁ used₁
    looks₁ =
        box-looks n.name a {s = s} {b = b} (record { home = refl; box = refl; air-is = refl; used-is = refl }) wanted₁
        (line_after b v w service-there r.words r.box_at_work.lines (let d = r.box_at_work.drawn in omega arith))

    can₁ : Can c n s (wants a v None w)
    can₁ = record { reader = r.reader; new = subst (λ (x : Told). New c n s (told_drawn x)) (sym wanted₁) r.draws.0 }

    -- 2: the login
    logged₂ : house.logged_in s₁.home a login₁ ≡ giving (until_of h) h.left (house.login_given h a login₁)
    logged₂ = login-answer h a login₁ r.known r.is_open (o.boxes a).now_is (let d = r.house_at_work.drawn in omega arith) r.house_at_work.awake

    looks₂ : Looks a s₂ h₁ b₁ air₂ used₂
    looks₂ =
        home-looks n.name a {s = s₁} looks₁ logged₂
        (login-after h a login₁ r.known r.is_open (o.boxes a).now_is (let d = r.house_at_work.drawn in omega arith) r.house_at_work.awake)

    can₂ : Can c n s₁ (logs_in a login₁)
    can₂ =
        record {
          reader = r.reader;
          login =
              subst (λ (x : List Term). Gets x (login_term n.name (own_key h.accounts a) login₁)) (sym looks₁.air-is)
              (has (Memᴰ.head (ap (λ (k : Key). login_term n.name k login₁) own-a)));
          new =
              subst (λ (x : Reply). New c n s₁ (reply_drawn x)) (sym logged₂)
              (subst (λ (x : List Bytes). n.name k₁.0 ≡ even (suc (length x))) (sym looks₁.used-is) r.draws.1.0);
        }

    -- 3: the letter of the house
    pending₃ : letter.pending_for b₁ OwnKey letter₁ ≡ Some (record { number = m₁; key = b.key; asks = 0; line = the_line })
    pending₃ =
        oldest-newest (ByNumber m₁) (record { number = m₁; key = b.key; asks = 0; line = the_line }) (take 15 b.logins)
        (same_refl m₁.0)
        (not-under-way c n (length s.used) (suc (length s.used)) (take 15 b.logins) m₁.0
        (below-take c n (length s.used) 15 b.logins (o.boxes a).logins) r.draws.0 (omega arith))

    taken₃ : letter.taken (s₂.box a) OwnKey letter₁
        ≡ Ok (told.Takes (record { id = b.taken + 1; service = 0; until = until_of h }) (asking_of b₁ k₁ 0 the_line))
    taken₃ =
        ap (λ (x : Box). letter.taken x OwnKey letter₁) looks₂.box
        ∙ letter-answer b₁ OwnKey letter₁ _ pending₃ drawn₂ (let d = r.box_at_work.tickets in omega arith)

    looks₃ : Looks a s₃ h₁ b₂ air₃ used₃
    looks₃ =
        box-looks n.name a {s = s₂} looks₂ taken₃
        (ap (λ (x : Box). letter.taken_after x OwnKey letter₁ tt) looks₂.box
        ∙ letter-after b₁ OwnKey letter₁ _ pending₃ drawn₂ (let d = r.box_at_work.tickets in omega arith))

    can₃ : Can c n s₂ (takes a OwnKey letter₁)
    can₃ =
        record {
          reader = r.reader;
          letter_heard =
              subst (λ (x : List Term). Gets x (letter_term n.name (s₂.box a).key letter₁)) (sym looks₂.air-is)
              (has (Memᴰ.tail (Memᴰ.head (ap (λ (k : Key). letter_term n.name k letter₁) (ap (λ (x : Box). x.key) looks₂.box ∙ sym own-a)))));
          new =
              subst (λ (x : Told). New c n s₂ (told_drawn x)) (sym taken₃)
              (subst (λ (x : List Bytes). n.name m₂.0 ≡ even (suc (length x))) (sym looks₂.used-is) r.draws.1.1.0);
        }

    -- 4: the asking for the house
    fine₄ : HouseFine h₁ a v (until_of h) b.now digest₁
    fine₄ =
        record {
          known = r.known;
          there = r.service_known;
          is_open = r.is_open;
          in_time = (o.boxes a).now_is;
          is_good = omega arith;
          is-new = r.house_digest;
          room = r.house_at_work.room;
          drawn = home-drawn;
          awake = r.house_at_work.awake;
          writes = r.house_at_work.writes;
        }

    answered₄ : house.answered s₃.home ticket₁ asking₁ digest₁
        ≡ giving (until_of h) (drop 64 h.left) (given_for h₁ a v k₁ m₂ b.now)
    answered₄ =
        ap (λ (x : Home). house.answered x ticket₁ asking₁ digest₁) looks₃.home
        ∙ house-answer h₁ a v k₁ m₂ (until_of h) b.now digest₁ fine₄

    looks₄ : Looks a s₄ (house.drew (house.noted h₁ digest₁)) b₂ air₄ used₄
    looks₄ =
        home-looks n.name a {s = s₃} looks₃ answered₄
        (ap (λ (x : Home). house.after x ticket₁ asking₁ digest₁) looks₃.home
        ∙ house-after h₁ a v k₁ m₂ (until_of h) b.now digest₁ fine₄)

    can₄ : Can c n s₃ (asks_house ticket₁ asking₁)
    can₄ =
        record {
          ticket =
              subst (λ (x : List Term). Gets x (ticket_term n.name s₃.home.key ticket₁)) (sym looks₃.air-is)
              (has (Memᴰ.tail (Memᴰ.head (ap (λ (x : Home). ticket_term n.name x.key ticket₁) looks₃.home))));
          asking =
              subst (λ (x : List Term). Gets x (asking_term n.name k₁ asking₁)) (sym looks₃.air-is)
              (has (Memᴰ.head refl));
          new =
              subst (λ (x : Reply). New c n s₃ (reply_drawn x)) (sym answered₄)
              (subst (λ (x : List Bytes). n.name k₂.0 ≡ even (suc (length x))) (sym looks₃.used-is) r.draws.1.1.1.0);
        }

    -- 5: the letter for the service
    pending₅ : letter.pending_for b₂ (Session k₁) letter₂
        ≡ Some (record { number = m₂; key = k₁; asks = 0; line = the_line })
    pending₅ =
        oldest-newest (AtHouse k₁ m₂ v) (record { number = m₂; key = k₁; asks = 0; line = the_line }) (take 15 b.askings)
        (and_from (bytes_eq k₁.0 k₁.0) (bytes_eq m₂.0 m₂.0 && eqb v v) (same_refl k₁.0)
        (and_from (bytes_eq m₂.0 m₂.0) (eqb v v) (same_refl m₂.0) (eq-eqb v v refl)))
        (λ p m.
        and_right (eqb p.asks 0) _ (and_right (bytes_eq p.key.0 k₁.0) _ (and_left (bytes_eq p.number.0 m₂.0) (eqb p.line.service v)
        (not-under-way c n (length s.used) (suc (length used₂)) (take 15 b.askings) m₂.0
        (below-take c n (length s.used) 15 b.askings (o.boxes a).askings) r.draws.1.1.0 (omega arith) p m))))

    taken₅ : letter.taken (s₄.box a) (Session k₁) letter₂
        ≡ Ok (told.Takes (record { id = b.taken + 1 + 1; service = v; until = until_of h }) (asking_of b₂ k₂ v the_line))
    taken₅ =
        ap (λ (x : Box). letter.taken x (Session k₁) letter₂) looks₄.box
        ∙ letter-answer b₂ (Session k₁) letter₂ _ pending₅ drawn₃ r.box_at_work.tickets

    -- what is asked is the line's words, at the line's tick
    asking₅ : (asking_of b₂ k₂ v the_line).inside ≡ asking₂
    asking₅ =
        ap (λ (e : Bool). record { service = v; number = m₃; what = cond e (two_bytes v) w; tick = cond e b.now b.now }) not-house

    air-is₅ : s₅.air ≡ air₅
    air-is₅ =
        ap (λ (x : Told). told_sent n.name x ++ s₄.air) taken₅
        ∙ (ap (λ (x : Asking). asking_term n.name k₂ x ∷ s₄.air) asking₅
        ∙ ap (λ (x : List Term). asking_term n.name k₂ asking₂ ∷ x) looks₄.air-is)

    can₅ : Can c n s₄ (takes a (Session k₁) letter₂)
    can₅ =
        record {
          reader = r.reader;
          letter_heard =
              subst (λ (x : List Term). Gets x (letter_term n.name k₁ letter₂)) (sym looks₄.air-is)
              (has (Memᴰ.tail (Memᴰ.head refl)));
          new =
              subst (λ (x : Told). New c n s₄ (told_drawn x)) (sym taken₅)
              (subst (λ (x : List Bytes). n.name m₃.0 ≡ even (suc (length x))) (sym looks₄.used-is) r.draws.1.1.1.1.0);
        }

    -- 6: the asking to the service
    abbrev digest₂ : ℕ
    digest₂ = c.digest k₂ m₃

    fine₆ : ServiceFine (s.side v) a v (until_of h) b.now digest₂
    fine₆ =
        record {
          somebody = reader-there;
          number_is = (o.sides v).number_is;
          in_time = (o.boxes a).now_is ∙ sym (o.sides v).now_is;
          is_good = let e = (o.sides v).now_is in omega arith;
          is-new = r.digest;
          room = r.at_work.room;
          drawn = r.at_work.drawn;
          awake = r.at_work.awake;
          writes = r.at_work.writes;
        }

    answered₆ : service.answered (s₅.side v) ticket₂ asking₂ digest₂
        ≡ service.done (service.deed_of ticket₂ asking₂) (service.receipt_of (s.side v) ticket₂ asking₂)
    answered₆ = service-answer (s.side v) a v k₂ m₃ w (until_of h) b.now digest₂ fine₆

    can₆ : Can c n s₅ (asks v ticket₂ asking₂)
    can₆ =
        record {
          a_service = eqb-false v 0 not-house;
          there = (o.accounts v r.service_known).there;
          ticket =
              subst (λ (x : List Term). Gets x (ticket_term n.name (own_of c.own v) ticket₂)) (sym air-is₅)
              (has (Memᴰ.tail (Memᴰ.head (ap (λ (k : Key). ticket_term n.name k ticket₂) (sym (o.accounts v r.service_known).own)))));
          asking =
              subst (λ (x : List Term). Gets x (asking_term n.name k₂ asking₂)) (sym air-is₅)
              (has (Memᴰ.head refl));
        }

    -- all that was sent; own: the keys of the account of a, and of v, and of the box
    abbrev sent_by : (own-a own-v own-b : Key) → List Term
    sent_by x y z =
        receipt_term n.name k₂ (record { number = m₃ })
        ∷ asking_term n.name k₂ asking₂
        ∷ ticket_term n.name y ticket₂
        ∷ letter_term n.name k₁ letter₂
        ∷ asking_term n.name k₁ asking₁
        ∷ ticket_term n.name h.key ticket₁
        ∷ letter_term n.name x letter₁
        ∷ login_term n.name z login₁
        ∷ s.air

    air-is₆ : s₆.air ≡ six_sent c n s a v w ++ s.air
    air-is₆ =
        ap (λ (x : Answer). answer_sent n.name x ++ s₅.air) answered₆
        ∙ (ap (λ (x : List Term). receipt_term n.name k₂ (record { number = m₃ }) ∷ x) air-is₅
        ∙ (ap (λ (x : Key). sent_by x (own_key h.accounts v) b.key) (o.accounts a r.known).own
        ∙ (ap (λ (y : Key). sent_by (own_of c.own a) y b.key) (o.accounts v r.service_known).own
        ∙ ap (λ (z : Key). sent_by (own_of c.own a) (own_of c.own v) z) (o.boxes a).key_is)))

    -- nothing else is changed
    house-same : s₆.home.side ≡ h.side
    house-same = ap (λ (h : Home). h.side) looks₄.home

    accounts-same : s₆.home.accounts ≡ h.accounts
    accounts-same = ap (λ (h : Home). h.accounts) looks₄.home

    sides-same : (j : ℕ) → (s₆.side j).side ≡ (s.side j).side
    sides-same j =
        at-either (λ (i : ℕ) (x : View). x.side ≡ (s.side i).side) v (service.after (s.side v) ticket₂ asking₂ digest₂) s.side
        (unless-either (λ (x : View). x.side ≡ (s.side v).side) (first_fault (service.conditions (s.side v) ticket₂ asking₂ digest₂)) (service.done_by (s.side v) digest₂) (λ _. s.side v) refl (λ _. refl)) j refl

    -- the line and the deed
    abbrev line_at : (p t : ℕ) → List Wanted
    line_at p t = record { place = p; reader = a; service = v; what = words_of w; at = t } ∷ []

    line-told : (p : ℕ) → line_told (line.wanted b v None w) (record { place = p; reader = a; service = v; what = words_of w; at = b.now }) ≡ wanted_line s p a v w ∷ []
    line-told p =
        ap (λ (x : Told). line_told x (record { place = p; reader = a; service = v; what = words_of w; at = b.now })) wanted₁
        ∙ ap (λ (t : ℕ). line_at p t) (o.boxes a).now_is

    abbrev deed_at : (p t : ℕ) → List Deed
    deed_at p t =
        record {
          place = p;
          service = v;
          reader = a;
          key = k₂.0;
          number = m₃.0;
          what = words_of w;
          at = t;
          stolen = s.stolen;
        }
        ∷ []

    deed-told : (p q : ℕ) → p ≡ q + 5
        → deed_told (service.answered (s₅.side v) ticket₂ asking₂ digest₂) p v (s₅.side v).side.now s₅.stolen ≡ new_deed s q a v w ∷ []
    deed-told p q e =
        ap (λ (x : Answer). deed_told x p v (s.side v).side.now s.stolen) answered₆
        ∙ (ap (λ (t : ℕ). deed_at p t) (o.sides v).now_is
        ∙ ap (λ (i : ℕ). deed_at i h.side.now) e)

module _ (c : Setting) (n : Naming c.own) where
  pub served : Served c n
  served t es p a v w r =
      let s = run c n t es in
      let o = row-steady c n t es p in
      let all : Possible c n t (six_calls s a v w ++ es) = (can₆ c n s a v w o r, (can₅ c n s a v w o r, (can₄ c n s a v w o r, (can₃ c n s a v w o r, (can₂ c n s a v w o r, (can₁ c n s a v w o r, p)))))) in
      record {
        possible = all;
        deed = ap (λ (x : List Deed). x ++ deeds c n t es) (deed-told c n s a v w o r (suc (suc (suc (suc (suc (length es)))))) (length es) (omega arith));
        line = ap (λ (x : List Wanted). x ++ lines c n t es) (line-told c n s a v w o r (length es));
        sent = air-is₆ c n s a v w o r;
        same =
            record {
              stolen = refl;
              accounts = accounts-same c n s a v w o r;
              house = house-same c n s a v w o r;
              sides = sides-same c n s a v w o r;
              boxes =
                  λ j. ((row-steady c n t (six_calls s a v w ++ es) all).boxes j).now_is ∙ (ap (λ (x : Side). x.now) (house-same c n s a v w o r) ∙ sym (o.boxes j).now_is);
            };
      }
