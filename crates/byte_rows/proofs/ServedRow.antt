-- Six calls upon any row that meets the premises, and whoever is ready is served. Assumes nothing.
use Rattle.std.proofs.Common.{◌≡◌, ℕ, suc, ◌+◌, ◌-◌, ◌^◌, ◌<◌, ◌≤◌, Bool, true, false, cond, ◌&&◌, eqb, ltb, ◌⊎◌, List, [], ◌∷◌, ◌++◌, length, take, drop, replicate, Some, None, Ok, Err, Option, Result, sym, refl, ap, ◌∙◌, subst, inl, inr, arith, length-drop}
use Rattle.box_rules.specs.Chest.{Boxed, asked, asking_of, ticket_of, two_bytes}
use Rattle.box_rules.specs.Keys.{from_end, house_keys, is_house, letter_keys, stray_keys}
use Rattle.byte_rows.proofs.FromEnd.{from_end-cons}
use Rattle.box_rules.specs.Letter.{letter_conditions, pending_for, settled, stored, taken, taken_after, taken_by, taken_from}
use Rattle.box_rules.specs.Line.{counted, line_conditions, logged_in, login_of, unread, wanted, wanted_after}
use Rattle.box_rules.specs.Line.{Told}
use Rattle.box_rules.specs.declared.answer.Answer.TheVariants as told
use Rattle.box_rules.specs.declared.answer.Got.{Got}
use Rattle.box_rules.specs.declared.line.Held.{Held}
use Rattle.box_rules.specs.declared.line.Line.{Line}
use Rattle.box_rules.specs.declared.line.Pending.{Pending}
use Rattle.box_rules.specs.declared.line.Sought.TheVariants.{AtHouse, Login as ByNumber}
use Rattle.box_rules.specs.declared.line.Under.{Under}
use Rattle.box_rules.specs.declared.line.Under.TheVariants.{Own as OwnKey, Session}
use Rattle.box_side.proofs.Tickets.{taken-by, wanted_by}
use Rattle.box_side.specs.Box as box
use Rattle.box_side.specs.Box.{opens_first, under_of}
use Rattle.byte_rows.proofs.Fits.{InRange, fits, fronts, lock-fits, long-asking, long-letter, long-login, long-ticket, ranges}
use Rattle.byte_rows.proofs.Promises.{row_same}
use Rattle.byte_rows.proofs.Ranges.{BoxOk, GoodAsking, GoodReply, GoodTold, ask-good, login-good, taken-good, wanted-good}
use Rattle.byte_rows.proofs.Reading.{opened-first}
use Rattle.byte_rows.proofs.Simulates.{C, N, blind, seen}
use Rattle.byte_rows.specs.Premise.{Fair, whole_of}
use Rattle.byte_rows.specs.Row.{deeds, lines}
use Rattle.byte_rows.specs.Served as six
use Rattle.byte_rows.specs.Served.{Ends, Opens, Ready, Served}
use Rattle.byte_rows.specs.System.{Basis, Bytewise, Call, answered, box_says, box_word, brings, read_by_house, replied, reply_made, run, sent_word, step, told_by, wants}
use Rattle.byte_rows.specs.System as bytes
use Rattle.codec.proofs.Insides.{asking-codec, cond-both-true, letter-codec, login-codec, ticket-codec}
use Rattle.codec.proofs.Words.{word-codec}
use Rattle.contents.specs.Inside.{read_asking, read_letter, read_login, read_ticket, write_asking, write_letter, write_login, write_ticket}
use Rattle.house_rules.specs.Account.{account_of, own_key, unknown}
use Rattle.parts.specs.Account.{is_absent}
use Rattle.house_rules.specs.Give.{giving}
use Rattle.house_rules.specs.House.{Home, until_of}
use Rattle.house_rules.specs.House as house-rules
use Rattle.house_rules.specs.Give.{Reply}
use Rattle.house_side.specs.House as house
use Rattle.locked.specs.Locked.{Bytes, Locks, Tried, asked_of, asking_in, asking_lock, asking_ok, digest_of, letter_lock, login_lock, opened_as, ticket_in, ticket_lock, what_in, words_in}
use Rattle.locked.specs.Locked as locked
use Rattle.parts.specs.Condition.{first_fault, unless}
use Rattle.parts.specs.Drawn.{number_of}
use Rattle.parts.specs.declared.fault.Fault.{Fault}
use Rattle.parts.specs.declared.fault.Fault.TheVariants.{OutOfRange, Unknown}
use Rattle.parts.specs.declared.lock.Lock.{Lock}
use Rattle.parts.specs.declared.word.Asking.{Asking}
use Rattle.parts.specs.declared.word.Key.{Key}
use Rattle.parts.specs.declared.word.Letter.{Letter}
use Rattle.parts.specs.declared.word.Login.{Login}
use Rattle.parts.specs.declared.word.Number.{Number}
use Rattle.parts.specs.declared.word.Ticket.{Ticket}
use Rattle.parts.specs.declared.word.What.{What}
use Rattle.rows.proofs.Names.{own-there, same-eq, same_refl}
use Rattle.rows.proofs.ServedActs.{HouseFine, ServiceFine, given_for, house-after, house-answer, letter-answer, line-answer, login-after, login-answer, oldest-newest, service-answer}
use Rattle.rows.proofs.ServedSteady.{Below, Steady, row-steady}
use Rattle.rows.proofs.Tables.{mem-take}
use Rattle.rows.specs.Name.{draw_name, named, name_of, own_name, own_of, spell}
use Rattle.rows.specs.Row.{Deed, Wanted, deed_told, line_told}
use Rattle.rows.specs.System.{House, Reader, Service, System, at}
use Rattle.rows.specs.Word.{reply_drawn, words_of}
use Rattle.service_rules.specs.Service.{View, nobody}
use Rattle.service_rules.specs.Service as service-rules
use Rattle.service_rules.specs.Service.{Answer}
use Rattle.service_side.specs.Service as service
use Rattle.std.proofs.lemmas.List.{take_at}
use Rattle.std.proofs.lemmas.Bool.{and_from, and_left, and_right, cond-true, eq-eqb, eqb-true, ltb-false}
use Rattle.std.specs.Str.{bytes_eq}
use Rattle.tickets.proofs.Bools.{either, or-false-left, or-false-right}
use Rattle.tickets.specs.Term.{Own, Term, even}
use Rattle.wire.specs.Word.{Frame, framed, lock_fits}
use Rattle.wire.specs.Word as frame
use mathlib.Core.List.Memᴰ
use mathlib.Core.List.{Memᴰ}

-- the changed one of many
at_here : {A : Type 0} (k : ℕ) (x : A) (f : ℕ → A) → at k x f k ≡ x
at_here k x f = cond-true (eqb k k) x (f k) (eq-eqb k k refl)

-- bytes that are neither drawn nor own are no draw
not-even : (own : List Key) (ds : List Bytes) (x : Bytes) (i : ℕ) → draw_name ds x ≡ None → name_of own ds x ≡ even i → ⊥
unfolding spell
not-even own ds x i d e = go (own_name own 0 x) x (subst (λ (o : Option ℕ). named Own (own_name own 0 x) (named even o (spell x)) ≡ even i) d e)
  where
    go : (o : Option ℕ) (y : Bytes) → named Own o (spell y) ≡ even i → ⊥
    go (Some k) y f = let z : ◌≡◌ {A = ℕ} 0 1 = cc in omega arith
    go None [] f = let z : ◌≡◌ {A = ℕ} 0 1 = cc in omega arith
    go None (b ∷ y) f = let z : ◌≡◌ {A = ℕ} 0 1 = cc in omega arith

-- an answer that is no refusal, and what is left then
line-left : (b b' : Boxed Bytes) (x : Lock Login) (u : Bool) (o : Option Fault) → cond u (Err OutOfRange) (unless o (Ok (told.LogsIn x)) Err) ≡ Ok (told.LogsIn x) → cond u b (unless o b' (λ _. b)) ≡ b'
line-left b b' x true o e = absurd (let z : ◌≡◌ {A = ℕ} 0 1 = cc in omega arith)
line-left b b' x false (Some f) e = absurd (let z : ◌≡◌ {A = ℕ} 0 1 = cc in omega arith)
line-left b b' x false None e = refl

letter-left : (b b' : Boxed Bytes) (r : Told) (d : Got) (q : Lock Asking) (o : Option Fault) → unless o r Err ≡ Ok (told.Takes d q) → unless o b' (λ _. b) ≡ b'
letter-left b b' r d q (Some f) e = absurd (let z : ◌≡◌ {A = ℕ} 0 1 = cc in omega arith)
letter-left b b' r d q None e = refl

-- the newest ticket is found by its id
newest : (i : ℕ) (h : Held Bytes) (hs : List (Held Bytes)) → h.pass.id ≡ i → ticket_of i (h ∷ hs) ≡ Some h.ticket
newest i h hs e = cond-true (eqb h.pass.id i) (Some h.ticket) (ticket_of i hs) (eq-eqb h.pass.id i e)

-- words in fixed size and back
words_back : (bs : Bytes) → words_of (what_in bs) ≡ bs
words_back bs = take_at bs (replicate (1024 - length bs) 0) (length bs) refl

two_back : (v : ℕ) → what_in (words_in (two_bytes v)) ≡ two_bytes v
two_back v = refl

module _ (l : Locks) where
  -- words that are read
  reads-login : (h : Home) (w : Bytes) (n : ℕ) (lock inside : Bytes) (x : Login) → framed w ≡ Ok (frame.login n lock) → unknown h.accounts n ≡ false
      → l.opens 4 (own_key h.accounts n).0 lock ≡ Some inside → read_login inside ≡ Ok x → house.read_at_house l h w ≡ house.logs n x
  reads-login h w n lock inside x f k o r =
      ap (λ (z : Result Frame Fault). elim z [ Ok y ↦ house.read_frame l h y | Err y ↦ house.wrong y ]) f
      ∙ ap (λ (u : Bool). cond u (house.wrong Unknown) (elim (opened_as read_login (l.opens 4 (own_key h.accounts n).0 lock)) [ Ok y ↦ house.logs n y | Err y ↦ house.wrong y ])) k
      ∙ ap (λ (z : Option Bytes). elim (opened_as read_login z) [ Ok y ↦ house.logs n y | Err y ↦ house.wrong y ]) o
      ∙ ap (λ (z : Result Login Fault). elim z [ Ok y ↦ house.logs n y | Err y ↦ house.wrong y ]) r

  reads-asking : (h : Home) (w tk qb : Bytes) (t : Ticket) (q : Asking) → framed w ≡ Ok (frame.asking tk qb) → ticket_in l h.key tk ≡ Ok t → asking_in l t.key qb ≡ Ok q → house.read_at_house l h w ≡ house.asks t q
  reads-asking h w tk qb t q f i j =
      ap (λ (z : Result Frame Fault). elim z [ Ok y ↦ house.read_frame l h y | Err y ↦ house.wrong y ]) f
      ∙ ap (λ (z : Result Ticket Fault). house.asking_under l qb z) i
      ∙ ap (λ (z : Result Asking Fault). elim z [ Ok y ↦ house.asks t y | Err y ↦ house.wrong y ]) j

  reads-service : (k : Key) (w tk qb : Bytes) (t : Ticket) (q : Asking) → framed w ≡ Ok (frame.asking tk qb) → ticket_in l k tk ≡ Ok t → asking_in l t.key qb ≡ Ok q → service.read_at_service l k w ≡ service.asks t q
  reads-service k w tk qb t q f i j =
      ap (λ (z : Result Frame Fault). elim z [ Ok y ↦ service.read_frame l k y | Err y ↦ service.wrong y ]) f
      ∙ ap (λ (z : Result Ticket Fault). service.asking_under l qb z) i
      ∙ ap (λ (z : Result Asking Fault). elim z [ Ok y ↦ service.asks t y | Err y ↦ service.wrong y ]) j

  reads-letter : (b : Boxed Bytes) (w tk lb : Bytes) (d : Tried) (x : Letter) → framed w ≡ Ok (frame.ticket_and_letter tk lb) → opens_first l 2 0 (letter_keys b) lb ≡ Some d → read_letter d.inside ≡ Ok x
      → box.read_at_box l b w ≡ box.brings tk (under_of d.place d.key) x
  reads-letter b w tk lb d x f o r =
      ap (λ (z : Result Frame Fault). elim z [ Ok y ↦ box.read_frame l b y | Err y ↦ box.wrong y ]) f
      ∙ ap (λ (z : Option Tried). box.letter_read tk z) o
      ∙ ap (λ (z : Result Letter Fault). elim z [ Ok y ↦ box.brings tk (under_of d.place d.key) y | Err y ↦ box.wrong y ]) r

  -- locks that open
  opens-ticket : Opens l → (x : Lock Ticket) (k : Key) → k ≡ x.key → length x.salt.0 ≡ 16 → read_ticket (write_ticket x.inside) ≡ Ok x.inside → ticket_in l k (ticket_lock l x) ≡ Ok x.inside
  opens-ticket op x k e n r =
      ap (λ (z : Key). ticket_in l z (ticket_lock l x)) e
      ∙ ap (λ (o : Option Bytes). opened_as read_ticket o) (op 1 x.key.0 x.salt.0 (write_ticket x.inside) n) ∙ r

  opens-asking : Opens l → (x : Lock Asking) → GoodAsking x → asking_in l x.key (asking_lock l x) ≡ Ok (locked.asking_of (asked_of x.inside))
  opens-asking op x f =
      ap (λ (o : Option Bytes). opened_as (λ bs. asking_ok (read_asking bs)) o) (op 3 x.key.0 x.salt.0 (write_asking (asked_of x.inside)) f.salt)
      ∙ ap asking_ok (asking-codec.back (asked_of x.inside) f.fits)

  -- the first key that opens, where only one does
  first-opens : (kind n : ℕ) (ks : List Key) (w : Bytes) (k : Key) (i : Bytes) → Memᴰ k ks → l.opens kind k.0 w ≡ Some i → ((j : Key) (x : Bytes) → Memᴰ j ks → l.opens kind j.0 w ≡ Some x → j ≡ k)
      → (p : ℕ) × (opens_first l kind n ks w ≡ Some (record { place = p; key = k; inside = i }))
  first-opens kind n [] w k i m o h = absurd (Memᴰ.not-nil m)
  first-opens kind n (j ∷ ks) w k i m o h = go (λ y. first-opens kind (suc n) ks w k i y o (λ z x u. h z x (Memᴰ.tail u))) (l.opens kind j.0 w) refl (Memᴰ.cases_cons m)
    where
      go : (Memᴰ k ks → (p : ℕ) × (opens_first l kind (suc n) ks w ≡ Some (record { place = p; key = k; inside = i }))) → (z : Option Bytes) → l.opens kind j.0 w ≡ z → (k ≡ j) ⊎ Memᴰ k ks
          → (p : ℕ) × (◌≡◌ {A = Option Tried} (elim z [ None ↦ opens_first l kind (suc n) ks w | Some x ↦ Some (record { place = n; key = j; inside = x }) ]) (Some (record { place = p; key = k; inside = i })))
      go rest None e (inl q) = absurd (let f : l.opens kind j.0 w ≡ Some i = subst (λ (y : Key). l.opens kind y.0 w ≡ Some i) q o in let z : ◌≡◌ {A = ℕ} 0 1 = cc in omega arith)
      go rest None e (inr y) = rest y
      go rest (Some x) e y =
          let q : j ≡ k = h j x (Memᴰ.head refl) e in
          let f : l.opens kind k.0 w ≡ Some x = subst (λ (y : Key). l.opens kind y.0 w ≡ Some x) q e in
          let v : x ≡ i = cc in
          (n, ap (λ (y : Key). Some (record { place = n; key = y; inside = x })) q ∙ ap (λ (y : Bytes). Some (record { place = n; key = k; inside = y })) v)

  module _ (c : Basis) where
    -- one call, by what was read, answered and left
    house-call : (s : Bytewise) (w : Bytes) (r : house.Read) (a : Reply) (h : Home) → house.read_at_house l s.home w ≡ r → house.answer_to l s.home r ≡ a → house.after_word l s.home r ≡ h
        → step l c (brings House w) s ≡ bytes.with_sent (sent_word (house.sent_by l a)) (reply_drawn a) (reply_made a) (bytes.with_home h s)
    house-call s w r a h e f g =
        ap (λ (z : house.Read). bytes.with_sent (sent_word (house.sent_by l (house.answer_to l s.home z))) (reply_drawn (house.answer_to l s.home z)) (reply_made (house.answer_to l s.home z)) (bytes.with_home (house.after_word l s.home z) s)) e
        ∙ ap (λ (z : Reply). bytes.with_sent (sent_word (house.sent_by l z)) (reply_drawn z) (reply_made z) (bytes.with_home (house.after_word l s.home r) s)) f
        ∙ ap (λ (z : Home). bytes.with_sent (sent_word (house.sent_by l a)) (reply_drawn a) (reply_made a) (bytes.with_home z s)) g

    box-call : (s : Bytewise) (a : ℕ) (w : Bytes) (x : Boxed Bytes) (r : box.Read) (q : Told) (x' : Boxed Bytes) → s.box a ≡ x → box.read_at_box l x w ≡ r → box.answer_to x r ≡ q → box.after_word x r ≡ x'
        → step l c (brings (Reader a) w) s ≡ box_says l c a x' q s
    box-call s a w x r q x' d e f g =
        ap (λ (z : Boxed Bytes). box_says l c a (box.after_word z (box.read_at_box l z w)) (box.answer_to z (box.read_at_box l z w)) s) d
        ∙ ap (λ (z : box.Read). box_says l c a (box.after_word x z) (box.answer_to x z) s) e
        ∙ ap (λ (z : Told). box_says l c a (box.after_word x r) z s) f
        ∙ ap (λ (z : Boxed Bytes). box_says l c a z q s) g

module _ (l : Locks) (fair : Fair l) (op : Opens l) (c : Basis) (s : Bytewise) (air : List Term) (a v : ℕ) (w : What) (o : Steady (C l c (record { draws = s.used; made = s.made })) (N l c (record { draws = s.used; made = s.made })) (seen s air)) (rg : InRange s) (r : Ready l c s a v w) where
  -- the box, the house, and what the six calls bring
  abbrev b : Boxed Bytes
  b = s.box a

  abbrev h : Home
  h = s.home

  abbrev line : Line
  line = six.the_line l s a v w

  abbrev m₁ : Number
  m₁ = number_of b.left

  abbrev m₂ : Number
  m₂ = number_of (drop 32 b.left)

  abbrev m₃ : Number
  m₃ = number_of (drop 32 (drop 32 b.left))

  abbrev k₁ : Key
  k₁ = six.house_key l s a v w

  abbrev k₂ : Key
  k₂ = six.service_key l s a v w

  abbrev T₁ : Bytes
  T₁ = ticket_lock l (six.house_ticket l s a v w)

  abbrev T₂ : Bytes
  T₂ = ticket_lock l (six.service_ticket l s a v w)

  abbrev letter₁ : Letter
  letter₁ = (six.house_letter l s a v w).inside

  abbrev letter₂ : Letter
  letter₂ = (six.service_letter l s a v w).inside

  service-there : nobody v ≡ false
  service-there = or-false-left (nobody v) (is_absent (account_of h.accounts v)) r.service_known

  not-house : eqb v 0 ≡ false
  not-house = or-false-left (eqb v 0) (ltb 1023 v) service-there

  reader-there : nobody a ≡ false
  reader-there = or-false-left (nobody a) (is_absent (account_of h.accounts a)) r.known

  own-a : own_key h.accounts a ≡ b.key
  own-a = (o.accounts a r.known).own ∙ sym (o.boxes a).key_is

  drawn₂ : 32 ≤ length (drop 32 b.left)
  drawn₂ = let e = length-drop 32 b.left in let d = r.drawn in omega arith

  drawn₃ : 32 ≤ length (drop 32 (drop 32 b.left))
  drawn₃ = let e = length-drop 32 b.left in let f = length-drop 32 (drop 32 b.left) in let d = r.drawn in omega arith

  home-drawn : 64 ≤ length (drop 64 h.left)
  home-drawn = let e = length-drop 64 h.left in let d = r.house_at_work.drawn in omega arith

  -- numbers under way are others than a new one
  others : (ps : List Pending) (x : Bytes) → Below (C l c (record { draws = s.used; made = s.made })) (N l c (record { draws = s.used; made = s.made })) (length s.used) ps → draw_name s.used x ≡ None
      → (p : Pending) → Memᴰ p (take 15 ps) → bytes_eq p.number.0 x ≡ false
  others ps x below new p m = go (either (bytes_eq p.number.0 x))
    where
      go : (bytes_eq p.number.0 x ≡ true) ⊎ (bytes_eq p.number.0 x ≡ false) → bytes_eq p.number.0 x ≡ false
      go (inl e) =
          let y = below p (mem-take 15 ps p m) in
          absurd (not-even c.own s.used x y.0 new (subst (λ (z : Bytes). name_of c.own s.used z ≡ even y.0) (same-eq p.number.0 x e) y.1))
      go (inr e) = e

  -- 1: the line
  abbrev b₁ : Boxed Bytes
  b₁ = logged_in (counted b) line

  wanted₁ : wanted b v None w ≡ Ok (told.LogsIn (login_of b))
  wanted₁ = sym (wanted_by (λ _. tt {0}) b v None w) ∙ line-answer (blind b) v w service-there r.words r.lines (let d = r.drawn in omega arith)

  after₁ : wanted_after b v None w ≡ b₁
  after₁ = line-left b b₁ (login_of b) (unread b.lines v w) (first_fault (line_conditions b v None)) wanted₁

  t₁ : Bytewise
  t₁ = box_says l c a b₁ (Ok (told.LogsIn (login_of b))) s

  good₁ : GoodTold (Ok (told.LogsIn (login_of b)))
  good₁ = subst (λ (z : Told). GoodTold z) wanted₁ (wanted-good a b (rg.box a) v None w).0

  ok₁ : BoxOk a b₁
  ok₁ = subst (λ (z : Boxed Bytes). BoxOk a z) after₁ (wanted-good a b (rg.box a) v None w).1

  low : a < 2 ^ 16
  low = let e = or-false-left (nobody a) (is_absent (account_of h.accounts a)) r.known in small a e
    where
      small : (n : ℕ) → nobody n ≡ false → n < 2 ^ 16
      small n e = let k = ltb-false 1023 n (or-false-right (eqb n 0) (ltb 1023 n) e) in omega arith

  call₁ : step l c (wants a v None w) s ≡ t₁
  unfolding t₁
  call₁ = ap (λ (z : Boxed Bytes). box_says l c a z (wanted b v None w) s) after₁ ∙ ap (λ (z : Told). box_says l c a b₁ z s) wanted₁

  -- 2: the login
  read₂ : house.read_at_house l h (six.login_word l s a v w) ≡ house.logs a (login_of b).inside
  read₂ =
      reads-login l h (six.login_word l s a v w) b.number (login_lock l (login_of b)) (write_login (login_of b).inside) (login_of b).inside
      (word-codec.back (frame.login b.number (login_lock l (login_of b))) (lock-fits l c fair 4 b.key.0 (login_of b).salt.0 _ good₁.1 (long-login (login_of b).inside good₁.0), subst (λ (n : ℕ). n < 2 ^ 16) (sym (rg.box a).number) low))
      (subst (λ (n : ℕ). unknown h.accounts n ≡ false) (sym (rg.box a).number) r.known)
      (ap (λ (n : ℕ). l.opens 4 (own_key h.accounts n).0 (login_lock l (login_of b))) (rg.box a).number ∙ ap (λ (k : Key). l.opens 4 k.0 (login_lock l (login_of b))) own-a ∙ op 4 b.key.0 (login_of b).salt.0 (write_login (login_of b).inside) good₁.1)
      (login-codec.back (login_of b).inside good₁.0)
      ∙ ap (λ (n : ℕ). house.logs n (login_of b).inside) (rg.box a).number

  abbrev grant₂ : Reply
  grant₂ = giving (until_of h) h.left (house-rules.login_given h a (login_of b).inside)

  logged₂ : house-rules.logged_in h a (login_of b).inside ≡ grant₂
  logged₂ = login-answer h a (login_of b).inside r.known r.is_open (o.boxes a).now_is (let d = r.house_at_work.drawn in omega arith) r.house_at_work.awake

  good₂ : GoodReply grant₂
  good₂ = subst (λ (z : Reply). GoodReply z) logged₂ (login-good h a (login_of b).inside good₁.0.0 rg.now rg.life)

  abbrev h₁ : Home
  h₁ = house-rules.drew h

  t₂ : Bytewise
  t₂ = bytes.with_sent (six.grant_word l s a v w ∷ []) (reply_drawn grant₂) (reply_made grant₂) (bytes.with_home h₁ t₁)

  call₂ : step l c (brings House (six.login_word l s a v w)) t₁ ≡ t₂
  unfolding t₁ t₂
  call₂ =
      house-call l c t₁ (six.login_word l s a v w) (house.logs a (login_of b).inside) grant₂ h₁ read₂ logged₂
      (login-after h a (login_of b).inside r.known r.is_open (o.boxes a).now_is (let d = r.house_at_work.drawn in omega arith) r.house_at_work.awake)

  -- 3: the letter of the house
  fit₁ : lock_fits T₁ ≡ true
  fit₁ = lock-fits l c fair 1 h.key.0 _ _ good₂.2 (long-ticket _ good₂.0)

  read₃ : box.read_at_box l b₁ (six.grant_word l s a v w) ≡ box.brings T₁ OwnKey letter₁
  read₃ =
      reads-letter l b₁ (six.grant_word l s a v w) T₁ (letter_lock l (six.house_letter l s a v w)) (record { place = 0; key = b.key; inside = write_letter letter₁ }) letter₁
      (word-codec.back (frame.ticket_and_letter T₁ (letter_lock l (six.house_letter l s a v w))) (cond-both-true _ _ fit₁ (lock-fits l c fair 2 (own_key h.accounts a).0 _ _ good₂.3 (long-letter letter₁ good₂.1)), tt))
      (ap (λ (z : Option Bytes). elim z [ None ↦ opens_first l 2 1 (house_keys b.tickets ++ stray_keys b.tickets b.askings) (letter_lock l (six.house_letter l s a v w)) | Some x ↦ Some (record { place = 0; key = b.key; inside = x }) ])
      (ap (λ (k : Key). l.opens 2 k.0 (letter_lock l (six.house_letter l s a v w))) (sym own-a) ∙ op 2 (own_key h.accounts a).0 _ (write_letter letter₁) good₂.3))
      (letter-codec.back letter₁ good₂.1)

  pending₃ : pending_for b₁ OwnKey letter₁ ≡ Some (record { number = m₁; key = b.key; asks = 0; line = line })
  pending₃ =
      oldest-newest (ByNumber m₁) (record { number = m₁; key = b.key; asks = 0; line = line }) (take 15 b.logins)
      (same_refl m₁.0) (others b.logins m₁.0 (o.boxes a).logins r.first_new)

  abbrev got₃ : Got
  got₃ = record { id = b.taken + 1; service = 0; until = until_of h }

  taken₃ : taken b₁ OwnKey letter₁ ≡ Ok (told.Takes got₃ (six.house_asking l s a v w))
  taken₃ = sym (taken-by (λ _. tt {0}) b₁ OwnKey letter₁) ∙ letter-answer (blind b₁) OwnKey letter₁ _ pending₃ drawn₂ (let d = r.tickets in omega arith)

  abbrev b₂ : Boxed Bytes
  b₂ = asked (stored (settled b₁ OwnKey letter₁) letter₁ T₁) k₁ 0 line

  after₃ : taken_after b₁ OwnKey letter₁ T₁ ≡ b₂
  after₃ =
      letter-left b₁ (taken_from b₁ OwnKey letter₁ T₁ (pending_for b₁ OwnKey letter₁)) (taken_by b₁ letter₁ (pending_for b₁ OwnKey letter₁)) got₃ (six.house_asking l s a v w) (first_fault (letter_conditions b₁ OwnKey letter₁)) taken₃
      ∙ ap (λ (z : Option Pending). taken_from b₁ OwnKey letter₁ T₁ z) pending₃

  good₃ : GoodAsking (six.house_asking l s a v w)
  good₃ = subst (λ (z : Told). GoodTold z) taken₃ (taken-good a b₁ ok₁ OwnKey letter₁ T₁ fit₁).0

  ok₂ : BoxOk a b₂
  ok₂ = subst (λ (z : Boxed Bytes). BoxOk a z) after₃ (taken-good a b₁ ok₁ OwnKey letter₁ T₁ fit₁).1

  t₃ : Bytewise
  t₃ = box_says l c a b₂ (Ok (told.Takes got₃ (six.house_asking l s a v w))) t₂

  call₃ : step l c (brings (Reader a) (six.grant_word l s a v w)) t₂ ≡ t₃
  unfolding t₁ t₂ t₃
  call₃ = box-call l c t₂ a (six.grant_word l s a v w) b₁ (box.brings T₁ OwnKey letter₁) (Ok (told.Takes got₃ (six.house_asking l s a v w))) b₂ (at_here a b₁ s.box) read₃ taken₃ after₃

  -- 4: the asking for the house
  abbrev digest₁ : ℕ
  digest₁ = digest_of l k₁ m₂

  read₄ : house.read_at_house l h₁ (six.house_word l s a v w) ≡ house.asks (six.house_ticket l s a v w).inside (six.house_asking l s a v w).inside
  read₄ =
      reads-asking l h₁ (six.house_word l s a v w) T₁ (asking_lock l (six.house_asking l s a v w)) (six.house_ticket l s a v w).inside (six.house_asking l s a v w).inside
      (word-codec.back (frame.asking T₁ (asking_lock l (six.house_asking l s a v w))) (cond-both-true _ _ fit₁ (lock-fits l c fair 3 k₁.0 _ _ good₃.salt (long-asking (asked_of (six.house_asking l s a v w).inside) good₃.fits)), tt))
      (opens-ticket l op (six.house_ticket l s a v w) h.key refl good₂.2 (ticket-codec.back _ good₂.0))
      (opens-asking l op (six.house_asking l s a v w) good₃)

  fine₄ : HouseFine h₁ a v (until_of h) b.now digest₁
  fine₄ =
      record {
        known = r.known;
        there = r.service_known;
        is_open = r.is_open;
        in_time = (o.boxes a).now_is;
        is_good = omega arith;
        is-new = r.house_digest;
        room = r.house_at_work.room;
        drawn = home-drawn;
        awake = r.house_at_work.awake;
        writes = r.house_at_work.writes;
      }

  abbrev grant₄ : Reply
  grant₄ = giving (until_of h) (drop 64 h.left) (given_for h₁ a v k₁ m₂ b.now)

  answered₄ : house-rules.answered h₁ (six.house_ticket l s a v w).inside (six.house_asking l s a v w).inside digest₁ ≡ grant₄
  answered₄ = house-answer h₁ a v k₁ m₂ (until_of h) b.now digest₁ fine₄

  good₄ : GoodReply grant₄
  good₄ = subst (λ (z : Reply). GoodReply z) answered₄ (ask-good h₁ (six.house_ticket l s a v w).inside (six.house_asking l s a v w).inside digest₁ good₃.fits.1 rg.now rg.life)

  t₄ : Bytewise
  t₄ = bytes.with_sent (six.serve_word l s a v w ∷ []) (reply_drawn grant₄) (reply_made grant₄) (bytes.with_home (house-rules.drew (house-rules.noted h₁ digest₁)) t₃)

  call₄ : step l c (brings House (six.house_word l s a v w)) t₃ ≡ t₄
  unfolding t₁ t₂ t₃ t₄
  call₄ =
      house-call l c t₃ (six.house_word l s a v w) (house.asks (six.house_ticket l s a v w).inside (six.house_asking l s a v w).inside) grant₄ (house-rules.drew (house-rules.noted h₁ digest₁)) read₄ answered₄
      (house-after h₁ a v k₁ m₂ (until_of h) b.now digest₁ fine₄)

  -- 5: the letter for the service
  then_is : six.box_then l s a v w ≡ b₂
  then_is = ap (λ (z : Boxed Bytes). taken_after z OwnKey letter₁ T₁) after₁ ∙ after₃

  house-key-tried : Memᴰ k₁ (letter_keys b₂)
  house-key-tried =
      let there : Memᴰ k₁ ((b₂.key ∷ (house_keys (take 15 b.tickets) ++ (k₁ ∷ []))) ++ stray_keys b₂.tickets b₂.askings) =
      Memᴰ.tail (Memᴰ.append_left (stray_keys b₂.tickets b₂.askings) (Memᴰ.append_right (house_keys (take 15 b.tickets)) (Memᴰ.head refl))) in
      let taken₁ : Held Bytes = record { pass = record { id = b₁.taken + 1; service = letter₁.service; key = letter₁.key; until = letter₁.until }; ticket = T₁ } in
      subst (λ (ks : List Key). Memᴰ k₁ ((b₂.key ∷ ks) ++ stray_keys b₂.tickets b₂.askings)) (sym (from_end-cons is_house (λ h. h.pass.key) taken₁ (take 15 b.tickets))) there

  opened₅ : (p : ℕ) × (opens_first l 2 0 (letter_keys b₂) (letter_lock l (six.service_letter l s a v w)) ≡ Some (record { place = p; key = k₁; inside = write_letter letter₂ }))
  opened₅ =
      first-opens l 2 0 (letter_keys b₂) (letter_lock l (six.service_letter l s a v w)) k₁ (write_letter letter₂) house-key-tried (op 2 k₁.0 _ (write_letter letter₂) good₄.3)
      (λ j x m e. r.one_key j x (subst (λ (z : Boxed Bytes). Memᴰ j (letter_keys z)) (sym then_is) m) e)

  not_own : opened₅.0 ≡ 0 → ⊥
  not_own e =
      let f = opened-first l 2 b.key _ (letter_lock l (six.service_letter l s a v w)) (record { place = opened₅.0; key = k₁; inside = write_letter letter₂ }) opened₅.1 e in
      let there = own-there c.own 0 a k₁.0 (o.accounts a r.known).there (ap (λ (z : Key). z.0) (sym (o.boxes a).key_is ∙ sym f)) in
      let g = r.no_own_key in
      let q = there.1 in
      let z : ◌≡◌ {A = ℕ} 0 1 = cc in
      omega arith

  under₅ : under_of opened₅.0 k₁ ≡ Session k₁
  under₅ = go (eqb opened₅.0 0) refl
    where
      go : (i : Bool) → eqb opened₅.0 0 ≡ i → cond i OwnKey (Session k₁) ≡ Session k₁
      go true e = absurd (not_own (eqb-true opened₅.0 0 e))
      go false e = refl

  fit₂ : lock_fits T₂ ≡ true
  fit₂ = lock-fits l c fair 1 (own_key h.accounts v).0 _ _ good₄.2 (long-ticket _ good₄.0)

  read₅ : box.read_at_box l b₂ (six.serve_word l s a v w) ≡ box.brings T₂ (Session k₁) letter₂
  read₅ =
      reads-letter l b₂ (six.serve_word l s a v w) T₂ (letter_lock l (six.service_letter l s a v w)) (record { place = opened₅.0; key = k₁; inside = write_letter letter₂ }) letter₂
      (word-codec.back (frame.ticket_and_letter T₂ (letter_lock l (six.service_letter l s a v w))) (cond-both-true _ _ fit₂ (lock-fits l c fair 2 k₁.0 _ _ good₄.3 (long-letter letter₂ good₄.1)), tt))
      opened₅.1 (letter-codec.back letter₂ good₄.1)
      ∙ ap (λ (u : Under). box.brings T₂ u letter₂) under₅

  pending₅ : pending_for b₂ (Session k₁) letter₂ ≡ Some (record { number = m₂; key = k₁; asks = 0; line = line })
  pending₅ =
      oldest-newest (AtHouse k₁ m₂ v) (record { number = m₂; key = k₁; asks = 0; line = line }) (take 15 b.askings)
      (and_from (bytes_eq k₁.0 k₁.0) (bytes_eq m₂.0 m₂.0 && eqb v v) (same_refl k₁.0)
      (and_from (bytes_eq m₂.0 m₂.0) (eqb v v) (same_refl m₂.0) (eq-eqb v v refl)))
      (λ p m.
      and_right (eqb p.asks 0) _ (and_right (bytes_eq p.key.0 k₁.0) _ (and_left (bytes_eq p.number.0 m₂.0) (eqb p.line.service v)
      (others b.askings m₂.0 (o.boxes a).askings r.second_new p m))))

  abbrev got₅ : Got
  got₅ = record { id = b.taken + 1 + 1; service = v; until = until_of h }

  asking₅ : asking_of b₂ k₂ v line ≡ six.service_asking l s a v w
  asking₅ = ap (λ (e : Bool). asks_with e) not-house
    where
      asks_with : Bool → Lock Asking
      asks_with e = record { key = k₂; salt = (six.service_asking l s a v w).salt; inside = record { service = v; number = m₃; what = cond e (two_bytes v) w; tick = cond e b.now b.now } }

  taken₅ : taken b₂ (Session k₁) letter₂ ≡ Ok (told.Takes got₅ (six.service_asking l s a v w))
  taken₅ =
      sym (taken-by (λ _. tt {0}) b₂ (Session k₁) letter₂) ∙ letter-answer (blind b₂) (Session k₁) letter₂ _ pending₅ drawn₃ r.tickets
      ∙ ap (λ (q : Lock Asking). let r : Told = Ok (told.Takes got₅ q) in r) asking₅

  abbrev b₃ : Boxed Bytes
  b₃ = asked (stored (settled b₂ (Session k₁) letter₂) letter₂ T₂) k₂ v line

  after₅ : taken_after b₂ (Session k₁) letter₂ T₂ ≡ b₃
  after₅ =
      letter-left b₂ (taken_from b₂ (Session k₁) letter₂ T₂ (pending_for b₂ (Session k₁) letter₂)) (taken_by b₂ letter₂ (pending_for b₂ (Session k₁) letter₂)) got₅ (six.service_asking l s a v w) (first_fault (letter_conditions b₂ (Session k₁) letter₂)) taken₅
      ∙ ap (λ (z : Option Pending). taken_from b₂ (Session k₁) letter₂ T₂ z) pending₅

  good₅ : GoodAsking (six.service_asking l s a v w)
  good₅ = subst (λ (z : Told). GoodTold z) taken₅ (taken-good a b₂ ok₂ (Session k₁) letter₂ T₂ fit₂).0

  t₅ : Bytewise
  t₅ = box_says l c a b₃ (Ok (told.Takes got₅ (six.service_asking l s a v w))) t₄

  call₅ : step l c (brings (Reader a) (six.serve_word l s a v w)) t₄ ≡ t₅
  unfolding t₁ t₂ t₃ t₄ t₅
  call₅ = box-call l c t₄ a (six.serve_word l s a v w) b₂ (box.brings T₂ (Session k₁) letter₂) (Ok (told.Takes got₅ (six.service_asking l s a v w))) b₃ (at_here a b₂ (at a b₁ s.box)) read₅ taken₅ after₅

  -- 6: the asking to the service
  abbrev asked₆ : Asking
  asked₆ = locked.asking_of (asked_of (six.service_asking l s a v w).inside)

  read₆ : service.read_at_service l (own_of c.own v) (six.ask_word l s a v w) ≡ service.asks (six.service_ticket l s a v w).inside asked₆
  read₆ =
      reads-service l (own_of c.own v) (six.ask_word l s a v w) T₂ (asking_lock l (six.service_asking l s a v w)) (six.service_ticket l s a v w).inside asked₆
      (word-codec.back (frame.asking T₂ (asking_lock l (six.service_asking l s a v w))) (cond-both-true _ _ fit₂ (lock-fits l c fair 3 k₂.0 _ _ good₅.salt (long-asking (asked_of (six.service_asking l s a v w).inside) good₅.fits)), tt))
      (opens-ticket l op (six.service_ticket l s a v w) (own_of c.own v) (sym (o.accounts v r.service_known).own) good₄.2 (ticket-codec.back _ good₄.0))
      (opens-asking l op (six.service_asking l s a v w) good₅)

  abbrev digest₂ : ℕ
  digest₂ = digest_of l k₂ m₃

  fine₆ : ServiceFine (s.side v) a v (until_of h) b.now digest₂
  fine₆ =
      record {
        somebody = reader-there;
        number_is = (o.sides v).number_is;
        in_time = (o.boxes a).now_is ∙ sym (o.sides v).now_is;
        is_good = let e = (o.sides v).now_is in omega arith;
        is-new = r.digest;
        room = r.at_work.room;
        drawn = r.at_work.drawn;
        awake = r.at_work.awake;
        writes = r.at_work.writes;
      }

  abbrev done₆ : Answer
  done₆ = service-rules.done (service-rules.deed_of (six.service_ticket l s a v w).inside asked₆) (service-rules.receipt_of (s.side v) (six.service_ticket l s a v w).inside asked₆)

  answered₆ : answered l c t₅ v (six.ask_word l s a v w) ≡ done₆
  unfolding t₁ t₂ t₃ t₄ t₅
  answered₆ = ap (λ (z : service.Read). service.answer_to l (s.side v) z) read₆ ∙ service-answer (s.side v) a v k₂ m₃ (what_in (words_in w)) (until_of h) b.now digest₂ fine₆

  -- the deed and the line
  abbrev deed_at : (p t : ℕ) (ws : Bytes) → List Deed
  deed_at p t ws = record { place = p; service = v; reader = a; key = k₂.0; number = m₃.0; what = ws; at = t; stolen = s.stolen } ∷ []

  deed-told : (p q : ℕ) → p ≡ q + 5 → deed_told (answered l c t₅ v (six.ask_word l s a v w)) p v (t₅.side v).side.now t₅.stolen ≡ six.new_deed l s a v w q ∷ []
  unfolding t₁ t₂ t₃ t₄ t₅
  deed-told p q e =
      ap (λ (x : Answer). deed_told x p v (s.side v).side.now s.stolen) answered₆
      ∙ ap (λ (ws : Bytes). deed_at p (s.side v).side.now ws) (words_back (words_in w))
      ∙ ap (λ (t : ℕ). deed_at p t (words_of w)) (o.sides v).now_is
      ∙ ap (λ (i : ℕ). deed_at i h.side.now (words_of w)) e

  line-told : (p : ℕ) → line_told (wanted b v None w) (record { place = p; reader = a; service = v; what = words_of w; at = b.now }) ≡ six.wanted_line l s a v w p ∷ []
  line-told p =
      ap (λ (x : Told). line_told x (record { place = p; reader = a; service = v; what = words_of w; at = b.now })) wanted₁
      ∙ ap (λ (t : ℕ). line_at t) (o.boxes a).now_is
    where
      line_at : ℕ → List Wanted
      line_at t = record { place = p; reader = a; service = v; what = words_of w; at = t } ∷ []

  -- all five calls
  five : step l c (brings (Reader a) (six.serve_word l s a v w)) (step l c (brings House (six.house_word l s a v w)) (step l c (brings (Reader a) (six.grant_word l s a v w)) (step l c (brings House (six.login_word l s a v w)) (step l c (wants a v None w) s)))) ≡ t₅
  five =
      ap (λ (z : Bytewise). step l c (brings (Reader a) (six.serve_word l s a v w)) (step l c (brings House (six.house_word l s a v w)) (step l c (brings (Reader a) (six.grant_word l s a v w)) (step l c (brings House (six.login_word l s a v w)) z)))) call₁
      ∙ ap (λ (z : Bytewise). step l c (brings (Reader a) (six.serve_word l s a v w)) (step l c (brings House (six.house_word l s a v w)) (step l c (brings (Reader a) (six.grant_word l s a v w)) z))) call₂
      ∙ ap (λ (z : Bytewise). step l c (brings (Reader a) (six.serve_word l s a v w)) (step l c (brings House (six.house_word l s a v w)) z)) call₃
      ∙ ap (λ (z : Bytewise). step l c (brings (Reader a) (six.serve_word l s a v w)) z) call₄
      ∙ call₅

  -- what was sent
  sent₃ : t₃.words ≡ six.house_word l s a v w ∷ t₂.words
  unfolding t₃
  sent₃ = ap (λ (z : Option Bytes). box_word (box.asking_sent l z (six.house_asking l s a v w)) ++ t₂.words) (newest (b.taken + 1) (record { pass = record { id = b.taken + 1; service = 0; key = k₁; until = until_of h }; ticket = T₁ }) (take 15 b.tickets) refl)

  sent₅ : t₅.words ≡ six.ask_word l s a v w ∷ t₄.words
  unfolding t₅
  sent₅ = ap (λ (z : Option Bytes). box_word (box.asking_sent l z (six.service_asking l s a v w)) ++ t₄.words) (newest (b.taken + 1 + 1) (record { pass = record { id = b.taken + 1 + 1; service = v; key = k₂; until = until_of h }; ticket = T₂ }) (take 15 b₂.tickets) refl)

  sent₂ : t₂.words ≡ six.grant_word l s a v w ∷ six.login_word l s a v w ∷ s.words
  unfolding t₁ t₂
  sent₂ = refl

  sent₄ : t₄.words ≡ six.serve_word l s a v w ∷ t₃.words
  unfolding t₄
  sent₄ = refl

  all-sent : t₅.words ≡ six.ask_word l s a v w ∷ six.serve_word l s a v w ∷ six.house_word l s a v w ∷ six.grant_word l s a v w ∷ six.login_word l s a v w ∷ s.words
  all-sent =
      sent₅ ∙ ap (λ (ws : List Bytes). six.ask_word l s a v w ∷ ws) sent₄
      ∙ ap (λ (ws : List Bytes). six.ask_word l s a v w ∷ six.serve_word l s a v w ∷ ws) sent₃
      ∙ ap (λ (ws : List Bytes). six.ask_word l s a v w ∷ six.serve_word l s a v w ∷ six.house_word l s a v w ∷ ws) sent₂

  stolen₅ : t₅.stolen ≡ s.stolen
  unfolding t₁ t₂ t₃ t₄ t₅
  stolen₅ = refl

  accounts₅ : t₅.home.accounts ≡ h.accounts
  unfolding t₁ t₂ t₃ t₄ t₅
  accounts₅ = refl

  house₅ : t₅.home.side ≡ h.side
  unfolding t₁ t₂ t₃ t₄ t₅
  house₅ = refl

  sides₅ : (j : ℕ) → t₅.side j ≡ s.side j
  unfolding t₁ t₂ t₃ t₄ t₅
  sides₅ j = refl

  boxes₅ : (k : ℕ) → (t₅.box k).now ≡ (s.box k).now
  unfolding t₁ t₂ t₃ t₄ t₅
  boxes₅ k = go (eqb k a) refl
    where
      go : (i : Bool) → eqb k a ≡ i → (cond i b₃ (cond i b₂ (cond i b₁ (s.box k)))).now ≡ (s.box k).now
      go true e = ap (λ (n : ℕ). (s.box n).now) (sym (eqb-true k a e))
      go false e = refl

-- a word leaves a service at its tick, and every other service as it is
side-stays : (l : Locks) (u : View) (x : service.Read) → (service.after_word l u x).side ≡ u.side
side-stays l u (service.asks t q) = go (first_fault (service-rules.conditions u t q (digest_of l t.key q.number)))
  where
    go : (f : Option Fault) → (unless f (service-rules.done_by u (digest_of l t.key q.number)) (λ _. u)).side ≡ u.side
    go None = refl
    go (Some f) = refl
side-stays l u (service.wrong f) = refl

all_stay : (l : Locks) (f : ℕ → View) (v j : ℕ) (x : service.Read) → (at v (service.after_word l (f v) x) f j).side ≡ (f j).side
all_stay l f v j x = go (eqb j v) refl
  where
    go : (i : Bool) → eqb j v ≡ i → (cond i (service.after_word l (f v) x) (f j)).side ≡ (f j).side
    go true e = side-stays l (f v) x ∙ ap (λ (n : ℕ). (f n).side) (sym (eqb-true j v e))
    go false e = refl

pub served : (l : Locks) → Fair l → Opens l → (c : Basis) → Served l c
served l fair op c t es row a v w r =
    let g = whole_of l c t es in
    let q = row_same l c (fits l c fair) (fronts l c fair) t es row in
    let s = run l c t es in
    let o : Steady (C l c g) (N l c g) (seen s q.air) = subst (λ (x : System). Steady (C l c g) (N l c g) x) q.same (row-steady (C l c g) (N l c g) t _ q.possible) in
    let rg = ranges l c g t es row.start row.life row.each in
    let five-calls = five l fair op c s q.air a v w o rg r in
    record {
      deed =
          ap (λ (z : Bytewise). deed_told (answered l c z v (six.ask_word l s a v w)) (suc (suc (suc (suc (suc (length es)))))) v (z.side v).side.now z.stolen ++ deeds l c t es) five-calls
          ∙ ap (λ (x : List Deed). x ++ deeds l c t es) (deed-told l fair op c s q.air a v w o rg r (suc (suc (suc (suc (suc (length es)))))) (length es) (omega arith));
      line = ap (λ (x : List Wanted). x ++ lines l c t es) (line-told l fair op c s q.air a v w o rg r (length es));
      sent =
          ap (λ (z : Bytewise). (step l c (brings (Service v) (six.ask_word l s a v w)) z).words) five-calls
          ∙ ap (λ (x : Answer). sent_word (service.sent_by l x) ++ (t₅ l fair op c s q.air a v w o rg r).words) (answered₆ l fair op c s q.air a v w o rg r)
          ∙ ap (λ (ws : List Bytes). six.done_word l s a v w ∷ ws) (all-sent l fair op c s q.air a v w o rg r);
      stolen = ap (λ (z : Bytewise). (step l c (brings (Service v) (six.ask_word l s a v w)) z).stolen) five-calls ∙ stolen₅ l fair op c s q.air a v w o rg r;
      accounts = ap (λ (z : Bytewise). (step l c (brings (Service v) (six.ask_word l s a v w)) z).home.accounts) five-calls ∙ accounts₅ l fair op c s q.air a v w o rg r;
      house = ap (λ (z : Bytewise). (step l c (brings (Service v) (six.ask_word l s a v w)) z).home.side) five-calls ∙ house₅ l fair op c s q.air a v w o rg r;
      sides =
          λ j. ap (λ (z : Bytewise). ((step l c (brings (Service v) (six.ask_word l s a v w)) z).side j).side) five-calls
          ∙ all_stay l (t₅ l fair op c s q.air a v w o rg r).side v j (service.read_at_service l (own_of c.own v) (six.ask_word l s a v w))
          ∙ ap (λ (u : View). u.side) (sides₅ l fair op c s q.air a v w o rg r j);
      boxes = λ k. ap (λ (z : Bytewise). ((step l c (brings (Service v) (six.ask_word l s a v w)) z).box k).now) five-calls ∙ boxes₅ l fair op c s q.air a v w o rg r k;
    }
