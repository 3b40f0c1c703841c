-- What one event may change, and that whatever changes so keeps the invariant. Assumes nothing.
use mathlib.Core.Path.{◌≡◌, refl, sym, subst, ◌∙◌, ap}
use mathlib.Core.Bool.{true, false}
use mathlib.Core.Logic.{◌⊎◌, inl, inr}
use mathlib.Core.List.{List, Memᴰ}
use Prim.Native.Nat.{ℕ, ◌*◌, ◌≤◌, ◌<◌}
use native.Mathlib.Omega.{arith}
use Rattle.tickets.specs.Term.{Term, even}
use Rattle.tickets.specs.State.{Rules, Line, Stage, LoggingIn, AskingHouse, Wish, Key, Asked, Done, Closing, State, is_in, relies}
use Rattle.tickets.specs.Promise.{Answers, MadeUpon, CameBy, Began, WantedBy, GaveKey}
use Rattle.tickets.proofs.Bools.{Unsafe, clash, any_in-sub}
use Rattle.tickets.proofs.Grown.{Grown, same, more, Two, both-old, first_new, second_new, one-new, grown-cases, grown-two, unique-grown}
use Rattle.tickets.proofs.Known.{Known, Grows, known-grows}
use Rattle.tickets.proofs.Inv.{GivenKey, Under, by-own, by-session, by-forged, HoldsKey, key-given, key-forged, LineOk, WishOk, KeyOk, AskedOk, Ticketed, ticket-made, ticket-forged, DoneOk, NotBefore, EachOnce, Inv, known-low}

module _ (r : Rules) {s t : State} (g : Grows s t) where
  pub given-grows : {a v : ℕ} {k : Term} {m : Key} → GivenKey s a v k m → GivenKey t a v k m
  given-grows {m = m} h = record { known = g.made m h.known; for_reader = h.for_reader; for-service = h.for-service; same_key = h.same_key }

  pub upon-grows : {a v : ℕ} {k : Term} {n f : ℕ} {m : Key} → MadeUpon s a v k n f m → MadeUpon t a v k n f m
  upon-grows {m = m} h =
      record {
        known = g.made m h.known;
        for_reader = h.for_reader;
        for-service = h.for-service;
        same_key = h.same_key;
        same_number = h.same_number;
        not_before = h.not_before;
      }

  pub unsafe-grows : (a v : ℕ) → Unsafe r s.stolen a v → Unsafe r t.stolen a v
  unsafe-grows a v u = any_in-sub (relies r a v) s.stolen t.stolen g.thefts u

  under_grows : (m : Key) → Under r s m → Under r t m
  under_grows m (by-own e) = by-own e
  under_grows m (by-session h e) = by-session h (given-grows e)
  under_grows m (by-forged k h) = by-forged (known-grows g k) (g.thefts _ h)

  pub answers-grows : {d : Done} {q : Asked} → Answers r s d q → Answers r t d q
  answers-grows {q = q} a =
      record {
        known = g.asked q a.known;
        by_reader = a.by_reader;
        of_service = a.of_service;
        same_key = a.same_key;
        same_number = a.same_number;
        in_words = a.in_words;
        in_time = a.in_time;
        from_line = g.lines q.line a.from_line;
      }

  began-grows : {m : Key} {x : Wish} → Began r s m x → Began r t m x
  began-grows {x = x} b =
      record {
        known = g.wishes x b.known;
        at_login = b.at_login;
        by_reader = b.by_reader;
        same_number = b.same_number;
        in_time = b.in_time;
        from_line = g.lines x.line b.from_line;
      }

  wanted-grows : {m : Key} {q : Asked} → WantedBy r s m q → WantedBy r t m q
  wanted-grows {q = q} b =
      record {
        known = g.asked q b.known;
        by_reader = b.by_reader;
        of_house = b.of_house;
        for-service = b.for-service;
        same_key = b.same_key;
        same_number = b.same_number;
        in_time = b.in_time;
        from_line = g.lines q.line b.from_line;
      }

  gave-grows : {d : Done} {m : Key} → GaveKey s d m → GaveKey t d m
  gave-grows {m = m} b =
      record {
        known = g.made m b.known;
        for_reader = b.for_reader;
        for-service = b.for-service;
        same_number = b.same_number;
        same_key = b.same_key;
        same_tick = b.same_tick;
      }

  pub came-grows : {q : Asked} {x : Wish} → CameBy r s q x → CameBy r t q x
  came-grows {x = x} b =
      record {
        known = g.wishes x b.known;
        by_reader = b.by_reader;
        same_number = b.same_number;
        same_since = b.same_since;
        login = b.login;
        asking = b.asking;
        for-service = b.for-service;
        from_line = g.lines x.line b.from_line;
      }

  line-grows : (l : Line) → LineOk r s l → LineOk r t l
  line-grows l o = record { low = let p = g.next_le in let q = o.low in omega arith; a_service = o.a_service; writable = known-grows g o.writable }

  wish-grows : (x : Wish) → WishOk r s x → WishOk r t x
  wish-grows x o =
      record {
        low = let p = g.next_le in let q = o.low in omega arith;
        past = let p = g.now_le in let q = o.past in omega arith;
        line = g.lines x.line o.line;
        holds = λ e. go (o.holds e);
      }
    where
      go : HoldsKey r s x.line.reader x.key (GivenKey s x.line.reader r.house x.key)
          → HoldsKey r t x.line.reader x.key (GivenKey t x.line.reader r.house x.key)
      go (key-given m h) = key-given m (given-grows h)
      go (key-forged k u) = key-forged (known-grows g k) (unsafe-grows x.line.reader r.house u)

  key-grows : (m : Key) → KeyOk r s m → KeyOk r t m
  key-grows m o =
      record {
        low = let p = g.next_le in let q = o.low in omega arith;
        past = let p = g.now_le in let q = o.past in omega arith;
        lives = o.lives;
        thefts = λ a h. g.thefts a (o.thefts a h);
        upon = known-grows g o.upon;
        under = under_grows m o.under;
        began = λ e h. let b = o.began e h in (b.0, began-grows b.1);
        wanted = λ e h. let b = o.wanted e h in (b.0, wanted-grows b.1);
      }

  asked-grows : (q : Asked) → AskedOk r s q → AskedOk r t q
  asked-grows q o =
      record {
        low = let p = g.next_le in let q = o.low in omega arith;
        thefts = λ a h. g.thefts a (o.thefts a h);
        what = known-grows g o.what;
        line = g.lines q.line o.line;
        holds = go o.holds;
        house_what = o.house_what;
        as_wanted = o.as_wanted;
        came = let b = o.came in (b.0, came-grows b.1);
        fresh = λ w. let b = o.fresh w in (b.0, upon-grows b.1);
      }
    where
      go : HoldsKey r s q.line.reader q.key (MadeUpon s q.line.reader q.service q.key q.upon q.since)
          → HoldsKey r t q.line.reader q.key (MadeUpon t q.line.reader q.service q.key q.upon q.since)
      go (key-given m h) = key-given m (upon-grows h)
      go (key-forged k u) = key-forged (known-grows g k) (unsafe-grows q.line.reader r.house u)

  done-grows : (d : Done) → DoneOk r s d → DoneOk r t d
  done-grows d o =
      record {
        past = let p = g.now_le in let q = o.past in omega arith;
        thefts = λ a h. g.thefts a (o.thefts a h);
        number = known-grows g o.number;
        ticketed = go o.ticketed;
        answers = λ w. let b = o.answers w in (b.0, answers-grows b.1);
        gave = λ e. let b = o.gave e in (b.0, gave-grows b.1);
      }
    where
      go : Ticketed r s d → Ticketed r t d
      go (ticket-made m h u) = ticket-made m (given-grows h) u
      go (ticket-forged k u) = ticket-forged (known-grows g k) u

-- where a new wish comes from: a new line, or a login whose letter is taken just now
pub data WishFrom (s t : State) (x : Wish) : Type 0 where
  new_line_lem : x.line.id ≡ s.next → WishFrom s t x
  went_on : (y : Wish) → Memᴰ y s.wishes → y.stage ≡ LoggingIn → x.stage ≡ AskingHouse → x.line.id ≡ y.line.id
      → is_in y.number s.taken ≡ false → is_in y.number t.taken ≡ true → WishFrom s t x

-- where a new asking comes from: one for the house, a new line, or an asking for the house whose letter is taken just now
pub data AskedFrom (r : Rules) (s t : State) (q : Asked) : Type 0 where
  for-house : q.service ≡ r.house → AskedFrom r s t q
  new_line_lem : q.line.id ≡ s.next → ((x : Wish) → Memᴰ x t.wishes → Memᴰ x s.wishes) → AskedFrom r s t q
  went_on : (y : Wish) → Memᴰ y s.wishes → y.stage ≡ AskingHouse → q.line.id ≡ y.line.id
      → is_in y.number s.taken ≡ false → is_in y.number t.taken ≡ true
      → ((x : Wish) → Memᴰ x t.wishes → Memᴰ x s.wishes) → AskedFrom r s t q

pub record NewLine (r : Rules) (s t : State) (l : Line) : Type 0 where
  pub ok : LineOk r t l

pub record NewWish (r : Rules) (s t : State) (x : Wish) : Type 0 where
  pub ok : WishOk r t x
  pub fresh : x.number ≡ s.next
  pub from : WishFrom s t x

pub record NewKey (r : Rules) (s t : State) (m : Key) : Type 0 where
  pub ok : KeyOk r t m
  pub fresh : m.key ≡ s.next
  pub at_now : m.at ≡ s.now
  pub is_open : (c : Closing) → Memᴰ c t.closed → c.who ≡ m.who → ⊥
  pub no_wish : (x : Wish) → Memᴰ x t.wishes → Memᴰ x s.wishes
  pub no_asking : (q : Asked) → Memᴰ q t.asked → Memᴰ q s.asked

pub record NewAsked (r : Rules) (s t : State) (q : Asked) : Type 0 where
  pub ok : AskedOk r t q
  pub fresh : q.number ≡ s.next
  pub from : AskedFrom r s t q

pub record NewDone (r : Rules) (s t : State) (d : Done) : Type 0 where
  pub ok : DoneOk r t d
  pub once : NotBefore r d s.done

-- what one event may change
pub record Change (r : Rules) (s t : State) : Type 0 where
  pub grows : Grows s t
  pub air : (x : Term) → Memᴰ x t.air → Memᴰ x s.air ⊎ Known r t x
  pub closed : (c : Closing) → Memᴰ c t.closed → Memᴰ c s.closed ⊎ (c.at ≡ s.now)
  pub lines : Grown (NewLine r s t) s.lines t.lines
  pub wishes : Grown (NewWish r s t) s.wishes t.wishes
  pub made : Grown (NewKey r s t) s.made t.made
  pub asked : Grown (NewAsked r s t) s.asked t.asked
  pub done : Grown (NewDone r s t) s.done t.done
  pub taken : (n : ℕ) → is_in n t.taken ≡ true → n < t.next

module _ {r : Rules} {s t : State} (i : Inv r s) (c : Change r s t) where
  wish-id : (x : Wish) → Memᴰ x s.wishes → x.line.id < s.next
  wish-id x h = (i.lines x.line (i.wishes x h).line).low

  asked-id : (q : Asked) → Memᴰ q s.asked → q.line.id < s.next
  asked-id q h = (i.lines q.line (i.asked q h).line).low

  keeps-air : (x : Term) → Memᴰ x t.air → Known r t x
  keeps-air x h = go (c.air x h)
    where
      go : Memᴰ x s.air ⊎ Known r t x → Known r t x
      go (inl k) = known-grows c.grows (i.air x k)
      go (inr k) = k

  keeps-lines : (l : Line) → Memᴰ l t.lines → LineOk r t l
  keeps-lines l h = go (grown-cases c.lines l h)
    where
      go : Memᴰ l s.lines ⊎ NewLine r s t l → LineOk r t l
      go (inl k) = line-grows r c.grows l (i.lines l k)
      go (inr n) = n.ok

  keeps-wishes : (x : Wish) → Memᴰ x t.wishes → WishOk r t x
  keeps-wishes x h = go (grown-cases c.wishes x h)
    where
      go : Memᴰ x s.wishes ⊎ NewWish r s t x → WishOk r t x
      go (inl k) = wish-grows r c.grows x (i.wishes x k)
      go (inr n) = n.ok

  keeps-made : (m : Key) → Memᴰ m t.made → KeyOk r t m
  keeps-made m h = go (grown-cases c.made m h)
    where
      go : Memᴰ m s.made ⊎ NewKey r s t m → KeyOk r t m
      go (inl k) = key-grows r c.grows m (i.made m k)
      go (inr n) = n.ok

  keeps-asked : (q : Asked) → Memᴰ q t.asked → AskedOk r t q
  keeps-asked q h = go (grown-cases c.asked q h)
    where
      go : Memᴰ q s.asked ⊎ NewAsked r s t q → AskedOk r t q
      go (inl k) = asked-grows r c.grows q (i.asked q k)
      go (inr n) = n.ok

  keeps-done : (d : Done) → Memᴰ d t.done → DoneOk r t d
  keeps-done d h = go (grown-cases c.done d h)
    where
      go : Memᴰ d s.done ⊎ NewDone r s t d → DoneOk r t d
      go (inl k) = done-grows r c.grows d (i.done d k)
      go (inr n) = n.ok

  keeps-no-wish : (m : Key) (x : Wish) → Memᴰ m t.made → Memᴰ x t.wishes → m.key ≡ x.number → ⊥
  keeps-no-wish m x h k e = go (grown-cases c.made m h) (grown-cases c.wishes x k)
    where
      go : Memᴰ m s.made ⊎ NewKey r s t m → Memᴰ x s.wishes ⊎ NewWish r s t x → ⊥
      go (inl a) (inl b) = i.key_no_wish m x a b e
      go (inl a) (inr n) = let l = (i.made m a).low in let f = n.fresh in omega arith
      go (inr n) p = let l = (i.wishes x (n.no_wish x k)).low in let f = n.fresh in omega arith

  keeps-no-asking : (m : Key) (q : Asked) → Memᴰ m t.made → Memᴰ q t.asked → m.key ≡ q.number → ⊥
  keeps-no-asking m q h k e = go (grown-cases c.made m h) (grown-cases c.asked q k)
    where
      go : Memᴰ m s.made ⊎ NewKey r s t m → Memᴰ q s.asked ⊎ NewAsked r s t q → ⊥
      go (inl a) (inl b) = i.key_no_asking m q a b e
      go (inl a) (inr n) = let l = (i.made m a).low in let f = n.fresh in omega arith
      go (inr n) p = let l = (i.asked q (n.no_asking q k)).low in let f = n.fresh in omega arith

  -- a new wish and an old one of the same line are of different stages
  new-wish-apart : (x y : Wish) → NewWish r s t x → Memᴰ y s.wishes → x.stage ≡ y.stage → x.line.id ≡ y.line.id → ⊥
  new-wish-apart x y n h e f = go n.from
    where
      go : WishFrom s t x → ⊥
      go (new_line_lem d) = let l = wish-id y h in omega arith
      go (went_on z k a b d p q) = clash (i.login_taken y z h k (sym e ∙ b) a (sym f ∙ d)) p

  keeps-one-wish : (x y : Wish) → Memᴰ x t.wishes → Memᴰ y t.wishes → x.stage ≡ y.stage → x.line.id ≡ y.line.id → x ≡ y
  keeps-one-wish x y h k e f = go (grown-two c.wishes x y h k)
    where
      go : Two (NewWish r s t) s.wishes x y → x ≡ y
      go (both-old a b) = i.one_wish x y a b e f
      go (first_new n b) = absurd (new-wish-apart x y n b e f)
      go (second_new a n) = absurd (new-wish-apart y x n a (sym e) (sym f))
      go (one-new m n a) = a

  keeps-login-taken : (x y : Wish) → Memᴰ x t.wishes → Memᴰ y t.wishes → x.stage ≡ AskingHouse → y.stage ≡ LoggingIn
      → x.line.id ≡ y.line.id → is_in y.number t.taken ≡ true
  keeps-login-taken x y h k a b f = go (grown-two c.wishes x y h k)
    where
      asking-is-not-login : x.stage ≡ y.stage → ⊥
      asking-is-not-login e = let z : ◌≡◌ {A = ℕ} 0 1 = cc in omega arith

      from-x : Memᴰ y s.wishes → WishFrom s t x → is_in y.number t.taken ≡ true
      from-x l (new_line_lem d) = absurd (let p = wish-id y l in omega arith)
      from-x l (went_on z m p q d u v) =
          subst (λ (w : Wish). is_in w.number t.taken ≡ true) (i.one_wish z y m l (p ∙ sym b) (sym d ∙ f)) v

      from-y : Memᴰ x s.wishes → WishFrom s t y → is_in y.number t.taken ≡ true
      from-y l (new_line_lem d) = absurd (let p = wish-id x l in omega arith)
      from-y l (went_on z m p q d u v) = absurd (asking-is-not-login (a ∙ sym q))

      go : Two (NewWish r s t) s.wishes x y → is_in y.number t.taken ≡ true
      go (both-old l m) = c.grows.taken y.number (i.login_taken x y l m a b f)
      go (first_new n m) = from-x m n.from
      go (second_new l n) = from-y l n.from
      go (one-new m n e) = absurd (asking-is-not-login (ap (λ (w : Wish). w.stage) e))

  -- of a line whose asking for the house is taken just now, every wish is taken
  taken-with : (y x : Wish) → Memᴰ y s.wishes → Memᴰ x s.wishes → y.stage ≡ AskingHouse → y.line.id ≡ x.line.id
      → is_in y.number t.taken ≡ true → is_in x.number t.taken ≡ true
  taken-with y x h k a f v = go x.stage refl
    where
      go : (g : Stage) → x.stage ≡ g → is_in x.number t.taken ≡ true
      go LoggingIn e = c.grows.taken x.number (i.login_taken y x h k a e f)
      go AskingHouse e = subst (λ (w : Wish). is_in w.number t.taken ≡ true) (i.one_wish y x h k (a ∙ sym e) f) v

  keeps-wish-taken : (q : Asked) (x : Wish) → Memᴰ q t.asked → Memᴰ x t.wishes → (q.service ≡ r.house → ⊥)
      → q.line.id ≡ x.line.id → is_in x.number t.taken ≡ true
  keeps-wish-taken q x h k w f = go (grown-cases c.asked q h) (grown-cases c.wishes x k)
    where
      from-q : AskedFrom r s t q → is_in x.number t.taken ≡ true
      from-q (for-house e) = absurd (w e)
      from-q (new_line_lem d old) = absurd (let l = wish-id x (old x k) in omega arith)
      from-q (went_on y l a d u v old) = taken-with y x l (old x k) a (sym d ∙ f) v

      from-x : Memᴰ q s.asked → WishFrom s t x → is_in x.number t.taken ≡ true
      from-x m (new_line_lem d) = absurd (let l = asked-id q m in omega arith)
      from-x m (went_on y l a b d u v) = absurd (clash (i.wish_taken q y m l w (f ∙ d)) u)

      go : Memᴰ q s.asked ⊎ NewAsked r s t q → Memᴰ x s.wishes ⊎ NewWish r s t x → is_in x.number t.taken ≡ true
      go (inl a) (inl b) = c.grows.taken x.number (i.wish_taken q x a b w f)
      go (inl a) (inr n) = from-x a n.from
      go (inr n) p = from-q n.from

  new-asking-apart : (q p : Asked) → NewAsked r s t q → Memᴰ p s.asked → (q.service ≡ r.house → ⊥) → (p.service ≡ r.house → ⊥)
      → q.line.id ≡ p.line.id → ⊥
  new-asking-apart q p n h w v f = go n.from
    where
      go : AskedFrom r s t q → ⊥
      go (for-house e) = w e
      go (new_line_lem d old) = let l = asked-id p h in omega arith
      go (went_on y l a d u z old) = clash (i.wish_taken p y h l v (sym f ∙ d)) u

  keeps-one-of-line : (p q : Asked) → Memᴰ p t.asked → Memᴰ q t.asked → (p.service ≡ r.house → ⊥) → (q.service ≡ r.house → ⊥)
      → p.line.id ≡ q.line.id → p ≡ q
  keeps-one-of-line p q h k v w f = go (grown-two c.asked p q h k)
    where
      go : Two (NewAsked r s t) s.asked p q → p ≡ q
      go (both-old a b) = i.one_of_line p q a b v w f
      go (first_new n b) = absurd (new-asking-apart p q n b v w f)
      go (second_new a n) = absurd (new-asking-apart q p n a w v (sym f))
      go (one-new m n a) = a

  keeps-upon-after : (m : Key) (x : Wish) → Memᴰ m t.made → Memᴰ x t.wishes → m.upon ≡ even x.number → x.since ≤ m.at
  keeps-upon-after m x h k e = go (grown-cases c.made m h) (grown-cases c.wishes x k)
    where
      go : Memᴰ m s.made ⊎ NewKey r s t m → Memᴰ x s.wishes ⊎ NewWish r s t x → x.since ≤ m.at
      go (inl a) (inl b) = i.upon_after m x a b e
      go (inl a) (inr n) =
          absurd (let l = known-low i x.number (x.number * 2) refl (subst (Known r s) e (i.made m a).upon) in let f = n.fresh in omega arith)
      go (inr n) p = let l = (i.wishes x (n.no_wish x k)).past in let f = n.at_now in omega arith

  keeps-closings : (o : Closing) (m : Key) → Memᴰ o t.closed → Memᴰ m t.made → m.who ≡ o.who → m.at ≤ o.at
  keeps-closings o m h k e = go (c.closed o h) (grown-cases c.made m k)
    where
      go : Memᴰ o s.closed ⊎ (o.at ≡ s.now) → Memᴰ m s.made ⊎ NewKey r s t m → m.at ≤ o.at
      go (inl a) (inl b) = i.closings o m a b e
      go p (inr n) = absurd (n.is_open o h (sym e))
      go (inr a) (inl b) = let l = (i.made m b).past in omega arith

  keeps-once : EachOnce r t.done
  keeps-once = go c.done i.each_once
    where
      go : {ds : List Done} → Grown (NewDone r s t) s.done ds → EachOnce r s.done → EachOnce r ds
      go same o = o
      go (more d n) o = (n.once, o)

  -- what changes so keeps the invariant
  pub keep : Inv r t
  keep =
      record {
        air = keeps-air;
        lines = keeps-lines;
        wishes = keeps-wishes;
        made = keeps-made;
        asked = keeps-asked;
        done = keeps-done;
        one_key = unique-grown (λ (m : Key). m.key) s.next (λ m h. (i.made m h).low) (λ m n. n.fresh) c.made i.one_key;
        one_asking = unique-grown (λ (q : Asked). q.number) s.next (λ q h. (i.asked q h).low) (λ q n. n.fresh) c.asked i.one_asking;
        one_number = unique-grown (λ (x : Wish). x.number) s.next (λ x h. (i.wishes x h).low) (λ x n. n.fresh) c.wishes i.one_number;
        key_no_wish = keeps-no-wish;
        key_no_asking = keeps-no-asking;
        one_wish = keeps-one-wish;
        login_taken = keeps-login-taken;
        wish_taken = keeps-wish-taken;
        one_of_line = keeps-one-of-line;
        upon_after = keeps-upon-after;
        closings = keeps-closings;
        each_once = keeps-once;
        taken_low = c.taken;
      }
