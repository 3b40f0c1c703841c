-- Each event changes what it may, so that the invariant holds of every state that can be reached. Assumes nothing.
use mathlib.Core.Path.{◌≡◌, refl, sym, subst, ◌∙◌, ap}
use mathlib.Core.Bool.{true, false}
use mathlib.Core.Logic.{◌⊎◌, inl, inr}
use mathlib.Core.List.Memᴰ
use mathlib.Core.List.{List, [], ◌∷◌, Memᴰ}
use Prim.Native.Nat.{ℕ, ◌*◌, ◌≤◌, ◌<◌}
use native.Mathlib.Omega.{arith}
use lib.Dec.{eqb}
use borrow.Author.Tests.{eqb-true, eq-eqb}
use Rattle.tickets.specs.Term.{Term, Num, Own, Pair, Gets, even}
use Rattle.tickets.specs.State.{Rules, Lately, Line, LoggingIn, AskingHouse, Wish, Key, Asked, Closing, State, Safe, is_in, is_closed}
use Rattle.tickets.specs.Event.{Body, body_of, ticket, letter_of, asking_of, login_of, receipt, Event, after, HearsLogin, Serves, Does, Takes, HoldsHouse, HoldsService, Wants, new_line, new_wish, new_asked, new_key, new_done}
use Rattle.tickets.specs.Promise.{AsWanted, MadeUpon, MadeFor, CameBy, Began, WantedBy, GaveKey}
use Rattle.tickets.proofs.Bools.{Sub, clash, or_cases, or-false-left, or-false-right, is_in-here, sub_refl, sub_more}
use Rattle.tickets.proofs.Grown.{Grown, same, more, grown-old}
use Rattle.tickets.proofs.Known.{Known, Grows, known-grows}
use Rattle.tickets.proofs.Inv.{GivenKey, Under, by-own, by-session, by-forged, HoldsKey, key-given, key-forged, AskedOk, Inv, own-stolen, gets-known, login-cases}
use Rattle.tickets.proofs.Keep.{Change, NewLine, NewWish, NewKey, NewAsked, NewDone, upon-grows, answers-grows, keep}
use Rattle.tickets.proofs.Keep
use Rattle.tickets.proofs.Deeds.{done_ok}
use Rattle.tickets.proofs.Hearing
use Rattle.tickets.proofs.Hearing.{Sent, ticket-used, asking-safe, first-time, number-heard, login-letter, asking-letter}

-- a list that has at most one more
abbrev Tail : {A : Type 0} → List A → List A → Type 0
Tail xs ys = Grown (λ _. Unit {0}) xs ys

grows : (s t : State) → s.now ≤ t.now → s.next ≤ t.next → Sub s.stolen t.stolen → Sub s.taken t.taken → Tail s.lines t.lines
    → Tail s.wishes t.wishes → Tail s.made t.made → Tail s.asked t.asked → Tail s.done t.done → Grows s t
grows s t a b c d l x m q e =
    record {
      now_le = a;
      next_le = b;
      thefts = c;
      taken = d;
      lines = grown-old l;
      wishes = grown-old x;
      made = grown-old m;
      asked = grown-old q;
      done = grown-old e;
    }

-- one word more on the net, which may be known
said-one : (r : Rules) (s t : State) (y : Term) → Known r t y → (x : Term) → Memᴰ x (y ∷ s.air) → Memᴰ x s.air ⊎ Known r t x
said-one r s t y k x h = go (Memᴰ.cases_cons h)
  where
    go : (x ≡ y) ⊎ Memᴰ x s.air → Memᴰ x s.air ⊎ Known r t x
    go (inl e) = inr (subst (Known r t) (sym e) k)
    go (inr m) = inl m

-- two words more
said-two : (r : Rules) (s t : State) (y z : Term) → Known r t y → Known r t z → (x : Term) → Memᴰ x (y ∷ z ∷ s.air) → Memᴰ x s.air ⊎ Known r t x
said-two r s t y z k l x h = go (Memᴰ.cases_cons h)
  where
    go : (x ≡ y) ⊎ Memᴰ x (z ∷ s.air) → Memᴰ x s.air ⊎ Known r t x
    go (inl e) = inr (subst (Known r t) (sym e) k)
    go (inr m) = said-one r s t z l x m

pub is_in-cases : (n x : ℕ) (xs : List ℕ) → is_in n (x ∷ xs) ≡ true → (n ≡ x) ⊎ (is_in n xs ≡ true)
unfolding is_in
is_in-cases n x xs h = go (or_cases (eqb x n) (is_in n xs) h)
  where
    go : (eqb x n ≡ true) ⊎ (is_in n xs ≡ true) → (n ≡ x) ⊎ (is_in n xs ≡ true)
    go (inl e) = inl (sym (eqb-true x n e))
    go (inr e) = inr e

-- of an account that isn't closed there is no closing
pub open-no-closing : (a : ℕ) (cs : List Closing) → is_closed a cs ≡ false → (c : Closing) → Memᴰ c cs → c.who ≡ a → ⊥
unfolding is_closed
open-no-closing a [] h c m e = Memᴰ.not-nil m
open-no-closing a (o ∷ cs) h c m e = go (open-no-closing a cs (or-false-right (eqb o.who a) (is_closed a cs) h) c) (Memᴰ.cases_cons m)
  where
    go : (Memᴰ c cs → c.who ≡ a → ⊥) → (c ≡ o) ⊎ Memᴰ c cs → ⊥
    go rest (inl f) =
        clash (eq-eqb o.who a (ap (λ (x : Closing). x.who) (sym f) ∙ e)) (or-false-left (eqb o.who a) (is_closed a cs) h)
    go rest (inr k) = rest k e

module _ {r : Rules} {s : State} (i : Inv r s) where
  -- what was taken stays below the number that is drawn next
  taken-below : (t : State) → s.next ≤ t.next → (n : ℕ) → is_in n s.taken ≡ true → n < t.next
  taken-below t h n k = let l = i.taken_low n k in omega arith

  taken-one : (t : State) (x : Wish) → Memᴰ x s.wishes → s.next ≤ t.next → (n : ℕ) → is_in n (x.number ∷ s.taken) ≡ true → n < t.next
  taken-one t x m h n k = go (is_in-cases n x.number s.taken k)
    where
      go : (n ≡ x.number) ⊎ (is_in n s.taken ≡ true) → n < t.next
      go (inl e) = let l = (i.wishes x m).low in omega arith
      go (inr e) = taken-below t h n e

  pub step-ticks : Change r s (after r Event.ticks s)
  step-ticks =
      record {
        grows = grows s (after r Event.ticks s) (omega arith) (omega arith) (sub_refl s.stolen) (sub_refl s.taken) same same same same same;
        air = λ x h. inl h;
        closed = λ c h. inl h;
        lines = same;
        wishes = same;
        made = same;
        asked = same;
        done = same;
        taken = taken-below (after r Event.ticks s) (omega arith);
      }

  pub step-steals : (a : ℕ) → Change r s (after r (Event.steals a) s)
  step-steals a =
      record {
        grows = grows s (after r (Event.steals a) s) (omega arith) (omega arith) (sub_more a s.stolen) (sub_refl s.taken) same same same same same;
        air = said-one r s (after r (Event.steals a) s) (Own a) (Known.stolen a (is_in-here a s.stolen));
        closed = λ c h. inl h;
        lines = same;
        wishes = same;
        made = same;
        asked = same;
        done = same;
        taken = taken-below (after r (Event.steals a) s) (omega arith);
      }

  pub step-closes : (a : ℕ) → Change r s (after r (Event.closes a) s)
  step-closes a =
      record {
        grows = grows s (after r (Event.closes a) s) (omega arith) (omega arith) (sub_refl s.stolen) (sub_refl s.taken) same same same same same;
        air = λ x h. inl h;
        closed = λ c h. go c (Memᴰ.cases_cons h);
        lines = same;
        wishes = same;
        made = same;
        asked = same;
        done = same;
        taken = taken-below (after r (Event.closes a) s) (omega arith);
      }
    where
      go : (c : Closing) → (c ≡ record { who = a; at = s.now }) ⊎ Memᴰ c s.closed → Memᴰ c s.closed ⊎ (c.at ≡ s.now)
      go c (inl e) = inr (ap (λ (o : Closing). o.at) e)
      go c (inr m) = inl m

  pub step-begins : (a v : ℕ) (w : Term) → Wants r s v w → Change r s (after r (Event.begins a v w) s)
  step-begins a v w g =
      record {
        grows = gr;
        air =
            said-one r s t (login_of (new_wish s (new_line s a v w) LoggingIn (Own a)))
            (Known.a-login (new_wish s (new_line s a v w) LoggingIn (Own a)) _ _ (Memᴰ.head refl) refl refl refl);
        closed = λ c h. inl h;
        lines = more (new_line s a v w) (record { ok = record { low = omega arith; a_service = g.a_service; writable = known-grows gr (gets-known i g.writable) } });
        wishes =
            more (new_wish s (new_line s a v w) LoggingIn (Own a))
            (record {
              ok =
                  record {
                    low = omega arith;
                    past = omega arith;
                    line = Memᴰ.head refl;
                    holds = λ e. absurd (no_asking e);
                  };
              fresh = refl;
              from = Keep.WishFrom.new_line_lem refl;
            });
        made = same;
        asked = same;
        done = same;
        taken = taken-below t (omega arith);
      }
    where
      t : State
      t = after r (Event.begins a v w) s

      gr : Grows s t
      gr =
          grows s t (omega arith) (omega arith) (sub_refl s.stolen) (sub_refl s.taken) (more (new_line s a v w) tt)
          (more (new_wish s (new_line s a v w) LoggingIn (Own a)) tt) same same same

      no_asking : LoggingIn ≡ AskingHouse → ⊥
      no_asking e = let z : ◌≡◌ {A = ℕ} 0 1 = cc in omega arith

  pub step-grants : (a : ℕ) (n : Term) (at : ℕ) → HearsLogin r s a n at → Change r s (after r (Event.grants a n at) s)
  step-grants a n at h =
      record {
        grows = g;
        air =
            said-two r s t (ticket r (body_of m)) (letter_of m)
            (Known.a-ticket m _ _ (Memᴰ.head refl) refl refl) (Known.a-letter m _ _ (Memᴰ.head refl) refl refl);
        closed = λ c h. inl h;
        lines = same;
        wishes = same;
        made =
            more m
            (record {
              ok =
                  record {
                    low = omega arith;
                    past = omega arith;
                    lives = refl;
                    thefts = sub_refl s.stolen;
                    upon = known-grows g (upon (login-cases (gets-known i h.heard)));
                    under = by-own refl;
                    began = λ _ free. began free (login-cases (gets-known i h.heard));
                    wanted = λ w. absurd (w refl);
                  };
              fresh = refl;
              at_now = refl;
              is_open = open-no-closing a s.closed h.is_open;
              no_wish = λ x k. k;
              no_asking = λ q k. k;
            });
        asked = same;
        done = same;
        taken = taken-below t (omega arith);
      }
    where
      m : Key
      m = new_key r s a r.house n (Own a)

      t : State
      t = after r (Event.grants a n at) s

      g : Grows s t
      g = grows s t (omega arith) (omega arith) (sub_refl s.stolen) (sub_refl s.taken) same same (more m tt) same same

      Case : Type 0
      Case =
          (Known r s (Own a) × Known r s (Pair n (Num at)))
          ⊎ ((y : Wish) × Memᴰ y s.wishes × (y.stage ≡ LoggingIn) × (Own a ≡ Own y.line.reader) × (Pair n (Num at) ≡ Pair (even y.number) (Num y.since)))

      upon : Case → Known r s n
      upon (inl p) = Hearing.pair-first p.1
      upon (inr p) =
          let e = p.4 in
          let f : n ≡ even p.0.number = cc in
          subst (Known r s) (sym f) (Known.wish-number p.0 (p.0.number * 2) p.1 refl)

      began : is_in a s.stolen ≡ false → Case → (x : Wish) × Began r t m x
      began free (inl p) = absurd (clash (own-stolen i a p.0) free)
      began free (inr p) =
          let e = p.4 in
          let f : at ≡ p.0.since = cc in
          let reader : a ≡ p.0.line.reader = cc in (
            p.0,
            record {
              known = p.1;
              at_login = p.2;
              by_reader = sym reader;
              same_number = cc;
              in_time = subst (λ (x : ℕ). Lately 0 r.lag s.now x) f h.in_time;
              from_line = (i.wishes p.0 p.1).line;
            },
          )

  -- an asking under a key that its reader holds
  asked-ok : (t : State) → Grows s t → (q : Asked) → q.number < t.next → q.stolen ≡ s.stolen → Known r s q.what → Memᴰ q.line t.lines
      → HoldsKey r s q.line.reader q.key (MadeUpon s q.line.reader q.service q.key q.upon q.since)
      → (q.service ≡ r.house → q.what ≡ Num q.line.service) → ((q.service ≡ r.house → ⊥) → AsWanted q) → (x : Wish) × CameBy r t q x → AskedOk r t q
  asked-ok t g q low st what line holds house_what as_wanted came =
      record {
        low = low;
        thefts = λ a h. g.thefts a (subst (λ (x : List ℕ). is_in a x ≡ true) st h);
        what = known-grows g what;
        line = line;
        holds = later holds;
        house_what = house_what;
        as_wanted = as_wanted;
        came = came;
        fresh = λ w. fresh (subst (λ (x : List ℕ). Safe r x q.line.reader r.house) st w) holds;
      }
    where
      later : HoldsKey r s q.line.reader q.key (MadeUpon s q.line.reader q.service q.key q.upon q.since)
          → HoldsKey r t q.line.reader q.key (MadeUpon t q.line.reader q.service q.key q.upon q.since)
      later (key-given m h) = key-given m (upon-grows r g h)
      later (key-forged k u) = key-forged (known-grows g k) (Keep.unsafe-grows r g q.line.reader r.house u)

      fresh : Safe r s.stolen q.line.reader r.house
          → HoldsKey r s q.line.reader q.key (MadeUpon s q.line.reader q.service q.key q.upon q.since)
          → (m : Key) × MadeUpon t q.line.reader q.service q.key q.upon q.since m
      fresh w (key-given m h) = (m, upon-grows r g h)
      fresh w (key-forged k u) = absurd (clash u w)

  -- an asking for the house under a key that its reader holds is under way
  wish-holds : (t : State) → Grows s t → (a : ℕ) (k : Term) (n f : ℕ) → HoldsKey r s a k (MadeUpon s a r.house k n f) → HoldsKey r t a k (GivenKey t a r.house k)
  wish-holds t g a k n f (key-given m h) =
      key-given m (record { known = g.made m h.known; for_reader = h.for_reader; for-service = h.for-service; same_key = h.same_key })
  wish-holds t g a k n f (key-forged x u) = key-forged (known-grows g x) (Keep.unsafe-grows r g a r.house u)

  pub step-wants : (x : Wish) (k : Term) (u : ℕ) → Takes s x LoggingIn (Own x.line.reader) r.house k u → Change r s (after r (Event.wants x k u) s)
  step-wants x k u h =
      record {
        grows = g;
        air = said-one r s t (asking_of q) (Known.an-asking q _ _ (Memᴰ.head refl) refl refl);
        closed = λ c h. inl h;
        lines = same;
        wishes =
            more y
            (record {
              ok =
                  record {
                    low = omega arith;
                    past = omega arith;
                    line = line;
                    holds = λ _. wish-holds t g x.line.reader k x.number x.since holds;
                  };
              fresh = refl;
              from = Keep.WishFrom.went_on x h.known h.at_stage refl refl h.not_taken (is_in-here x.number s.taken);
            });
        made = same;
        asked =
            more q
            (record {
              ok =
                  asked-ok t g q (omega arith) refl (Known.number x.line.service) line holds (λ _. refl) (λ w. absurd (w refl)) came;
              fresh = refl;
              from = Keep.AskedFrom.for-house refl;
            });
        done = same;
        taken = taken-one t x h.known (omega arith);
      }
    where
      t : State
      t = after r (Event.wants x k u) s

      q : Asked
      q = new_asked s x.line r.house k (Num x.line.service) s.now x.number x.since

      y : Wish
      y = new_wish s x.line AskingHouse k

      g : Grows s t
      g = grows s t (omega arith) (omega arith) (sub_refl s.stolen) (sub_more x.number s.taken) same (more y tt) same (more q tt) same

      line : Memᴰ x.line s.lines
      line = (i.wishes x h.known).line

      holds : HoldsKey r s x.line.reader k (MadeUpon s x.line.reader r.house k x.number x.since)
      holds = login-letter i x k u h.known (gets-known i h.heard)

      came : (w : Wish) × CameBy r t q w
      came = (
        x,
        record {
          known = g.wishes x h.known;
          by_reader = refl;
          same_number = refl;
          same_since = refl;
          login = λ _. h.at_stage;
          asking = λ w. absurd (w refl);
          for-service = λ w. absurd (w refl);
          from_line = line;
        },
      )

  pub step-wish : (p : Asked) (v : ℕ) (w : Term) → HoldsHouse r s p → Wants r s v w → Change r s (after r (Event.wish p v w) s)
  step-wish p v w h z =
      record {
        grows = g;
        air = said-one r s t (asking_of q) (Known.an-asking q _ _ (Memᴰ.head refl) refl refl);
        closed = λ c h. inl h;
        lines = more l (record { ok = record { low = omega arith; a_service = z.a_service; writable = known-grows g (gets-known i z.writable) } });
        wishes =
            more y
            (record {
              ok =
                  record {
                    low = omega arith;
                    past = omega arith;
                    line = Memᴰ.head refl;
                    holds = λ _. wish-holds t g p.line.reader p.key p.upon p.since holds;
                  };
              fresh = refl;
              from = Keep.WishFrom.new_line_lem refl;
            });
        made = same;
        asked =
            more q
            (record {
              ok = asked-ok t g q (omega arith) refl (Known.number v) (Memᴰ.head refl) holds (λ _. refl) (λ w. absurd (w refl)) came;
              fresh = refl;
              from = Keep.AskedFrom.for-house refl;
            });
        done = same;
        taken = taken-below t (omega arith);
      }
    where
      t : State
      t = after r (Event.wish p v w) s

      l : Line
      l = new_line s p.line.reader v w

      q : Asked
      q = new_asked s (new_line s p.line.reader v w) r.house p.key (Num v) s.now p.upon p.since

      y : Wish
      y = new_wish s (new_line s p.line.reader v w) AskingHouse p.key

      g : Grows s t
      g = grows s t (omega arith) (omega arith) (sub_refl s.stolen) (sub_refl s.taken) (more l tt) (more y tt) same (more q tt) same

      holds : HoldsKey r s p.line.reader p.key (MadeUpon s p.line.reader r.house p.key p.upon p.since)
      holds =
          subst (λ (v : ℕ). HoldsKey r s p.line.reader p.key (MadeUpon s p.line.reader v p.key p.upon p.since)) h.the_house
          (i.asked p h.known).holds

      came : (w : Wish) × CameBy r t q w
      came =
          let b = (i.asked p h.known).came in (
            b.0,
            record {
              known = g.wishes b.0 b.1.known;
              by_reader = b.1.by_reader;
              same_number = b.1.same_number;
              same_since = b.1.same_since;
              login = λ _. b.1.login h.the_house;
              asking = λ w. absurd (w refl);
              for-service = λ w. absurd (w refl);
              from_line = g.lines b.0.line b.1.from_line;
            },
          )

  pub step-again : (p : Asked) (w : Term) → HoldsService r s p → Gets s.air w → Change r s (after r (Event.again p w) s)
  step-again p w h z =
      record {
        grows = g;
        air = said-one r s t (asking_of q) (Known.an-asking q _ _ (Memᴰ.head refl) refl refl);
        closed = λ c h. inl h;
        lines = more l (record { ok = record { low = omega arith; a_service = h.a_service; writable = known-grows g (gets-known i z) } });
        wishes = same;
        made = same;
        asked =
            more q
            (record {
              ok =
                  asked-ok t g q (omega arith) refl (gets-known i z) (Memᴰ.head refl) (i.asked p h.known).holds (λ e. absurd (h.a_service e))
                  (λ _. record { of_service = refl; in_words = refl; at_tick = refl }) came;
              fresh = refl;
              from = Keep.AskedFrom.new_line_lem refl (λ x k. k);
            });
        done = same;
        taken = taken-below t (omega arith);
      }
    where
      t : State
      t = after r (Event.again p w) s

      l : Line
      l = new_line s p.line.reader p.service w

      q : Asked
      q = new_asked s (new_line s p.line.reader p.service w) p.service p.key w s.now p.upon p.since

      g : Grows s t
      g = grows s t (omega arith) (omega arith) (sub_refl s.stolen) (sub_refl s.taken) (more l tt) same same (more q tt) same

      came : (w : Wish) × CameBy r t q w
      came =
          let b = (i.asked p h.known).came in (
            b.0,
            record {
              known = g.wishes b.0 b.1.known;
              by_reader = b.1.by_reader;
              same_number = b.1.same_number;
              same_since = b.1.same_since;
              login = b.1.login;
              asking = b.1.asking;
              for-service = b.1.for-service;
              from_line = g.lines b.0.line b.1.from_line;
            },
          )

  pub step-asks : (x : Wish) (k : Term) (u : ℕ) → Takes s x AskingHouse x.key x.line.service k u → Change r s (after r (Event.asks x k u) s)
  step-asks x k u h =
      record {
        grows = g;
        air = said-one r s t (asking_of q) (Known.an-asking q _ _ (Memᴰ.head refl) refl refl);
        closed = λ c h. inl h;
        lines = same;
        wishes = same;
        made = same;
        asked =
            more q
            (record {
              ok =
                  asked-ok t g q (omega arith) refl what line holds
                  (λ e. absurd ((i.lines x.line line).a_service e)) (λ _. record { of_service = refl; in_words = refl; at_tick = refl }) came;
              fresh = refl;
              from = Keep.AskedFrom.went_on x h.known h.at_stage refl h.not_taken (is_in-here x.number s.taken) (λ x k. k);
            });
        done = same;
        taken = taken-one t x h.known (omega arith);
      }
    where
      t : State
      t = after r (Event.asks x k u) s

      q : Asked
      q = new_asked s x.line x.line.service k x.line.what x.line.at x.number x.since

      g : Grows s t
      g = grows s t (omega arith) (omega arith) (sub_refl s.stolen) (sub_more x.number s.taken) same same same (more q tt) same

      line : Memᴰ x.line s.lines
      line = (i.wishes x h.known).line

      what : Known r s x.line.what
      what = (i.lines x.line line).writable

      holds : HoldsKey r s x.line.reader k (MadeUpon s x.line.reader x.line.service k x.number x.since)
      holds = asking-letter i x x.line.service k u h.known h.at_stage (gets-known i h.heard)

      came : (w : Wish) × CameBy r t q w
      came = (
        x,
        record {
          known = g.wishes x h.known;
          by_reader = refl;
          same_number = refl;
          same_since = refl;
          login = λ e. absurd ((i.lines x.line line).a_service e);
          asking = λ _. h.at_stage;
          for-service = λ _. refl;
          from_line = line;
        },
      )

  pub step-does : (b : Body) (n w : Term) (at : ℕ) → Does r s b n w at → Change r s (after r (Event.does b n w at) s)
  step-does b n w at h =
      record {
        grows = g;
        air = said-one r s t (receipt b.key n) (Known.a-receipt (new_done s b n w) _ _ (Memᴰ.head refl) refl refl);
        closed = λ c h. inl h;
        lines = same;
        wishes = same;
        made = same;
        asked = same;
        done =
            more (new_done s b n w)
            (record { ok = done_ok i t g b n w at h.hears (λ e. absurd (h.a_service e)); once = λ e k safe. first-time i b n w at h.hears safe e k });
        taken = taken-below t (omega arith);
      }
    where
      t : State
      t = after r (Event.does b n w at) s

      g : Grows s t
      g = grows s t (omega arith) (omega arith) (sub_refl s.stolen) (sub_refl s.taken) same same same same (more (new_done s b n w) tt)

  pub step-serves : (b : Body) (n : Term) (v at : ℕ) → Serves r s b n v at → Change r s (after r (Event.serves b n v at) s)
  step-serves b n v at h =
      record {
        grows = g;
        air =
            said-two r s t (ticket r (body_of m)) (letter_of m)
            (Known.a-ticket m _ _ (Memᴰ.head refl) refl refl) (Known.a-letter m _ _ (Memᴰ.head refl) refl refl);
        closed = λ c h. inl h;
        lines = same;
        wishes = same;
        made =
            more m
            (record {
              ok =
                  record {
                    low = omega arith;
                    past = omega arith;
                    lives = refl;
                    thefts = sub_refl s.stolen;
                    upon = known-grows g (number-heard i b.key b.service n (Num v) at (gets-known i h.hears.asking_heard));
                    under = under (ticket-used i b n (Num v) at h.hears);
                    began = λ e. absurd (h.a_service e);
                    wanted = λ _ safe. wanted (asking-safe i b n (Num v) at h.hears (subst (λ (x : ℕ). Safe r s.stolen b.who x) (sym h.for-house) safe));
                  };
              fresh = refl;
              at_now = refl;
              is_open = open-no-closing b.who s.closed h.is_open;
              no_wish = λ x k. k;
              no_asking = λ q k. k;
            });
        asked = same;
        done =
            more (new_done s b n (Num v))
            (record { ok = done_ok i t g b n (Num v) at h.hears (λ _. gave); once = λ e k safe. first-time i b n (Num v) at h.hears safe e k });
        taken = taken-below t (omega arith);
      }
    where
      m : Key
      m = new_key r s b.who v n b.key

      t : State
      t = after r (Event.serves b n v at) s

      g : Grows s t
      g = grows s t (omega arith) (omega arith) (sub_refl s.stolen) (sub_refl s.taken) same same (more m tt) same (more (new_done s b n (Num v)) tt)

      gave : (k : Key) × GaveKey t (new_done s b n (Num v)) k
      gave = (
        m,
        record { known = Memᴰ.head refl; for_reader = refl; for-service = refl; same_number = refl; same_key = refl; same_tick = refl },
      )

      wanted : (q : Asked) × Sent s b n (Num v) at q → (q : Asked) × WantedBy r t m q
      wanted (q, f) =
          let house : q.service ≡ r.house = f.of_service ∙ h.for-house in
          let asked-words = (i.asked q f.known).house_what house in
          let heard-words = f.in_words in (
            q,
            record {
              known = f.known;
              by_reader = f.by_reader;
              of_house = house;
              for-service = cc;
              same_key = f.same_key;
              same_number = sym f.same_number;
              in_time = subst (λ (x : ℕ). Lately 0 r.lag s.now x) (sym f.at_tick) h.hears.in_time;
              from_line = (i.asked q f.known).line;
            },
          )

      under : ((m : Key) × MadeFor s b m) ⊎ (Known r s b.key × (is_in (r.key_of b.service) s.stolen ≡ true)) → Under r t m
      under (inl (o, f)) =
          by-session o (record { known = g.made o f.known; for_reader = f.for_reader; for-service = f.for-service ∙ h.for-house; same_key = f.same_key })
      under (inr (k, st)) =
          by-forged (known-grows g k) (subst (λ (x : ℕ). is_in (r.key_of x) s.stolen ≡ true) h.for-house st)
