-- Every row of the table of worked cases holds. Assumes nothing.
use mathlib.Core.Path.{◌≡◌, refl, sym, subst, ◌∙◌, ap}
use mathlib.Core.Bool.{true, false, cond}
use mathlib.Core.Logic.{◌⊎◌, inl, inr}
use mathlib.Core.List.Memᴰ
use mathlib.Core.List.{List, [], ◌∷◌, ◌++◌, Memᴰ}
use Prim.Native.Nat.{ℕ, zero, suc, ◌+◌, ◌*◌, ◌≤◌}
use native.Mathlib.Omega.{arith}
use lib.Dec.{eqb}
use borrow.Author.Tests.{eqb-true, eq-eqb}
use Rattle.tickets.specs.Term.{Term, Num, Drawn, Own, Pair, Lock, Gets, has, num, odd, pair, left, right, lock, open', even}
use Rattle.tickets.specs.State.{Rules, keep, Key, Asked, Done, State, is_in, is_closed, start}
use Rattle.tickets.specs.Event
use Rattle.tickets.specs.Event.{Body, ticket, asking, Event, after, May, DoneBefore, Later, Reach}
use Rattle.tickets.specs.Promise.{Origin, by_reader, six}
use Rattle.tickets.specs.Cases
use Rattle.tickets.specs.Cases.{runs, waits, Why, NotLately, TicketOver, DoneAlready, Right, Holds, RowHolds, rules, plain, WorkedCases}
use Rattle.tickets.specs.Cases.{login100, held100, house_ticket, ticket7, wish200, held200, logged_in, asked200, done200, closed300, asks_again, tries, stolen5, as_five, their_house_ticket, their_ticket7, other_ticket7, two_tickets, made_up}
use Rattle.tickets.specs.Cases.{row_a, row_b201, row_b206, row_c301, row_c_open, row_c1200, row_c1201, row_d, row_e, row_f, row_f_slip, row_g}
use Rattle.tickets.proofs.Bools.{clash, either}
use Rattle.tickets.proofs.Main.{main}

-- places in a list
first : {A : Type 0} {x : A} {xs : List A} → Memᴰ x (x ∷ xs)
first = Memᴰ.head refl

next : {A : Type 0} {x y : A} {xs : List A} → Memᴰ x xs → Memᴰ x (y ∷ xs)
next h = Memᴰ.tail h

-- what is drawn, as a number
abbrev drawn_of : Term → ℕ
drawn_of (Num n) = 0
drawn_of (Drawn n) = n
drawn_of (Own n) = 0
drawn_of (Pair a e) = 0
drawn_of (Lock k a e) = 0

-- nothing in the list has this
abbrev Lacks : {A : Type 0} → (A → ℕ) → ℕ → List A → Type 0
Lacks f n [] = Unit {0}
Lacks f n (d ∷ ds) = (eqb (f d) n ≡ false) × Lacks f n ds

lacks-none : {A : Type 0} (f : A → ℕ) (n : ℕ) (ds : List A) → Lacks f n ds → (d : A) → Memᴰ d ds → f d ≡ n → ⊥
lacks-none f n [] h d m e = Memᴰ.not-nil m
lacks-none {A} f n (x ∷ ds) h d m e = go (lacks-none f n ds h.1 d) (Memᴰ.cases_cons m)
  where
    go : (Memᴰ d ds → f d ≡ n → ⊥) → (d ≡ x) ⊎ Memᴰ d ds → ⊥
    go rest (inl i) = clash (eq-eqb (f x) n (ap f (sym i) ∙ e)) h.0
    go rest (inr i) = rest i e

-- where the newest deed is forgotten, and no other has this, none that has it is remembered
first-old : (f : Done → ℕ) (n keep now : ℕ) (x : Done) (xs : List Done) → (now ≤ x.at + keep → ⊥) → Lacks f n xs
    → (d : Done) → Memᴰ d (x ∷ xs) → f d ≡ n → now ≤ d.at + keep → ⊥
first-old f n keep now x xs old h d m e r = go (Memᴰ.cases_cons m)
  where
    go : (d ≡ x) ⊎ Memᴰ d xs → ⊥
    go (inl i) = old (subst (λ (y : Done). now ≤ y.at + keep) i r)
    go (inr i) = lacks-none f n xs h d i e

module _ (r : Rules) (s : State) (v : ℕ) (k : Term) (n : ℕ) where
  -- nothing was done with this number
  new-number : Lacks (λ (d : Done). drawn_of d.number) n s.done → DoneBefore r s v k (Drawn n) → ⊥
  new-number h d = lacks-none (λ (d : Done). drawn_of d.number) n s.done h d.deed d.known (ap drawn_of d.same_number)

-- nothing was done under this key
new-key : (r : Rules) (s : State) (v k : ℕ) (n : Term) → Lacks (λ (d : Done). drawn_of d.key) k s.done → DoneBefore r s v (Drawn k) n → ⊥
new-key r s v k n h d = lacks-none (λ (d : Done). drawn_of d.key) k s.done h d.deed d.known (ap drawn_of d.same_key)

waited : (r : Rules) (n : ℕ) (es : List Event) → Reach r es (runs r es start) → Reach r (waits n es) (runs r (waits n es) start)
waited r zero es l = l
waited r (suc n) es l = Event.onward (waited r n es l) Event.ticks tt

-- a state that can be reached by events is what they leave
leaves : {r : Rules} {s t : State} {es : List Event} → Later r s es t → t ≡ runs r es s
leaves Event.here = refl
leaves {r} (Event.onward l e h) = ap (after r e) (leaves l)

-- first some events, then others
joined : {r : Rules} {s t : State} {es fs : List Event} → Later r start es s → Later r s fs t → Later r start (fs ++ es) t
joined l Event.here = l
joined l (Event.onward k e h) = Event.onward (joined l k) e h

runs-join : (r : Rules) (fs es : List Event) (s : State) → runs r (fs ++ es) s ≡ runs r fs (runs r es s)
runs-join r [] es s = refl
runs-join r (f ∷ fs) es s = ap (after r f) (runs-join r fs es s)

module _ (k : ℕ → ℕ) where
  abbrev R : Rules
  R = rules k

  abbrev st : List Event → State
  st es = runs R es start

  at100 : Reach R (waits 100 []) (st (waits 100 []))
  at100 = waited R 100 [] Event.here

  reach-logged_in : Reach R logged_in (st logged_in)
  unfolding is_in is_closed
  reach-logged_in =
      Event.onward
      (Event.onward (Event.onward at100 (Event.begins 5 7 (Num 31)) (record { a_service = λ e. omega arith; writable = num 31 }))
      (Event.grants 5 (even 1) 100)
      (record { heard = has first; in_time = record { not_ahead = omega arith; not_old = omega arith }; is_open = refl }))
      (Event.wants login100 (even 2) 1100)
      (record { known = first; at_stage = refl; not_taken = refl; heard = has (next first) })

  reach-asked200 : Reach R asked200 (st asked200)
  unfolding is_in is_closed
  reach-asked200 =
      Event.onward
      (Event.onward
      (Event.onward (waited R 100 logged_in reach-logged_in) (Event.wish held100 7 (Num 32))
      (record { known = first; the_house = refl }, record { a_service = λ e. omega arith; writable = num 32 }))
      (Event.serves house_ticket (even 4) 7 200)
      (record {
        for-house = refl;
        a_service = λ e. omega arith;
        hears =
            record {
              ticket_heard = has (next (next first));
              asking_heard = has first;
              in_time = record { not_ahead = omega arith; not_old = omega arith };
              is_good = omega arith;
              is-new = λ d. Memᴰ.not-nil d.known;
            };
        is_open = refl;
      }))
      (Event.asks wish200 (even 5) 1200)
      (record { known = first; at_stage = refl; not_taken = refl; heard = has (next first) })

  may200 : May R (st asked200) (Event.does ticket7 (even 6) (Num 32) 200)
  may200 =
      record {
        a_service = λ e. omega arith;
        hears =
            record {
              ticket_heard = has (next first);
              asking_heard = has first;
              in_time = record { not_ahead = omega arith; not_old = omega arith };
              is_good = omega arith;
              is-new = new-number R (st asked200) 7 (even 5) 12 (refl, tt);
            };
      }

  reach-done200 : Reach R done200 (st done200)
  reach-done200 = Event.onward reach-asked200 (Event.does ticket7 (even 6) (Num 32) 200) may200

-- a row's proof: its events can happen, and its claims hold
module _ where
  abbrev s200 : State
  s200 = runs plain done200 start

  reach-plain : Reach plain done200 s200
  reach-plain = reach-done200 (λ v. v)

  row-a : RowHolds row_a
  unfolding is_in
  row-a =
      record {
        possible = reach-plain;
        claimed = (
          refl,
          (
            refl,
            (
              refl,
              (
                refl,
                (
                  record {
                    deed = _;
                    known = first;
                    such = refl;
                    origin = (main plain done200 s200 reach-plain).asked-for _ first (λ e. omega arith) refl;
                  },
                  tt,
                ),
              ),
            ),
          ),
        );
      }

  -- the asking of 200, heard again at a later tick
  heard-again : (n : ℕ) → Gets (runs plain (waits n done200) start).air (ticket plain ticket7)
      × Gets (runs plain (waits n done200) start).air (asking (even 5) 7 (even 6) (Num 32) 200)
  heard-again zero = (has (next (next first)), has (next first))
  heard-again (suc n) = heard-again n

  row-b201 : RowHolds row_b201
  row-b201 =
      record {
        possible = waited plain 1 done200 reach-plain;
        claimed = (
          λ m. m.hears.is-new before,
          (
            record {
              ticket_heard = (heard-again 1).0;
              asking_heard = (heard-again 1).1;
              else_right = others;
              wrong = λ w. w before;
            },
            tt,
          ),
        );
      }
    where
      before : DoneBefore plain (runs plain (waits 1 done200) start) 7 (even 5) (even 6)
      before = record { deed = _; known = first; at-service = refl; same_key = refl; same_number = refl; remembered = omega arith }

      others : (y : Why) → (y ≡ DoneAlready → ⊥) → Right plain (runs plain (waits 1 done200) start) ticket7 (even 6) 200 y
      others NotLately h = record { not_ahead = omega arith; not_old = omega arith }
      others TicketOver h = omega arith
      others DoneAlready h = absurd (h refl)

  row-b206 : RowHolds row_b206
  row-b206 =
      record {
        possible = waited plain 6 done200 reach-plain;
        claimed = (
          λ m. let l = m.hears.in_time.not_old in omega arith,
          (
            record {
              ticket_heard = (heard-again 6).0;
              asking_heard = (heard-again 6).1;
              else_right = others;
              wrong = λ l. let o = l.not_old in omega arith;
            },
            tt,
          ),
        );
      }
    where
      forgotten : (d : DoneBefore plain (runs plain (waits 6 done200) start) 7 (even 5) (even 6)) → ⊥
      forgotten d =
          first-old (λ (x : Done). drawn_of x.number) 12 (keep plain) 206 _ _ (λ h. omega arith) (refl, tt) d.deed d.known (ap drawn_of d.same_number) d.remembered

      others : (y : Why) → (y ≡ NotLately → ⊥) → Right plain (runs plain (waits 6 done200) start) ticket7 (even 6) 200 y
      others NotLately h = absurd (h refl)
      others TicketOver h = omega arith
      others DoneAlready h = forgotten

  abbrev s300 : State
  s300 = runs plain closed300 start

  reach-closed : Reach plain closed300 s300
  reach-closed = Event.onward (waited plain 100 done200 reach-plain) (Event.closes 5) tt

  -- the reader logs in, and asks by the house's ticket, at 301
  reach-tries : (es : List Event) (l : Reach plain es (runs plain es start)) → Memᴰ held100 (runs plain es start).asked
      → Reach plain (tries es) (runs plain (tries es) start)
  reach-tries es l m =
      Event.onward
      (Event.onward (waited plain 1 es l) (Event.begins 5 7 (Num 33)) (record { a_service = λ e. omega arith; writable = num 33 }))
      (Event.wish held100 7 (Num 34))
      (record { known = m; the_house = refl }, record { a_service = λ e. omega arith; writable = num 34 })

  row-c301 : RowHolds row_c301
  unfolding is_closed
  row-c301 =
      record {
        possible = reach-tries closed300 reach-closed (next (next first));
        claimed = (
          refl,
          (
            (
              λ n t m. clash {b = true} refl m.is_open,
              λ b n v t e m. clash {b = true} refl (subst (λ (a : ℕ). is_closed a (runs plain (tries closed300) start).closed ≡ false) e m.is_open),
            ),
            (λ m. clash {b = true} refl m.is_open, (λ m. clash {b = true} refl m.is_open, (refl, tt))),
          ),
        );
      }

  row-c-open : RowHolds row_c_open
  unfolding is_closed
  row-c-open =
      record {
        possible = reach-tries (waits 100 done200) (waited plain 100 done200 reach-plain) (next (next first));
        claimed = (
          refl,
          (
            record { heard = has (next first); in_time = record { not_ahead = omega arith; not_old = omega arith }; is_open = refl },
            (
              record {
                for-house = refl;
                a_service = λ e. omega arith;
                hears =
                    record {
                      ticket_heard = has (next (next (next (next (next (next (next (next first))))))));
                      asking_heard = has first;
                      in_time = record { not_ahead = omega arith; not_old = omega arith };
                      is_good = omega arith;
                      is-new = new-number plain (runs plain (tries (waits 100 done200)) start) 0 (even 2) 16 (refl, (refl, tt));
                    };
                is_open = refl;
              },
              tt,
            ),
          ),
        );
      }

  reach-again : (n : ℕ) → Memᴰ held200 (runs plain (waits n closed300) start).asked → Reach plain (asks_again n) (runs plain (asks_again n) start)
  reach-again n m =
      Event.onward (waited plain n closed300 reach-closed) (Event.again held200 (Num 35))
      (record { known = m; a_service = λ e. omega arith }, num 35)

  row-c1200 : RowHolds row_c1200
  row-c1200 =
      record {
        possible =
            Event.onward (reach-again 900 first) (Event.does ticket7 (even 7) (Num 35) 1200)
            (record {
              a_service = λ e. omega arith;
              hears =
                  record {
                    ticket_heard = has (next (next (next first)));
                    asking_heard = has first;
                    in_time = record { not_ahead = omega arith; not_old = omega arith };
                    is_good = omega arith;
                    is-new = new-number plain (runs plain (asks_again 900) start) 7 (even 5) 14 (refl, (refl, tt));
                  };
            });
        claimed = (refl, (refl, tt));
      }

  row-c1201 : RowHolds row_c1201
  row-c1201 =
      record {
        possible = reach-again 901 first;
        claimed = (
          refl,
          (
            λ m. let g = m.hears.is_good in omega arith,
            (
              record {
                ticket_heard = has (next (next (next first)));
                asking_heard = has first;
                else_right = others;
                wrong = λ g. omega arith;
              },
              tt,
            ),
          ),
        );
      }
    where
      others : (y : Why) → (y ≡ TicketOver → ⊥) → Right plain (runs plain (asks_again 901) start) ticket7 (even 7) 1201 y
      others NotLately h = record { not_ahead = omega arith; not_old = omega arith }
      others TicketOver h = absurd (h refl)
      others DoneAlready h = new-number plain (runs plain (asks_again 901) start) 7 (even 5) 14 (refl, (refl, tt))

-- a ticket for a service for which none was given, and whose key isn't stolen, can't be had
module _ (r : Rules) (es : List Event) (l : Reach r es (runs r es start)) (v : ℕ) where
  none-opens : is_in (r.key_of v) (runs r es start).stolen ≡ false → Lacks (λ (m : Key). m.service) v (runs r es start).made → Holds r (runs r es start) (Cases.NoneOpens v)
  none-opens free none = (none-had, λ b n w t e m. none-had b e m.hears.ticket_heard)
    where
      none-had : (b : Body) → b.service ≡ v → Gets (runs r es start).air (ticket r b) → ⊥
      none-had b e h =
          let m = (main r es (runs r es start) l).ticket-made b (subst (λ (x : ℕ). is_in (r.key_of x) (runs r es start).stolen ≡ false) (sym e) free) h in
          lacks-none (λ (m : Key). m.service) v (runs r es start).made none m.0 m.1.known (m.1.for-service ∙ e)

-- two services' tickets and askings are different terms, whatever their keys are
not-for-other : (r : Rules) (s : State) (b : Body) (n w : Term) (t v : ℕ) → (b.service ≡ v → ⊥) → Holds r s (Cases.NotForOther b n w t v)
not-for-other r s b n w t v apart = (
  λ o f e. apart (let g : o.service ≡ b.service = cc in sym g ∙ f),
  λ k m x u e. apart (let g : v ≡ b.service = cc in sym g),
)

row-d : (k : ℕ → ℕ) → RowHolds (row_d (rules k))
unfolding is_in
row-d k =
    record {
      possible = reach-asked200 k;
      claimed = (
        may200 k,
        (
          not-for-other (rules k) (runs (rules k) asked200 start) ticket7 (even 6) (Num 32) 200 8 (λ e. omega arith),
          (none-opens (rules k) asked200 (reach-asked200 k) 8 refl (refl, (refl, tt)), tt),
        ),
      );
    }

-- what a letter brings to whoever has its key
brought : {have : List Term} {key n v k u : Term} → Gets have (Lock 2 key (Pair n (Pair v (Pair k u)))) → Gets have key → Gets have k
brought l k = left (right (right (open' 2 l k)))

-- an asking that outsiders make up under a key that they have, with a number of their own
made_up_lem : {have : List Term} {k : Term} → Gets have k → (v n w t : ℕ) → Gets have (asking k v (Drawn (n * 2 + 1)) (Num w) t)
made_up_lem k v n w t = lock 3 k (pair (num v) (pair (odd n) (pair (num w) (num t))))

module _ where
  abbrev s_g : State
  s_g = runs plain (Event.grants 5 (Drawn 1) 100 ∷ stolen5) start

  reach-granted : Reach plain (Event.grants 5 (Drawn 1) 100 ∷ stolen5) s_g
  unfolding is_closed
  reach-granted =
      Event.onward (Event.onward (waited plain 100 [] Event.here) (Event.steals 5) tt) (Event.grants 5 (Drawn 1) 100)
      (record {
        heard = lock 4 (has first) (pair (odd 0) (num 100));
        in_time = record { not_ahead = omega arith; not_old = omega arith };
        is_open = refl;
      })

  -- the session key of the house's ticket, opened with the stolen key
  house-key : Gets s_g.air (even 1)
  house-key = brought (has (next first)) (has (next (next first)))

  abbrev s_s : State
  s_s = runs plain (Event.serves their_house_ticket (Drawn 3) 7 100 ∷ Event.grants 5 (Drawn 1) 100 ∷ stolen5) start

  reach-served : Reach plain (Event.serves their_house_ticket (Drawn 3) 7 100 ∷ Event.grants 5 (Drawn 1) 100 ∷ stolen5) s_s
  unfolding is_closed
  reach-served =
      Event.onward reach-granted (Event.serves their_house_ticket (Drawn 3) 7 100)
      (record {
        for-house = refl;
        a_service = λ e. omega arith;
        hears =
            record {
              ticket_heard = has first;
              asking_heard = made_up_lem house-key 0 1 7 100;
              in_time = record { not_ahead = omega arith; not_old = omega arith };
              is_good = omega arith;
              is-new = λ d. Memᴰ.not-nil d.known;
            };
        is_open = refl;
      })

  house-key-S : Gets s_s.air (even 1)
  house-key-S = brought (has (next (next (next first)))) (has (next (next (next (next first)))))

  abbrev s5 : State
  s5 = runs plain as_five start

  reach-five : Reach plain as_five s5
  reach-five =
      Event.onward reach-served (Event.does their_ticket7 (Drawn 5) (Num 41) 100)
      (record {
        a_service = λ e. omega arith;
        hears =
            record {
              ticket_heard = has first;
              asking_heard = made_up_lem (brought (has (next first)) house-key-S) 7 2 41 100;
              in_time = record { not_ahead = omega arith; not_old = omega arith };
              is_good = omega arith;
              is-new = new-number plain s_s 7 (even 2) 5 (refl, tt);
            };
      })

  abbrev es6 : List Event
  es6 = six plain s5 6 7 (Num 42) ++ as_five

  abbrev s6 : State
  s6 = runs plain es6 start

  reach-six : Reach plain es6 s6
  unfolding is_closed
  reach-six =
      let t = (main plain as_five s5 reach-five).served 6 7 (Num 42) (λ e. omega arith) refl (num 42) in
      subst (λ (x : State). Reach plain es6 x) (leaves t.1.possible ∙ sym (runs-join plain (six plain s5 6 7 (Num 42)) as_five start))
      (joined reach-five t.1.possible)

  eight : {x a b c d e f g h : Term} {xs : List Term} → Memᴰ x xs → Memᴰ x (a ∷ b ∷ c ∷ d ∷ e ∷ f ∷ g ∷ h ∷ xs)
  eight m = next (next (next (next (next (next (next (next m)))))))

  their-key : Gets s6.air (even 1)
  their-key = brought (has (eight (next (next (next (next first)))))) (has (eight (next (next (next (next (next first)))))))

  row-e : RowHolds row_e
  unfolding is_in
  row-e =
      record {
        possible = reach-six;
        claimed = (
          refl,
          (
            refl,
            (
              λ w. clash {b = true} refl w,
              (
                record { deed = _; known = next (next first); such = refl; origin = λ o. no_line o refl },
                (
                  their-key,
                  (
                    brought (has (eight (next (next first)))) their-key,
                    (
                      refl,
                      (
                        record { deed = _; known = first; such = refl; origin = (main plain es6 s6 reach-six).asked-for _ first (λ e. omega arith) refl },
                        (
                          (main plain es6 s6 reach-six).kept _ (next first) refl,
                          ((main plain es6 s6 reach-six).kept _ first refl, ((main plain es6 s6 reach-six).own_kept 6 refl, tt)),
                        ),
                      ),
                    ),
                  ),
                ),
              ),
            ),
          ),
        );
      }
    where
      no_line : {d : Done} → Origin plain s6 d → d.who ≡ 5 → ⊥
      no_line (by_reader q a w) e = lacks-none (λ (x : Asked). x.line.reader) 5 s6.asked (refl, (refl, tt)) q a.known (a.by_reader ∙ e)

-- what isn't a number isn't in a list of just it
not-in-one : (x v : ℕ) → (v ≡ x → ⊥) → is_in v (x ∷ []) ≡ false
unfolding is_in
not-in-one x v h = go (either (eqb x v))
  where
    go : (eqb x v ≡ true) ⊎ (eqb x v ≡ false) → is_in v (x ∷ []) ≡ false
    go (inl e) = absurd (h (sym (eqb-true x v e)))
    go (inr e) = cc

-- a ticket that outsiders make up with the stolen key of a service
module _ (k : ℕ → ℕ) where
  abbrev es7 : List Event
  es7 = Event.steals 7 ∷ done200

  abbrev s7 : State
  s7 = runs (rules k) es7 start

  reach-7 : Reach (rules k) es7 s7
  reach-7 = Event.onward (reach-done200 k) (Event.steals 7) tt

  had : (v : ℕ) → k v ≡ 7 → Gets s7.air (ticket (rules k) (made_up v))
  had v e =
      subst (λ (x : ℕ). Gets s7.air (Lock 1 (Own x) (Pair (Num v) (Pair (Num 6) (Pair (Drawn 1) (Num 5000)))))) (sym e)
      (lock 1 (has first) (pair (num v) (pair (num 6) (pair (odd 0) (num 5000)))))

  done-by : (v : ℕ) → k v ≡ 7 → (v ≡ 0 → ⊥) → May (rules k) s7 (Event.does (made_up v) (Drawn 3) (Num 51) 200)
  done-by v e h =
      record {
        a_service = h;
        hears =
            record {
              ticket_heard = had v e;
              asking_heard = made_up_lem (odd 0) v 1 51 200;
              in_time = record { not_ahead = omega arith; not_old = omega arith };
              is_good = omega arith;
              is-new = new-number (rules k) s7 v (Drawn 1) 3 (refl, (refl, tt));
            };
      }

module _ where
  abbrev F : State
  F = s7 (λ v. v)

  reach-F : Reach plain (es7 (λ v. v)) F
  reach-F = reach-7 (λ v. v)

  given-but : Holds plain F (Cases.GivenBut 7)
  given-but b h g = (main plain (es7 (λ v. v)) F reach-F).ticket-made b (not-in-one 7 b.service h) g

  row-f : RowHolds row_f
  unfolding is_in
  row-f =
      record {
        possible = reach-F;
        claimed = (
          had (λ v. v) 7 refl,
          (
            done-by (λ v. v) 7 refl (λ e. omega arith),
            (
              given-but,
              (
                none-opens plain (es7 (λ v. v)) reach-F 8 refl (refl, (refl, tt)),
                (no-house, (λ w. clash {b = true} refl w, (refl, tt))),
              ),
            ),
          ),
        );
      }
    where
      no-house : Gets F.air (ticket plain (made_up 0)) → ⊥
      no-house h =
          let m = given-but (made_up 0) (λ e. omega arith) h in
          let e = m.1.same_key in
          let d : ◌≡◌ {A = ℕ} 1 (m.0.key * 2) = cc in
          omega arith

  row-f-slip : RowHolds row_f_slip
  unfolding is_in
  row-f-slip =
      record {
        possible = reach-7 (λ v. cond (eqb v 8) 7 v);
        claimed = (done-by (λ v. cond (eqb v 8) 7 v) 8 refl (λ e. omega arith), (λ w. clash {b = true} refl w, (refl, tt)));
      }

  abbrev s_t : State
  s_t = runs plain two_tickets start

  reach-two : Reach plain two_tickets s_t
  unfolding is_closed
  reach-two =
      Event.onward reach-served (Event.serves their_house_ticket (Drawn 5) 7 100)
      (record {
        for-house = refl;
        a_service = λ e. omega arith;
        hears =
            record {
              ticket_heard = has (next (next first));
              asking_heard = made_up_lem house-key-S 0 2 7 100;
              in_time = record { not_ahead = omega arith; not_old = omega arith };
              is_good = omega arith;
              is-new = new-number plain s_s 0 (even 1) 5 (refl, tt);
            };
        is_open = refl;
      })

  house-key-T : Gets s_t.air (even 1)
  house-key-T = brought (has (next (next (next (next (next first)))))) (has (next (next (next (next (next (next first)))))))

  abbrev one : List Event
  one = Event.does their_ticket7 (Drawn 7) (Num 61) 100 ∷ two_tickets

  reach-one : Reach plain one (runs plain one start)
  reach-one =
      Event.onward reach-two (Event.does their_ticket7 (Drawn 7) (Num 61) 100)
      (record {
        a_service = λ e. omega arith;
        hears =
            record {
              ticket_heard = has (next (next first));
              asking_heard = made_up_lem (brought (has (next (next (next first)))) house-key-T) 7 3 61 100;
              in_time = record { not_ahead = omega arith; not_old = omega arith };
              is_good = omega arith;
              is-new = new-number plain s_t 7 (even 2) 7 (refl, (refl, tt));
            };
      })

  house-key-1 : Gets (runs plain one start).air (even 1)
  house-key-1 = brought (has (next (next (next (next (next (next first))))))) (has (next (next (next (next (next (next (next first))))))))

  row-g : RowHolds row_g
  row-g =
      record {
        possible =
            Event.onward reach-one (Event.does other_ticket7 (Drawn 7) (Num 61) 100)
            (record {
              a_service = λ e. omega arith;
              hears =
                  record {
                    ticket_heard = has (next first);
                    asking_heard = made_up_lem (brought (has (next (next first))) house-key-1) 7 3 61 100;
                    in_time = record { not_ahead = omega arith; not_old = omega arith };
                    is_good = omega arith;
                    is-new = new-key plain (runs plain one start) 7 6 (Drawn 7) (refl, (refl, (refl, tt)));
                  };
            });
        claimed = (refl, (first_done, (other-done, (λ m. m.hears.is-new first_done, (λ m. m.hears.is-new other-done, tt)))));
      }
    where
      first_done : DoneBefore plain (runs plain row_g.events start) 7 (even 2) (Drawn 7)
      first_done = record { deed = _; known = next first; at-service = refl; same_key = refl; same_number = refl; remembered = omega arith }

      other-done : DoneBefore plain (runs plain row_g.events start) 7 (even 3) (Drawn 7)
      other-done = record { deed = _; known = first; at-service = refl; same_key = refl; same_number = refl; remembered = omega arith }

-- every row of the table holds
pub worked-cases : WorkedCases
worked-cases = (
  row-a,
  (
    row-b201,
    (
      row-b206,
      (
        row-c301,
        (
          row-c-open,
          (row-c1200, (row-c1201, (row-d (λ v. v), (row-d (λ v. cond (eqb v 8) 7 v), (row-e, (row-f, (row-f-slip, (row-g, tt)))))))),
        ),
      ),
    ),
  ),
)
