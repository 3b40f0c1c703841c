-- From every state whoever has an open account is served by six events. Assumes nothing.
use mathlib.Core.Path.{◌≡◌, refl, sym, subst, ◌∙◌, ap}
use mathlib.Core.Bool.{true, false}
use mathlib.Core.Logic.{◌⊎◌, inl, inr}
use mathlib.Core.List.Memᴰ
use mathlib.Core.List.{◌∷◌, Memᴰ}
use Prim.Native.Nat.{ℕ, ◌+◌, ◌*◌, ◌≤◌}
use native.Mathlib.Omega.{arith}
use Rattle.tickets.specs.Term.{Term, Num, Own, Gets, has, even}
use Rattle.tickets.specs.State.{Rules, LoggingIn, AskingHouse, Wish, Done, State, is_in, is_closed}
use Rattle.tickets.specs.Event
use Rattle.tickets.specs.Event.{Body, Event, after, May, Later, DoneBefore, Wants, HearsLogin, Takes, Serves, Does, new_line, new_wish, new_done}
use Rattle.tickets.specs.Promise.{ServedBy}
use Rattle.tickets.proofs.Bools.{clash, either}
use Rattle.tickets.proofs.Known.{Known}
use Rattle.tickets.proofs.Inv.{Inv, known-low}
use Rattle.tickets.proofs.Steps.{is_in-cases}

module _ {r : Rules} {s : State} (i : Inv r s) where
  -- a number that was not drawn yet was not taken, nor done
  not_taken : (n : ℕ) → s.next ≤ n → is_in n s.taken ≡ false
  not_taken n h = go (either (is_in n s.taken))
    where
      go : (is_in n s.taken ≡ true) ⊎ (is_in n s.taken ≡ false) → is_in n s.taken ≡ false
      go (inl e) = absurd (let l = i.taken_low n e in omega arith)
      go (inr e) = e

  not-taken-two : (n m : ℕ) → s.next ≤ n → (n ≡ m → ⊥) → is_in n (m ∷ s.taken) ≡ false
  not-taken-two n m h d = go (either (is_in n (m ∷ s.taken)))
    where
      old : (n ≡ m) ⊎ (is_in n s.taken ≡ true) → ⊥
      old (inl e) = d e
      old (inr e) = clash e (not_taken n h)

      go : (is_in n (m ∷ s.taken) ≡ true) ⊎ (is_in n (m ∷ s.taken) ≡ false) → is_in n (m ∷ s.taken) ≡ false
      go (inl e) = absurd (old (is_in-cases n m s.taken e))
      go (inr e) = e

  not_done : (n : ℕ) → s.next ≤ n → (d : Done) → Memᴰ d s.done → d.number ≡ even n → ⊥
  not_done n h d m e =
      let l = known-low i n (n * 2) refl (subst (Known r s) e (i.done d m).number) in
      omega arith

  module _ (a v : ℕ) (w : Term) (service : v ≡ r.house → ⊥) (is_open : is_closed a s.closed ≡ false) (writable : Gets s.air w) where
    abbrev login : Wish
    login = new_wish s (new_line s a v w) LoggingIn (Own a)

    abbrev asking : Wish
    asking = record { line = new_line s a v w; stage = AskingHouse; number = s.next + 1 + 1; since = s.now; key = even (s.next + 1) }

    abbrev house-ticket : Body
    house-ticket = record { service = r.house; who = a; key = even (s.next + 1); until = s.now + r.life }

    abbrev service-ticket : Body
    service-ticket = record { service = v; who = a; key = even (s.next + 1 + 1 + 1); until = s.now + r.life }

    abbrev s1 : State
    s1 = after r (Event.begins a v w) s

    abbrev s2 : State
    s2 = after r (Event.grants a (even s.next) s.now) s1

    abbrev s3 : State
    s3 = after r (Event.wants login (even (s.next + 1)) (s.now + r.life)) s2

    abbrev s4 : State
    s4 = after r (Event.serves house-ticket (even (s.next + 1 + 1)) v s.now) s3

    abbrev s5 : State
    s5 = after r (Event.asks asking (even (s.next + 1 + 1 + 1)) (s.now + r.life)) s4

    abbrev s6 : State
    s6 = after r (Event.does service-ticket (even (s.next + 1 + 1 + 1 + 1)) w s.now) s5

    may1 : Wants r s v w
    may1 = record { a_service = service; writable = writable }

    may2 : HearsLogin r s1 a (even s.next) s.now
    may2 = record { heard = has (Memᴰ.head refl); in_time = record { not_ahead = omega arith; not_old = omega arith }; is_open = is_open }

    may3 : Takes s2 login LoggingIn (Own a) r.house (even (s.next + 1)) (s.now + r.life)
    may3 =
        record {
          known = Memᴰ.head refl;
          at_stage = refl;
          not_taken = not_taken s.next (omega arith);
          heard = has (Memᴰ.tail (Memᴰ.head refl));
        }

    may4 : Serves r s3 house-ticket (even (s.next + 1 + 1)) v s.now
    may4 =
        record {
          for-house = refl;
          a_service = service;
          hears =
              record {
                ticket_heard = has (Memᴰ.tail (Memᴰ.head refl));
                asking_heard = has (Memᴰ.head refl);
                in_time = record { not_ahead = omega arith; not_old = omega arith };
                is_good = omega arith;
                is-new = λ d. not_done (s.next + 1 + 1) (omega arith) d.deed d.known d.same_number;
              };
          is_open = is_open;
        }

    may5 : Takes s4 asking AskingHouse asking.key v (even (s.next + 1 + 1 + 1)) (s.now + r.life)
    may5 =
        record {
          known = Memᴰ.head refl;
          at_stage = refl;
          not_taken = not-taken-two (s.next + 1 + 1) s.next (omega arith) (λ e. omega arith);
          heard = has (Memᴰ.tail (Memᴰ.head refl));
        }

    may6 : Does r s5 service-ticket (even (s.next + 1 + 1 + 1 + 1)) w s.now
    may6 =
        record {
          a_service = service;
          hears =
              record {
                ticket_heard = has (Memᴰ.tail (Memᴰ.head refl));
                asking_heard = has (Memᴰ.head refl);
                in_time = record { not_ahead = omega arith; not_old = omega arith };
                is_good = omega arith;
                is-new = λ d. new d (Memᴰ.cases_cons d.known);
              };
        }
      where
        new : (d : DoneBefore r s5 v (even (s.next + 1 + 1 + 1)) (even (s.next + 1 + 1 + 1 + 1)))
            → (d.deed ≡ new_done s3 house-ticket (even (s.next + 1 + 1)) (Num v)) ⊎ Memᴰ d.deed s.done → ⊥
        new d (inl e) = service (sym d.at-service ∙ ap (λ (x : Done). x.service) e)
        new d (inr m) = not_done (s.next + 1 + 1 + 1 + 1) (omega arith) d.deed m d.same_number

    pub served : (t : State) × ServedBy r s a v w t
    served = (
      s6,
      record {
        possible =
            Event.onward (Event.onward (Event.onward (Event.onward (Event.onward (Event.onward Event.here (Event.begins a v w) may1)
            (Event.grants a (even s.next) s.now) may2) (Event.wants login (even (s.next + 1)) (s.now + r.life)) may3)
            (Event.serves house-ticket (even (s.next + 1 + 1)) v s.now) may4)
            (Event.asks asking (even (s.next + 1 + 1 + 1)) (s.now + r.life)) may5)
            (Event.does service-ticket (even (s.next + 1 + 1 + 1 + 1)) w s.now) may6;
        same_tick = refl;
        nothing_stolen = refl;
        nothing_closed = refl;
        one_line = refl;
        deed = new_done s5 service-ticket (even (s.next + 1 + 1 + 1 + 1)) w;
        ticket_given = new_done s3 house-ticket (even (s.next + 1 + 1)) (Num v);
        two_deeds = refl;
        as_reader = refl;
        by_service = refl;
        in_words = refl;
        at_once = refl;
        the_asking = Event.new_asked s4 (new_line s a v w) v (even (s.next + 1 + 1 + 1)) w s.now (s.next + 1 + 1) s.now;
        accounts =
            record {
              known = Memᴰ.head refl;
              by_reader = refl;
              of_service = refl;
              same_key = refl;
              same_number = refl;
              in_words = refl;
              in_time = record { not_ahead = omega arith; not_old = omega arith };
              from_line = Memᴰ.head refl;
            };
        of-line = refl;
        told = has (Memᴰ.head refl);
      },
    )
