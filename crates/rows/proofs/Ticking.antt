-- Everybody is told a tick. Assumes nothing.
use Rattle.std.proofs.Common.{◌≡◌, ℕ, zero, suc, ◌+◌, ◌-◌, ◌^◌, ◌≤◌, Bool, true, false, cond, ltb, leb, List, ◌∷◌, sym, refl, ap, ◌∙◌, subst, arith}
use Rattle.std.proofs.lemmas.Bool.{ltb-false}
use Rattle.parts.specs.Tick.{clock}
use Rattle.parts.specs.declared.tick.Ticked.{Ticked}
use Rattle.parts.specs.declared.tick.Ticked.TheVariants.{On, Back, Stopped}
use Rattle.service_rules.specs.Service.{view}
use Rattle.service_rules.specs.Side.{on_tick, set_tick}
use Rattle.box_rules.specs.Chest.{box_on_tick}
use Rattle.tickets.specs.State.{Rules, Closing, State}
use Rattle.tickets.specs.Event.{Event, after, Reach}
use Rattle.tickets.specs.Event
use Rattle.tickets.proofs.Known.{Grows}
use Rattle.rows.specs.Name.{Naming}
use Rattle.rows.specs.Setting.{Setting, rules_of}
use Rattle.rows.specs.System.{System, home_side}
use Rattle.rows.specs.Row.{Wanted, Deed, Given, Begun, Taken}
use Rattle.rows.proofs.Pairs.{down-more}
use Rattle.rows.proofs.Noting.{notes-later}
use Rattle.rows.proofs.Matches.{told_box, HomeOk, SideOk, BoxOk, pending-stays, ticket-stays}
use Rattle.rows.proofs.Tied.{Tied, unseen, deeds-stay}

-- the model after so many ticks
abbrev pub waited : ℕ → State → State
waited d m = record { now = m.now + d; next = m.next; air = m.air; stolen = m.stolen; closed = m.closed; lines = m.lines; wishes = m.wishes; taken = m.taken; made = m.made; asked = m.asked; done = m.done }

at_now : State → ℕ → State
at_now m x = record { now = x; next = m.next; air = m.air; stolen = m.stolen; closed = m.closed; lines = m.lines; wishes = m.wishes; taken = m.taken; made = m.made; asked = m.asked; done = m.done }

pub reach-waited : (r : Rules) (es : List Event) (m : State) → Reach r es m → (d : ℕ) → (fs : List Event) × Reach r fs (waited d m)
unfolding at_now
reach-waited r es m h zero = (es, subst (λ (x : ℕ). Reach r es (at_now m x)) (let e : m.now ≡ m.now + 0 = omega arith in e) h)
reach-waited r es m h (suc d) =
    let k = reach-waited r es m h d in
    (Event.ticks ∷ k.0, subst (λ (x : ℕ). Reach r (Event.ticks ∷ k.0) (at_now m x)) (let e : m.now + d + 1 ≡ m.now + suc d = omega arith in e) (Event.onward k.1 Event.ticks tt))

-- what a tick is to somebody at now
clock-on : (now to : ℕ) → clock now to ≡ On → now ≤ to
clock-on now to h = go (leb (2 ^ 63) to) (ltb to now) refl h
  where
    go : (a b : Bool) → ltb to now ≡ b → cond a Stopped (cond b Back On) ≡ On → now ≤ to
    go true b e f = absurd (let z : ◌≡◌ {A = ℕ} 0 1 = cc in omega arith)
    go false true e f = absurd (let z : ◌≡◌ {A = ℕ} 0 1 = cc in omega arith)
    go false false e f = ltb-false to now e

module _ (c : Setting) (n : Naming c.own) {K : List Closing} {p : ℕ} {s : System} {ls : List Wanted} {gs : List Given} {bs : List Begun} {ds : List Deed} {xs : List Taken} (o : Tied c n K p s ls gs bs ds xs) where
  -- nobody goes on
  home-still : (to : ℕ) (k : Ticked) → (k ≡ On → ⊥) → HomeOk c n o.model (home_side (set_tick s.home.side to k) s.home)
  home-still to On h = absurd (h refl)
  home-still to Back h =
      let m = o.matches.home in
      record { now_is = m.now_is; lag_is = m.lag_is; number_is = m.number_is; life_is = m.life_is; key_is = m.key_is; accounts = m.accounts; is_open = m.is_open; is-closed = m.is-closed; notes = m.notes }
  home-still to Stopped h =
      let m = o.matches.home in
      record { now_is = m.now_is; lag_is = m.lag_is; number_is = m.number_is; life_is = m.life_is; key_is = m.key_is; accounts = m.accounts; is_open = m.is_open; is-closed = m.is-closed; notes = m.notes }

  side-still : (v : ℕ) (to : ℕ) (k : Ticked) → (k ≡ On → ⊥) → SideOk c n o.model v (s.side v)
      → SideOk c n o.model v (view (set_tick (s.side v).side to k) (s.side v).kept (s.side v).junk (s.side v).writes (s.side v).left)
  side-still v to On h m = absurd (h refl)
  side-still v to Back h m = record { now_is = m.now_is; lag_is = m.lag_is; number_is = m.number_is; notes = m.notes }
  side-still v to Stopped h m = record { now_is = m.now_is; lag_is = m.lag_is; number_is = m.number_is; notes = m.notes }

  box-still : (a : ℕ) (to : ℕ) (k : Ticked) → (k ≡ On → ⊥) → BoxOk c n o.model a (told_box (s.box a) to k)
  box-still a to On h = absurd (h refl)
  box-still a to Back h = o.matches.box a
  box-still a to Stopped h = o.matches.box a

  still : (to : ℕ) → (clock o.model.now to ≡ On → ⊥)
      → Tied c n K (suc p)
      (record {
        home = home_side (on_tick s.home.side to) s.home;
        side = λ v. view (on_tick (s.side v).side to) (s.side v).kept (s.side v).junk (s.side v).writes (s.side v).left;
        box = λ a. box_on_tick (s.box a) to;
        air = s.air;
        used = s.used;
        stolen = s.stolen;
      }) ls gs bs ds xs
  still to off =
      unseen c n o _
      (record {
        net = record { air = o.matches.net.air; next = o.matches.net.next; stolen = o.matches.net.stolen };
        home = home-still to (clock s.home.side.now to) (λ e. off (ap (λ (x : ℕ). clock x to) (sym o.matches.home.now_is) ∙ e));
        side = λ v z. side-still v to (clock (s.side v).side.now to) (λ e. off (ap (λ (x : ℕ). clock x to) (sym (o.matches.side v z).now_is) ∙ e)) (o.matches.side v z);
        box = λ a. box-still a to (clock (s.box a).now to) (λ e. off (ap (λ (x : ℕ). clock x to) (sym (o.matches.box a).now_is) ∙ e));
      })

  -- everybody goes on
  module _ (to : ℕ) (on : clock o.model.now to ≡ On) where
    now-then : to ≡ o.model.now + (to - o.model.now)
    now-then = let h = clock-on o.model.now to on in omega arith

    grown : Grows o.model (waited (to - o.model.now) o.model)
    grown =
        record {
          now_le = omega arith;
          next_le = omega arith;
          thefts = λ a h. h;
          taken = λ a h. h;
          lines = λ l h. h;
          wishes = λ x h. h;
          made = λ k h. h;
          asked = λ q h. h;
          done = λ d h. h;
        }

    home-on : (k : Ticked) → k ≡ On → HomeOk c n (waited (to - o.model.now) o.model) (home_side (set_tick s.home.side to k) s.home)
    home-on On e =
        let m = o.matches.home in
        record {
          now_is = now-then;
          lag_is = m.lag_is;
          number_is = m.number_is;
          life_is = m.life_is;
          key_is = m.key_is;
          accounts = m.accounts;
          is_open = m.is_open;
          is-closed =
              λ k h. let x = m.is-closed k h in record { closing = x.closing; known = x.known; whose = x.whose; past = let y = x.past in omega arith };
          notes = notes-later c n o.model (waited (to - o.model.now) o.model) 0 s.home.side.wake s.home.junk s.home.kept (omega arith) (λ d h e. h) m.notes;
        }
    home-on Back e = absurd (let z : ◌≡◌ {A = ℕ} 0 1 = cc in omega arith)
    home-on Stopped e = absurd (let z : ◌≡◌ {A = ℕ} 0 1 = cc in omega arith)

    side-on : (v : ℕ) (k : Ticked) → k ≡ On → SideOk c n o.model v (s.side v)
        → SideOk c n (waited (to - o.model.now) o.model) v (view (set_tick (s.side v).side to k) (s.side v).kept (s.side v).junk (s.side v).writes (s.side v).left)
    side-on v On e m =
        record {
          now_is = now-then;
          lag_is = m.lag_is;
          number_is = m.number_is;
          notes = notes-later c n o.model (waited (to - o.model.now) o.model) v (s.side v).side.wake (s.side v).junk (s.side v).kept (omega arith) (λ d h e. h) m.notes;
        }
    side-on v Back e m = absurd (let z : ◌≡◌ {A = ℕ} 0 1 = cc in omega arith)
    side-on v Stopped e m = absurd (let z : ◌≡◌ {A = ℕ} 0 1 = cc in omega arith)

    box-on : (a : ℕ) (k : Ticked) → k ≡ On → BoxOk c n (waited (to - o.model.now) o.model) a (told_box (s.box a) to k)
    box-on a On e =
        let m = o.matches.box a in
        record {
          now_is = now-then;
          key_is = m.key_is;
          logins = λ q h. let x = m.logins q h in pending-stays c n {m = o.model} {t = waited (to - o.model.now) o.model} a _ q (λ y z. z) x x.not_taken;
          askings = λ q h z. let x = m.askings q h z in pending-stays c n {m = o.model} {t = waited (to - o.model.now) o.model} a _ q (λ y z. z) x x.not_taken;
          tickets = λ y h. ticket-stays c n {m = o.model} {t = waited (to - o.model.now) o.model} a y (λ q z. z) (m.tickets y h);
        }
    box-on a Back e = absurd (let z : ◌≡◌ {A = ℕ} 0 1 = cc in omega arith)
    box-on a Stopped e = absurd (let z : ◌≡◌ {A = ℕ} 0 1 = cc in omega arith)

    goes_on : Tied c n K (suc p)
        (record {
          home = home_side (on_tick s.home.side to) s.home;
          side = λ v. view (on_tick (s.side v).side to) (s.side v).kept (s.side v).junk (s.side v).writes (s.side v).left;
          box = λ a. box_on_tick (s.box a) to;
          air = s.air;
          used = s.used;
          stolen = s.stolen;
        }) ls gs bs ds xs
    goes_on =
        let reach = reach-waited (rules_of c n) o.events o.model o.reach (to - o.model.now) in
        record {
          events = reach.0;
          model = waited (to - o.model.now) o.model;
          reach = reach.1;
          matches =
              record {
                net = record { air = o.matches.net.air; next = o.matches.net.next; stolen = o.matches.net.stolen };
                home = home-on (clock s.home.side.now to) (ap (λ (x : ℕ). clock x to) o.matches.home.now_is ∙ on);
                side = λ v z. side-on v (clock (s.side v).side.now to) (ap (λ (x : ℕ). clock x to) (o.matches.side v z).now_is ∙ on) (o.matches.side v z);
                box = λ a. box-on a (clock (s.box a).now to) (ap (λ (x : ℕ). clock x to) (o.matches.box a).now_is ∙ on);
              };
          lines = o.lines;
          keys = o.keys;
          begun = o.begun;
          deeds = deeds-stay c n ls ls o.model (waited (to - o.model.now) o.model) grown (λ w l h. h) o.deeds;
          takens = o.takens;
          since = o.since;
          low_lines = down-more (λ (w : Wanted). w.place) p (suc p) ls (omega arith) o.low_lines;
          low_keys = down-more (λ (g : Given). g.place) p (suc p) gs (omega arith) o.low_keys;
        }

  pub tells_all : (to : ℕ)
      → Tied c n K (suc p)
      (record {
        home = home_side (on_tick s.home.side to) s.home;
        side = λ v. view (on_tick (s.side v).side to) (s.side v).kept (s.side v).junk (s.side v).writes (s.side v).left;
        box = λ a. box_on_tick (s.box a) to;
        air = s.air;
        used = s.used;
        stolen = s.stolen;
      }) ls gs bs ds xs
  tells_all to = go (clock o.model.now to) refl
    where
      go : (k : Ticked) → clock o.model.now to ≡ k
          → Tied c n K (suc p)
          (record {
            home = home_side (on_tick s.home.side to) s.home;
            side = λ v. view (on_tick (s.side v).side to) (s.side v).kept (s.side v).junk (s.side v).writes (s.side v).left;
            box = λ a. box_on_tick (s.box a) to;
            air = s.air;
            used = s.used;
            stolen = s.stolen;
          }) ls gs bs ds xs
      go On e = goes_on to e
      go Back e = still to (λ f. let z : ◌≡◌ {A = ℕ} 0 1 = cc in omega arith)
      go Stopped e = still to (λ f. let z : ◌≡◌ {A = ℕ} 0 1 = cc in omega arith)
