-- Acts that tell nothing: drawn bytes, devices, ticks, thefts, accounts, crashes. Assumes nothing.
use Rattle.std.proofs.Common.{◌≡◌, ℕ, suc, ◌+◌, ◌<◌, ◌≤◌, Bool, true, false, cond, eqb, ◌⊎◌, List, ◌∷◌, ◌++◌, length, Ok, Err, sym, refl, ap, ◌∙◌, subst, inl, inr, arith, eqb-true}
use mathlib.Core.List.Memᴰ
use mathlib.Core.List.{Memᴰ}
use Rattle.parts.specs.declared.account.Entry.{Entry}
use Rattle.service_rules.specs.Service.{View, view}
use Rattle.service_rules.specs.Side.{unfit}
use Rattle.service_rules.specs.declared.side.Side.{Side}
use Rattle.parts.specs.declared.fault.Fault.TheVariants.{OutOfRange}
use Rattle.held.specs.declared.cut.Cut.{Cut}
use Rattle.house_rules.specs.House.{Home}
use Rattle.tickets.specs.Term.{Term, Own}
use Rattle.tickets.specs.State.{Done, Closing, State}
use Rattle.tickets.specs.Event.{Event, after, Reach, Later}
use Rattle.tickets.specs.Event
use Rattle.tickets.proofs.Keep.{Change}
use Rattle.tickets.proofs.Reached.{reached, change}
use Rattle.rows.specs.Name.{Bytes, Naming, own_of}
use Rattle.rows.specs.Setting.{Setting, Writing, rules_of}
use Rattle.rows.specs.System.{System, Box, at, with_home, with-side, with_box, home_left, home_memory, box_left, empty_box, crashed_view, crashed_home, view_of, restarted}
use Rattle.rows.specs.Row.{Wanted, Deed, Given, Begun, Taken}
use Rattle.rows.proofs.Pairs.{down-more}
use Rattle.rows.proofs.Noting.{Notes, notes-again}
use Rattle.rows.proofs.Matches.{Matches, HomeOk, SideOk, BoxOk, home_stays, side-stays, box-stays}
use Rattle.rows.proofs.Tied.{Tied, unseen, deeds-stay}

-- one of many: the changed one, or as before
pub at-cases : {A : Type 0} (P : ℕ → A → Type 0) (k : ℕ) (x : A) (f : ℕ → A) → P k x → (j : ℕ) → P j (f j) → P j (at k x f j)
at-cases {A} P k x f h j old = go (eqb j k) refl
  where
    go : (b : Bool) → eqb j k ≡ b → P j (cond b x (f j))
    go true e = subst (λ (i : ℕ). P i x) (sym (eqb-true j k e)) h
    go false e = old

module _ (c : Setting) (n : Naming c.own) where
  -- with another house, another service, another box
  pub matches-home : (s : System) (m : State) (h : Home) → Matches c n s m → HomeOk c n m h → Matches c n (with_home h s) m
  matches-home s m h o k = record { net = record { air = o.net.air; next = o.net.next; stolen = o.net.stolen }; home = k; side = o.side; box = o.box }

  pub matches-side : (s : System) (m : State) (v : ℕ) (w : View) → Matches c n s m → ((v ≡ 0 → ⊥) → SideOk c n m v w) → Matches c n (with-side v w s) m
  matches-side s m v w o k =
      record {
        net = record { air = o.net.air; next = o.net.next; stolen = o.net.stolen };
        home = o.home;
        side = λ j. at-cases (λ (i : ℕ) (x : View). (i ≡ 0 → ⊥) → SideOk c n m i x) v w s.side k j (o.side j);
        box = o.box;
      }

  pub matches-box : (s : System) (m : State) (a : ℕ) (b : Box) → Matches c n s m → BoxOk c n m a b → Matches c n (with_box a b s) m
  matches-box s m a b o k =
      record {
        net = record { air = o.net.air; next = o.net.next; stolen = o.net.stolen };
        home = o.home;
        side = o.side;
        box = λ j. at-cases (λ (i : ℕ) (x : Box). BoxOk c n m i x) a b s.box k j (o.box j);
      }

  -- a house, a service or a box that differs in what the model does not see
  home-alike : (m : State) (h : Home) (bs : Bytes) (w : Bool) → HomeOk c n m h → HomeOk c n m (home_left bs (home_memory h.side h.kept h.junk w h))
  home-alike m h bs w o =
      record {
        now_is = o.now_is;
        lag_is = o.lag_is;
        number_is = o.number_is;
        life_is = o.life_is;
        key_is = o.key_is;
        accounts = o.accounts;
        is_open = o.is_open;
        is-closed = o.is-closed;
        notes = o.notes;
      }

  side-alike : (m : State) (v : ℕ) (x : View) (bs : Bytes) (w : Bool) → SideOk c n m v x → SideOk c n m v (view x.side x.kept x.junk w bs)
  side-alike m v x bs w o = record { now_is = o.now_is; lag_is = o.lag_is; number_is = o.number_is; notes = o.notes }

  box-alike : (m : State) (a : ℕ) (b : Box) (bs : Bytes) → BoxOk c n m a b → BoxOk c n m a (box_left bs b)
  box-alike m a b bs o = record { now_is = o.now_is; key_is = o.key_is; logins = o.logins; askings = o.askings; tickets = o.tickets }

  -- a box that crashed is empty
  box-empty : (m : State) (a : ℕ) (b : Box) → BoxOk c n m a b → BoxOk c n m a (empty_box b.number b.key b.now b.left)
  box-empty m a b o =
      record {
        now_is = o.now_is;
        key_is = o.key_is;
        logins = λ p h. absurd (Memᴰ.not-nil h);
        askings = λ p h. absurd (Memᴰ.not-nil h);
        tickets = λ t h. absurd (Memᴰ.not-nil h);
      }

  module _ {K : List Closing} {p : ℕ} {s : System} {ls : List Wanted} {gs : List Given} {bs : List Begun} {ds : List Deed} {xs : List Taken} (o : Tied c n K p s ls gs bs ds xs) where
    abbrev m : State
    m = o.model

    pub hands-house : (b : Bytes) → Tied c n K (suc p) (with_home (home_left (s.home.left ++ b) s.home) s) ls gs bs ds xs
    hands-house b =
        unseen c n o _ (matches-home s o.model _ o.matches (home-alike o.model s.home (s.home.left ++ b) s.home.writes o.matches.home))

    pub hands-service : (v : ℕ) (b : Bytes) → Tied c n K (suc p) (with-side v (view (s.side v).side (s.side v).kept (s.side v).junk (s.side v).writes ((s.side v).left ++ b)) s) ls gs bs ds xs
    hands-service v b =
        unseen c n o _ (matches-side s o.model v _ o.matches (λ z. side-alike o.model v (s.side v) ((s.side v).left ++ b) (s.side v).writes (o.matches.side v z)))

    pub hands-reader : (a : ℕ) (b : Bytes) → Tied c n K (suc p) (with_box a (box_left ((s.box a).left ++ b) (s.box a)) s) ls gs bs ds xs
    hands-reader a b = unseen c n o _ (matches-box s o.model a _ o.matches (box-alike o.model a (s.box a) ((s.box a).left ++ b) (o.matches.box a)))

    pub device-house : (w : Bool) → Tied c n K (suc p) (with_home (home_memory s.home.side s.home.kept s.home.junk w s.home) s) ls gs bs ds xs
    device-house w = unseen c n o _ (matches-home s o.model _ o.matches (home-alike o.model s.home s.home.left w o.matches.home))

    pub device-service : (v : ℕ) (w : Bool) → Tied c n K (suc p) (with-side v (view (s.side v).side (s.side v).kept (s.side v).junk w (s.side v).left) s) ls gs bs ds xs
    device-service v w = unseen c n o _ (matches-side s o.model v _ o.matches (λ z. side-alike o.model v (s.side v) (s.side v).left w (o.matches.side v z)))

    pub crash-reader : (a : ℕ) → Tied c n K (suc p) (with_box a (empty_box (s.box a).number (s.box a).key (s.box a).now (s.box a).left) s) ls gs bs ds xs
    crash-reader a = unseen c n o _ (matches-box s o.model a _ o.matches (box-empty o.model a (s.box a) (o.matches.box a)))

    past : (d : Done) → Memᴰ d o.model.done → d.at ≤ o.model.now
    past d h = ((reached o.reach).done d h).past

    -- a side that starts again, or does not
    restart : (v : ℕ) (x : Side) (es : List Entry) (j : Bool) (b : Bool) → x.now ≡ o.model.now → x.lag ≡ c.lag → x.number ≡ v
        → Notes c n o.model v (cond j (x.now + x.lag + 1) 0) j es → Notes c n o.model v x.wake j es
        → (w : Bool) (left : Bytes)
        → SideOk c n o.model v (view (restarted x (cond b (Err OutOfRange) (Ok (record { number = x.number; lag = x.lag; now = x.now; wake = cond j (x.now + x.lag + 1) 0 })))) es j w left)
    restart v x es j true a e f new old w left = record { now_is = a; lag_is = e; number_is = f; notes = old }
    restart v x es j false a e f new old w left = record { now_is = a; lag_is = e; number_is = f; notes = new }

    pub crash-service : (v : ℕ) (cut : Cut ℕ) → Writing cut (s.side v).side.now (s.side v).side.wake → Tied c n K (suc p) (with-side v (crashed_view cut (s.side v)) s) ls gs bs ds xs
    crash-service v cut w = unseen c n o _ (matches-side s o.model v _ o.matches (λ z. ok (o.matches.side v z)))
      where
        ok : SideOk c n o.model v (s.side v) → SideOk c n o.model v (crashed_view cut (s.side v))
        ok k =
            let both =
            notes-again c n o.model v (s.side v).side.wake (s.side v).side.now (s.side v).side.lag (s.side v).junk (s.side v).kept cut k.now_is k.lag_is past w k.notes
            in
            restart v (s.side v).side (crashed_view cut (s.side v)).kept (crashed_view cut (s.side v)).junk
            (unfit (s.side v).side.lag (s.side v).side.now (crashed_view cut (s.side v)).kept) k.now_is k.lag_is k.number_is both.0 both.1 (s.side v).writes (s.side v).left

    pub crash-house : (cut : Cut ℕ) → Writing cut s.home.side.now s.home.side.wake → Tied c n K (suc p) (with_home (crashed_home cut s.home) s) ls gs bs ds xs
    crash-house cut w = unseen c n o _ (matches-home s o.model _ o.matches ok)
      where
        k : HomeOk c n o.model s.home
        k = o.matches.home

        side : SideOk c n o.model 0 (crashed_view cut (view_of s.home))
        side =
            let both =
            notes-again c n o.model 0 s.home.side.wake s.home.side.now s.home.side.lag s.home.junk s.home.kept cut o.matches.home.now_is o.matches.home.lag_is past w o.matches.home.notes
            in
            restart 0 s.home.side (crashed_view cut (view_of s.home)).kept (crashed_view cut (view_of s.home)).junk
            (unfit s.home.side.lag s.home.side.now (crashed_view cut (view_of s.home)).kept) o.matches.home.now_is o.matches.home.lag_is o.matches.home.number_is both.0 both.1 s.home.writes s.home.left

        ok : HomeOk c n o.model (crashed_home cut s.home)
        ok =
            record {
              now_is = side.now_is;
              lag_is = side.lag_is;
              number_is = side.number_is;
              life_is = o.matches.home.life_is;
              key_is = o.matches.home.key_is;
              accounts = o.matches.home.accounts;
              is_open = o.matches.home.is_open;
              is-closed = o.matches.home.is-closed;
              notes = side.notes;
            }

    -- a key is stolen
    pub steals-one : (k : ℕ) → k < length c.own
        → Tied c n K (suc p) (record { home = s.home; side = s.side; box = s.box; air = n.name (own_of c.own k).0 ∷ s.air; used = s.used; stolen = n.key_of k ∷ s.stolen }) ls gs bs ds xs
    steals-one k there =
        record {
          events = Event.steals (n.key_of k) ∷ o.events;
          model = t;
          reach = Event.onward o.reach (Event.steals (n.key_of k)) tt;
          matches =
              record {
                net =
                    record {
                      air = λ x h. heard x (Memᴰ.cases_cons h);
                      next = o.matches.net.next;
                      stolen = ap (λ (y : List ℕ). n.key_of k ∷ y) o.matches.net.stolen;
                    };
                home = home_stays c n {m = o.model} {t = t} s.home refl (λ d h e. h) refl o.matches.home;
                side = λ v z. side-stays c n {m = o.model} {t = t} v (s.side v) refl (λ d h e. h) (o.matches.side v z);
                box = λ a. box-stays c n {m = o.model} {t = t} a (s.box a) refl g.grows (λ q y z. z.not_taken) (o.matches.box a);
              };
          lines = o.lines;
          keys = o.keys;
          begun = o.begun;
          deeds = deeds-stay c n ls ls o.model t g.grows (λ w l h. h) o.deeds;
          takens = o.takens;
          since = o.since;
          low_lines = down-more (λ (w : Wanted). w.place) p (suc p) ls (omega arith) o.low_lines;
          low_keys = down-more (λ (g : Given). g.place) p (suc p) gs (omega arith) o.low_keys;
        }
      where
        t : State
        t = after (rules_of c n) (Event.steals (n.key_of k)) o.model

        g : Change (rules_of c n) o.model t
        g = change (reached o.reach) (Event.steals (n.key_of k)) tt

        heard : (x : Term) → (x ≡ n.name (own_of c.own k).0) ⊎ Memᴰ x s.air → Memᴰ x (Own (n.key_of k) ∷ o.model.air)
        heard x (inl e) = Memᴰ.head (e ∙ n.of_own k there)
        heard x (inr h) = Memᴰ.tail (o.matches.net.air x h)
