-- Acts on accounts: opening and closing. Assumes nothing.
use Rattle.std.proofs.Common.{◌≡◌, ℕ, suc, ◌<◌, ◌≤◌, Bool, true, false, cond, ◌||◌, eqb, ◌⊎◌, List, ◌∷◌, length, set, sym, refl, ap, ◌∙◌, subst, inl, inr, arith, length-set, get_or-set_other, get_or-set_same, eq-eqb, eqb-true, Err}
use mathlib.Core.List.{Memᴰ}
use native.Mathlib.Decide.{dec_lt}
use Rattle.std.proofs.lemmas.List.{get_or_past}
use Rattle.parts.specs.declared.account.Account.{Account}
use Rattle.parts.specs.declared.account.Account.TheVariants.{Absent, Open, Closed}
use Rattle.parts.specs.declared.fault.Fault.TheVariants.{Unknown}
use Rattle.parts.specs.declared.word.Key.{Key}
use Rattle.service_rules.specs.Service.{nobody}
use Rattle.house_rules.specs.Account.{account_of, unknown, closed}
use Rattle.parts.specs.Account.{is_absent, is_closed as is_shut, key_in}
use Rattle.house_rules.specs.Change.{changed, opened_from, opened_after, shut_from, shut_after, closed_of}
use Rattle.tickets.specs.State.{Closing, State, is_closed}
use Rattle.tickets.specs.Event.{Event, after, Reach}
use Rattle.tickets.specs.Event
use Rattle.tickets.proofs.Keep.{Change}
use Rattle.tickets.proofs.Reached.{reached, change}
use Rattle.tickets.proofs.Bools.{clash, either}
use Rattle.rows.specs.Name.{Naming, own_of}
use Rattle.rows.specs.Setting.{Setting, rules_of}
use Rattle.rows.specs.System.{System, with_home, home_accounts, OwnKeyTold}
use Rattle.rows.specs.Row.{Wanted, Deed, Given, Begun, Taken}
use Rattle.rows.proofs.Pairs.{down-more}
use Rattle.rows.proofs.Noting.{notes-later}
use Rattle.rows.proofs.Matches.{AccountOk, ClosedBy, side-stays, box-stays}
use Rattle.rows.proofs.Tied.{Tied, unseen, deeds-stay}
use Rattle.rows.proofs.Quiet.{matches-home}

-- an account that was set, or as before
set-account : (xs : List Account) (k j : ℕ) (a : Account) → ((j ≡ k) × (account_of (set xs k a) j ≡ a)) ⊎ (account_of (set xs k a) j ≡ account_of xs j)
set-account xs k j a = go (either (eqb j k))
  where
    within : j ≡ k → Dec (k < length xs) → ((j ≡ k) × (account_of (set xs k a) j ≡ a)) ⊎ (account_of (set xs k a) j ≡ account_of xs j)
    within e (yes h) = inl (e, subst (λ (i : ℕ). account_of (set xs k a) i ≡ a) (sym e) (get_or-set_same xs k a Absent h))
    within e (no h) =
        let low : length xs ≤ j = omega arith in
        let low' : length (set xs k a) ≤ j = simp length-set low in
        inr (get_or_past (set xs k a) j Absent low' ∙ sym (get_or_past xs j Absent low))

    go : (eqb j k ≡ true) ⊎ (eqb j k ≡ false) → ((j ≡ k) × (account_of (set xs k a) j ≡ a)) ⊎ (account_of (set xs k a) j ≡ account_of xs j)
    go (inl e) = within (eqb-true j k e) (dec_lt k (length xs))
    go (inr e) = inr (get_or-set_other xs k j a Absent (λ f. clash (eq-eqb j k f) e))

-- an account that is there was set
there-set : (xs : List Account) (k : ℕ) (a : Account) → is_absent (account_of xs k) ≡ false → account_of (set xs k a) k ≡ a
there-set xs k a h = go (dec_lt k (length xs))
  where
    go : Dec (k < length xs) → account_of (set xs k a) k ≡ a
    go (yes l) = get_or-set_same xs k a Absent l
    go (no l) = absurd (clash (ap (λ (x : Account). is_absent x) (get_or_past xs k Absent (omega arith))) h)

module _ (c : Setting) (n : Naming c.own) {K : List Closing} {p : ℕ} {s : System} {ls : List Wanted} {gs : List Given} {bs : List Begun} {ds : List Deed} {xs : List Taken} (o : Tied c n K p s ls gs bs ds xs) where
  -- the accounts as they were
  same-accounts : Tied c n K (suc p) (with_home (home_accounts s.home.accounts s.home) s) ls gs bs ds xs
  same-accounts =
      unseen c n o _
      (matches-home c n s o.model _ o.matches
      (record {
        now_is = o.matches.home.now_is;
        lag_is = o.matches.home.lag_is;
        number_is = o.matches.home.number_is;
        life_is = o.matches.home.life_is;
        key_is = o.matches.home.key_is;
        accounts = o.matches.home.accounts;
        is_open = o.matches.home.is_open;
        is-closed = o.matches.home.is-closed;
        notes = o.matches.home.notes;
      }))

  -- a new account
  open-account : (k : ℕ) (key : Key) → OwnKeyTold c n k key → account_of s.home.accounts k ≡ Absent
      → Tied c n K (suc p) (with_home (home_accounts (set s.home.accounts k (Open key)) s.home) s) ls gs bs ds xs
  open-account k key told absent =
      unseen c n o _
      (matches-home c n s o.model _ o.matches
      (record {
        now_is = o.matches.home.now_is;
        lag_is = o.matches.home.lag_is;
        number_is = o.matches.home.number_is;
        life_is = o.matches.home.life_is;
        key_is = o.matches.home.key_is;
        accounts = λ j h. account j h (set-account s.home.accounts k j (Open key));
        is_open = λ j h. opened-so j h (set-account s.home.accounts k j (Open key));
        is-closed = λ j h. closed-so j h (set-account s.home.accounts k j (Open key));
        notes = o.matches.home.notes;
      }))
    where
      account : (j : ℕ) → unknown (set s.home.accounts k (Open key)) j ≡ false
          → ((j ≡ k) × (account_of (set s.home.accounts k (Open key)) j ≡ Open key)) ⊎ (account_of (set s.home.accounts k (Open key)) j ≡ account_of s.home.accounts j)
          → AccountOk c n (set s.home.accounts k (Open key)) j
      account j h (inl e) =
          record {
            there = subst (λ (i : ℕ). i < length c.own) (sym e.0) told.there;
            own = ap (λ (x : Account). key_in x) e.1 ∙ told.own ∙ ap (λ (i : ℕ). own_of c.own i) (sym e.0);
          }
      account j h (inr e) =
          let old = o.matches.home.accounts j (ap (λ (x : Account). nobody j || is_absent x) (sym e) ∙ h) in
          record { there = old.there; own = ap (λ (x : Account). key_in x) e ∙ old.own }

      opened-so : (j : ℕ) → closed (set s.home.accounts k (Open key)) j ≡ false
          → ((j ≡ k) × (account_of (set s.home.accounts k (Open key)) j ≡ Open key)) ⊎ (account_of (set s.home.accounts k (Open key)) j ≡ account_of s.home.accounts j)
          → is_closed j o.model.closed ≡ false
      opened-so j h (inl e) =
          o.matches.home.is_open j (subst (λ (i : ℕ). closed s.home.accounts i ≡ false) (sym e.0) (ap (λ (x : Account). is_shut x) absent))
      opened-so j h (inr e) = o.matches.home.is_open j (ap (λ (x : Account). is_shut x) (sym e) ∙ h)

      closed-so : (j : ℕ) → closed (set s.home.accounts k (Open key)) j ≡ true
          → ((j ≡ k) × (account_of (set s.home.accounts k (Open key)) j ≡ Open key)) ⊎ (account_of (set s.home.accounts k (Open key)) j ≡ account_of s.home.accounts j)
          → ClosedBy c n o.model j
      closed-so j h (inl e) = absurd (clash h (ap (λ (x : Account). is_shut x) e.1))
      closed-so j h (inr e) = o.matches.home.is-closed j (ap (λ (x : Account). is_shut x) (sym e) ∙ h)

  pub opens_one : (k : ℕ) (key : Key) (w : Bool) → OwnKeyTold c n k key
      → Tied c n K (suc p) (with_home (home_accounts (opened_after s.home.accounts k key w) s.home) s) ls gs bs ds xs
  opens_one k key w told = go (nobody k) (account_of s.home.accounts k) w refl
    where
      go : (b : Bool) (a : Account) (w : Bool) → account_of s.home.accounts k ≡ a
          → Tied c n K (suc p) (with_home (home_accounts (changed s.home.accounts k (Open key) (cond b (Err Unknown) (opened_from a w))) s.home) s) ls gs bs ds xs
      go true a w e = same-accounts
      go false Absent true e = open-account k key told e
      go false Absent false e = same-accounts
      go false (Open x) w e = same-accounts
      go false (Closed x) w e = same-accounts

  -- an account is closed
  close-account : (k : ℕ) (key : Key) → nobody k ≡ false → account_of s.home.accounts k ≡ Open key
      → Tied c n K (suc p) (with_home (home_accounts (set s.home.accounts k (Closed key)) s.home) s) ls gs bs ds xs
  unfolding is_closed
  close-account k key somebody is_open =
      record {
        events = Event.closes k ∷ o.events;
        model = t;
        reach = Event.onward o.reach (Event.closes k) tt;
        matches =
            record {
              net = record { air = o.matches.net.air; next = o.matches.net.next; stolen = o.matches.net.stolen };
              home =
                  record {
                    now_is = o.matches.home.now_is;
                    lag_is = o.matches.home.lag_is;
                    number_is = o.matches.home.number_is;
                    life_is = o.matches.home.life_is;
                    key_is = o.matches.home.key_is;
                    accounts = λ j h. account j h (set-account s.home.accounts k j (Closed key));
                    is_open = λ j h. opened-so j h (either (eqb k j)) (set-account s.home.accounts k j (Closed key));
                    is-closed = λ j h. closed-so j h (set-account s.home.accounts k j (Closed key));
                    notes = notes-later c n o.model t 0 s.home.side.wake s.home.junk s.home.kept (omega arith) (λ d h e. h) o.matches.home.notes;
                  };
              side = λ v z. side-stays c n {m = o.model} {t = t} v (s.side v) refl (λ d h e. h) (o.matches.side v z);
              box = λ a. box-stays c n {m = o.model} {t = t} a (s.box a) refl g.grows (λ q y z. z.not_taken) (o.matches.box a);
            };
        lines = o.lines;
        keys = o.keys;
        begun = o.begun;
        deeds = deeds-stay c n ls ls o.model t g.grows (λ w l h. h) o.deeds;
        takens = o.takens;
        since = λ x h. Memᴰ.tail (o.since x h);
        low_lines = down-more (λ (w : Wanted). w.place) p (suc p) ls (omega arith) o.low_lines;
        low_keys = down-more (λ (g : Given). g.place) p (suc p) gs (omega arith) o.low_keys;
      }
    where
      t : State
      t = after (rules_of c n) (Event.closes k) o.model

      g : Change (rules_of c n) o.model t
      g = change (reached o.reach) (Event.closes k) tt

      account : (j : ℕ) → unknown (set s.home.accounts k (Closed key)) j ≡ false
          → ((j ≡ k) × (account_of (set s.home.accounts k (Closed key)) j ≡ Closed key)) ⊎ (account_of (set s.home.accounts k (Closed key)) j ≡ account_of s.home.accounts j)
          → AccountOk c n (set s.home.accounts k (Closed key)) j
      account j h (inl e) =
          let known : unknown s.home.accounts k ≡ false = subst (λ (b : Bool). (b || is_absent (account_of s.home.accounts k)) ≡ false) (sym somebody) (ap (λ (x : Account). is_absent x) is_open) in
          let old = o.matches.home.accounts k known in
          record {
            there = subst (λ (i : ℕ). i < length c.own) (sym e.0) old.there;
            own = ap (λ (x : Account). key_in x) e.1 ∙ ap (λ (x : Account). key_in x) (sym is_open) ∙ old.own ∙ ap (λ (i : ℕ). own_of c.own i) (sym e.0);
          }
      account j h (inr e) =
          let old = o.matches.home.accounts j (ap (λ (x : Account). nobody j || is_absent x) (sym e) ∙ h) in
          record { there = old.there; own = ap (λ (x : Account). key_in x) e ∙ old.own }

      opened-so : (j : ℕ) → closed (set s.home.accounts k (Closed key)) j ≡ false → (eqb k j ≡ true) ⊎ (eqb k j ≡ false)
          → ((j ≡ k) × (account_of (set s.home.accounts k (Closed key)) j ≡ Closed key)) ⊎ (account_of (set s.home.accounts k (Closed key)) j ≡ account_of s.home.accounts j)
          → is_closed j (record { who = k; at = o.model.now } ∷ o.model.closed) ≡ false
      opened-so j h (inl e) z =
          absurd
          (clash
          (subst (λ (i : ℕ). closed (set s.home.accounts k (Closed key)) i ≡ true) (eqb-true k j e)
          (ap (λ (x : Account). is_shut x) (there-set s.home.accounts k (Closed key) (ap (λ (x : Account). is_absent x) is_open)))) h)
      opened-so j h (inr e) (inl z) = absurd (clash (ap (λ (x : Account). is_shut x) z.1) h)
      opened-so j h (inr e) (inr z) =
          subst (λ (b : Bool). (b || is_closed j o.model.closed) ≡ false) (sym e) (o.matches.home.is_open j (ap (λ (x : Account). is_shut x) (sym z) ∙ h))

      closed-so : (j : ℕ) → closed (set s.home.accounts k (Closed key)) j ≡ true
          → ((j ≡ k) × (account_of (set s.home.accounts k (Closed key)) j ≡ Closed key)) ⊎ (account_of (set s.home.accounts k (Closed key)) j ≡ account_of s.home.accounts j)
          → ClosedBy c n t j
      closed-so j h (inl e) = record { closing = record { who = k; at = o.model.now }; known = Memᴰ.head refl; whose = sym e.0; past = omega arith }
      closed-so j h (inr e) =
          let old = o.matches.home.is-closed j (ap (λ (x : Account). is_shut x) (sym e) ∙ h) in
          record { closing = old.closing; known = Memᴰ.tail old.known; whose = old.whose; past = old.past }

  pub closes-one : (k : ℕ) (w : Bool) → Tied c n K (suc p) (with_home (home_accounts (shut_after s.home.accounts k w) s.home) s) ls gs bs ds xs
  closes-one k w = go (nobody k) (account_of s.home.accounts k) w refl refl
    where
      go : (b : Bool) (a : Account) (w : Bool) → nobody k ≡ b → account_of s.home.accounts k ≡ a
          → Tied c n K (suc p) (with_home (home_accounts (changed s.home.accounts k (closed_of a) (cond b (Err Unknown) (shut_from a w))) s.home) s) ls gs bs ds xs
      go true a w d e = same-accounts
      go false Absent w d e = same-accounts
      go false (Open x) true d e = close-account k x d e
      go false (Open x) false d e = same-accounts
      go false (Closed x) w d e = same-accounts
