-- What a side remembers covers what the model knows to be done. Assumes nothing.
use Rattle.std.proofs.Common.{◌≡◌, ℕ, ◌+◌, ◌-◌, ◌<◌, ◌≤◌, Bool, true, false, cond, eqb, ◌⊎◌, List, [], ◌∷◌, filter, sym, refl, ap, ◌∙◌, subst, inl, inr, arith, eq-eqb}
use mathlib.Core.List.Memᴰ
use mathlib.Core.List.{Memᴰ}
use Rattle.std.proofs.lemmas.Bool.{le-leb}
use Rattle.parts.specs.Tick.{live}
use Rattle.parts.specs.declared.account.Entry.{Entry}
use Rattle.parts.specs.declared.word.Key.{Key}
use Rattle.parts.specs.declared.word.Number.{Number}
use Rattle.service_rules.specs.Memory.{live_of, stands, recorded}
use Rattle.held.specs.Crash.{reread, rejunk, fits}
use Rattle.held.specs.declared.cut.Cut.{Cut}
use Rattle.held.specs.declared.cut.Cut.TheVariants.{Junk, New, Old}
use Rattle.tickets.specs.State.{Done, State}
use Rattle.tickets.specs.Event.{DoneBefore}
use Rattle.tickets.proofs.Bools.{clash, or_left, or_right}
use Rattle.rows.specs.Name.{Bytes, Naming}
use Rattle.rows.specs.Setting.{Setting, Writing, rules_of}

-- a deed stands in a memory, by the digest of its key and number, with its tick
pub record Noted (c : Setting) (n : Naming c.own) (es : List Entry) (d : Done) : Type 0 where
  pub key : Key
  pub number : Number
  pub key_named : n.name key.0 ≡ d.key
  pub number_named : n.name number.0 ≡ d.number
  pub stands-in : Memᴰ (record { digest = c.digest key number; tick = d.at }) es

-- each deed of a side that could still be asked again is noted, or the side waits until it is too old, and knows why
pub record Notes (c : Setting) (n : Naming c.own) (m : State) (v wake : ℕ) (junk : Bool) (es : List Entry) : Type 0 where
  pub of : (d : Done) → Memᴰ d m.done → d.service ≡ v → m.now ≤ d.at + c.lag
      → Noted c n es d ⊎ ((d.at + c.lag < wake) × (junk ≡ true))

kept_there : {X : Type 0} (p : X → Bool) (xs : List X) (x : X) → Memᴰ x xs → p x ≡ true → Memᴰ x (filter p xs)
kept_there p [] x m h = absurd (Memᴰ.not-nil m)
kept_there {X} p (y ∷ ys) x m h = go (kept_there p ys x) (p y) refl (Memᴰ.cases_cons m)
  where
    go : (Memᴰ x ys → p x ≡ true → Memᴰ x (filter p ys)) → (b : Bool) → p y ≡ b → (x ≡ y) ⊎ Memᴰ x ys → Memᴰ x (cond b (y ∷ filter p ys) (filter p ys))
    go rest true e (inl f) = Memᴰ.head f
    go rest true e (inr k) = Memᴰ.tail (rest k h)
    go rest false e (inl f) = absurd (clash (subst (λ (z : X). p z ≡ true) f h) e)
    go rest false e (inr k) = rest k h

stands-there : (es : List Entry) (d t : ℕ) → Memᴰ (record { digest = d; tick = t }) es → stands d es ≡ true
stands-there [] d t m = absurd (Memᴰ.not-nil m)
stands-there (e ∷ es) d t m = go (stands-there es d t) (Memᴰ.cases_cons m)
  where
    go : (Memᴰ (record { digest = d; tick = t }) es → stands d es ≡ true) → (◌≡◌ {A = Entry} (record { digest = d; tick = t }) e) ⊎ Memᴰ (record { digest = d; tick = t }) es
        → stands d (e ∷ es) ≡ true
    go rest (inl f) = or_left (eqb e.digest d) (stands d es) (eq-eqb e.digest d (ap (λ (x : Entry). x.digest) (sym f)))
    go rest (inr k) = or_right (eqb e.digest d) (stands d es) (rest k)

-- what is not too old is live
pub live-from : (now lag at : ℕ) → now ≤ at + lag → live now lag at ≡ true
live-from now lag at h = le-leb (now - at) lag (omega arith)

-- what is live stays, whatever is recorded
pub noted-recorded : (c : Setting) (n : Naming c.own) (now dg : ℕ) (es : List Entry) (d : Done) → now ≤ d.at + c.lag → Noted c n es d → Noted c n (recorded now c.lag dg es) d
noted-recorded c n now dg es d h o =
    record {
      key = o.key;
      number = o.number;
      key_named = o.key_named;
      number_named = o.number_named;
      stands-in = Memᴰ.append_left _ (kept_there (λ (e : Entry). live now c.lag e.tick) es _ o.stands-in (live-from now c.lag d.at h));
    }

-- a deed that is recorded now is noted
pub noted-new : (c : Setting) (n : Naming c.own) (now : ℕ) (es : List Entry) (d : Done) (k : Key) (x : Number) → n.name k.0 ≡ d.key → n.name x.0 ≡ d.number → d.at ≡ now
    → Noted c n (recorded now c.lag (c.digest k x) es) d
noted-new c n now es d k x e f t =
    record {
      key = k;
      number = x;
      key_named = e;
      number_named = f;
      stands-in =
          Memᴰ.append_right (live_of now c.lag es)
          (Memᴰ.head (ap (λ (y : ℕ). record { digest = c.digest k x; tick = y }) t));
    }

-- what was done before, and could still be asked again, is found, or the side waits
pub not_new : (c : Setting) (n : Naming c.own) (m : State) (v wake : ℕ) (junk : Bool) (es : List Entry) (k : Key) (x : Number) → Notes c n m v wake junk es
    → DoneBefore (rules_of c n) m v (n.name k.0) (n.name x.0) → (stands (c.digest k x) (live_of m.now c.lag es) ≡ true) ⊎ (m.now < wake)
not_new c n m v wake junk es k x notes b = go (notes.of b.deed b.known b.at-service b.remembered)
  where
    go : Noted c n es b.deed ⊎ ((b.deed.at + c.lag < wake) × (junk ≡ true)) → (stands (c.digest k x) (live_of m.now c.lag es) ≡ true) ⊎ (m.now < wake)
    go (inr p) = inr (let q = p.0 in let r = b.remembered in omega arith)
    go (inl o) =
        let ek : o.key.0 ≡ k.0 = n.apart _ _ (o.key_named ∙ b.same_key) in
        let ex : o.number.0 ≡ x.0 = n.apart _ _ (o.number_named ∙ b.same_number) in
        let fk : o.key ≡ k = ap (λ (y : Bytes). record { 0 = y }) ek in
        let fx : o.number ≡ x = ap (λ (y : Bytes). record { 0 = y }) ex in
        let there = kept_there (λ (e : Entry). live m.now c.lag e.tick) es _ o.stands-in (live-from m.now c.lag b.deed.at b.remembered) in
        let found = stands-there (live_of m.now c.lag es) (c.digest o.key o.number) b.deed.at there in
        inl
        (subst (λ (y : Key). stands (c.digest y x) (live_of m.now c.lag es) ≡ true) fk
        (subst (λ (y : Number). stands (c.digest o.key y) (live_of m.now c.lag es) ≡ true) fx found))

-- the model goes on, and nothing is done by this side
pub notes-later : (c : Setting) (n : Naming c.own) (m t : State) (v wake : ℕ) (junk : Bool) (es : List Entry) → m.now ≤ t.now
    → ((d : Done) → Memᴰ d t.done → d.service ≡ v → Memᴰ d m.done) → Notes c n m v wake junk es → Notes c n t v wake junk es
notes-later c n m t v wake junk es h old notes =
    record { of = λ d k e r. notes.of d (old d k e) e (omega arith) }

-- a side that does something now, and waits for nothing
pub notes-done : (c : Setting) (n : Naming c.own) (m t : State) (v wake : ℕ) (junk junk' : Bool) (es : List Entry) (new : Done) (k : Key) (x : Number) → m.now ≡ t.now → wake ≤ m.now
    → ((d : Done) → Memᴰ d t.done → (d ≡ new) ⊎ Memᴰ d m.done) → n.name k.0 ≡ new.key → n.name x.0 ≡ new.number → new.at ≡ m.now
    → Notes c n m v wake junk es → Notes c n t v wake junk' (recorded m.now c.lag (c.digest k x) es)
notes-done c n m t v wake junk junk' es new k x same awake cases ek ex at notes =
    record { of = λ d h e r. go d e r (cases d h) }
  where
    go : (d : Done) → d.service ≡ v → t.now ≤ d.at + c.lag → (d ≡ new) ⊎ Memᴰ d m.done
        → Noted c n (recorded m.now c.lag (c.digest k x) es) d ⊎ ((d.at + c.lag < wake) × (junk' ≡ true))
    go d e r (inl f) =
        inl (subst (λ (y : Done). Noted c n (recorded m.now c.lag (c.digest k x) es) y) (sym f) (noted-new c n m.now es new k x ek ex at))
    go d e r (inr h) = old (notes.of d h e (omega arith))
      where
        old : Noted c n es d ⊎ ((d.at + c.lag < wake) × (junk ≡ true)) → Noted c n (recorded m.now c.lag (c.digest k x) es) d ⊎ ((d.at + c.lag < wake) × (junk' ≡ true))
        old (inl o) = inl (noted-recorded c n m.now (c.digest k x) es d (omega arith) o)
        old (inr p) = absurd (let q = p.0 in omega arith)

-- a side that crashed and starts again: what it reads again covers what was done, or it waits
pub notes-crash : (c : Setting) (n : Naming c.own) (m : State) (v wake : ℕ) (junk : Bool) (es : List Entry) (cut : Cut ℕ) → ((d : Done) → Memᴰ d m.done → d.at ≤ m.now)
    → Writing cut m.now wake → Notes c n m v wake junk es
    → Notes c n m v (cond (rejunk m.now c.lag cut es junk) (m.now + c.lag + 1) 0) (rejunk m.now c.lag cut es junk) (reread m.now c.lag cut es)
notes-crash c n m v wake junk es Old past w notes = record { of = λ d h e r. go d (past d h) (notes.of d h e r) }
  where
    go : (d : Done) → d.at ≤ m.now → Noted c n es d ⊎ ((d.at + c.lag < wake) × (junk ≡ true))
        → Noted c n es d ⊎ ((d.at + c.lag < cond junk (m.now + c.lag + 1) 0) × (junk ≡ true))
    go d p (inl o) = inl o
    go d p (inr q) = inr (subst (λ (b : Bool). d.at + c.lag < cond b (m.now + c.lag + 1) 0) (sym q.1) (omega arith), q.1)
notes-crash c n m v wake junk es (New dg) past w notes = by (fits m.now c.lag es)
  where
    noted : (d : Done) → m.now ≤ d.at + c.lag → Noted c n es d ⊎ ((d.at + c.lag < wake) × (junk ≡ true)) → Noted c n es d
    noted d r (inl o) = o
    noted d r (inr q) = absurd (let p = q.0 in omega arith)

    by : (b : Bool) → Notes c n m v (cond (cond b false junk) (m.now + c.lag + 1) 0) (cond b false junk) (cond b (recorded m.now c.lag dg es) es)
    by true = record { of = λ d h e r. inl (noted-recorded c n m.now dg es d r (noted d r (notes.of d h e r))) }
    by false = record { of = λ d h e r. inl (noted d r (notes.of d h e r)) }
notes-crash c n m v wake junk es Junk past w notes = record { of = λ d h e r. go d r (notes.of d h e r) }
  where
    go : (d : Done) → m.now ≤ d.at + c.lag → Noted c n es d ⊎ ((d.at + c.lag < wake) × (junk ≡ true)) → Noted c n es d ⊎ ((d.at + c.lag < m.now + c.lag + 1) × (true ≡ true))
    go d r (inl o) = inl o
    go d r (inr q) = absurd (let p = q.0 in omega arith)

-- the same where it does not start again, and so waits as before
notes-reread : (c : Setting) (n : Naming c.own) (m : State) (v wake : ℕ) (junk : Bool) (es : List Entry) (cut : Cut ℕ) → Writing cut m.now wake → Notes c n m v wake junk es
    → Notes c n m v wake (rejunk m.now c.lag cut es junk) (reread m.now c.lag cut es)
notes-reread c n m v wake junk es Old w notes = notes
notes-reread c n m v wake junk es (New dg) w notes = by (fits m.now c.lag es)
  where
    noted : (d : Done) → m.now ≤ d.at + c.lag → Noted c n es d ⊎ ((d.at + c.lag < wake) × (junk ≡ true)) → Noted c n es d
    noted d r (inl o) = o
    noted d r (inr q) = absurd (let p = q.0 in omega arith)

    by : (b : Bool) → Notes c n m v wake (cond b false junk) (cond b (recorded m.now c.lag dg es) es)
    by true = record { of = λ d h e r. inl (noted-recorded c n m.now dg es d r (noted d r (notes.of d h e r))) }
    by false = record { of = λ d h e r. inl (noted d r (notes.of d h e r)) }
notes-reread c n m v wake junk es Junk w notes = record { of = λ d h e r. go d r (notes.of d h e r) }
  where
    go : (d : Done) → m.now ≤ d.at + c.lag → Noted c n es d ⊎ ((d.at + c.lag < wake) × (junk ≡ true)) → Noted c n es d ⊎ ((d.at + c.lag < wake) × (true ≡ true))
    go d r (inl o) = inl o
    go d r (inr q) = inr (q.0, refl)

-- both, at the side's own tick and lag
pub notes-again : (c : Setting) (n : Naming c.own) (m : State) (v wake now lag : ℕ) (junk : Bool) (es : List Entry) (cut : Cut ℕ) → now ≡ m.now → lag ≡ c.lag
    → ((d : Done) → Memᴰ d m.done → d.at ≤ m.now) → Writing cut now wake → Notes c n m v wake junk es
    → Notes c n m v (cond (rejunk now lag cut es junk) (now + lag + 1) 0) (rejunk now lag cut es junk) (reread now lag cut es)
    × Notes c n m v wake (rejunk now lag cut es junk) (reread now lag cut es)
notes-again c n m v wake now lag junk es cut e f past w notes =
    subst (λ (x : ℕ). Both x lag) (sym e) (subst (λ (y : ℕ). Both m.now y) (sym f)
    (notes-crash c n m v wake junk es cut past (subst (λ (x : ℕ). Writing cut x wake) e w) notes, notes-reread c n m v wake junk es cut (subst (λ (x : ℕ). Writing cut x wake) e w) notes))
  where
    Both : ℕ → ℕ → Type 0
    Both x y =
        Notes c n m v (cond (rejunk x y cut es junk) (x + y + 1) 0) (rejunk x y cut es junk) (reread x y cut es)
        × Notes c n m v wake (rejunk x y cut es junk) (reread x y cut es)
