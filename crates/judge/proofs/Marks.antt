-- The judge's lines beside the row's: which are spent, and the oldest that fits. Assumes nothing.
use Rattle.std.proofs.Common.{◌≡◌, ℕ, suc, ◌+◌, ◌<◌, ◌≤◌, Bool, true, false, cond, not, ◌&&◌, eqb, leb, ◌⊎◌, List, [], ◌∷◌, ◌++◌, map, Some, None, sym, refl, ap, ◌∙◌, subst, inl, inr, arith, eq-eqb, eqb-true, le-leb, leb-true}
use Rattle.judge_rules.specs.Judge.{Act, Noted, fits, oldest, spend, spent_line}
use Rattle.parts.specs.Tick.{lately}
use Rattle.rows.specs.Name.{Naming}
use Rattle.rows.specs.Setting.{Setting}
use Rattle.rows.specs.Row.{Deed, For, Wanted}
use Rattle.rows.proofs.Names.{same-eq, same_refl}
use Rattle.judge.specs.Hearing.{claim}
use Rattle.tickets.proofs.Bools.{clash, either}
use Rattle.std.specs.Str.{bytes_eq}
use borrow.Author.Tests.{not-true}
use mathlib.Core.List.Memᴰ
use mathlib.Core.List.{Memᴰ}

-- a line of the row, and whether the judge has spent it
pub record Mark : Type 0 where
  pub wanted : Wanted
  pub spent : Bool

abbrev pub mark : Wanted → Bool → Mark
mark w b = record { wanted = w; spent = b }

abbrev pub noted_of : Mark → Noted
noted_of m = record { reader = m.wanted.reader; service = m.wanted.service; words = m.wanted.what; at = m.wanted.at; spent = m.spent }

abbrev pub spent_mark : Mark → Mark
spent_mark m = mark m.wanted true

-- both
pub and_both : (a b : Bool) → (a && b) ≡ true → (a ≡ true) × (b ≡ true)
and_both true b h = (refl, h)
and_both false b h = absurd (clash {b = false} h refl)

pub and-true : (a b : Bool) → a ≡ true → b ≡ true → (a && b) ≡ true
and-true true b h k = k
and-true false b h k = absurd (clash {b = false} h refl)

-- what a line that fits has
pub record Fit (lag : ℕ) (a : Act) (m : Mark) : Type 0 where
  pub unspent : m.spent ≡ false
  pub reader : m.wanted.reader ≡ a.reader
  pub service : m.wanted.service ≡ a.service
  pub what : m.wanted.what ≡ a.words
  pub not_later : m.wanted.at ≤ a.at
  pub lately : a.at ≤ m.wanted.at + lag

pub fit_of : (lag : ℕ) (a : Act) (m : Mark) → fits lag a (noted_of m) ≡ true → Fit lag a m
fit_of lag a m h =
    let p = and_both (not m.spent) _ h in
    let q = and_both (eqb m.wanted.reader a.reader) _ p.1 in
    let r = and_both (eqb m.wanted.service a.service) _ q.1 in
    let s = and_both (lately a.at lag m.wanted.at) _ r.1 in
    let t = and_both (leb m.wanted.at a.at) _ s.0 in
    let i = leb-true _ _ t.0 in
    let j = leb-true _ _ t.1 in
    record {
      unspent = not-true _ p.0;
      reader = eqb-true _ _ q.0;
      service = eqb-true _ _ r.0;
      what = same-eq _ _ s.1;
      not_later = i;
      lately = omega arith;
    }

pub of-fit : (lag : ℕ) (a : Act) (m : Mark) → Fit lag a m → fits lag a (noted_of m) ≡ true
of-fit lag a m f =
    let i = f.not_later in
    let j = f.lately in
    and-true (not m.spent) _ (ap not f.unspent)
    (and-true (eqb m.wanted.reader a.reader) _ (eq-eqb _ _ f.reader)
    (and-true (eqb m.wanted.service a.service) _ (eq-eqb _ _ f.service)
    (and-true (lately a.at lag m.wanted.at) _ (and-true (leb m.wanted.at a.at) _ (le-leb _ _ i) (le-leb _ _ (omega arith)))
    (subst (λ (x : List ℕ). bytes_eq m.wanted.what x ≡ true) f.what (same_refl m.wanted.what)))))

-- a line that the row has for a deed fits it, if it is not spent
pub fit-for : (c : Setting) (n : Naming c.own) (d : Deed) (w : Wanted) → For c n d w → Fit c.lag (claim d) (mark w false)
fit-for c n d w f =
    record { unspent = refl; reader = f.reader; service = f.service; what = f.what; not_later = f.not_later; lately = f.lately }

-- the oldest that fits, between those before and those after it
pub record First (lag : ℕ) (a : Act) (ms : List Mark) : Type 0 where
  pub before : List Mark
  pub it : Mark
  pub after : List Mark
  pub split : ms ≡ before ++ (it ∷ after)
  pub fit : Fit lag a it
  pub none_before : (m : Mark) → Memᴰ m before → fits lag a (noted_of m) ≡ false
  pub spends : spend lag a (map noted_of ms) ≡ map noted_of (before ++ (spent_mark it ∷ after))

-- none fits
pub record NoFit (lag : ℕ) (a : Act) (ms : List Mark) : Type 0 where
  pub none : (m : Mark) → Memᴰ m ms → fits lag a (noted_of m) ≡ false
  pub keeps : spend lag a (map noted_of ms) ≡ map noted_of ms

pub look : (lag : ℕ) (a : Act) (ms : List Mark) → First lag a ms ⊎ NoFit lag a ms
look lag a [] = inr (record { none = λ m h. absurd (Memᴰ.not-nil h); keeps = refl })
look lag a (m ∷ ms) = go (either (fits lag a (noted_of m))) (look lag a ms)
  where
    go : (fits lag a (noted_of m) ≡ true) ⊎ (fits lag a (noted_of m) ≡ false) → First lag a ms ⊎ NoFit lag a ms → First lag a (m ∷ ms) ⊎ NoFit lag a (m ∷ ms)
    go (inl e) rest =
        inl (record {
          before = [];
          it = m;
          after = ms;
          split = refl;
          fit = fit_of lag a m e;
          none_before = λ k h. absurd (Memᴰ.not-nil h);
          spends = ap (λ (b : Bool). cond b (spent_line (noted_of m) ∷ map noted_of ms) (noted_of m ∷ spend lag a (map noted_of ms))) e;
        })
    go (inr e) (inl f) =
        inl (record {
          before = m ∷ f.before;
          it = f.it;
          after = f.after;
          split = ap (λ (x : List Mark). m ∷ x) f.split;
          fit = f.fit;
          none_before = λ k h. not-here k (Memᴰ.cases_cons h) f;
          spends = ap (λ (b : Bool). cond b (spent_line (noted_of m) ∷ map noted_of ms) (noted_of m ∷ spend lag a (map noted_of ms))) e ∙ ap (λ (x : List Noted). noted_of m ∷ x) f.spends;
        })
      where
        not-here : (k : Mark) → (k ≡ m) ⊎ Memᴰ k f.before → First lag a ms → fits lag a (noted_of k) ≡ false
        not-here k (inl i) g = subst (λ (x : Mark). fits lag a (noted_of x) ≡ false) (sym i) e
        not-here k (inr h) g = f.none_before k h
    go (inr e) (inr f) =
        inr (record {
          none = λ k h. not_there k (Memᴰ.cases_cons h);
          keeps = ap (λ (b : Bool). cond b (spent_line (noted_of m) ∷ map noted_of ms) (noted_of m ∷ spend lag a (map noted_of ms))) e ∙ ap (λ (x : List Noted). noted_of m ∷ x) f.keeps;
        })
      where
        not_there : (k : Mark) → (k ≡ m) ⊎ Memᴰ k ms → fits lag a (noted_of k) ≡ false
        not_there k (inl i) = subst (λ (x : Mark). fits lag a (noted_of x) ≡ false) (sym i) e
        not_there k (inr h) = f.none k h

-- where nothing is found, none fits
pub none-fits : (lag : ℕ) (a : Act) (k : ℕ) (ms : List Mark) → oldest lag a k (map noted_of ms) ≡ None → (m : Mark) → Memᴰ m ms → fits lag a (noted_of m) ≡ false
none-fits lag a k [] e m h = absurd (Memᴰ.not-nil h)
none-fits lag a k (x ∷ ms) e m h = go (fits lag a (noted_of x)) refl e (Memᴰ.cases_cons h) (λ g i. none-fits lag a (k + 1) ms g m i)
  where
    go : (b : Bool) → fits lag a (noted_of x) ≡ b → cond b (Some (record { index = k; at = x.wanted.at })) (oldest lag a (k + 1) (map noted_of ms)) ≡ None
        → (m ≡ x) ⊎ Memᴰ m ms → (oldest lag a (k + 1) (map noted_of ms) ≡ None → Memᴰ m ms → fits lag a (noted_of m) ≡ false)
        → fits lag a (noted_of m) ≡ false
    go true f g i rest = absurd (let z : ◌≡◌ {A = ℕ} 0 1 = cc in omega arith)
    go false f g (inl i) rest = subst (λ (y : Mark). fits lag a (noted_of y) ≡ false) (sym i) f
    go false f g (inr i) rest = rest g i

-- places that rise from a bound
abbrev pub Up : ℕ → List Mark → Type 0
Up b [] = Unit {0}
Up b (m ∷ ms) = (b ≤ m.wanted.place) × Up (suc m.wanted.place) ms

pub up-low : (b : ℕ) (ms : List Mark) → Up b ms → (m : Mark) → Memᴰ m ms → b ≤ m.wanted.place
up-low b [] u m h = absurd (Memᴰ.not-nil h)
up-low b (x ∷ ms) u m h = go (Memᴰ.cases_cons h) (up-low (suc x.wanted.place) ms u.1 m)
  where
    go : (m ≡ x) ⊎ Memᴰ m ms → (Memᴰ m ms → suc x.wanted.place ≤ m.wanted.place) → b ≤ m.wanted.place
    go (inl i) rest = subst (λ (y : Mark). b ≤ y.wanted.place) (sym i) u.0
    go (inr k) rest = let p = rest k in let q = u.0 in omega arith

-- whoever stands after one has a higher place
pub up-after : (b : ℕ) (before after : List Mark) (it : Mark) → Up b (before ++ (it ∷ after)) → (m : Mark) → Memᴰ m after → it.wanted.place < m.wanted.place
up-after b [] after it u m h = up-low (suc it.wanted.place) after u.1 m h
up-after b (x ∷ before) after it u m h = up-after (suc x.wanted.place) before after it u.1 m h

pub up-spent : (b : ℕ) (before after : List Mark) (it : Mark) → Up b (before ++ (it ∷ after)) → Up b (before ++ (spent_mark it ∷ after))
up-spent b [] after it u = u
up-spent b (x ∷ before) after it u = (u.0, up-spent (suc x.wanted.place) before after it u.1)

-- one more at the end
pub up_more : (b : ℕ) (ms : List Mark) (x : Mark) → Up b ms → b ≤ x.wanted.place → ((m : Mark) → Memᴰ m ms → m.wanted.place < x.wanted.place) → Up b (ms ++ (x ∷ []))
up_more b [] x u h f = (h, tt)
up_more b (m ∷ ms) x u h f = (u.0, up_more (suc m.wanted.place) ms x u.1 (f m (Memᴰ.head refl)) (λ k i. f k (Memᴰ.tail i)))

-- where one stands among these
pub among : {A : Type 0} (before after : List A) (it m : A) → Memᴰ m (before ++ (it ∷ after)) → (Memᴰ m before ⊎ Memᴰ m after) ⊎ (m ≡ it)
among {A} before after it m h = go (Memᴰ.append_cases before h)
  where
    turn : (m ≡ it) ⊎ Memᴰ m after → (Memᴰ m before ⊎ Memᴰ m after) ⊎ (m ≡ it)
    turn (inl e) = inr e
    turn (inr k) = inl (inr k)

    go : Memᴰ m before ⊎ Memᴰ m (it ∷ after) → (Memᴰ m before ⊎ Memᴰ m after) ⊎ (m ≡ it)
    go (inl k) = inl (inl k)
    go (inr k) = turn (Memᴰ.cases_cons k)

pub beside : {A : Type 0} (before after : List A) (it m : A) → Memᴰ m before ⊎ Memᴰ m after → Memᴰ m (before ++ (it ∷ after))
beside before after it m (inl k) = Memᴰ.append_left (it ∷ after) k
beside before after it m (inr k) = Memᴰ.append_right before (Memᴰ.tail k)

pub middle : {A : Type 0} (before after : List A) (it : A) → Memᴰ it (before ++ (it ∷ after))
middle before after it = Memᴰ.append_right before (Memᴰ.head refl)
