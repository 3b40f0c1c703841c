-- What is spent stays spent, and by whom. Assumes nothing.
use Rattle.std.proofs.Common.{◌≡◌, ℕ, zero, suc, ◌+◌, ◌≤◌, Bool, true, false, cond, not, ◌⊎◌, List, [], ◌∷◌, ◌++◌, Some, None, Option, sym, refl, ap, ◌∙◌, subst, inl, inr, arith}
use Rattle.judge_rules.specs.Judge.{Act, Found, Noted, View, fits, oldest, robbed, said, spend, spent_line, unasked, verdict}
use Rattle.judge_rules.specs.declared.record.Verdict.TheVariants.{Asked}
use Rattle.judge.specs.Hearing.{Hearing, claim, deed, joins, line, nothing, sat, theft, verdicts}
use Rattle.judge.specs.Meaning.{LinesOnce, Names}
use Rattle.judge.proofs.Marks.{and_both}
use Rattle.tickets.proofs.Bools.{clash}
use borrow.Author.Tests.{not-true}
use mathlib.Core.List.Memᴰ
use mathlib.Core.List.{Memᴰ}

-- the line with that many before it is spent
abbrev pub Spent : ℕ → List Noted → Type 0
Spent i [] = ⊥
Spent zero (l ∷ ls) = l.spent ≡ true
Spent (suc i) (l ∷ ls) = Spent i ls

pub spend-keeps : (lag : ℕ) (a : Act) (i : ℕ) (ls : List Noted) → Spent i ls → Spent i (spend lag a ls)
spend-keeps lag a i [] h = h
spend-keeps lag a zero (l ∷ ls) h = go (fits lag a l)
  where
    go : (b : Bool) → Spent 0 (cond b (spent_line l ∷ ls) (l ∷ spend lag a ls))
    go true = refl
    go false = h
spend-keeps lag a (suc i) (l ∷ ls) h = go (fits lag a l) (spend-keeps lag a i ls h)
  where
    go : (b : Bool) → Spent i (spend lag a ls) → Spent (suc i) (cond b (spent_line l ∷ ls) (l ∷ spend lag a ls))
    go true r = h
    go false r = r

pub append-keeps : (i : ℕ) (ls ms : List Noted) → Spent i ls → Spent i (ls ++ ms)
append-keeps i [] ms h = absurd h
append-keeps zero (l ∷ ls) ms h = h
append-keeps (suc i) (l ∷ ls) ms h = append-keeps i ls ms h

pub append-back : (i : ℕ) (ls : List Noted) (m : Noted) → m.spent ≡ false → Spent i (ls ++ (m ∷ [])) → Spent i ls
append-back zero [] m e h = clash h e
append-back (suc i) [] m e h = h
append-back zero (l ∷ ls) m e h = h
append-back (suc i) (l ∷ ls) m e h = append-back i ls m e h

-- the one that is found is spent
pub spends-it : (lag : ℕ) (a : Act) (k : ℕ) (ls : List Noted) (f : Found) → oldest lag a k ls ≡ Some f → (i : ℕ) × (f.index ≡ k + i) × Spent i (spend lag a ls)
spends-it lag a k [] f e = absurd (let z : ◌≡◌ {A = ℕ} 0 1 = cc in omega arith)
spends-it lag a k (l ∷ ls) f e = go (fits lag a l) e (spends-it lag a (k + 1) ls f)
  where
    go : (b : Bool) → cond b (Some (record { index = k; at = l.at })) (oldest lag a (k + 1) ls) ≡ Some f
        → (oldest lag a (k + 1) ls ≡ Some f → (i : ℕ) × (f.index ≡ (k + 1) + i) × Spent i (spend lag a ls))
        → (i : ℕ) × (f.index ≡ k + i) × Spent i (cond b (spent_line l ∷ ls) (l ∷ spend lag a ls))
    go true i rest = let q : ◌≡◌ {A = Found} (record { index = k; at = l.at }) f = cc in let p : k ≡ f.index = ap (λ (z : Found). z.index) q in (0, omega arith, refl)
    go false i rest = let r = rest i in let p = r.1 in (suc r.0, omega arith, r.2)

-- one that is spent is not found
pub not-again : (lag : ℕ) (a : Act) (k i : ℕ) (ls : List Noted) (f : Found) → Spent i ls → oldest lag a k ls ≡ Some f → f.index ≡ k + i → ⊥
not-again lag a k i [] f h e p = h
not-again lag a k zero (l ∷ ls) f h e p = go (fits lag a l) refl e
  where
    low : (lag : ℕ) (a : Act) (k : ℕ) (ls : List Noted) (f : Found) → oldest lag a k ls ≡ Some f → k ≤ f.index
    low lag a k ls f e = let r = spends-it lag a k ls f e in let p = r.1 in omega arith

    go : (b : Bool) → fits lag a l ≡ b → cond b (Some (record { index = k; at = l.at })) (oldest lag a (k + 1) ls) ≡ Some f → ⊥
    go true i j = let q = and_both (not l.spent) _ i in clash h (not-true _ q.0)
    go false i j = let q = low lag a (k + 1) ls f j in omega arith
not-again lag a k (suc i) (l ∷ ls) f h e p = go (fits lag a l) e (λ j q. not-again lag a (k + 1) i ls f h j q)
  where
    go : (b : Bool) → cond b (Some (record { index = k; at = l.at })) (oldest lag a (k + 1) ls) ≡ Some f → (oldest lag a (k + 1) ls ≡ Some f → f.index ≡ (k + 1) + i → ⊥) → ⊥
    go true j rest = let q : ◌≡◌ {A = Found} (record { index = k; at = l.at }) f = cc in let r : k ≡ f.index = ap (λ (z : Found). z.index) q in omega arith
    go false j rest = rest j (omega arith)

-- whatever is spent was so before, or is the one that is found
pub was-spent : (lag : ℕ) (a : Act) (k i : ℕ) (ls : List Noted) → Spent i (spend lag a ls) → Spent i ls ⊎ ((f : Found) × (oldest lag a k ls ≡ Some f) × (f.index ≡ k + i))
was-spent lag a k i [] h = absurd h
was-spent lag a k zero (l ∷ ls) h = go (fits lag a l) h
  where
    go : (b : Bool) → Spent 0 (cond b (spent_line l ∷ ls) (l ∷ spend lag a ls)) → (l.spent ≡ true) ⊎ ((f : Found) × (cond b (Some (record { index = k; at = l.at })) (oldest lag a (k + 1) ls) ≡ Some f) × (f.index ≡ k + 0))
    go true j = inr (record { index = k; at = l.at }, refl, (let p : k ≡ k + 0 = omega arith in p))
    go false j = inl j
was-spent lag a k (suc i) (l ∷ ls) h = go (fits lag a l) h (was-spent lag a (k + 1) i ls)
  where
    turn : Spent i ls ⊎ ((f : Found) × (oldest lag a (k + 1) ls ≡ Some f) × (f.index ≡ (k + 1) + i)) → Spent i ls ⊎ ((f : Found) × (oldest lag a (k + 1) ls ≡ Some f) × (f.index ≡ k + suc i))
    turn (inl j) = inl j
    turn (inr r) = let p = r.2 in inr (r.0, r.1, (let q : r.0.index ≡ k + suc i = omega arith in q))

    go : (b : Bool) → Spent (suc i) (cond b (spent_line l ∷ ls) (l ∷ spend lag a ls))
        → (Spent i (spend lag a ls) → Spent i ls ⊎ ((f : Found) × (oldest lag a (k + 1) ls ≡ Some f) × (f.index ≡ (k + 1) + i)))
        → Spent i ls ⊎ ((f : Found) × (cond b (Some (record { index = k; at = l.at })) (oldest lag a (k + 1) ls) ≡ Some f) × (f.index ≡ k + suc i))
    go true j rest = inl j
    go false j rest = turn (rest j)

-- a verdict that names a line has found it
pub found-by : (w : View) (a : Act) (k t : ℕ) → verdict w a ≡ Asked k t → (f : Found) × (oldest w.lag a 0 w.lines ≡ Some f) × (k ≡ f.index + 1) × (f.at ≡ t)
found-by w a k t e = go (oldest w.lag a 0 w.lines) refl (robbed w a.reader) (robbed w a.service) (robbed w 0) e
  where
    go : (o : Option Found) → oldest w.lag a 0 w.lines ≡ o → (x y z : Bool) → said o (unasked x y z) ≡ Asked k t → (f : Found) × (oldest w.lag a 0 w.lines ≡ Some f) × (k ≡ f.index + 1) × (f.at ≡ t)
    go (Some f) i x y z j = (f, i, (let p : f.index + 1 ≡ k = cc in sym p), (let p : f.at ≡ t = cc in p))
    go None i true y z j = absurd (let z : ◌≡◌ {A = ℕ} 0 1 = cc in omega arith)
    go None i false true z j = absurd (let z : ◌≡◌ {A = ℕ} 0 1 = cc in omega arith)
    go None i false false true j = absurd (let z : ◌≡◌ {A = ℕ} 0 1 = cc in omega arith)
    go None i false false false j = absurd (let z : ◌≡◌ {A = ℕ} 0 1 = cc in omega arith)

pub names-found : (w : View) (a : Act) (f : Found) → oldest w.lag a 0 w.lines ≡ Some f → verdict w a ≡ Asked (f.index + 1) f.at
names-found w a f e = ap (λ (o : Option Found). said o (unasked (robbed w a.reader) (robbed w a.service) (robbed w 0))) e

module _ (v : View) where
  -- a line that a verdict names is spent
  pub named-spent : (xs : List Hearing) (k t : ℕ) → Memᴰ (Asked k t) (verdicts v xs) → (i : ℕ) × (k ≡ i + 1) × Spent i (sat v xs).lines
  named-spent [] k t h = absurd (Memᴰ.not-nil h)
  named-spent (nothing ∷ xs) k t h = named-spent xs k t h
  named-spent (line w ∷ xs) k t h = let r = named-spent xs k t h in (r.0, r.1, append-keeps r.0 (sat v xs).lines _ r.2)
  named-spent (deed d ∷ xs) k t h = go (Memᴰ.cases_cons h) (named-spent xs k t)
    where
      go : (Asked k t ≡ verdict (sat v xs) (claim d)) ⊎ Memᴰ (Asked k t) (verdicts v xs) → (Memᴰ (Asked k t) (verdicts v xs) → (i : ℕ) × (k ≡ i + 1) × Spent i (sat v xs).lines)
          → (i : ℕ) × (k ≡ i + 1) × Spent i (sat v (deed d ∷ xs)).lines
      go (inl e) rest =
          let f = found-by (sat v xs) (claim d) k t (sym e) in
          let r = spends-it (sat v xs).lag (claim d) 0 (sat v xs).lines f.0 f.1 in
          let p = r.1 in
          let q = f.2 in
          (r.0, omega arith, r.2)
      go (inr i) rest = let r = rest i in (r.0, r.1, spend-keeps (sat v xs).lag (claim d) r.0 (sat v xs).lines r.2)
  named-spent (theft m ∷ xs) k t h = named-spent xs k t h
  named-spent (joins p ∷ xs) k t h = named-spent xs k t h

  -- and a line that is spent was named, if none was at the start
  pub spent-named : v.lines ≡ [] → (xs : List Hearing) (i : ℕ) → Spent i (sat v xs).lines → Names (i + 1) (verdicts v xs)
  spent-named z [] i h = absurd (subst (λ (ls : List Noted). Spent i ls) z h)
  spent-named z (nothing ∷ xs) i h = spent-named z xs i h
  spent-named z (line w ∷ xs) i h = spent-named z xs i (append-back i (sat v xs).lines _ refl h)
  spent-named z (deed d ∷ xs) i h = go (was-spent (sat v xs).lag (claim d) 0 i (sat v xs).lines h) (spent-named z xs i)
    where
      go : Spent i (sat v xs).lines ⊎ ((f : Found) × (oldest (sat v xs).lag (claim d) 0 (sat v xs).lines ≡ Some f) × (f.index ≡ 0 + i)) → (Spent i (sat v xs).lines → Names (i + 1) (verdicts v xs)) → Names (i + 1) (verdicts v (deed d ∷ xs))
      go (inl j) rest = let r = rest j in (r.0, Memᴰ.tail r.1)
      go (inr f) rest =
          let p = f.2 in
          let q : f.0.index + 1 ≡ i + 1 = omega arith in
          (f.0.at, Memᴰ.head (ap (λ (k : ℕ). Asked k f.0.at) (sym q) ∙ sym (names-found (sat v xs) (claim d) f.0 f.1)))
  spent-named z (theft m ∷ xs) i h = spent-named z xs i h
  spent-named z (joins p ∷ xs) i h = spent-named z xs i h

-- no two verdicts name one line
pub lines-once : LinesOnce
lines-once v [] = tt
lines-once v (nothing ∷ xs) = lines-once v xs
lines-once v (line w ∷ xs) = lines-once v xs
lines-once v (deed d ∷ xs) = (λ k t e h. twice k t e h, lines-once v xs)
  where
    twice : (k t : ℕ) → verdict (sat v xs) (claim d) ≡ Asked k t → Names k (verdicts v xs) → ⊥
    twice k t e h =
        let s = named-spent v xs k h.0 h.1 in
        let f = found-by (sat v xs) (claim d) k t e in
        let p = s.1 in
        let q = f.2 in
        not-again (sat v xs).lag (claim d) 0 s.0 (sat v xs).lines f.0 s.2 f.1 (omega arith)
lines-once v (theft m ∷ xs) = lines-once v xs
lines-once v (joins p ∷ xs) = lines-once v xs
