-- Entries among others. Assumes nothing.
use Rattle.std.proofs.Common.{◌≡◌, ℕ, ◌-◌, ◌≤◌, Bool, true, false, cond, ◌||◌, eqb, leb, List, [], ◌∷◌, ◌++◌, refl, ap, ◌∙◌, inl, inr, arith}
use Rattle.falls.specs.Falls.{In}
use Rattle.parts.specs.Tick.{lately, live}
use Rattle.parts.specs.declared.account.Entry.{Entry}
use Rattle.service_rules.specs.Memory.{live_of, recorded, stands}
use Rattle.std.proofs.lemmas.Bool.{and_parts, eq-eqb, le-leb, leb-true}

pub in_left : (e : Entry) (xs ys : List Entry) → In e xs → In e (xs ++ ys)
in_left e [] ys p = elim p [ ]
in_left e (x ∷ xs) ys (inl p) = inl p
in_left e (x ∷ xs) ys (inr p) = inr (in_left e xs ys p)

pub in-last : (e : Entry) (xs : List Entry) → In e (xs ++ e ∷ [])
in-last e [] = inl refl
in-last e (x ∷ xs) = inr (in-last e xs)

pub in-live : (e : Entry) (t lag : ℕ) (xs : List Entry) → In e xs → live t lag e.tick ≡ true → In e (live_of t lag xs)
in-live e t lag [] p l = elim p [ ]
in-live e t lag (x ∷ xs) (inl p) l = here (live t lag x.tick) (ap (λ (y : Entry). live t lag y.tick) p ∙ l)
  where
    here : (b : Bool) → b ≡ true → In e (cond b (x ∷ live_of t lag xs) (live_of t lag xs))
    here true q = inl p
    here false q = let z : ◌≡◌ {A = ℕ} 0 1 = cc in absurd (omega arith)
in-live e t lag (x ∷ xs) (inr p) l = later (in-live e t lag xs p l) (live t lag x.tick)
  where
    later : In e (live_of t lag xs) → (b : Bool) → In e (cond b (x ∷ live_of t lag xs) (live_of t lag xs))
    later k true = inr k
    later k false = k

pub in-recorded : (e : Entry) (t lag d : ℕ) (xs : List Entry) → In e xs → live t lag e.tick ≡ true → In e (recorded t lag d xs)
in-recorded e t lag d xs i l = in_left e (live_of t lag xs) _ (in-live e t lag xs i l)

or_right : (b : Bool) → (b || true) ≡ true
or_right true = refl
or_right false = refl

pub in-stands : (e : Entry) (xs : List Entry) → In e xs → stands e.digest xs ≡ true
in-stands e [] p = elim p [ ]
in-stands e (x ∷ xs) (inl p) = ap (λ (b : Bool). b || stands e.digest xs) (eq-eqb x.digest e.digest (ap (λ (y : Entry). y.digest) p))
in-stands e (x ∷ xs) (inr p) = ap (λ (b : Bool). eqb x.digest e.digest || b) (in-stands e xs p) ∙ or_right (eqb x.digest e.digest)

-- what is live later is live now
pub live-before : (n m lag a : ℕ) → n ≤ m → live m lag a ≡ true → live n lag a ≡ true
live-before n m lag a h l = let k = leb-true (m - a) lag l in le-leb (n - a) lag (omega arith)

pub live-le : (n lag a : ℕ) → live n lag a ≡ true → n - a ≤ lag
live-le n lag a l = leb-true (n - a) lag l

-- an asking of no later than the doing is of lately only while the doing is live
pub live-from-lately : (n lag a t : ℕ) → a ≤ t → lately n lag a ≡ true → live n lag t ≡ true
live-from-lately n lag a t h l =
    let k = leb-true (n - a) lag (and_parts (leb a n) (leb (n - a) lag) l).1 in
    le-leb (n - t) lag (omega arith)
