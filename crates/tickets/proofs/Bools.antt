-- Tests that are true or false, and whether a number stands in a list. Assumes nothing.
use mathlib.Core.Path.{◌≡◌, refl}
use mathlib.Core.Bool.{Bool, true, false, ◌||◌}
use mathlib.Core.Logic.{◌⊎◌, inl, inr}
use mathlib.Core.List.{List, [], ◌∷◌}
use Prim.Native.Nat.{ℕ, ◌*◌}
use native.Mathlib.Omega.{arith}
use lib.Dec.{eqb}
use borrow.Author.Tests.{eq-eqb}
use Rattle.tickets.specs.Term.{even}
use Rattle.tickets.specs.State.{Rules, Safe, is_in, any_in, relies}

-- nothing is both true and false
pub clash : {b : Bool} → b ≡ true → b ≡ false → ⊥
clash {b} p q = let z : ◌≡◌ {A = ℕ} 0 1 = cc in omega arith

pub or_left : (a e : Bool) → a ≡ true → (a || e) ≡ true
or_left true e p = refl
or_left false e p = absurd (clash {b = false} p refl)

pub or_right : (a e : Bool) → e ≡ true → (a || e) ≡ true
or_right true e p = refl
or_right false e p = p

pub or_cases : (a e : Bool) → (a || e) ≡ true → (a ≡ true) ⊎ (e ≡ true)
or_cases true e p = inl refl
or_cases false e p = inr p

pub or-false-left : (a e : Bool) → (a || e) ≡ false → a ≡ false
or-false-left true e p = p
or-false-left false e p = refl

pub or-false-right : (a e : Bool) → (a || e) ≡ false → e ≡ false
or-false-right true e p = absurd (clash {b = true} refl p)
or-false-right false e p = p

-- a test is true or false
pub either : (b : Bool) → (b ≡ true) ⊎ (b ≡ false)
either true = inl refl
either false = inr refl

-- everything of one list stands in the other
abbrev pub Sub : List ℕ → List ℕ → Type 0
Sub xs ys = (a : ℕ) → is_in a xs ≡ true → is_in a ys ≡ true

pub is_in-here : (a : ℕ) (xs : List ℕ) → is_in a (a ∷ xs) ≡ true
unfolding is_in
is_in-here a xs = or_left (eqb a a) (is_in a xs) (eq-eqb a a refl)

pub is_in-more : (x a : ℕ) (xs : List ℕ) → is_in a xs ≡ true → is_in a (x ∷ xs) ≡ true
unfolding is_in
is_in-more x a xs h = or_right (eqb x a) (is_in a xs) h

pub sub_refl : (xs : List ℕ) → Sub xs xs
sub_refl xs a h = h

pub sub_more : (x : ℕ) (xs : List ℕ) → Sub xs (x ∷ xs)
sub_more x xs a h = is_in-more x a xs h

pub false-back : (xs ys : List ℕ) (a : ℕ) → Sub xs ys → is_in a ys ≡ false → is_in a xs ≡ false
false-back xs ys a sub h = go (either (is_in a xs))
  where
    go : (is_in a xs ≡ true) ⊎ (is_in a xs ≡ false) → is_in a xs ≡ false
    go (inl e) = absurd (clash (sub a e) h)
    go (inr e) = e

pub any_in-sub : (ns xs ys : List ℕ) → Sub xs ys → any_in ns xs ≡ true → any_in ns ys ≡ true
any_in-sub [] xs ys sub h = h
any_in-sub (n ∷ ns) xs ys sub h = go (any_in-sub ns xs ys sub) (or_cases (is_in n xs) (any_in ns xs) h)
  where
    go : (any_in ns xs ≡ true → any_in ns ys ≡ true) → (is_in n xs ≡ true) ⊎ (any_in ns xs ≡ true) → any_in (n ∷ ns) ys ≡ true
    go rest (inl e) = or_left (is_in n ys) (any_in ns ys) (sub n e)
    go rest (inr e) = or_right (is_in n ys) (any_in ns ys) (rest e)

-- one of the keys on which a deed for this reader and service relies is stolen
abbrev pub Unsafe : Rules → List ℕ → (who service : ℕ) → Type 0
Unsafe r st a v = any_in (relies r a v) st ≡ true

pub safe-back : (r : Rules) (xs ys : List ℕ) (a v : ℕ) → Sub xs ys → Safe r ys a v → Safe r xs a v
safe-back r xs ys a v sub h = go (either (any_in (relies r a v) xs))
  where
    go : (Unsafe r xs a v) ⊎ (Safe r xs a v) → Safe r xs a v
    go (inl e) = absurd (clash (any_in-sub (relies r a v) xs ys sub e) h)
    go (inr e) = e

module _ (r : Rules) (st : List ℕ) (a v : ℕ) where
  pub unsafe-reader : is_in a st ≡ true → Unsafe r st a v
  unsafe-reader h = or_left (is_in a st) (any_in (r.key_of v ∷ r.key_of r.house ∷ []) st) h

  pub unsafe-service : is_in (r.key_of v) st ≡ true → Unsafe r st a v
  unsafe-service h =
      or_right (is_in a st) (any_in (r.key_of v ∷ r.key_of r.house ∷ []) st)
      (or_left (is_in (r.key_of v) st) (any_in (r.key_of r.house ∷ []) st) h)

  pub unsafe-house : is_in (r.key_of r.house) st ≡ true → Unsafe r st a v
  unsafe-house h =
      or_right (is_in a st) (any_in (r.key_of v ∷ r.key_of r.house ∷ []) st)
      (or_right (is_in (r.key_of v) st) (any_in (r.key_of r.house ∷ []) st) (or_left (is_in (r.key_of r.house) st) false h))

  pub safe-reader : Safe r st a v → is_in a st ≡ false
  safe-reader h = or-false-left (is_in a st) (any_in (r.key_of v ∷ r.key_of r.house ∷ []) st) h

  pub safe-service : Safe r st a v → is_in (r.key_of v) st ≡ false
  safe-service h =
      or-false-left (is_in (r.key_of v) st) (any_in (r.key_of r.house ∷ []) st)
      (or-false-right (is_in a st) (any_in (r.key_of v ∷ r.key_of r.house ∷ []) st) h)

  pub safe-house : Safe r st a v → is_in (r.key_of r.house) st ≡ false
  safe-house h =
      or-false-left (is_in (r.key_of r.house) st) false
      (or-false-right (is_in (r.key_of v) st) (any_in (r.key_of r.house ∷ []) st)
      (or-false-right (is_in a st) (any_in (r.key_of v ∷ r.key_of r.house ∷ []) st) h))

-- what holds of a reader and any service holds of the reader and the house
pub safe-narrower : (r : Rules) (st : List ℕ) (a v : ℕ) → Safe r st a v → Safe r st a r.house
safe-narrower r st a v h =
    simp (safe-reader r st a v h, safe-house r st a v h) refl

-- a deed for a reader and the house relies on less
pub unsafe-wider : (r : Rules) (st : List ℕ) (a v : ℕ) → Unsafe r st a r.house → Unsafe r st a v
unsafe-wider r st a v h = go (either (any_in (relies r a v) st))
  where
    go : (Unsafe r st a v) ⊎ (Safe r st a v) → Unsafe r st a v
    go (inl e) = e
    go (inr e) = absurd (clash h (safe-narrower r st a v e))

-- two honest draws are equal only if their numbers are
pub even-injective : (m n : ℕ) → even m ≡ even n → m ≡ n
even-injective m n e = let d : m * 2 ≡ n * 2 = cc in omega arith
