-- A list that has grown by at most one, and what stays unique in it. Assumes nothing.
use mathlib.Core.Path.{◌≡◌, sym, subst, ◌∙◌}
use mathlib.Core.Logic.{◌⊎◌, inl, inr}
use mathlib.Core.List.Memᴰ
use mathlib.Core.List.{List, ◌∷◌, Memᴰ}
use Prim.Native.Nat.{ℕ, ◌<◌}
use native.Mathlib.Omega.{arith}

-- the list stays, or has one more, of which P holds
pub data Grown {A : Type 0} (P : A → Type 0) (xs : List A) : List A → Type 0 where
  same : Grown P xs xs
  more : (x : A) → P x → Grown P xs (x ∷ xs)

-- what is in the grown list was there, or is the new one
pub grown-cases : {A : Type 0} {P : A → Type 0} {xs ys : List A} → Grown P xs ys → (y : A) → Memᴰ y ys → Memᴰ y xs ⊎ P y
grown-cases same y h = inl h
grown-cases {A} {P} {xs} (more x p) y h = go (Memᴰ.cases_cons h)
  where
    go : (y ≡ x) ⊎ Memᴰ y xs → Memᴰ y xs ⊎ P y
    go (inl e) = inr (subst P (sym e) p)
    go (inr k) = inl k

-- two of a grown list: both were there, one is new, or they are the same new one
pub data Two {A : Type 0} (P : A → Type 0) (xs : List A) (a e : A) : Type 0 where
  both-old : Memᴰ a xs → Memᴰ e xs → Two P xs a e
  first_new : P a → Memᴰ e xs → Two P xs a e
  second_new : Memᴰ a xs → P e → Two P xs a e
  one-new : P a → P e → a ≡ e → Two P xs a e

pub grown-two : {A : Type 0} {P : A → Type 0} {xs ys : List A} → Grown P xs ys → (a e : A) → Memᴰ a ys → Memᴰ e ys → Two P xs a e
grown-two same a e h k = both-old h k
grown-two {A} {P} {xs} (more x p) a e h k = go (Memᴰ.cases_cons h) (Memᴰ.cases_cons k)
  where
    go : (a ≡ x) ⊎ Memᴰ a xs → (e ≡ x) ⊎ Memᴰ e xs → Two P xs a e
    go (inl i) (inl j) = one-new (subst P (sym i) p) (subst P (sym j) p) (i ∙ sym j)
    go (inl i) (inr j) = first_new (subst P (sym i) p) j
    go (inr i) (inl j) = second_new i (subst P (sym j) p)
    go (inr i) (inr j) = both-old i j

-- what was there is there
pub grown-old : {A : Type 0} {P : A → Type 0} {xs ys : List A} → Grown P xs ys → (y : A) → Memᴰ y xs → Memᴰ y ys
grown-old same y h = h
grown-old (more x p) y h = Memᴰ.tail h

-- numbers below n that tell the old ones apart, and n for the new one, tell all apart
pub unique-grown : {A : Type 0} {P : A → Type 0} {xs ys : List A} (f : A → ℕ) (n : ℕ)
    → ((a : A) → Memᴰ a xs → f a < n) → ((a : A) → P a → f a ≡ n) → Grown P xs ys
    → ((a e : A) → Memᴰ a xs → Memᴰ e xs → f a ≡ f e → a ≡ e)
    → (a e : A) → Memᴰ a ys → Memᴰ e ys → f a ≡ f e → a ≡ e
unique-grown {A} {P} {xs} f n low new g u a e h k same-f = go (grown-two g a e h k)
  where
    go : Two P xs a e → a ≡ e
    go (both-old i j) = u a e i j same-f
    go (first_new p j) = absurd (let x = new a p in let y = low e j in omega arith)
    go (second_new i p) = absurd (let x = new e p in let y = low a i in omega arith)
    go (one-new p q i) = i
