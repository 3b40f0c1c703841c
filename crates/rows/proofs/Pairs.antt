-- Two lists beside one another: each of one belongs to one of the other. Assumes nothing.
use Rattle.std.proofs.Common.{◌≡◌, ℕ, ◌<◌, ◌≤◌, ◌⊎◌, List, [], ◌∷◌, sym, refl, subst, inl, inr, arith}
use mathlib.Core.List.Memᴰ
use mathlib.Core.List.{Memᴰ}

-- as long as one another, and each belongs to the one beside it
pub data Pairs {A B : Type 0} (R : A → B → Type 0) : List A → List B → Type 0 where
  none : Pairs R [] []
  both : {a : A} {b : B} {xs : List A} {bs : List B} → R a b → Pairs R xs bs → Pairs R (a ∷ xs) (b ∷ bs)

-- each of the first belongs to one of the second, in the same order
pub data Among {A B : Type 0} (R : A → B → Type 0) : List A → List B → Type 0 where
  none : Among R [] []
  skip : {b : B} {xs : List A} {bs : List B} → Among R xs bs → Among R xs (b ∷ bs)
  both : {a : A} {b : B} {xs : List A} {bs : List B} → R a b → Among R xs bs → Among R (a ∷ xs) (b ∷ bs)

-- this one stands beside that one
pub data At {A B : Type 0} : List A → List B → A → B → Type 0 where
  here : {a : A} {b : B} {xs : List A} {bs : List B} → At (a ∷ xs) (b ∷ bs) a b
  there : {a x : A} {b y : B} {xs : List A} {bs : List B} → At xs bs a b → At (x ∷ xs) (y ∷ bs) a b

pub among-map : {A B : Type 0} {R S : A → B → Type 0} {xs : List A} {bs : List B} → ((a : A) (b : B) → R a b → S a b) → Among R xs bs → Among S xs bs
among-map f none = none
among-map f (skip p) = skip (among-map f p)
among-map f (both {a} {b} r p) = both (f a b r) (among-map f p)

-- whoever stands in the second has one beside it
pub pairs-at : {A B : Type 0} {R : A → B → Type 0} {xs : List A} {bs : List B} → Pairs R xs bs → (b : B) → Memᴰ b bs → (a : A) × At xs bs a b × R a b
pairs-at none b h = absurd (Memᴰ.not-nil h)
pairs-at {A} {B} {R} (both {a} {b = y} {xs} {bs} r p) b h = go (pairs-at p b) (Memᴰ.cases_cons h)
  where
    go : (Memᴰ b bs → (a : A) × At xs bs a b × R a b) → (b ≡ y) ⊎ Memᴰ b bs → (x : A) × At (a ∷ xs) (y ∷ bs) x b × R x b
    go rest (inl e) = (a, subst (λ (z : B). At (a ∷ xs) (y ∷ bs) a z) (sym e) here, subst (λ (z : B). R a z) (sym e) r)
    go rest (inr k) = let q = rest k in (q.0, there q.1, q.2)

-- and the other way
pub pairs_of : {A B : Type 0} {R : A → B → Type 0} {xs : List A} {bs : List B} → Pairs R xs bs → (a : A) → Memᴰ a xs → (b : B) × Memᴰ b bs × R a b
pairs_of none a h = absurd (Memᴰ.not-nil h)
pairs_of {A} {B} {R} (both {a = x} {b} {xs} {bs} r p) a h = go (pairs_of p a) (Memᴰ.cases_cons h)
  where
    go : (Memᴰ a xs → (b : B) × Memᴰ b bs × R a b) → (a ≡ x) ⊎ Memᴰ a xs → (y : B) × Memᴰ y (b ∷ bs) × R a y
    go rest (inl e) = (b, Memᴰ.head refl, subst (λ (z : A). R z b) (sym e) r)
    go rest (inr k) = let q = rest k in (q.0, Memᴰ.tail q.1, q.2)

pub among_of : {A B : Type 0} {R : A → B → Type 0} {xs : List A} {bs : List B} → Among R xs bs → (a : A) → Memᴰ a xs → (b : B) × Memᴰ b bs × R a b
among_of none a h = absurd (Memᴰ.not-nil h)
among_of (skip p) a h = let q = among_of p a h in (q.0, Memᴰ.tail q.1, q.2)
among_of {A} {B} {R} (both {a = x} {b} {xs} {bs} r p) a h = go (among_of p a) (Memᴰ.cases_cons h)
  where
    go : (Memᴰ a xs → (b : B) × Memᴰ b bs × R a b) → (a ≡ x) ⊎ Memᴰ a xs → (y : B) × Memᴰ y (b ∷ bs) × R a y
    go rest (inl e) = (b, Memᴰ.head refl, subst (λ (z : A). R z b) (sym e) r)
    go rest (inr k) = let q = rest k in (q.0, Memᴰ.tail q.1, q.2)

pub at_first : {A B : Type 0} {xs : List A} {bs : List B} {a : A} {b : B} → At xs bs a b → Memᴰ a xs
at_first here = Memᴰ.head refl
at_first (there p) = Memᴰ.tail (at_first p)

-- numbers that fall from a bound
abbrev pub Down : {A : Type 0} → (A → ℕ) → ℕ → List A → Type 0
Down f n [] = Unit {0}
Down f n (a ∷ xs) = (f a < n) × Down f (f a) xs

pub down-more : {A : Type 0} (f : A → ℕ) (m n : ℕ) (xs : List A) → m ≤ n → Down f m xs → Down f n xs
down-more f m n [] h d = tt
down-more f m n (a ∷ xs) h d = (let p = d.0 in omega arith, d.1)

pub down-low : {A B : Type 0} (f : A → ℕ) (n : ℕ) {xs : List A} {bs : List B} {a : A} {b : B} → At xs bs a b → Down f n xs → f a < n
down-low f n here d = d.0
down-low f n (there {x = x} p) d = let q = down-low f (f x) p d.1 in let r = d.0 in omega arith

-- where the numbers of the first fall, the number tells which of the second it is
pub at_one : {A B : Type 0} (f : A → ℕ) (n : ℕ) {xs : List A} {bs : List B} {a c : A} {b d : B} → At xs bs a b → At xs bs c d → Down f n xs → f a ≡ f c → b ≡ d
at_one f n here here h e = refl
at_one f n (here {a = a}) (there p) h e = absurd (let q = down-low f (f a) p h.1 in omega arith)
at_one f n (there p) (here {a = a}) h e = absurd (let q = down-low f (f a) p h.1 in omega arith)
at_one f n (there {x = x} p) (there q) h e = at_one f (f x) p q h.1 e

-- those that stand beside one another belong together
pub at_pair : {A B : Type 0} {R : A → B → Type 0} {xs : List A} {bs : List B} {a : A} {b : B} → Pairs R xs bs → At xs bs a b → R a b
at_pair Pairs.none q = elim q [ ]
at_pair (Pairs.both r p) here = r
at_pair (Pairs.both r p) (there q) = at_pair p q
