-- Words as terms, and all that can be worked out from words.
-- Num: a number that everybody can write. Drawn: a number that somebody drew. Own: the own key with this name.
-- Lock k key t: t locked with a key, as kind k. Assumes nothing.
use mathlib.Core.List.{List, Memᴰ}
use Rattle.std.specs.Prelude.{ℕ, ◌+◌, ◌*◌}

-- what stands for a word, or a part of one
pub data Term : Type 0 where
  Num : ℕ → Term
  Drawn : ℕ → Term
  Own : ℕ → Term
  Pair : Term → Term → Term
  Lock : (kind : ℕ) → (key content : Term) → Term

-- whoever has these terms can have this one; odd drawn numbers are the outsiders' own
pub data Gets (have : List Term) : Term → Type 0 where
  has : {t : Term} → Memᴰ t have → Gets have t
  num : (n : ℕ) → Gets have (Num n)
  odd : (n : ℕ) → Gets have (Drawn (n * 2 + 1))
  pair : {a e : Term} → Gets have a → Gets have e → Gets have (Pair a e)
  left : {a e : Term} → Gets have (Pair a e) → Gets have a
  right : {a e : Term} → Gets have (Pair a e) → Gets have e
  lock : {k t : Term} (n : ℕ) → Gets have k → Gets have t → Gets have (Lock n k t)
  open' : {k t : Term} (n : ℕ) → Gets have (Lock n k t) → Gets have k → Gets have t

-- a number that one of the honest drew
abbrev pub even : ℕ → Term
even n = Drawn (n * 2)
