-- Two arguments of a line. Assumes nothing.
--   AreBoth first second s x y   s is a word that reads as x, a space, and what reads as y
--   NotBoth first second s       one of the two is not read, or there is no space
use Rattle.std.specs.Prelude.{List, ℕ, ◌⊎◌, Some, None, Option}
use Rattle.std.specs.Borrow.{Bor}
use Rattle.std.specs.Fn.{Once, FnOnceReturnsAt}
use Rattle.words.specs.Next.{Missed, Found}

module _ {F G A B : Type 0} (call : Once F (Bor (List ℕ) × Unit {0}) (Option A)) (other : Once G (Bor (List ℕ) × Unit {0}) (Option B)) (first : F) (second : G) (s : List ℕ) where
  -- the word reads as x, and what comes after its space as y
  abbrev pub AreBoth : A → B → Type 0
  AreBoth x y = (rest : List ℕ) × Found call first s x rest × FnOnceReturnsAt other second rest (Some y)

  -- there is no such word, or what comes after it is not read
  abbrev pub NotBoth : Type 0
  NotBoth = Missed call first s ⊎ ((x : A) × (rest : List ℕ) × Found call first s x rest × FnOnceReturnsAt other second rest None)
