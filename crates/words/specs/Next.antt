-- What is left after the first word of a text. Assumes nothing.
--   Found read s x rest   s begins with a word that reads as x, and goes on after a space with rest
--   Missed read s         there is no such word
use Rattle.std.specs.Prelude.{◌≡◌, List, ℕ, ◌⊎◌, Some, None, Option}
use Rattle.std.specs.Borrow.{Bor}
use Rattle.std.specs.Fn.{Once, FnOnceReturnsAt}
use Rattle.words.specs.Text.{cut_at}

module _ {F T : Type 0} (call : Once F (Bor (List ℕ) × Unit {0}) (Option T)) (read : F) (s : List ℕ) where
  -- the word before the first space reads as x
  abbrev pub Found : T → List ℕ → Type 0
  Found x rest = (word : List ℕ) × (cut_at 32 s ≡ Some (word, rest)) × FnOnceReturnsAt call read word (Some x)

  -- there is no space, or the word before the first one is not read
  abbrev pub Missed : Type 0
  Missed = (cut_at 32 s ≡ None) ⊎ ((p : List ℕ × List ℕ) × (cut_at 32 s ≡ Some p) × FnOnceReturnsAt call read p.0 None)
