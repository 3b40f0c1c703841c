-- All that is assumed of locks, as bytes: no other assumption enters the promise of the whole. Assumes nothing.
use Rattle.std.specs.Prelude.{◌≡◌, Bool, true, ◌&&◌, ◌⊎◌, ℕ, eqb, ltb, leb, length}
use mathlib.Core.List.{List, [], ◌∷◌, Memᴰ}
use Rattle.tickets.specs.Term.{Term, Lock, Gets}

abbrev pub Bytes : Type 0
Bytes = List ℕ

-- what opening gives: nothing, or the inside
pub data Opened : Type 0 where
  Closed : Opened
  Inside : Bytes → Opened

unfoldable pub are_bytes : Bytes → Bool
are_bytes [] = true
are_bytes (b ∷ bs) = ltb b 256 && are_bytes bs

-- a lock that was made: its kind, key, drawn bytes and inside
pub record Made : Type 0 where
  pub kind : ℕ
  pub key : Bytes
  pub drawn : Bytes
  pub inside : Bytes

-- what can be locked: a kind of 1 to 5, a key of 32 bytes, 16 drawn ones
abbrev pub fit : Made → Bool
fit m = ltb 0 m.kind && (leb m.kind 5 && (eqb (length m.key) 32 && (eqb (length m.drawn) 16 && (are_bytes m.key && (are_bytes m.drawn && are_bytes m.inside)))))

-- the code's two functions, by kind, key, drawn bytes and inside or word; and which terms rows of bytes stand for, to whoever has air, all that was sent; locks that were made in this run, and its keys
pub record Premise (lock : ℕ → Bytes → Bytes → Bytes → Bytes) (opens : ℕ → Bytes → Bytes → Opened) (term_of : Bytes → Term) (air : List Term) (made : List Made) (keys : List Bytes) : Type 0 where
  -- this is to be shown of the code: what was locked opens, with this key and kind
  pub fits : (m : Made) → fit m ≡ true → opens m.kind m.key (lock m.kind m.key m.drawn m.inside) ≡ Inside m.inside
  -- the bytes of a lock that was made stand for that lock
  pub stands : (m : Made) → Memᴰ m made → term_of (lock m.kind m.key m.drawn m.inside) ≡ Lock m.kind (term_of m.key) (term_of m.inside)
  -- and this is the premise: of the words that outsiders can bring, as far as they can be worked out from all that was sent, one that opens with a key of this run that can't was locked with it, of this kind
  pub premise : (kind : ℕ) (key word inside : Bytes) → Memᴰ key keys → Gets air (term_of word) → opens kind key word ≡ Inside inside → (Gets air (term_of key)) ⊎ (term_of word ≡ Lock kind (term_of key) (term_of inside))
