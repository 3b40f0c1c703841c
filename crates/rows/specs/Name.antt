-- From keys, numbers and words in bytes to the model's terms. Assumes nothing.
--
-- spell bs            bytes that anybody can write
-- own_name own n bs   the name of the own key with these bytes: the first number from n on that has it
-- draw_name ds bs     the place of these bytes among the draws, the newest first, counted from the oldest
-- name_of own ds bs   what key or number these bytes are: an own key, a draw, or what anybody can write
-- Naming              a way to name keys and numbers by which different ones have different names
use Rattle.std.specs.Prelude.{◌≡◌, ℕ, suc, ◌<◌, cond, List, [], ◌∷◌, ◌++◌, length, replicate, Some, None, Option, slice_index_or}
use Rattle.std.specs.Str.{bytes_eq}
use Rattle.parts.specs.declared.word.Key.{Key}
use Rattle.tickets.specs.Term.{Term, Num, Own, Pair, even}

abbrev pub Bytes : Type 0
Bytes = List ℕ

unfoldable pub spell : Bytes → Term
spell [] = Num 0
spell (b ∷ bs) = Pair (Num b) (spell bs)

unfoldable pub own_name : List Key → ℕ → Bytes → Option ℕ
own_name [] n bs = None
own_name (k ∷ ks) n bs = cond (bytes_eq k.0 bs) (Some n) (own_name ks (suc n) bs)

unfoldable pub draw_name : List Bytes → Bytes → Option ℕ
draw_name [] bs = None
draw_name (d ∷ ds) bs = cond (bytes_eq d bs) (Some (suc (length ds))) (draw_name ds bs)

-- the one where there is one, else the other
abbrev pub named : {A : Type 0} → (ℕ → A) → Option ℕ → A → A
named f None x = x
named f (Some n) x = f n

abbrev pub name_of : List Key → List Bytes → Bytes → Term
name_of own ds bs = named Own (own_name own 0 bs) (named even (draw_name ds bs) (spell bs))

-- the own key of a number; zeros for a number that has none
abbrev pub own_of : List Key → ℕ → Key
own_of own n = slice_index_or own n (record { 0 = replicate 32 0 })

-- name: the term of a key or a number; key_of: the name of the own key of a number, one for all who have it by a slip
pub record Naming (own : List Key) : Type 0 where
  pub name : Bytes → Term
  pub key_of : ℕ → ℕ
  pub apart : (x y : Bytes) → name x ≡ name y → x ≡ y
  pub of_own : (n : ℕ) → n < length own → name (own_of own n).0 ≡ Own (key_of n)

-- the draws of a run, the newest first, are apart: none was drawn before, and none is an own key
unfoldable pub Apart : List Key → List Bytes → Type 0
Apart own [] = Unit {0}
Apart own (d ∷ ds) = (draw_name ds d ≡ None) × (own_name own 0 d ≡ None) × Apart own ds

-- Where the draws are apart, each is named by how many came before it, and one more.
abbrev pub DrawsNamed : Type 0
DrawsNamed = (own : List Key) (later earlier : List Bytes) (d : Bytes) → Apart own (later ++ (d ∷ earlier)) → name_of own (later ++ (d ∷ earlier)) d ≡ even (suc (length earlier))
