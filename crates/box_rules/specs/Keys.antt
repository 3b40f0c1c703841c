-- Which keys are tried on a letter and on a receipt, in which order. Assumes nothing.
--
-- from_end f k xs      the keys of those that pass a test, the oldest first
-- house_keys hs        the keys of the house tickets held, the oldest first
-- stray_keys hs xs     those of askings for the house whose ticket is held no more, the oldest first
-- letter_keys b        the own key, then those two
-- receipt_keys xs      the keys of the askings to services, the oldest first
use Rattle.box_rules.specs.Chest.{Boxed}
use Rattle.box_rules.specs.declared.line.Held.{Held}
use Rattle.box_rules.specs.declared.line.Pending.{Pending}
use Rattle.parts.specs.declared.word.Key.{Key}
use Rattle.std.specs.Str.{bytes_eq}
use Rattle.std.specs.List.{list_any}
use Rattle.std.specs.Prelude.{Bool, not, ◌&&◌, List, ◌∷◌, ◌++◌, map, filter, reverse, ◌==◌}

abbrev pub is_house : {T : Type 0} → Held T → Bool
is_house h = h.pass.service == 0

-- the keys of those that pass a test, the oldest first
abbrev pub from_end : {X : Type 0} → (X → Bool) → (X → Key) → List X → List Key
from_end f k xs = map k (filter f (reverse xs))

abbrev pub house_keys : {T : Type 0} → List (Held T) → List Key
house_keys hs = from_end is_house (λ h. h.pass.key) hs

-- a house ticket with this key is held
abbrev pub holds : {T : Type 0} → Key → List (Held T) → Bool
holds k hs = list_any (λ h. is_house h && bytes_eq h.pass.key.0 k.0) hs

abbrev pub is_stray : {T : Type 0} → List (Held T) → Pending → Bool
is_stray hs p = p.asks == 0 && not (holds p.key hs)

abbrev pub stray_keys : {T : Type 0} → List (Held T) → List Pending → List Key
stray_keys hs ps = from_end (is_stray hs) (λ p. p.key) ps

abbrev pub letter_keys : {T : Type 0} → Boxed T → List Key
letter_keys b = (b.key ∷ house_keys b.tickets) ++ stray_keys b.tickets b.askings

abbrev pub is_to_service : Pending → Bool
is_to_service p = not (p.asks == 0)

abbrev pub receipt_keys : List Pending → List Key
receipt_keys ps = from_end is_to_service (λ p. p.key) ps
