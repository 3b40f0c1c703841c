-- The keys of a table from its end, with one more at its front. Assumes nothing.
use Rattle.std.proofs.Common.{◌≡◌, Bool, true, false, cond, List, [], ◌∷◌, ◌++◌, map, reverse, refl, ap, ◌∙◌}
use Rattle.box_rules.specs.Keys.{from_end}
use Rattle.parts.specs.declared.word.Key.{Key}
use Rattle.std.proofs.lemmas.Grind.{reverse_onto}
use Rattle.std.proofs.lemmas.List.{map-append}
use Rattle.std.proofs.lemmas.List.Elements.{filter-append}
use Rattle.std.specs.List.{filter}

-- the key of one, if it passes
one-key : {X : Type 0} (k : X → Key) (x : X) (b : Bool) → map k (cond b (x ∷ []) []) ≡ cond b (k x ∷ []) []
one-key k x true = refl
one-key k x false = refl

pub from_end-cons : {X : Type 0} (f : X → Bool) (k : X → Key) (x : X) (xs : List X) → from_end f k (x ∷ xs) ≡ from_end f k xs ++ cond (f x) (k x ∷ []) []
from_end-cons {X} f k x xs =
    ap (λ (ys : List X). map k (filter f ys)) (reverse_onto xs x [])
    ∙ ap (λ (ys : List X). map k ys) (filter-append f (reverse xs) (x ∷ []))
    ∙ map-append k (filter f (reverse xs)) (filter f (x ∷ []))
    ∙ ap (λ (ys : List Key). from_end f k xs ++ ys) (one-key k x (f x))
