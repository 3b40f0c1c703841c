-- What holds of a value, if there is one. Assumes nothing.
use Rattle.std.proofs.Common.{◌≡◌, Some, None, Option, refl, subst}
use Rattle.words.specs.Text.{and_then}

abbrev pub If : {A : Type 0} → (A → Type 0) → Option A → Type 0
If Q None = Unit {0}
If Q (Some x) = Q x

pub if-any : {A : Type 0} (o : Option A) → If (λ _. Unit {0}) o
if-any None = tt
if-any (Some x) = tt

pub if-then : {A B : Type 0} (R : A → Type 0) (Q : B → Type 0) (o : Option A) (f : A → Option B) → If R o → ((x : A) → R x → If Q (f x)) → If Q (and_then o f)
if-then R Q None f h k = tt
if-then R Q (Some x) f h k = k x h

pub if-each : {A : Type 0} (Q : A → Type 0) (o : Option A) → ((x : A) → o ≡ Some x → Q x) → If Q o
if-each Q None k = tt
if-each Q (Some x) k = k x refl

pub if-is : {A : Type 0} (Q : A → Type 0) (o : Option A) (x : A) → If Q o → o ≡ Some x → Q x
if-is Q o x h e = subst (If Q) e h
