-- Two lists compared byte by byte, without a stop at the first that differs.
use Rattle.std.proofs.Common.{◌≡◌, ℕ, zero, suc, ◌+◌, ◌*◌, ◌≤◌, Bool, true, false, eqb, ◌&&◌, List, [], ◌∷◌, length, get_or, take, sym, refl, ap, ◌∙◌, arith}
use lib.Bits.{bit_or, bit_xor, or_add_and, xor_add_and, and_le_l, and_le_r, xor_self}
use Rattle.std.proofs.lemmas.List.{get_or-take}
use Rattle.std.proofs.lemmas.Bool.{eqb-true, eq-eqb, and_parts, and_from}
use Rattle.std.proofs.Math.Bool.{and_assoc, and-true}
use Rattle.std.specs.List.{fold, zip}
use Rattle.seal.specs.Lock.{same, number}

pub same_refl : (xs : List ℕ) → same xs xs ≡ true
unfolding same
same_refl [] = refl
same_refl (x ∷ xs) = and_from (eqb x x) (same xs xs) (eq-eqb x x refl) (same_refl xs)

pub same-eq : (xs ys : List ℕ) → same xs ys ≡ true → xs ≡ ys
unfolding same
same-eq [] [] e = refl
same-eq [] (y ∷ ys) e = let z : ◌≡◌ {A = ℕ} 0 1 = cc in absurd (omega arith)
same-eq (x ∷ xs) [] e = let z : ◌≡◌ {A = ℕ} 0 1 = cc in absurd (omega arith)
same-eq (x ∷ xs) (y ∷ ys) e =
    let p = and_parts (eqb x y) (same xs ys) e in
    ap (λ b. b ∷ xs) (eqb-true x y p.0) ∙ ap (λ l. y ∷ l) (same-eq xs ys p.1)

-- two tests with the same truth
both : (a b : Bool) → (a ≡ true → b ≡ true) → (b ≡ true → a ≡ true) → a ≡ b
both true true f g = refl
both true false f g = sym (f refl)
both false true f g = g refl
both false false f g = refl

-- no bit differs in two bytes, nor did before
none-differs : (d x y : ℕ) → eqb (bit_or d (bit_xor x y)) 0 ≡ (eqb d 0 && eqb x y)
none-differs d x y =
    both _ _
    (λ t.
    let none = eqb-true (bit_or d (bit_xor x y)) 0 t in
    let o = or_add_and d (bit_xor x y) in
    let l = and_le_l d (bit_xor x y) in
    let r = and_le_r d (bit_xor x y) in
    let a = xor_add_and x y in
    let b = and_le_l x y in
    let c = and_le_r x y in
    and_from (eqb d 0) (eqb x y) (eq-eqb d 0 (omega arith)) (eq-eqb x y (omega arith)))
    (λ t.
    let p = and_parts (eqb d 0) (eqb x y) t in
    eq-eqb (bit_or d (bit_xor x y)) 0
    (ap (λ e. bit_or e (bit_xor x y)) (eqb-true d 0 p.0) ∙ ap (λ e. bit_or 0 (bit_xor e y)) (eqb-true x y p.1)
    ∙ ap (bit_or 0) (xor_self y)))

-- no bit differs in two lists, nor did before
pub differ-all :
    (d : ℕ) (xs ys : List ℕ) → length xs ≡ length ys
    → eqb (fold (λ d (p : ℕ × ℕ). bit_or d (bit_xor p.0 p.1)) d (zip xs ys)) 0 ≡ (eqb d 0 && same xs ys)
unfolding same
differ-all d [] [] e = sym (and-true (eqb d 0))
differ-all d [] (y ∷ ys) e = absurd (omega arith)
differ-all d (x ∷ xs) [] e = absurd (omega arith)
differ-all d (x ∷ xs) (y ∷ ys) e =
    differ-all (bit_or d (bit_xor x y)) xs ys (omega arith)
    ∙ ap (λ b. b && same xs ys) (none-differs d x y) ∙ and_assoc (eqb d 0) (eqb x y) (same xs ys)

-- the number of the first bytes of a longer string
pub number-take : (n m : ℕ) (bs : List ℕ) → n ≤ m → number n (take m bs) ≡ number n bs
unfolding number
number-take zero m bs le = refl
number-take (suc n) m bs le =
    ap (λ a. a * 256 + get_or (take m bs) n 0) (number-take n m bs (omega arith))
    ∙ ap (λ b. number n bs * 256 + b) (get_or-take m bs n 0 (omega arith))
