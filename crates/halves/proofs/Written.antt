-- A half that was written is read back. Assumes nothing.
use Rattle.std.proofs.Common.{◌≡◌, ℕ, ◌+◌, ◌-◌, ◌*◌, ◌^◌, ◌<◌, ◌≤◌, Bool, true, false, cond, ◌||◌, eqb, leb, List, [], ◌∷◌, ◌++◌, length, take, drop, Some, None, Option, sym, refl, ap, ◌∙◌, zero-mul, arith}
use Rattle.codec.proofs.Numbers.{number-bytes_of}
use Rattle.contents.specs.Field.{number}
use Rattle.halves.proofs.Parts.{length-half, length-stamp, length-sum_of}
use Rattle.halves.specs.Blocks.{over}
use Rattle.halves.specs.Half.{Measure, Steady, blank, decoded, fits, half, is_zero, sized, stamp, sum_of}
use Rattle.halves.specs.Halves.{part_of}
use Rattle.std.proofs.lemmas.Slice.Eq.{bytes_eq-Decides}
use Rattle.std.proofs.lemmas.List.{append_assoc, drop_at, length-append, take_at}
use Rattle.std.proofs.lemmas.Bool.{and_from, and_parts, eqb-true, le-leb, le-ltb}
use Rattle.std.specs.Str.{bytes_eq}

-- zeros in front write the number 0
zero-front : (xs ys : List ℕ) → is_zero (xs ++ ys) ≡ true → number xs ≡ 0
zero-front [] ys h = refl
zero-front (x ∷ xs) ys h =
    let p = and_parts (eqb x 0) (is_zero (xs ++ ys)) h in
    let x0 = eqb-true x 0 p.0 in
    let i = zero-front xs ys p.1 in
    ap (λ n. n * 256 ^ length xs + number xs) x0 ∙ ap (λ n. n + number xs) (zero-mul (256 ^ length xs)) ∙ (omega arith)

number-stamp : (t : ℕ) → t < 2 ^ 64 → number (stamp t) ≡ t
unfolding stamp
number-stamp t h = number-bytes_of 8 t (omega arith)

-- what begins with a turn above 0 is not all zeros
not-zero : (t : ℕ) (ys : List ℕ) → 0 < t → t < 2 ^ 64 → is_zero (stamp t ++ ys) ≡ false
not-zero t ys pos lt = go (is_zero (stamp t ++ ys)) refl
  where
    go : (v : Bool) → is_zero (stamp t ++ ys) ≡ v → v ≡ false
    go true e = let z : t ≡ 0 = sym (number-stamp t lt) ∙ zero-front (stamp t) ys e in absurd (omega arith)
    go false e = refl

-- what stands in a block after a half was written to it
abbrev pub after : ℕ → List ℕ → List ℕ → List ℕ
after t p old = over (half t p) old

pub payload-after : (t : ℕ) (p old : List ℕ) → drop 8 (after t p old) ≡ p ++ (sum_of (stamp t ++ p) ++ drop (length (half t p)) old)
payload-after t p old =
    let s = sum_of (stamp t ++ p) in
    let r = drop (length (half t p)) old in
    ap (drop 8) (append_assoc (stamp t ++ p) s r ∙ append_assoc (stamp t) p (s ++ r)) ∙ drop_at (stamp t) (p ++ (s ++ r)) 8 (length-stamp t)

pub part-after : (t : ℕ) (p old : List ℕ) → part_of (length p) (after t p old) ≡ p
part-after t p old = ap (take (length p)) (payload-after t p old) ∙ take_at p _ (length p) refl

length-after : (t : ℕ) (p old : List ℕ) → length p + 24 ≤ length (after t p old)
length-after t p old =
    omega (arith, length-append (half t p) (drop (length (half t p)) old), length-half t p)

not-blank : (t : ℕ) (p old : List ℕ) → 0 < t → t < 2 ^ 64 → blank (after t p old) ≡ false
not-blank t p old pos lt =
    let s = sum_of (stamp t ++ p) in
    let r = drop (length (half t p)) old in
    let l = length-after t p old in
    ap (λ (v : Bool). v || is_zero (after t p old)) (le-ltb (length (after t p old)) 24 (omega arith))
    ∙ ap is_zero (append_assoc (stamp t ++ p) s r ∙ append_assoc (stamp t) p (s ++ r)) ∙ not-zero t (p ++ (s ++ r)) pos lt

fits_after : (t : ℕ) (p old : List ℕ) → fits (length p) (after t p old) ≡ true
fits_after t p old =
    let a = stamp t ++ p in
    let s = sum_of a in
    let r = drop (length (half t p)) old in
    let x = after t p old in
    let n : length a ≡ 8 + length p = omega (arith, length-append (stamp t) p, length-stamp t) in
    let l = length-after t p old in
    let e : x ≡ a ++ (s ++ r) = append_assoc a s r in
    let u : take 16 (drop (8 + length p) x) ≡ s =
    ap (λ (y : List ℕ). take 16 (drop (8 + length p) y)) e ∙ ap (take 16) (drop_at a (s ++ r) (8 + length p) n) ∙ take_at s r 16 (length-sum_of a) in
    let v : take (8 + length p) x ≡ a = ap (take (8 + length p)) e ∙ take_at a (s ++ r) (8 + length p) n in
    and_from (leb (length p) (length x - 24)) _ (le-leb (length p) (length x - 24) (omega arith))
    (ap (λ (y : List ℕ). bytes_eq y (sum_of (take (8 + length p) x))) u
    ∙ ap (λ (y : List ℕ). bytes_eq s (sum_of y)) v
    ∙ (bytes_eq-Decides s s).1 refl)

turn-after : (t : ℕ) (p old : List ℕ) → t < 2 ^ 64 → number (take 8 (after t p old)) ≡ t
turn-after t p old lt =
    let s = sum_of (stamp t ++ p) in
    let r = drop (length (half t p)) old in
    ap (λ (y : List ℕ). number (take 8 y)) (append_assoc (stamp t ++ p) s r ∙ append_assoc (stamp t) p (s ++ r))
    ∙ ap number (take_at (stamp t) (p ++ (s ++ r)) 8 (length-stamp t))
    ∙ number-stamp t lt

-- a half with a turn above 0 is read back, whatever stands behind it
pub decoded-after : (m : Measure) → Steady m → (t : ℕ) (p old : List ℕ) → 0 < t → t < 2 ^ 64 → m p ≡ Some (length p)
    → decoded m (after t p old) ≡ Some record { turn = t; len = length p }
decoded-after m st t p old pos lt fit =
    let x = after t p old in
    let mm : m (drop 8 x) ≡ Some (length p) = ap m (payload-after t p old) ∙ st p _ fit in
    ap (λ (v : Bool). cond v None (sized (m (drop 8 x)) x)) (not-blank t p old pos lt)
    ∙ ap (λ (o : Option ℕ). sized o x) mm
    ∙ ap (λ (v : Bool). cond v (Some record { turn = number (take 8 x); len = length p }) None) (fits_after t p old)
    ∙ ap (λ (n : ℕ). Some record { turn = n; len = length p }) (turn-after t p old lt)
