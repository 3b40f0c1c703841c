-- Numbers in bytes: what is written reads back, and what is read writes back, at every width.
use Rattle.std.proofs.Common.{◌≡◌, ℕ, zero, suc, ◌+◌, ◌*◌, ◌/◌, ◌%◌, ◌^◌, ◌<◌, ◌≤◌, List, [], ◌∷◌, ◌++◌, length, get_or, take, drop, sym, refl, ap, ◌∙◌, mod-eq_of_lt, mul_assoc, arith}
use lib.Arith.{digits_div, digits_lt, mod-mul}
use native.Mathlib.Nat.{mod-one, mul-add-div_right, mul-add-mod_self_right, one-le-pow, pow-succ'}
use Rattle.std.proofs.lemmas.List.{drop-drop, length-drop, length-take-le, take-append-drop, take_all}
use Rattle.contents.specs.Field.{bytes_of, number, part, Bytes}

-- each power of 256 is above 0
pub power : (w : ℕ) → 0 < 256 ^ w
power w = one-le-pow w 256 (omega arith)

pub length-bytes_of : (w n : ℕ) → length (bytes_of w n) ≡ w
length-bytes_of zero n = refl
length-bytes_of (suc w) n = ap suc (length-bytes_of w n)

pub number-bytes_of-mod : (w n : ℕ) → number (bytes_of w n) ≡ n % 256 ^ w
number-bytes_of-mod zero n = sym (mod-one n)
number-bytes_of-mod (suc w) n =
    ap (λ l. (n / 256 ^ w % 256) * 256 ^ l + number (bytes_of w n)) (length-bytes_of w n)
    ∙ ap (λ m. (n / 256 ^ w % 256) * 256 ^ w + m) (number-bytes_of-mod w n)
    ∙ sym (mod-mul n {m = 256} {c = 256 ^ w} (omega arith) (power w))
    ∙ ap (λ p. n % p) (sym (pow-succ' 256 w))

-- what is written in w bytes is read back, if it is below 256 ^ w
pub number-bytes_of : (w n : ℕ) → n < 256 ^ w → number (bytes_of w n) ≡ n
number-bytes_of w n h = number-bytes_of-mod w n ∙ mod-eq_of_lt h

-- what w bytes read is below 256 ^ w
pub number_lt : (bs : List ℕ) → Bytes bs → number bs < 256 ^ length bs
number_lt [] h = power 0
number_lt (b ∷ bs) h = rw pow-succ' (digits_lt h.0 (number_lt bs h.1))

-- only the rest by 256 ^ w counts
bytes_of-add : (w k m : ℕ) → bytes_of w (k * 256 ^ w + m) ≡ bytes_of w m
bytes_of-add zero k m = refl
bytes_of-add (suc w) k m =
    let e : k * 256 ^ suc w ≡ (k * 256) * 256 ^ w = ap (λ p. k * p) (pow-succ' 256 w) ∙ sym (mul_assoc k 256 (256 ^ w)) in
    let d : ((k * 256) * 256 ^ w + m) / 256 ^ w % 256 ≡ m / 256 ^ w % 256
    = ap (λ q. q % 256) (mul-add-div_right (power w) (k * 256) m) ∙ mul-add-mod_self_right k 256 (m / 256 ^ w) in
    ap (λ n. bytes_of (suc w) (n + m)) e
    ∙ ap (λ h. h ∷ bytes_of w ((k * 256) * 256 ^ w + m)) d
    ∙ ap (λ t. (m / 256 ^ w % 256) ∷ t) (bytes_of-add w (k * 256) m)

-- what is read is written back
pub bytes_of-number : (bs : List ℕ) → Bytes bs → bytes_of (length bs) (number bs) ≡ bs
bytes_of-number [] h = refl
bytes_of-number (b ∷ bs) h =
    let lt = number_lt bs h.1 in
    let d : (b * 256 ^ length bs + number bs) / 256 ^ length bs % 256 ≡ b
    = ap (λ q. q % 256) (digits_div b lt) ∙ mod-eq_of_lt h.0 in
    ap (λ x. x ∷ bytes_of (length bs) (b * 256 ^ length bs + number bs)) d
    ∙ ap (λ t. b ∷ t) (bytes_of-add (length bs) b (number bs) ∙ bytes_of-number bs h.1)

-- what a slice of bytes holds
pub bytes-from : (bs : List ℕ) → ((i : ℕ) → get_or bs i 0 < 256) → Bytes bs
bytes-from [] h = tt
bytes-from (b ∷ bs) h = (h 0, bytes-from bs (λ i. h (suc i)))

pub bytes_drop : (n : ℕ) (bs : List ℕ) → Bytes bs → Bytes (drop n bs)
bytes_drop zero bs h = h
bytes_drop (suc n) [] h = tt
bytes_drop (suc n) (b ∷ bs) h = bytes_drop n bs h.1

pub bytes_take : (n : ℕ) (bs : List ℕ) → Bytes bs → Bytes (take n bs)
bytes_take zero bs h = tt
bytes_take (suc n) [] h = tt
bytes_take (suc n) (b ∷ bs) h = (h.0, bytes_take n bs h.1)

pub length_part : (at n : ℕ) (bs : List ℕ) → at + n ≤ length bs → length (part at n bs) ≡ n
length_part at n bs h = length-take-le n (drop at bs) (simp length-drop (omega arith))

-- the number of a part is below 256 ^ n
pub number-part-lt : (at n : ℕ) (bs : List ℕ) → Bytes bs → at + n ≤ length bs → number (part at n bs) < 256 ^ n
number-part-lt at n bs b h =
    let lt = number_lt (part at n bs) (bytes_take n (drop at bs) (bytes_drop at bs b)) in
    let e = length_part at n bs h in
    rw e at lt

-- a part, written back
bytes_of-part : (at n : ℕ) (bs : List ℕ) → Bytes bs → at + n ≤ length bs → bytes_of n (number (part at n bs)) ≡ part at n bs
bytes_of-part at n bs b h =
    ap (λ l. bytes_of l (number (part at n bs))) (sym (length_part at n bs h))
    ∙ bytes_of-number (part at n bs) (bytes_take n (drop at bs) (bytes_drop at bs b))

-- a part before what follows it
pub part-rest : (at n : ℕ) (bs rest : List ℕ) → rest ≡ drop (at + n) bs → part at n bs ++ rest ≡ drop at bs
part-rest at n bs rest e =
    ap (λ r. part at n bs ++ r) (e ∙ sym (drop-drop n at bs)) ∙ take-append-drop n (drop at bs)

-- a number that was read, written before what follows it
pub number-rest : (at n : ℕ) (bs rest : List ℕ) → Bytes bs → at + n ≤ length bs → rest ≡ drop (at + n) bs
    → bytes_of n (number (part at n bs)) ++ rest ≡ drop at bs
number-rest at n bs rest b h e = ap (λ p. p ++ rest) (bytes_of-part at n bs b h) ∙ part-rest at n bs rest e

-- a part to the end
pub part-last : (at n : ℕ) (bs : List ℕ) → at + n ≡ length bs → part at n bs ≡ drop at bs
part-last at n bs h = take_all n (drop at bs) (simp length-drop (omega arith))

-- a number that was read at the end, written back
pub number-last : (at n : ℕ) (bs : List ℕ) → Bytes bs → at + n ≡ length bs → bytes_of n (number (part at n bs)) ≡ drop at bs
number-last at n bs b h = bytes_of-part at n bs b (omega arith) ∙ part-last at n bs h
