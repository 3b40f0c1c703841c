-- Digits that are read, one after the other, and words of hex. Assumes nothing.
use Rattle.std.proofs.Common.{◌≡◌, ℕ, zero, suc, ◌+◌, ◌-◌, ◌/◌, ◌%◌, ◌^◌, ◌<◌, ◌≤◌, min, true, false, cond, not, ◌&&◌, ◌||◌, eqb, ltb, List, [], ◌∷◌, ◌++◌, map, length, get_or, take, drop, set, is_some, Some, None, codes, Option, unwrap_or, sym, ap, ◌∙◌, refl, ⊎_elim, append_assoc, add-one, arith, length-drop, drop-cons}
use Rattle.std.specs.List.{list_all}
use Rattle.std.specs.Simd.{first_chunks}
use Rattle.std.specs.Str.Parse.{digits_value}
use Rattle.std.specs.Char.{is_ascii_digit, digit_value}
use Rattle.std.specs.Str.{bytes_eq}
use Rattle.std.proofs.lemmas.Bool.Decides.{nat_tests}
use Rattle.std.proofs.lemmas.Bool.{lt-ltb, le-ltb, eqb-true, ltb-true, cond-true, cond-false, cases_Bool, and_parts}
use Rattle.std.proofs.lemmas.Slice.Eq.{bytes_eq-Decides}
use Rattle.std.proofs.lemmas.List.{map_more, set_at, length-map, length-take}
use Rattle.words.specs.Text.{before, cut_at, number_of, all_hex, pair_octet, octets, paired, hex_of, bytes_of, fitting, and_then}

pub number-all : (s : List ℕ) → list_all is_ascii_digit s ≡ true → number_of s ≡ Some (min (digits_value 10 s) (2 ^ 64 - 1))
unfolding number_of
number-all s e = cond-true _ _ _ e

pub number-not : (s : List ℕ) → list_all is_ascii_digit s ≡ false → number_of s ≡ None
unfolding number_of
number-not s e = cond-false _ _ _ e

-- a digit's value is below ten, and no other byte's
pub digit-true : (b : ℕ) → digit_value b < 10 → is_ascii_digit b ≡ true
digit-true b h = grind (arith, nat_tests)

pub digit-false : (b : ℕ) → (digit_value b < 10 → ⊥) → is_ascii_digit b ≡ false
digit-false b h = grind (arith, nat_tests)

-- one more byte is written
pub octets-more : (pairs : List (List ℕ)) (old : List ℕ) (i : ℕ) → i < length old → i < length pairs → set (map pair_octet (take i pairs) ++ drop i old) i (pair_octet (get_or pairs i [])) ≡ map pair_octet (take (i + 1) pairs) ++ drop (i + 1) old
octets-more pairs old i h k =
    ap (λ (l : List ℕ). set (map pair_octet (take i pairs) ++ l) i (pair_octet (get_or pairs i []))) (drop-cons old i 0 h)
    ∙ set_at (map pair_octet (take i pairs)) (get_or old i 0) _ (pair_octet (get_or pairs i [])) i (omega (arith, length-map (take i pairs) pair_octet, length-take i pairs))
    ∙ sym (append_assoc (map pair_octet (take i pairs)) (pair_octet (get_or pairs i []) ∷ []) _)
    ∙ (λ j. sym (map_more pair_octet pairs i [] k) j ++ drop (sym (add-one i) j) old)

pub cut-shorter : (b : ℕ) (s : List ℕ) (p : List ℕ × List ℕ) → cut_at b s ≡ Some p → length p.1 < length s
unfolding cut_at
cut-shorter b s p e = ⊎_elim
    (λ h.
    let q = sym (cond-true _ _ _ h) ∙ e in
    let back : drop (before b s + 1) s ≡ p.1 = cc in
    omega (arith, ltb-true (before b s) (length s) h, ap length back, length-drop (before b s + 1) s))
    (λ h.
    let q = sym (cond-false _ _ _ h) ∙ e in
    let z : ◌≡◌ {A = ℕ} 0 1 = cc in omega arith)
    (cases_Bool (ltb (before b s) (length s)))

pub length-chunks : (k : ℕ) (s : List ℕ) → length (map pair_octet (first_chunks 2 k s)) ≡ k
length-chunks zero s = refl
length-chunks (suc k) s = ap (λ (n : ℕ). suc n) (length-chunks k (drop 2 s))

pub length-octets : (s : List ℕ) → length (octets s) ≡ length s / 2
unfolding octets
length-octets s = length-chunks (length s / 2) s

pub hex_of-dash : (s : List ℕ) → bytes_eq s (codes "-") ≡ true → hex_of s ≡ Some []
unfolding hex_of
hex_of-dash s h = cond-true _ _ _ h

pub hex_of-not : (s : List ℕ) → bytes_eq s (codes "-") ≡ false → paired s ≡ false → hex_of s ≡ None
unfolding hex_of
hex_of-not s h e = cond-false _ _ _ h ∙ cond-false _ _ _ e

pub hex_of-paired : (s : List ℕ) → bytes_eq s (codes "-") ≡ false → paired s ≡ true → hex_of s ≡ Some (octets s)
unfolding hex_of
hex_of-paired s h e = cond-false _ _ _ h ∙ cond-true _ _ _ e

-- a dash is no pair
pub dash-alone : (s : List ℕ) → paired s ≡ true → bytes_eq s (codes "-") ≡ false
dash-alone s h = ⊎_elim
    (λ (e : bytes_eq s (codes "-") ≡ true).
    let dash : s ≡ codes "-" = (bytes_eq-Decides s (codes "-")).0 e in
    let even = eqb-true (length s % 2) 0 (and_parts (eqb (length s % 2) 0) (all_hex s) (and_parts (not (eqb (length s) 0)) (eqb (length s % 2) 0 && all_hex s) h).1).0 in
    absurd (omega (arith, even, ap (λ (x : List ℕ). length x) dash)))
    (λ e. e)
    (cases_Bool (bytes_eq s (codes "-")))

is-none : (o : Option (List ℕ)) → is_some o ≡ false → o ≡ None
is-none None e = refl
is-none (Some x) e = absurd (let z : ◌≡◌ {A = ℕ} 0 1 = cc in omega arith)

-- a word gives bytes: a dash, or pairs of digits
pub hex-cases : (s : List ℕ) → is_some (hex_of s) ≡ (bytes_eq s (codes "-") || paired s)
hex-cases s = ⊎_elim
    (λ (d : bytes_eq s (codes "-") ≡ true). ap (λ (o : Option (List ℕ)). is_some o) (hex_of-dash s d) ∙ sym (ap (λ b. b || paired s) d))
    (λ (d : bytes_eq s (codes "-") ≡ false). ⊎_elim
    (λ (h : paired s ≡ true). ap (λ (o : Option (List ℕ)). is_some o) (hex_of-paired s d h) ∙ sym (ap (λ b. b || paired s) d ∙ h))
    (λ (h : paired s ≡ false). ap (λ (o : Option (List ℕ)). is_some o) (hex_of-not s d h) ∙ sym (ap (λ b. b || paired s) d ∙ h))
    (cases_Bool (paired s)))
    (cases_Bool (bytes_eq s (codes "-")))

-- and they are those that its pairs write, none for a dash
pub hex-octets : (s : List ℕ) → is_some (hex_of s) ≡ true → hex_of s ≡ Some (octets s)
unfolding octets
hex-octets s e = ⊎_elim
    (λ (d : bytes_eq s (codes "-") ≡ true). hex_of-dash s d ∙ ap (λ (w : List ℕ). Some (octets w)) (sym ((bytes_eq-Decides s (codes "-")).0 d)))
    (λ (d : bytes_eq s (codes "-") ≡ false). hex_of-paired s d (sym (ap (λ b. b || paired s) d) ∙ sym (hex-cases s) ∙ e))
    (cases_Bool (bytes_eq s (codes "-")))

pub hex-none : (s : List ℕ) → is_some (hex_of s) ≡ false → hex_of s ≡ None
hex-none s e = is-none (hex_of s) e

pub bytes-octets : (s : List ℕ) → is_some (hex_of s) ≡ true → bytes_of s ≡ octets s
bytes-octets s e = ap (λ (o : Option (List ℕ)). unwrap_or o []) (hex-octets s e)

pub bytes-none : (s : List ℕ) → is_some (hex_of s) ≡ false → bytes_of s ≡ []
bytes-none s e = ap (λ (o : Option (List ℕ)). unwrap_or o []) (hex-none s e)

fitting-as : (n : ℕ) (s : List ℕ) (o : Option (List ℕ)) → hex_of s ≡ o → fitting n s ≡ and_then o (λ bytes. cond (ltb n (length bytes)) None (Some bytes))
unfolding fitting
fitting-as n s o e = ap (λ (x : Option (List ℕ)). and_then x (λ bytes. cond (ltb n (length bytes)) None (Some bytes))) e

pub fitting-none : (n : ℕ) (s : List ℕ) → hex_of s ≡ None → fitting n s ≡ None
fitting-none n s e = fitting-as n s None e

pub fitting-long : (n : ℕ) (s bytes : List ℕ) → hex_of s ≡ Some bytes → n < length bytes → fitting n s ≡ None
fitting-long n s bytes e h = fitting-as n s (Some bytes) e ∙ cond-true (ltb n (length bytes)) _ _ (lt-ltb n (length bytes) h)

pub fitting-some : (n : ℕ) (s bytes : List ℕ) → hex_of s ≡ Some bytes → length bytes ≤ n → fitting n s ≡ Some bytes
fitting-some n s bytes e h = fitting-as n s (Some bytes) e ∙ cond-false (ltb n (length bytes)) _ _ (le-ltb n (length bytes) h)
