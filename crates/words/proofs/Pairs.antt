-- Hex: what is written is read back, and nothing else is. Assumes nothing.
use Rattle.std.proofs.Common.{◌≡◌, ℕ, suc, ◌*◌, ◌/◌, ◌%◌, ◌<◌, true, false, ◌&&◌, eqb, List, [], ◌∷◌, map, length, is_some, Some, unwrap_or, sym, refl, ap, ◌∙◌, ⊎_elim, arith}
use Rattle.std.specs.List.{list_all}
use Rattle.std.specs.Simd.{first_chunks}
use Rattle.std.proofs.lemmas.Bool.{eq-eqb, eqb-true, cond-true, cond-false, cases_Bool, and_from, and_parts}
use Rattle.std.proofs.lemmas.Bool.Decides.{nat_tests}
use Rattle.words.specs.Text.{nibble_of, all_hex, octet_of, pair_octet, octets}
use Rattle.words.specs.Laws.{digit_of, hex_text, Octets, KeysReadBack, KeysAreExact}

nibble-digit : (n : ℕ) → n < 16 → nibble_of (digit_of n) ≡ Some n
nibble-digit n h = grind (arith, nat_tests)

digit-nibble : (b : ℕ) → is_some (nibble_of b) ≡ true → (digit_of (unwrap_or (nibble_of b) 0) ≡ b) × (unwrap_or (nibble_of b) 0 < 16)
digit-nibble b h = grind (arith, nat_tests)

-- the first pair, and the others
pub octets-cons : (a b : ℕ) (s : List ℕ) → octets (a ∷ b ∷ s) ≡ octet_of a b ∷ octets s
unfolding octets
octets-cons a b s =
    let more : suc (suc (length s)) / 2 ≡ suc (length s / 2) = omega arith in
    ap (λ n. map pair_octet (first_chunks 2 n (a ∷ b ∷ s))) more

high-back : (a b : ℕ) → is_some (nibble_of a) ≡ true → is_some (nibble_of b) ≡ true → digit_of (octet_of a b / 16) ≡ a
unfolding octet_of
high-back a b h k =
    let x = digit-nibble a h in
    let y = digit-nibble b k in
    ap digit_of (omega (arith, y.1)) ∙ x.0

low-back : (a b : ℕ) → is_some (nibble_of a) ≡ true → is_some (nibble_of b) ≡ true → digit_of (octet_of a b % 16) ≡ b
unfolding octet_of
low-back a b h k =
    let y = digit-nibble b k in
    ap digit_of (omega (arith, y.1)) ∙ y.0

pub text-octets : (s : List ℕ) → length s % 2 ≡ 0 → all_hex s ≡ true → hex_text (octets s) ≡ s
unfolding octets
text-octets [] e h = refl
text-octets (a ∷ []) e h = absurd (omega arith)
text-octets (a ∷ b ∷ s) e h =
    let first = and_parts (is_some (nibble_of a)) _ h in
    let second = and_parts (is_some (nibble_of b)) (list_all (λ c. is_some (nibble_of c)) s) first.1 in
    ap hex_text (octets-cons a b s)
    ∙ (λ i. high-back a b first.0 second.0 i ∷ low-back a b first.0 second.0 i ∷ text-octets s (omega arith) second.1 i)

octet-back : (b : ℕ) → b < 256 → octet_of (digit_of (b / 16)) (digit_of (b % 16)) ≡ b
unfolding octet_of
octet-back b h =
    let high : unwrap_or (nibble_of (digit_of (b / 16))) 0 ≡ b / 16 = ap (λ o. unwrap_or o 0) (nibble-digit (b / 16) (omega arith)) in
    let low : unwrap_or (nibble_of (digit_of (b % 16))) 0 ≡ b % 16 = ap (λ o. unwrap_or o 0) (nibble-digit (b % 16) (omega arith)) in
    omega arith

pub octets-text : (bytes : List ℕ) → Octets bytes → octets (hex_text bytes) ≡ bytes
unfolding octets
octets-text [] h = refl
octets-text (b ∷ bytes) h =
    octets-cons (digit_of (b / 16)) (digit_of (b % 16)) (hex_text bytes)
    ∙ (λ i. octet-back b h.0 i ∷ octets-text bytes h.1 i)

pub length-text : (bytes : List ℕ) → length (hex_text bytes) ≡ 2 * length bytes
length-text [] = refl
length-text (b ∷ bytes) = omega (arith, length-text bytes)

pub hexes-text : (bytes : List ℕ) → Octets bytes → all_hex (hex_text bytes) ≡ true
hexes-text [] h = refl
hexes-text (b ∷ bytes) h =
    let byte : b < 256 = h.0 in
    and_from (is_some (nibble_of (digit_of (b / 16)))) _ (ap is_some (nibble-digit (b / 16) (omega arith)))
    (and_from (is_some (nibble_of (digit_of (b % 16)))) _ (ap is_some (nibble-digit (b % 16) (omega arith))) (hexes-text bytes h.1))

pub keys-back : KeysReadBack
keys-back k n h =
    cond-true (eqb (length (hex_text k.0)) 64 && all_hex (hex_text k.0)) _ _
    (and_from _ _ (eq-eqb (length (hex_text k.0)) 64 (omega (arith, length-text k.0))) (hexes-text k.0 h))
    ∙ ap (λ (l : List ℕ). Some (record { 0 = l })) (octets-text k.0 h)

pub keys-exact : KeysAreExact
keys-exact s k e = ⊎_elim
    (λ (y : (eqb (length s) 64 && all_hex s) ≡ true).
    let parts = and_parts (eqb (length s) 64) (all_hex s) y in
    let long = eqb-true (length s) 64 parts.0 in
    let q = sym (cond-true _ _ _ y) ∙ e in
    let same : octets s ≡ k.0 = cc in
    sym (text-octets s (omega arith) parts.1) ∙ ap hex_text same)
    (λ (y : (eqb (length s) 64 && all_hex s) ≡ false).
    let q = sym (cond-false _ _ _ y) ∙ e in
    let z : ◌≡◌ {A = ℕ} 0 1 = cc in absurd (omega arith))
    (cases_Bool (eqb (length s) 64 && all_hex s))
