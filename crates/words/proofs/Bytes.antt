-- Bytes in hex: what is written is read back, and nothing else is. Assumes nothing.
use Rattle.std.proofs.Common.{◌≡◌, ℕ, ◌%◌, Bool, true, false, not, ◌&&◌, eqb, List, [], ◌∷◌, length, Some, None, codes, sym, refl, ap, ◌∙◌, ⊎_elim, arith}
use Rattle.std.specs.Str.{bytes_eq}
use Rattle.std.proofs.lemmas.Slice.Eq.{bytes_eq-Decides}
use Rattle.std.proofs.lemmas.Bool.{eqb-true, eqb-false, eq-eqb, ne_eqb, cases_Bool, and_from, and_parts}
use Rattle.words.specs.Text.{all_hex, octets, paired}
use Rattle.words.specs.Laws.{hex_text, bytes_text, Octets, BytesReadBack, BytesAreExact}
use Rattle.words.proofs.Pairs.{text-octets, octets-text, length-text, hexes-text}
use Rattle.words.proofs.Scan.{length-octets, hex_of-dash, hex_of-not, hex_of-paired, dash-alone}

-- one byte or more is written in pairs of digits
paired-text : (b : ℕ) (bytes : List ℕ) → Octets (b ∷ bytes) → paired (hex_text (b ∷ bytes)) ≡ true
paired-text b bytes h =
    let long = length-text (b ∷ bytes) in
    and_from (not (eqb (length (hex_text (b ∷ bytes))) 0)) _
    (ap not (ne_eqb (length (hex_text (b ∷ bytes))) 0 (λ (e : length (hex_text (b ∷ bytes)) ≡ 0). omega arith)))
    (and_from (eqb (length (hex_text (b ∷ bytes)) % 2) 0) _ (eq-eqb _ 0 (omega arith)) (hexes-text (b ∷ bytes) h))

pub bytes_back : BytesReadBack
bytes_back [] h = hex_of-dash (codes "-") refl
bytes_back (b ∷ bytes) h =
    let pairs = paired-text b bytes h in
    hex_of-paired (hex_text (b ∷ bytes)) (dash-alone (hex_text (b ∷ bytes)) pairs) pairs
    ∙ ap (λ (x : List ℕ). Some x) (octets-text (b ∷ bytes) h)

not_none : {x : List ℕ} → None ≡ Some x → ⊥
not_none e = let z : ◌≡◌ {A = ℕ} 0 1 = cc in omega arith

not-true : (b : Bool) → not b ≡ true → b ≡ false
not-true true e = absurd (let z : ◌≡◌ {A = ℕ} 0 1 = cc in omega arith)
not-true false e = refl

-- what is one byte or more is written the same with a dash for none
some-text : (s bytes : List ℕ) → (length bytes ≡ 0 → ⊥) → s ≡ hex_text bytes → s ≡ bytes_text bytes
some-text s [] h e = absurd (h refl)
some-text s (b ∷ bytes) h e = e

-- pairs of digits are written as they stand
paired-exact : (s bytes : List ℕ) → paired s ≡ true → octets s ≡ bytes → s ≡ bytes_text bytes
paired-exact s bytes h e =
    let whole = and_parts (not (eqb (length s) 0)) (eqb (length s % 2) 0 && all_hex s) h in
    let halves = and_parts (eqb (length s % 2) 0) (all_hex s) whole.1 in
    let even = eqb-true (length s % 2) 0 halves.0 in
    let some : length s ≡ 0 → ⊥ = eqb-false (length s) 0 (not-true (eqb (length s) 0) whole.0) in
    some-text s bytes
    (λ (z : length bytes ≡ 0). some (omega (arith, length-octets s, ap (λ (x : List ℕ). length x) e)))
    (sym (text-octets s even halves.1) ∙ ap hex_text e)

pub bytes-exact : BytesAreExact
bytes-exact s bytes e = ⊎_elim
    (λ (d : bytes_eq s (codes "-") ≡ true).
    let is = sym (hex_of-dash s d) ∙ e in
    let none : [] ≡ bytes = cc in
    (bytes_eq-Decides s (codes "-")).0 d ∙ ap bytes_text none)
    (λ (d : bytes_eq s (codes "-") ≡ false). ⊎_elim
    (λ (h : paired s ≡ true).
    let is = sym (hex_of-paired s d h) ∙ e in
    let same : octets s ≡ bytes = cc in
    paired-exact s bytes h same)
    (λ (h : paired s ≡ false). absurd (not_none (sym (hex_of-not s d h) ∙ e)))
    (cases_Bool (paired s)))
    (cases_Bool (bytes_eq s (codes "-")))
