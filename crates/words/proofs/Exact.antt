-- Decimals: what is written is read back, and nothing else is. Assumes nothing.
use Rattle.std.proofs.Common.{◌≡◌, ℕ, ◌-◌, ◌^◌, ◌<◌, min, true, false, ◌&&◌, eqb, ltb, List, [], ◌∷◌, length, get_or, Some, None, decimal, sym, refl, ap, ◌∙◌, ⊎_elim, arith}
use Rattle.std.specs.Str.Parse.{digits_value}
use Rattle.std.specs.Char.{is_ascii_digit}
use Rattle.std.specs.List.{list_all}
use Rattle.std.specs.Str.{all_ascii_digits}
use Rattle.std.proofs.lemmas.Fmt.{decimal_digit, decimal_nonempty, first_decimal, digits_decimal, digits_value-decimal, decimal-digits_value}
use Rattle.std.proofs.lemmas.Str.Parse.{IsNumeralModel, numerals_by_value, tells_all_ascii_digits}
use Rattle.std.proofs.lemmas.Bool.{ne_eqb, eqb-false, le-ltb, ltb-false, cond-true, cond-false, cases_Bool, cases_eq, and_left, and_right, and_cases}
use Rattle.words.specs.Text.{number_of, decimal_of}
use Rattle.words.specs.Laws.{DecimalsReadBack, DecimalsAreExact}
use Rattle.words.proofs.Scan.{number-all}

own : IsNumeralModel (λ s. all_ascii_digits s ≡ true) (digits_value 10)
own = numerals_by_value _ tells_all_ascii_digits

-- digits alone, said in two ways
all_digits : (s : List ℕ) → all_ascii_digits s ≡ list_all is_ascii_digit s
all_digits [] = refl
all_digits (c ∷ s) = ap (λ b. is_ascii_digit c && b) (all_digits s)

-- a numeral does not begin with 0, but for 0 itself
zero-alone : (n : ℕ) → n < 2 ^ 64 → (ltb 1 (length (decimal n)) && eqb (get_or (decimal n) 0 0) 48) ≡ false
zero-alone n h = ⊎_elim
    (λ (e : n ≡ 0). and_left (ltb 1 (length (decimal n))) _ (le-ltb 1 (length (decimal n)) (omega (arith, ap (λ k. length (decimal k)) e, ap length (decimal_digit 0 (omega arith))))))
    (λ (e : n ≡ 0 → ⊥). and_right (ltb 1 (length (decimal n))) _ (ne_eqb (get_or (decimal n) 0 0) 48 (λ (f : get_or (decimal n) 0 0 ≡ 48). omega (arith, first_decimal n (omega arith) h))))
    (cases_eq n 0)

pub read_back : DecimalsReadBack
unfolding decimal_of
read_back n h =
    cond-false (eqb (length (decimal n)) 0) _ _ (ne_eqb (length (decimal n)) 0 (λ (e : length (decimal n) ≡ 0). omega (arith, decimal_nonempty n h)))
    ∙ cond-false (ltb 1 (length (decimal n)) && eqb (get_or (decimal n) 0 0) 48) _ _ (zero-alone n h)
    ∙ number-all (decimal n) (sym (all_digits (decimal n)) ∙ digits_decimal own n h)
    ∙ ap (λ k. Some k) (omega (arith, digits_value-decimal own n h))

-- what is read has digits alone, at least one, and no zero in front of others
pub record Numeral (s : List ℕ) (n : ℕ) : Type 0 where
  some : 0 < length s
  plain : (ltb 1 (length s) && eqb (get_or s 0 0) 48) ≡ false
  number : number_of s ≡ Some n

not_none : {n : ℕ} → None ≡ Some n → ⊥
not_none e = let z : ◌≡◌ {A = ℕ} 0 1 = cc in omega arith

numeral : (s : List ℕ) (n : ℕ) → decimal_of s ≡ Some n → Numeral s n
unfolding decimal_of
numeral s n e = ⊎_elim
    (λ (z : eqb (length s) 0 ≡ true). absurd (not_none (sym (cond-true (eqb (length s) 0) _ _ z) ∙ e)))
    (λ (z : eqb (length s) 0 ≡ false). ⊎_elim
    (λ (y : (ltb 1 (length s) && eqb (get_or s 0 0) 48) ≡ true). absurd (not_none (sym (cond-true _ _ _ y) ∙ sym (cond-false (eqb (length s) 0) _ _ z) ∙ e)))
    (λ (y : (ltb 1 (length s) && eqb (get_or s 0 0) 48) ≡ false). record {
      some = omega (arith, eqb-false (length s) 0 z);
      plain = y;
      number = sym (cond-false _ _ _ y) ∙ sym (cond-false (eqb (length s) 0) _ _ z) ∙ e;
    })
    (cases_Bool (ltb 1 (length s) && eqb (get_or s 0 0) 48)))
    (cases_Bool (eqb (length s) 0))

-- digits alone, and what they are worth
worth : (s : List ℕ) (n : ℕ) → number_of s ≡ Some n → (list_all is_ascii_digit s ≡ true) × (n ≡ min (digits_value 10 s) (2 ^ 64 - 1))
unfolding number_of
worth s n e = ⊎_elim
    (λ (y : list_all is_ascii_digit s ≡ true).
    let q = sym (cond-true _ _ _ y) ∙ e in
    (y, (cc)))
    (λ (y : list_all is_ascii_digit s ≡ false). absurd (not_none (sym (cond-false _ _ _ y) ∙ e)))
    (cases_Bool (list_all is_ascii_digit s))

pub exact-decimal : DecimalsAreExact
exact-decimal s n e h =
    let num = numeral s n e in
    let what = worth s n num.number in
    let v : digits_value 10 s ≡ n = omega (arith, what.1) in
    sym (decimal-digits_value own s (all_digits s ∙ what.0) num.some
    (λ z. ⊎_elim
    (λ (y : ltb 1 (length s) ≡ false). omega (arith, ltb-false 1 (length s) y, num.some))
    (λ (y : eqb (get_or s 0 0) 48 ≡ false). absurd (eqb-false (get_or s 0 0) 48 y z))
    (and_cases (ltb 1 (length s)) (eqb (get_or s 0 0) 48) num.plain))
    (omega arith)) ∙ ap decimal v
