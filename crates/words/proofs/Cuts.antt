-- A text that is cut, and put together again. Assumes nothing.
use Rattle.std.proofs.Common.{◌≡◌, ℕ, suc, ◌+◌, ◌<◌, true, false, not, eqb, ltb, List, [], ◌∷◌, ◌++◌, length, get_or, take, drop, Some, sym, refl, ap, ◌∙◌, ⊎_elim, append_assoc, add-one, arith, length-append, take-append-drop, drop-cons, take_at, drop_at}
use Rattle.std.specs.Char.{is_ascii_digit}
use Rattle.std.specs.Str.{all_ascii_digits}
use Rattle.std.proofs.lemmas.Bool.{eqb-true, eq-eqb, ltb-true, lt-ltb, cond-true, cond-false, cases_Bool, and_parts}
use Rattle.std.proofs.lemmas.Bool.Decides.{nat_tests}
use Rattle.words.specs.Text.{before, cut_at}

-- where the first b stands, a b stands
at_before : (b : ℕ) (s : List ℕ) → before b s < length s → get_or s (before b s) 0 ≡ b
unfolding before
at_before b [] h = absurd (omega arith)
at_before b (x ∷ s) h = ⊎_elim
    (λ (e : eqb x b ≡ true).
    let here : before b (x ∷ s) ≡ 0 = cond-false (not (eqb x b)) (1 + before b s) 0 (ap not e) in
    ap (λ k. get_or (x ∷ s) k 0) here ∙ eqb-true x b e)
    (λ (e : eqb x b ≡ false).
    let on : before b (x ∷ s) ≡ suc (before b s) = cond-true (not (eqb x b)) (1 + before b s) 0 (ap not e) ∙ omega arith in
    ap (λ k. get_or (x ∷ s) k 0) on ∙ at_before b s (omega arith))
    (cases_Bool (eqb x b))

-- what was cut, put together
pub cut-joins : (b : ℕ) (s : List ℕ) (p : List ℕ × List ℕ) → cut_at b s ≡ Some p → s ≡ p.0 ++ (b ∷ p.1)
unfolding cut_at
cut-joins b s p e = ⊎_elim
    (λ (h : ltb (before b s) (length s) ≡ true).
    let q = sym (cond-true _ _ _ h) ∙ e in
    let inside = ltb-true (before b s) (length s) h in
    let front : take (before b s) s ≡ p.0 = cc in
    let back : drop (before b s + 1) s ≡ p.1 = cc in
    sym (take-append-drop (before b s) s)
    ∙ (λ i. front i ++ (drop-cons s (before b s) 0 inside ∙ (λ j. at_before b s inside j ∷ (ap (λ k. drop k s) (sym (add-one (before b s))) ∙ back) j)) i))
    (λ (h : ltb (before b s) (length s) ≡ false).
    let q = sym (cond-false _ _ _ h) ∙ e in
    let z : ◌≡◌ {A = ℕ} 0 1 = cc in absurd (omega arith))
    (cases_Bool (ltb (before b s) (length s)))

-- a text with no b in it, a b, and any text
before-joined : (b : ℕ) (w rest : List ℕ) → before b w ≡ length w → before b (w ++ (b ∷ rest)) ≡ length w
unfolding before
before-joined b [] rest h = cond-false (not (eqb b b)) _ _ (ap not (eq-eqb b b refl))
before-joined b (x ∷ w) rest h = ⊎_elim
    (λ (e : not (eqb x b) ≡ true).
    let was = cond-true (not (eqb x b)) (1 + before b w) 0 e in
    cond-true (not (eqb x b)) (1 + before b (w ++ (b ∷ rest))) 0 e ∙ omega (arith, before-joined b w rest (omega arith)))
    (λ (e : not (eqb x b) ≡ false). absurd (omega (arith, cond-false (not (eqb x b)) (1 + before b w) 0 e)))
    (cases_Bool (not (eqb x b)))

pub joined-cuts : (b : ℕ) (w rest : List ℕ) → before b w ≡ length w → cut_at b (w ++ (b ∷ rest)) ≡ Some (w, rest)
unfolding cut_at
joined-cuts b w rest h =
    let n : ℕ = before b (w ++ (b ∷ rest)) in
    let long : length w ≡ n = sym (before-joined b w rest h) in
    let back : drop (n + 1) (w ++ (b ∷ rest)) ≡ rest =
    ap (λ (l : List ℕ). drop (n + 1) l) (sym (append_assoc w (b ∷ []) rest))
    ∙ drop_at (w ++ (b ∷ [])) rest (n + 1) (omega (arith, length-append w (b ∷ []))) in
    cond-true _ _ _ (lt-ltb n (length (w ++ (b ∷ rest))) (omega (arith, length-append w (b ∷ rest))))
    ∙ (λ i. Some (take_at w (b ∷ rest) n long i, back i))

-- digits have no space among them
digit-no-space : (c : ℕ) → is_ascii_digit c ≡ true → not (eqb c 32) ≡ true
digit-no-space c h = grind (arith, nat_tests)

pub digits-no-space : (w : List ℕ) → all_ascii_digits w ≡ true → before 32 w ≡ length w
unfolding before
digits-no-space [] h = refl
digits-no-space (c ∷ w) h =
    let parts = and_parts (is_ascii_digit c) (all_ascii_digits w) h in
    cond-true (not (eqb c 32)) (1 + before 32 w) 0 (digit-no-space c parts.0) ∙ omega (arith, digits-no-space w parts.1)
