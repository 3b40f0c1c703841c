-- Rounds and bytes of a state, one more at a time.
use Rattle.std.proofs.Common.{◌≡◌, ℕ, ◌+◌, ◌*◌, ◌<◌, List, [], ◌∷◌, ◌++◌, length, get_or, take, sym, refl, ap, ◌∙◌, add-one, arith, rules}
use borrow.Rule.Slice.PartMut.{put_mid}
use Rattle.std.proofs.lemmas.List.{take_all}
use Rattle.std.proofs.lemmas.List.FromFn.{fill_by_all}
use Rattle.std.proofs.lemmas.Slice.{take-put_mid, overwrites}
use Rattle.cipher.specs.ChaCha20.{◌⊞◌, line, quarter, inner, rounds, four, serialized}

-- a state in its rows
abbrev pub rows : ℕ → ℕ → ℕ → ℕ → ℕ → ℕ → ℕ → ℕ → ℕ → ℕ → ℕ → ℕ → ℕ → ℕ → ℕ → ℕ → List ℕ
rows a0 a1 a2 a3 b0 b1 b2 b3 c0 c1 c2 c3 d0 d1 d2 d3 =
    a0 ∷ a1 ∷ a2 ∷ a3 ∷ b0 ∷ b1 ∷ b2 ∷ b3 ∷ c0 ∷ c1 ∷ c2 ∷ c3 ∷ d0 ∷ d1 ∷ d2 ∷ d3 ∷ []

pub rows-are :
    (s : List ℕ) → length s ≡ 16
    → s ≡ rows (get_or s 0 0) (get_or s 1 0) (get_or s 2 0) (get_or s 3 0) (get_or s 4 0) (get_or s 5 0) (get_or s 6 0) (get_or s 7 0)
    (get_or s 8 0) (get_or s 9 0) (get_or s 10 0) (get_or s 11 0) (get_or s 12 0) (get_or s 13 0) (get_or s 14 0) (get_or s 15 0)
rows-are s long = fill_by_all (λ k. get_or s k 0) s 16 0 long (λ k lt. refl)

-- what a quarter round q of four words leaves of the state t
module _ {a0 a1 a2 a3 b0 b1 b2 b3 c0 c1 c2 c3 d0 d1 d2 d3 : ℕ} {t q : List ℕ} where
  pub column0 :
      t ≡ rows a0 a1 a2 a3 b0 b1 b2 b3 c0 c1 c2 c3 d0 d1 d2 d3 → q ≡ quarter 0 1 2 3 (a0 ∷ b0 ∷ c0 ∷ d0 ∷ [])
      → quarter 0 4 8 12 t
      ≡ rows (get_or q 0 0) a1 a2 a3 (get_or q 1 0) b1 b2 b3 (get_or q 2 0) c1 c2 c3 (get_or q 3 0) d1 d2 d3
  unfolding line
  column0 is e = ap (quarter 0 4 8 12) is ∙ ap (λ r. rows (get_or r 0 0) a1 a2 a3 (get_or r 1 0) b1 b2 b3 (get_or r 2 0) c1 c2 c3 (get_or r 3 0) d1 d2 d3) (sym e)

  pub column1 :
      t ≡ rows a0 a1 a2 a3 b0 b1 b2 b3 c0 c1 c2 c3 d0 d1 d2 d3 → q ≡ quarter 0 1 2 3 (a1 ∷ b1 ∷ c1 ∷ d1 ∷ [])
      → quarter 1 5 9 13 t
      ≡ rows a0 (get_or q 0 0) a2 a3 b0 (get_or q 1 0) b2 b3 c0 (get_or q 2 0) c2 c3 d0 (get_or q 3 0) d2 d3
  unfolding line
  column1 is e = ap (quarter 1 5 9 13) is ∙ ap (λ r. rows a0 (get_or r 0 0) a2 a3 b0 (get_or r 1 0) b2 b3 c0 (get_or r 2 0) c2 c3 d0 (get_or r 3 0) d2 d3) (sym e)

  pub column2 :
      t ≡ rows a0 a1 a2 a3 b0 b1 b2 b3 c0 c1 c2 c3 d0 d1 d2 d3 → q ≡ quarter 0 1 2 3 (a2 ∷ b2 ∷ c2 ∷ d2 ∷ [])
      → quarter 2 6 10 14 t
      ≡ rows a0 a1 (get_or q 0 0) a3 b0 b1 (get_or q 1 0) b3 c0 c1 (get_or q 2 0) c3 d0 d1 (get_or q 3 0) d3
  unfolding line
  column2 is e = ap (quarter 2 6 10 14) is ∙ ap (λ r. rows a0 a1 (get_or r 0 0) a3 b0 b1 (get_or r 1 0) b3 c0 c1 (get_or r 2 0) c3 d0 d1 (get_or r 3 0) d3) (sym e)

  pub column3 :
      t ≡ rows a0 a1 a2 a3 b0 b1 b2 b3 c0 c1 c2 c3 d0 d1 d2 d3 → q ≡ quarter 0 1 2 3 (a3 ∷ b3 ∷ c3 ∷ d3 ∷ [])
      → quarter 3 7 11 15 t
      ≡ rows a0 a1 a2 (get_or q 0 0) b0 b1 b2 (get_or q 1 0) c0 c1 c2 (get_or q 2 0) d0 d1 d2 (get_or q 3 0)
  unfolding line
  column3 is e = ap (quarter 3 7 11 15) is ∙ ap (λ r. rows a0 a1 a2 (get_or r 0 0) b0 b1 b2 (get_or r 1 0) c0 c1 c2 (get_or r 2 0) d0 d1 d2 (get_or r 3 0)) (sym e)

  pub diagonal0 :
      t ≡ rows a0 a1 a2 a3 b0 b1 b2 b3 c0 c1 c2 c3 d0 d1 d2 d3 → q ≡ quarter 0 1 2 3 (a0 ∷ b1 ∷ c2 ∷ d3 ∷ [])
      → quarter 0 5 10 15 t
      ≡ rows (get_or q 0 0) a1 a2 a3 b0 (get_or q 1 0) b2 b3 c0 c1 (get_or q 2 0) c3 d0 d1 d2 (get_or q 3 0)
  unfolding line
  diagonal0 is e = ap (quarter 0 5 10 15) is ∙ ap (λ r. rows (get_or r 0 0) a1 a2 a3 b0 (get_or r 1 0) b2 b3 c0 c1 (get_or r 2 0) c3 d0 d1 d2 (get_or r 3 0)) (sym e)

  pub diagonal1 :
      t ≡ rows a0 a1 a2 a3 b0 b1 b2 b3 c0 c1 c2 c3 d0 d1 d2 d3 → q ≡ quarter 0 1 2 3 (a1 ∷ b2 ∷ c3 ∷ d0 ∷ [])
      → quarter 1 6 11 12 t
      ≡ rows a0 (get_or q 0 0) a2 a3 b0 b1 (get_or q 1 0) b3 c0 c1 c2 (get_or q 2 0) (get_or q 3 0) d1 d2 d3
  unfolding line
  diagonal1 is e = ap (quarter 1 6 11 12) is ∙ ap (λ r. rows a0 (get_or r 0 0) a2 a3 b0 b1 (get_or r 1 0) b3 c0 c1 c2 (get_or r 2 0) (get_or r 3 0) d1 d2 d3) (sym e)

  pub diagonal2 :
      t ≡ rows a0 a1 a2 a3 b0 b1 b2 b3 c0 c1 c2 c3 d0 d1 d2 d3 → q ≡ quarter 0 1 2 3 (a2 ∷ b3 ∷ c0 ∷ d1 ∷ [])
      → quarter 2 7 8 13 t
      ≡ rows a0 a1 (get_or q 0 0) a3 b0 b1 b2 (get_or q 1 0) (get_or q 2 0) c1 c2 c3 d0 (get_or q 3 0) d2 d3
  unfolding line
  diagonal2 is e = ap (quarter 2 7 8 13) is ∙ ap (λ r. rows a0 a1 (get_or r 0 0) a3 b0 b1 b2 (get_or r 1 0) (get_or r 2 0) c1 c2 c3 d0 (get_or r 3 0) d2 d3) (sym e)

  pub diagonal3 :
      t ≡ rows a0 a1 a2 a3 b0 b1 b2 b3 c0 c1 c2 c3 d0 d1 d2 d3 → q ≡ quarter 0 1 2 3 (a3 ∷ b0 ∷ c1 ∷ d2 ∷ [])
      → quarter 3 4 9 14 t
      ≡ rows a0 a1 a2 (get_or q 0 0) (get_or q 1 0) b1 b2 b3 c0 (get_or q 2 0) c2 c3 d0 d1 (get_or q 3 0) d3
  unfolding line
  diagonal3 is e = ap (quarter 3 4 9 14) is ∙ ap (λ r. rows a0 a1 a2 (get_or r 0 0) (get_or r 1 0) b1 b2 b3 c0 (get_or r 2 0) c2 c3 d0 d1 (get_or r 3 0) d3) (sym e)

pub rounds-none : (s : List ℕ) → rounds 0 s ≡ s
unfolding rounds
rounds-none s = refl

pub rounds-more : (n : ℕ) (s w v : List ℕ) → w ≡ rounds n s → v ≡ inner w → v ≡ rounds (n + 1) s
unfolding rounds
rounds-more n s w v e is = is ∙ ap inner e ∙ sym (ap (λ k. rounds k s) (add-one n))

pub serialized-more :
    (n k : ℕ) (bs ys s w : List ℕ) → k ≡ 4 → length bs ≡ 64 → n < 16 → ys ≡ four (get_or w n 0 ⊞ get_or s n 0)
    → take (4 * n) bs ≡ serialized n s w
    → (length (put_mid (4 * n) k bs ys) ≡ 64) × (take (4 * (n + 1)) (put_mid (4 * n) k bs ys) ≡ serialized (n + 1) s w)
unfolding serialized
serialized-more n k bs ys s w is len lt e inv =
    let four-long = ap length e in
    let on : 4 * (n + 1) ≡ 4 * n + length ys = omega arith in (
      search (rules, overwrites),
      take-put_mid (4 * n) k bs ys _ on (omega arith) ∙ ap (λ l. l ++ ys) inv ∙ ap (λ l. serialized n s w ++ l) e
          ∙ sym (ap (λ j. serialized j s w) (add-one n)),
    )

pub serialized-all :
    (n : ℕ) (bs s w : List ℕ) → n ≡ 16 → length bs ≡ 64 → take (4 * n) bs ≡ serialized n s w → bs ≡ serialized 16 s w
serialized-all n bs s w is len e =
    sym (take_all 64 bs (omega arith)) ∙ ap (λ k. take (4 * k) bs) (sym is) ∙ e ∙ ap (λ k. serialized k s w) is
