-- One more word, round or block, at an index n + 1.
use Rattle.std.proofs.Common.{◌≡◌, ℕ, zero, suc, ◌+◌, ◌*◌, ◌<◌, List, [], ◌∷◌, ◌++◌, length, get_or, take, drop, set, sym, refl, ap, ◌∙◌, add-one, arith, rules}
use Rattle.std.proofs.lemmas.List.{get_or-take, get_or-drop, drop-drop, take_more_set, take_all, length-set}
use Rattle.std.proofs.lemmas.Slice.{take-put_mid, overwrites}
use Rattle.std.specs.Simd.{first_chunks}
use borrow.Rule.Slice.PartMut.{put_mid}
use Rattle.hash.specs.Sha256.{word, words, next, extended, round, rounds, ks, blocks, compressed, four, spread}

pub words_more :
    (n : ℕ) (w bs : List ℕ) (v : ℕ) → n < length w → take n w ≡ words n bs → v ≡ word bs (4 * n)
    → take (n + 1) (set w n v) ≡ words (n + 1) bs
unfolding words
words_more n w bs v lt e is =
    let on = ap (λ k. words k bs) (add-one n) in let put = take_more_set w n v lt in cc

-- the word of a part of four
pub word-of_four : (n : ℕ) (ys xs : List ℕ) → ys ≡ take 4 (drop n xs) → word ys 0 ≡ word xs n
word-of_four n ys xs e =
    let at = λ (i : ℕ) (lt : i < 4). ap (λ l. get_or l i 0) e ∙ get_or-take 4 (drop n xs) i 0 lt ∙ get_or-drop n xs i 0 in
    let a = at 0 (omega arith) in
    let b = at 1 (omega arith) in
    let c = at 2 (omega arith) in
    let d = at 3 (omega arith) in
    let none : n + 0 ≡ n = omega arith in
    cc

-- a word is made from the words before it
pub next-take : (n : ℕ) (w : List ℕ) → next n (take (n + 16) w) ≡ next n w
next-take n w =
    let p : n + 14 < n + 16 = omega arith in
    let q : n + 9 < n + 16 = omega arith in
    let r : n + 1 < n + 16 = omega arith in
    let s : n < n + 16 = omega arith in
    simp get_or-take

-- the first n words past the sixteen are made, and the schedule is 64 long
abbrev pub Made : ℕ → List ℕ → List ℕ → Type 0
Made n ws w = (length w ≡ 64) × (take (n + 16) w ≡ extended n ws)

pub made_more :
    (n m : ℕ) (ws w v : List ℕ) → n + 1 ≡ m → n < 48 → Made n ws w → v ≡ set w (n + 16) (next n w) → Made m ws v
unfolding extended
made_more n m ws w v on lt (len, e) is =
    let at : m + 16 ≡ n + 16 + 1 = omega arith in
    let more = ap (λ k. extended k ws) (add-one n) in
    let word : next n w ≡ next n (extended n ws) = sym (next-take n w) ∙ ap (next n) e in (
      ap length is ∙ length-set w (n + 16) (next n w) ∙ len,
      ap (take (m + 16)) is ∙ ap (λ k. take k (set w (n + 16) (next n w))) at
          ∙ take_more_set w (n + 16) (next n w) (omega arith)
          ∙ ap (λ x. take (n + 16) w ++ x ∷ []) word ∙ ap (λ l. l ++ next n (extended n ws) ∷ []) e ∙ sym more
          ∙ ap (λ k. extended k ws) on,
    )

pub rounds-none : (w s : List ℕ) → rounds 0 w s ≡ s
unfolding rounds
rounds-none w s = refl

pub rounds-more :
    (n m : ℕ) (w t s r : List ℕ) → n + 1 ≡ m → s ≡ rounds n w t → r ≡ round (get_or ks n 0) (get_or w n 0) s → r ≡ rounds m w t
unfolding rounds
rounds-more n m w t s r on e is =
    is ∙ ap (round (get_or ks n 0) (get_or w n 0)) e ∙ sym (ap (λ k. rounds k w t) (add-one n)) ∙ ap (λ k. rounds k w t) on

-- an element of a part of eight
of_eight : (n i : ℕ) (xs ys : List ℕ) → ys ≡ take 8 (drop n xs) → i < 8 → get_or ys i 0 ≡ get_or xs (n + i) 0
of_eight n i xs ys e lt = ap (λ l. get_or l i 0) e ∙ get_or-take 8 (drop n xs) i 0 lt ∙ get_or-drop n xs i 0

-- a round with the i-th of eight neighbours of the constants and of the words
pub round-of_eight :
    (n : ℕ) (k w v t : List ℕ) → k ≡ take 8 (drop n ks) → w ≡ take 8 (drop n v)
    → (i : ℕ) (s r : List ℕ) → i < 8 → s ≡ rounds (n + i) v t
    → r ≡ round (get_or k i 0) (get_or w i 0) s → r ≡ rounds (n + (i + 1)) v t
round-of_eight n k w v t ks-are ws-are i s r lt e is =
    let on : n + i + 1 ≡ n + (i + 1) = omega arith in
    rounds-more (n + i) (n + (i + 1)) v t s r on e
    (is ∙ ap (λ x. round x (get_or w i 0) s) (of_eight n i ks k ks-are lt)
    ∙ ap (λ x. round (get_or ks (n + i) 0) x s) (of_eight n i v w ws-are lt))

-- one of the parts that a list is cut into
part : (n k i : ℕ) (xs : List ℕ) → i < k → get_or (first_chunks n k xs) i [] ≡ take n (drop (i * n) xs)
part n zero i xs lt = absurd (omega arith)
part n (suc k) zero xs lt = let none : zero ≡ zero * n = omega arith in ap (λ j. take n (drop j xs)) none
part n (suc k) (suc i) xs lt =
    let on : n + i * n ≡ suc i * n = grind arith in
    part n k i (drop n xs) (omega arith) ∙ ap (take n) (drop-drop (i * n) n xs) ∙ ap (λ j. take n (drop j xs)) on

pub part-is :
    (n k i j : ℕ) (xs : List ℕ) (parts : List (List ℕ)) → parts ≡ first_chunks n k xs → i < k → i * n ≡ j
    → get_or parts i [] ≡ take n (drop j xs)
part-is n k i j xs parts e lt at = ap (λ l. get_or l i []) e ∙ part n k i xs lt ∙ ap (λ m. take n (drop m xs)) at

pub blocks_more : (n : ℕ) (m h : List ℕ) → blocks (n + 1) m h ≡ compressed (blocks n m h) (take 64 (drop (64 * n) m))
unfolding blocks
blocks_more n m h = ap (λ k. blocks k m h) (add-one n)

pub spread-more :
    (n k : ℕ) (bs ys ws : List ℕ) → k ≡ 4 → length bs ≡ 32 → n < 8 → ys ≡ four (get_or ws n 0) → take (4 * n) bs ≡ spread n ws
    → (length (put_mid (4 * n) k bs ys) ≡ 32) × (take (4 * (n + 1)) (put_mid (4 * n) k bs ys) ≡ spread (n + 1) ws)
unfolding spread
spread-more n k bs ys ws is len lt e inv =
    let four-long = ap length e in
    let on : 4 * (n + 1) ≡ 4 * n + length ys = omega arith in (
      search (rules, overwrites),
      take-put_mid (4 * n) k bs ys _ on (omega arith) ∙ ap (λ l. l ++ ys) inv ∙ ap (λ l. spread n ws ++ l) e
          ∙ sym (ap (λ j. spread j ws) (add-one n)),
    )

pub spread-all :
    (n : ℕ) (bs ws : List ℕ) → n ≡ 8 → length bs ≡ 32 → take (4 * n) bs ≡ spread n ws → bs ≡ spread 8 ws
spread-all n bs ws is len e =
    sym (take_all 32 bs (omega arith)) ∙ ap (λ k. take (4 * k) bs) (sym is) ∙ e ∙ ap (λ k. spread k ws) is
