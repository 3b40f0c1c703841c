-- A list XORed in place with another, byte by byte and block by block.
use Rattle.std.proofs.Common.{◌≡◌, ℕ, zero, suc, ◌+◌, ◌-◌, ◌*◌, ◌≤◌, min, List, [], ◌∷◌, ◌++◌, length, take, drop, sym, refl, ap, ◌∙◌, ⊎_elim, append_assoc, append-nil, add-one, arith, length-append, length-drop, take-add}
use lib.Bits.{bit_xor, xor_assoc, xor_self, xor_zero_r}
use lib.Lanes.{zip2}
use borrow.Rule.Slice.PartMut.{put_mid}
use Rattle.std.proofs.lemmas.Simd.{length-zip2}
use Rattle.std.proofs.lemmas.List.{take_all, drop_all, drop-drop, drop_at, take_at, length-take-le}
use Rattle.std.proofs.lemmas.Bool.{cases_lt}
use Rattle.cipher.specs.ChaCha20.{rounds, serialized, block, next, later, stream, blocks_of, turned}

module _ (f : ℕ → ℕ → ℕ) where
  pub zip2-append :
      (xs bs ks ds : List ℕ) → length xs ≡ length ks → zip2 f (xs ++ bs) (ks ++ ds) ≡ zip2 f xs ks ++ zip2 f bs ds
  zip2-append [] bs [] ds e = refl
  zip2-append [] bs (k ∷ ks) ds e = absurd (omega arith)
  zip2-append (x ∷ xs) bs [] ds e = absurd (omega arith)
  zip2-append (x ∷ xs) bs (k ∷ ks) ds e = ap (λ l. f x k ∷ l) (zip2-append xs bs ks ds (omega arith))

-- a part that ends at 64 or at the end
whole-or-last :
    (k : ℕ) (l : List ℕ) → k ≡ min 64 (length l) → (take k l ≡ take 64 l) × (drop k l ≡ drop 64 l)
whole-or-last k l e =
    ⊎_elim
    (λ lt.
    let is : k ≡ length l = omega arith in (
      take_all k l (omega arith) ∙ sym (take_all 64 l (omega arith)),
      drop_all k l (omega arith) ∙ sym (drop_all 64 l (omega arith)),
    ))
    (λ ge. let is : k ≡ 64 = omega arith in (ap (λ n. take n l) is, ap (λ n. drop n l) is))
    (cases_lt (length l) 64)

length-serialized : (n : ℕ) (s w : List ℕ) → length (serialized n s w) ≡ 4 * n
unfolding serialized
length-serialized zero s w = refl
length-serialized (suc n) s w =
    length-append (serialized n s w) _ ∙ (let ih = length-serialized n s w in omega arith)

pub length-block : (s : List ℕ) → length (block s) ≡ 64
unfolding block
length-block s = length-serialized 16 s (rounds 10 s)

pub length-stream : (n : ℕ) (s : List ℕ) → length (stream n s) ≡ 64 * n
unfolding stream
length-stream zero s = refl
length-stream (suc n) s =
    length-append (stream n s) (block (later n s))
    ∙ (let ih = length-stream n s in let b = length-block (later n s) in omega arith)

pub stream-more : (n : ℕ) (s : List ℕ) → stream (n + 1) s ≡ stream n s ++ block (later n s)
unfolding stream
stream-more n s = ap (λ k. stream k s) (add-one n)

-- one block more
pub turned_more :
    (n k : ℕ) (s xs ys part key : List ℕ)
    → ys ≡ zip2 bit_xor (take (64 * n) xs) (stream n s) ++ drop (64 * n) xs
    → 64 * n ≤ length xs → k ≡ min (length xs) (64 * n + 64) - 64 * n → key ≡ block (later n s)
    → part ≡ zip2 bit_xor (take k (drop (64 * n) ys)) key
    → put_mid (64 * n) k ys part ≡ zip2 bit_xor (take (64 * (n + 1)) xs) (stream (n + 1) s) ++ drop (64 * (n + 1)) xs
turned_more n k s xs ys part key e le is b p =
    let at = 64 * n in
    let rest = drop at xs in
    let done = zip2 bit_xor (take at xs) (stream n s) in
    let equal : length (take at xs) ≡ length (stream n s) = length-take-le at xs le ∙ sym (length-stream n s) in
    let long : length done ≡ at = length-zip2 bit_xor (take at xs) (stream n s) equal ∙ length-take-le at xs le in
    let behind : drop at ys ≡ rest = ap (drop at) e ∙ drop_at done rest at long in
    let before : take at ys ≡ done = ap (take at) e ∙ take_at done rest at long in
    let cut = whole-or-last k rest (is ∙ (let d = length-drop at xs in omega arith)) in
    let on : 64 * (n + 1) ≡ at + 64 = omega arith in
    let new : part ≡ zip2 bit_xor (take 64 rest) (block (later n s)) =
    p ∙ ap (λ l. zip2 bit_xor (take k l) key) behind ∙ ap (λ l. zip2 bit_xor l key) cut.0
    ∙ ap (zip2 bit_xor (take 64 rest)) b in
    let after : drop k (drop at ys) ≡ drop (64 * (n + 1)) xs =
    ap (drop k) behind ∙ cut.1 ∙ drop-drop 64 at xs ∙ ap (λ j. drop j xs) (sym on) in
    let all : zip2 bit_xor (take (64 * (n + 1)) xs) (stream (n + 1) s) ≡ done ++ zip2 bit_xor (take 64 rest) (block (later n s)) =
    ap (λ j. zip2 bit_xor (take j xs) (stream (n + 1) s)) on
    ∙ ap (λ l. zip2 bit_xor l (stream (n + 1) s)) (take-add at 64 xs)
    ∙ ap (zip2 bit_xor (take at xs ++ take 64 rest)) (stream-more n s)
    ∙ zip2-append bit_xor (take at xs) (take 64 rest) (stream n s) (block (later n s)) equal in
    ap (λ l. l ++ (part ++ drop k (drop at ys))) before ∙ ap (λ l. done ++ (l ++ drop k (drop at ys))) new
    ∙ ap (λ l. done ++ (zip2 bit_xor (take 64 rest) (block (later n s)) ++ l)) after
    ∙ sym (append_assoc done (zip2 bit_xor (take 64 rest) (block (later n s))) (drop (64 * (n + 1)) xs))
    ∙ ap (λ l. l ++ drop (64 * (n + 1)) xs) (sym all)

pub turned-all :
    (n : ℕ) (s xs ys : List ℕ) → n ≡ blocks_of (length xs)
    → ys ≡ zip2 bit_xor (take (64 * n) xs) (stream n s) ++ drop (64 * n) xs → ys ≡ turned s xs
unfolding turned
turned-all n s xs ys is e =
    e ∙ ap (λ l. zip2 bit_xor l (stream n s) ++ drop (64 * n) xs) (take_all (64 * n) xs (omega arith))
    ∙ ap (λ l. zip2 bit_xor xs (stream n s) ++ l) (drop_all (64 * n) xs (omega arith))
    ∙ append-nil (zip2 bit_xor xs (stream n s)) ∙ ap (λ k. zip2 bit_xor xs (stream k s)) is

pub later-none : (s : List ℕ) → later 0 s ≡ s
unfolding later
later-none s = refl

pub later_more : (n : ℕ) (s t : List ℕ) → t ≡ later n s → next t ≡ later (n + 1) s
unfolding later
later_more n s t e = ap next e ∙ sym (ap (λ k. later k s) (add-one n))

xor-back : (a b : ℕ) → bit_xor (bit_xor a b) b ≡ a
xor-back a b = xor_assoc a b b ∙ ap (bit_xor a) (xor_self b) ∙ xor_zero_r a

-- XORed twice with the same bytes
zip2-back : (xs ks : List ℕ) → length xs ≤ length ks → zip2 bit_xor (zip2 bit_xor xs ks) ks ≡ xs
zip2-back [] ks le = refl
zip2-back (x ∷ xs) [] le = absurd (omega arith)
zip2-back (x ∷ xs) (k ∷ ks) le =
    ap (λ b. b ∷ zip2 bit_xor (zip2 bit_xor xs ks) ks) (xor-back x k) ∙ ap (λ l. x ∷ l) (zip2-back xs ks (omega arith))

pub length-zip2-le : (xs ks : List ℕ) → length xs ≤ length ks → length (zip2 bit_xor xs ks) ≡ length xs
length-zip2-le [] ks le = refl
length-zip2-le (x ∷ xs) [] le = absurd (omega arith)
length-zip2-le (x ∷ xs) (k ∷ ks) le = ap suc (length-zip2-le xs ks (omega arith))

enough : (s xs : List ℕ) → length xs ≤ length (stream (blocks_of (length xs)) s)
enough s xs = let n = length-stream (blocks_of (length xs)) s in omega arith

pub length-turned : (s xs : List ℕ) → length (turned s xs) ≡ length xs
unfolding turned
length-turned s xs = length-zip2-le xs _ (enough s xs)

-- turned twice from the same state
pub turned-back : (s xs : List ℕ) → turned s (turned s xs) ≡ xs
unfolding turned
turned-back s xs =
    ap (λ n. zip2 bit_xor (zip2 bit_xor xs (stream (blocks_of (length xs)) s)) (stream (blocks_of n) s))
    (length-zip2-le xs (stream (blocks_of (length xs)) s) (enough s xs))
    ∙ zip2-back xs (stream (blocks_of (length xs)) s) (enough s xs)
