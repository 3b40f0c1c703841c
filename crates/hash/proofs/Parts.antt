-- A message that comes in parts: what a hasher holds after one more of them.
use Rattle.std.proofs.Common.{◌≡◌, ℕ, zero, suc, ◌+◌, ◌-◌, ◌*◌, ◌/◌, ◌%◌, ◌^◌, ◌<◌, ◌≤◌, List, ◌∷◌, ◌++◌, length, take, drop, replicate, sym, refl, ap, ◌∙◌, append_assoc, append-nil, add-zero, add-suc, arith, length-append, length-drop}
use native.Mathlib.Nat.{mod-add-mod}
use Rattle.std.proofs.lemmas.List.{drop-append-le, take-append-le, drop-drop, take-append-drop, length-take-le, take_at, drop_at, drop_all, take-replicate}
use Rattle.std.specs.List.{fold}
use Rattle.std.specs.Simd.{first_chunks}
use Rattle.hash.specs.Sha256.{blocks, compressed, start, zeros, eight, padded, spread, sha256}
use Rattle.hash.specs.Hasher.{Holds}
use Rattle.hash.proofs.Rounds.{blocks_more}
use Rattle.hash.specs.declared.message.Hasher.{Hasher}

-- what follows the blocks does not matter
pub blocks-append : (k : ℕ) (m x h : List ℕ) → 64 * k ≤ length m → blocks k (m ++ x) h ≡ blocks k m h
unfolding blocks
blocks-append zero m x h le = refl
blocks-append (suc k) m x h le =
    let ih = blocks-append k m x h (omega arith) in
    let block : take 64 (drop (64 * k) (m ++ x)) ≡ take 64 (drop (64 * k) m) =
    ap (take 64) (drop-append-le (64 * k) m x (omega arith))
    ∙ take-append-le 64 (drop (64 * k) m) x (simp length-drop (omega arith)) in
    ap (λ s. compressed s (take 64 (drop (64 * k) (m ++ x)))) ih ∙ ap (compressed (blocks k m h)) block

-- blocks after blocks
pub blocks-add : (j k : ℕ) (m h : List ℕ) → blocks k (drop (64 * j) m) (blocks j m h) ≡ blocks (j + k) m h
unfolding blocks
blocks-add j zero m h = ap (λ n. blocks n m h) (sym (add-zero j))
blocks-add j (suc k) m h =
    let on : 64 * j + 64 * k ≡ 64 * (j + k) = omega arith in
    ap (λ s. compressed s (take 64 (drop (64 * k) (drop (64 * j) m)))) (blocks-add j k m h)
    ∙ ap (λ l. compressed (blocks (j + k) m h) (take 64 l)) (drop-drop (64 * k) (64 * j) m)
    ∙ ap (λ n. compressed (blocks (j + k) m h) (take 64 (drop n m))) on
    ∙ ap (λ n. blocks n m h) (sym (add-suc j k))

-- blocks as they are cut from a message
blocks-cut : (k : ℕ) (m h : List ℕ) → fold compressed h (first_chunks 64 k m) ≡ blocks k m h
unfolding blocks
blocks-cut zero m h = refl
blocks-cut (suc k) m h =
    let on : 1 + k ≡ suc k = omega arith in
    blocks-cut k (drop 64 m) (compressed h (take 64 m)) ∙ blocks-add 1 k m h ∙ ap (λ n. blocks n m h) on

-- the front of a buffer that was written to from f on
take_put : (r f : ℕ) (buf b z : List ℕ) → f ≤ length buf → r ≡ f + length b → take r (take f buf ++ (b ++ z)) ≡ take f buf ++ b
take_put r f buf b z le is =
    let long : length (take f buf ++ b) ≡ r = length-append (take f buf) b ∙ ap (λ k. k + length b) (length-take-le f buf le) ∙ sym is in
    ap (take r) (sym (append_assoc (take f buf) b z)) ∙ take_at (take f buf ++ b) z r long

-- a part that does not fill the buffer
pub holds-short :
    (s : Hasher) (m b buf : List ℕ) → length s.buffer ≡ 64 → Holds s m → length b < 64 - s.total % 64
    → buf ≡ take (s.total % 64) s.buffer ++ (b ++ drop (s.total % 64 + length b) s.buffer)
    → Holds (record { state = s.state; buffer = buf; total = (s.total + length b) % 2 ^ 64 }) (m ++ b)
holds-short s m b buf full h lt e =
    let n = length m in
    let f : s.total % 64 ≡ n % 64 = omega (arith, h.long) in
    let len = length-append m b in
    let q : length (m ++ b) / 64 ≡ n / 64 = omega arith in
    record {
      whole = h.whole ∙ sym (blocks-append (n / 64) m b start (omega arith)) ∙ ap (λ k. blocks k (m ++ b) start) (sym q);
      rest =
          ap (take (length (m ++ b) % 64)) e
          ∙ take_put (length (m ++ b) % 64) (s.total % 64) s.buffer b _ (omega arith) (omega arith)
          ∙ ap (λ k. take k s.buffer ++ b) f ∙ ap (λ l. l ++ b) h.rest
          ∙ sym (drop-append-le (64 * (n / 64)) m b (omega arith)) ∙ ap (λ k. drop (64 * k) (m ++ b)) (sym q);
      long = ap (λ t. (t + length b) % 2 ^ 64) h.long ∙ mod-add-mod n (2 ^ 64) (length b) ∙ ap (λ k. k % 2 ^ 64) (sym len);
    }

-- a part that fills the block which the message m left open at f
module _ (m b : List ℕ) (f : ℕ) (open' : f ≡ length m % 64) (enough : 64 ≤ f + length b) where
  abbrev pub left : List ℕ
  left = drop (64 * (length m / 64)) m

  abbrev pub front : List ℕ
  front = take (64 - f) b

  abbrev pub behind : List ℕ
  behind = drop (64 - f) b

  long-block : length (left ++ front) ≡ 64
  long-block =
      length-append left front
      ∙ (rw (length-drop, length-take-le (64 - f) b (omega arith)) (omega arith))

  cut : drop (64 * (length m / 64)) (m ++ b) ≡ (left ++ front) ++ behind
  cut =
      drop-append-le (64 * (length m / 64)) m b (omega arith)
      ∙ ap (λ l. left ++ l) (sym (take-append-drop (64 - f) b))
      ∙ sym (append_assoc left front behind)

  pub block-is : take 64 (drop (64 * (length m / 64)) (m ++ b)) ≡ left ++ front
  block-is = ap (take 64) cut ∙ take_at (left ++ front) behind 64 long-block

  pub behind-is : behind ≡ drop (64 * (length m / 64 + 1)) (m ++ b)
  behind-is =
      sym (drop_at (left ++ front) behind 64 long-block) ∙ ap (drop 64) (sym cut)
      ∙ drop-drop 64 (64 * (length m / 64)) (m ++ b)
      ∙ ap (λ k. drop k (m ++ b)) (let e : 64 * (length m / 64) + 64 ≡ 64 * (length m / 64 + 1) = omega arith in e)

  -- how many whole blocks are behind it, and how much is left after them
  pub counted : length m / 64 + 1 + length behind / 64 ≡ length (m ++ b) / 64
  counted = rw (length-append, length-drop) (omega arith)

  pub tail-is : drop (length behind / 64 * 64) behind ≡ drop (64 * (length (m ++ b) / 64)) (m ++ b)
  tail-is =
      let k : length behind / 64 * 64 ≡ 64 * (length behind / 64) = omega arith in
      let n : 64 * (length m / 64 + 1) + 64 * (length behind / 64) ≡ 64 * (length (m ++ b) / 64) = omega (arith, counted) in
      ap (λ j. drop j behind) k ∙ ap (drop (64 * (length behind / 64))) behind-is
      ∙ drop-drop (64 * (length behind / 64)) (64 * (length m / 64 + 1)) (m ++ b) ∙ ap (λ j. drop j (m ++ b)) n

-- the same part: front fills the buffer, rest is cut into whole blocks, and tail is kept
pub holds-long :
    (s : Hasher) (m b front rest full state : List ℕ) (whole : List (List ℕ)) (next tail last : List ℕ)
    → length s.buffer ≡ 64 → Holds s m → 64 - s.total % 64 ≤ length b
    → front ≡ take (64 - s.total % 64) b → rest ≡ drop (64 - s.total % 64) b
    → full ≡ take (s.total % 64) s.buffer ++ (front ++ drop (s.total % 64 + length front) s.buffer)
    → state ≡ compressed s.state full
    → whole ≡ first_chunks 64 (length rest / 64) rest
    → next ≡ fold compressed state whole
    → tail ≡ drop (length rest / 64 * 64) rest
    → last ≡ take 0 full ++ (tail ++ drop (0 + length tail) full)
    → Holds (record { state = next; buffer = last; total = (s.total + length b) % 2 ^ 64 }) (m ++ b)
holds-long s m b front rest full state whole next tail last sized h ge fr re e p cut q t l =
    let f = s.total % 64 in
    let at : f ≡ length m % 64 = omega (arith, h.long) in
    let enough : 64 ≤ f + length b = omega arith in
    let i = length m / 64 in
    let all : full ≡ take 64 (drop (64 * i) (m ++ b)) =
    e ∙ ap (λ x. take f s.buffer ++ (front ++ x))
    (drop_all _ s.buffer (let n : length front ≡ 64 - f = ap length fr ∙ length-take-le (64 - f) b ge in omega arith))
    ∙ ap (λ x. take f s.buffer ++ x) (append-nil front)
    ∙ ap (λ j. take j s.buffer ++ front) at ∙ ap (λ x. x ++ front) h.rest ∙ ap (λ x. left m b f at enough ++ x) fr
    ∙ sym (block-is m b f at enough) in
    let one : state ≡ blocks (i + 1) (m ++ b) start =
    p ∙ ap (compressed s.state) all
    ∙ ap (λ x. compressed x (take 64 (drop (64 * i) (m ++ b)))) (h.whole ∙ sym (blocks-append i m b start (omega arith)))
    ∙ sym (blocks_more i (m ++ b) start) in
    let behind-is' : rest ≡ drop (64 * (i + 1)) (m ++ b) = re ∙ behind-is m b f at enough in
    let counted' : i + 1 + length rest / 64 ≡ length (m ++ b) / 64 =
    ap (λ x. i + 1 + length x / 64) re ∙ counted m b f at enough in
    let kept : tail ≡ drop (64 * (length (m ++ b) / 64)) (m ++ b) =
    t ∙ ap (λ x. drop (length x / 64 * 64) x) re ∙ tail-is m b f at enough in
    let size : length tail ≡ length (m ++ b) % 64 =
    ap length kept ∙ length-drop (64 * (length (m ++ b) / 64)) (m ++ b) ∙ (omega arith) in
    record {
      whole =
          q ∙ ap (fold compressed state) cut ∙ blocks-cut (length rest / 64) rest state
          ∙ ap (blocks (length rest / 64) rest) one
          ∙ ap (λ x. blocks (length rest / 64) x (blocks (i + 1) (m ++ b) start)) behind-is'
          ∙ blocks-add (i + 1) (length rest / 64) (m ++ b) start ∙ ap (λ j. blocks j (m ++ b) start) counted';
      rest = ap (take (length (m ++ b) % 64)) l ∙ take_at tail _ (length (m ++ b) % 64) size ∙ kept;
      long =
          ap (λ x. (x + length b) % 2 ^ 64) h.long ∙ mod-add-mod (length m) (2 ^ 64) (length b)
          ∙ ap (λ j. j % 2 ^ 64) (sym (length-append m b));
    }

-- the padding, as two parts
pub padded-is :
    (t : ℕ) (m bits : List ℕ) → t ≡ length m % 2 ^ 64 → bits ≡ eight ((t * 8) % 2 ^ 64)
    → (m ++ take (zeros t + 1 - 0) (0x80 ∷ replicate 63 0)) ++ bits ≡ padded m
padded-is t m bits long e =
    let n = length m in
    let z : zeros t ≡ zeros n = omega arith in
    let k : zeros t + 1 - 0 ≡ suc (zeros n) = omega arith in
    let b : (t * 8) % 2 ^ 64 ≡ 8 * n % 2 ^ 64 = omega arith in
    ap (λ j. (m ++ take j (0x80 ∷ replicate 63 0)) ++ bits) k
    ∙ ap (λ l. (m ++ (0x80 ∷ l)) ++ bits) (take-replicate (zeros n) 63 0 (omega arith))
    ∙ ap (λ l. (m ++ (0x80 ∷ replicate (zeros n) 0)) ++ l) (e ∙ ap eight b)
    ∙ append_assoc m (0x80 ∷ replicate (zeros n) 0) (eight (8 * n % 2 ^ 64))

-- the digest, once the padding is taken in
pub finished :
    (s : Hasher) (m all r : List ℕ) → Holds s all → all ≡ padded m → r ≡ spread 8 s.state → r ≡ sha256 m
unfolding sha256
finished s m all r h e is = is ∙ ap (spread 8) (h.whole ∙ ap (λ l. blocks (length l / 64) l start) e)

-- a digest and a code have 32 bytes
length-spread : (n : ℕ) (ws : List ℕ) → length (spread n ws) ≡ 4 * n
unfolding spread
length-spread zero ws = refl
length-spread (suc n) ws = length-append (spread n ws) _ ∙ (let ih = length-spread n ws in omega arith)

pub length-sha256 : (m : List ℕ) → length (sha256 m) ≡ 32
unfolding sha256
length-sha256 m = length-spread 8 _
