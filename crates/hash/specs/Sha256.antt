-- SHA-256 as RFC 6234 writes it, on lists of bytes and of 32-bit words.
-- Assumes nothing. Vocabulary:
--   rotr, shr, not32, ◌⊞◌   rotation, shift, complement and addition of 32-bit words (section 3)
--   ch .. ssig1             the six functions on words (section 5.1)
--   ks, start               the constants K and the first hash value (sections 5.1 and 6.1)
--   padded                  the message with its padding (section 4.1)
--   schedule, rounds        the message schedule and the 64 rounds of a block (section 6.2)
--   blocks                  the hash value after a number of blocks (section 6.2)
--   spread                  words as bytes
--   sha256                  the digest, 32 bytes
use Rattle.std.specs.Prelude.{ℕ, zero, suc, ◌+◌, ◌-◌, ◌*◌, ◌/◌, ◌%◌, ◌^◌, List, [], ◌∷◌, ◌++◌, length, take, drop, replicate, bit_and, bit_or, bit_xor, slice_index, slice_index_or}

infixl 65 ◌⊞◌
-- addition modulo 2^32
abbrev pub ◌⊞◌ : ℕ → ℕ → ℕ
x ⊞ y = (x + y) % 2 ^ 32

-- ROTR^n(x) = (x>>n) OR (x<<(32-n))
unfoldable pub rotr : ℕ → ℕ → ℕ
rotr n x = bit_or (x / 2 ^ n) ((x * 2 ^ (32 - n)) % 2 ^ 32)

-- SHR^n(x) = x>>n
abbrev pub shr : ℕ → ℕ → ℕ
shr n x = x / 2 ^ n

-- NOT x
abbrev pub not32 : ℕ → ℕ
not32 x = 2 ^ 32 - 1 - x

-- ch(x, y, z) = (x AND y) XOR ((NOT x) AND z)
unfoldable pub ch : ℕ → ℕ → ℕ → ℕ
ch x y z = bit_xor (bit_and x y) (bit_and (not32 x) z)

-- maj(x, y, z) = (x AND y) XOR (x AND z) XOR (y AND z)
unfoldable pub maj : ℕ → ℕ → ℕ → ℕ
maj x y z = bit_xor (bit_xor (bit_and x y) (bit_and x z)) (bit_and y z)

-- bsig0(x) = ROTR^2(x) XOR ROTR^13(x) XOR ROTR^22(x)
unfoldable pub bsig0 : ℕ → ℕ
bsig0 x = bit_xor (bit_xor (rotr 2 x) (rotr 13 x)) (rotr 22 x)

-- bsig1(x) = ROTR^6(x) XOR ROTR^11(x) XOR ROTR^25(x)
unfoldable pub bsig1 : ℕ → ℕ
bsig1 x = bit_xor (bit_xor (rotr 6 x) (rotr 11 x)) (rotr 25 x)

-- ssig0(x) = ROTR^7(x) XOR ROTR^18(x) XOR SHR^3(x)
unfoldable pub ssig0 : ℕ → ℕ
ssig0 x = bit_xor (bit_xor (rotr 7 x) (rotr 18 x)) (shr 3 x)

-- ssig1(x) = ROTR^17(x) XOR ROTR^19(x) XOR SHR^10(x)
unfoldable pub ssig1 : ℕ → ℕ
ssig1 x = bit_xor (bit_xor (rotr 17 x) (rotr 19 x)) (shr 10 x)

-- K(0) to K(63)
unfoldable pub ks : List ℕ
ks =
    0x428a2f98 ∷ 0x71374491 ∷ 0xb5c0fbcf ∷ 0xe9b5dba5 ∷ 0x3956c25b ∷ 0x59f111f1 ∷ 0x923f82a4 ∷ 0xab1c5ed5
    ∷ 0xd807aa98 ∷ 0x12835b01 ∷ 0x243185be ∷ 0x550c7dc3 ∷ 0x72be5d74 ∷ 0x80deb1fe ∷ 0x9bdc06a7 ∷ 0xc19bf174
    ∷ 0xe49b69c1 ∷ 0xefbe4786 ∷ 0x0fc19dc6 ∷ 0x240ca1cc ∷ 0x2de92c6f ∷ 0x4a7484aa ∷ 0x5cb0a9dc ∷ 0x76f988da
    ∷ 0x983e5152 ∷ 0xa831c66d ∷ 0xb00327c8 ∷ 0xbf597fc7 ∷ 0xc6e00bf3 ∷ 0xd5a79147 ∷ 0x06ca6351 ∷ 0x14292967
    ∷ 0x27b70a85 ∷ 0x2e1b2138 ∷ 0x4d2c6dfc ∷ 0x53380d13 ∷ 0x650a7354 ∷ 0x766a0abb ∷ 0x81c2c92e ∷ 0x92722c85
    ∷ 0xa2bfe8a1 ∷ 0xa81a664b ∷ 0xc24b8b70 ∷ 0xc76c51a3 ∷ 0xd192e819 ∷ 0xd6990624 ∷ 0xf40e3585 ∷ 0x106aa070
    ∷ 0x19a4c116 ∷ 0x1e376c08 ∷ 0x2748774c ∷ 0x34b0bcb5 ∷ 0x391c0cb3 ∷ 0x4ed8aa4a ∷ 0x5b9cca4f ∷ 0x682e6ff3
    ∷ 0x748f82ee ∷ 0x78a5636f ∷ 0x84c87814 ∷ 0x8cc70208 ∷ 0x90befffa ∷ 0xa4506ceb ∷ 0xbef9a3f7 ∷ 0xc67178f2
    ∷ []

-- H(0): the hash value before the first block
unfoldable pub start : List ℕ
start =
    0x6a09e667 ∷ 0xbb67ae85 ∷ 0x3c6ef372 ∷ 0xa54ff53a
    ∷ 0x510e527f ∷ 0x9b05688c ∷ 0x1f83d9ab ∷ 0x5be0cd19 ∷ []

-- the word of the four bytes from i on, high byte first
abbrev pub word : List ℕ → ℕ → ℕ
word bs i = slice_index bs i * 16777216 + slice_index bs (i + 1) * 65536 + slice_index bs (i + 2) * 256 + slice_index bs (i + 3)

-- the first n words of a block
unfoldable pub words : ℕ → List ℕ → List ℕ
words zero bs = []
words (suc n) bs = words n bs ++ word bs (4 * n) ∷ []

-- Wt of sixteen words and those made before it: t is n + 16
abbrev pub next : ℕ → List ℕ → ℕ
next n w = ssig1 (slice_index w (n + 14)) ⊞ slice_index_or w (n + 9) 0 ⊞ ssig0 (slice_index w (n + 1)) ⊞ slice_index_or w n 0

-- sixteen words and n more
unfoldable pub extended : ℕ → List ℕ → List ℕ
extended zero w = w
extended (suc n) w = extended n w ++ next n (extended n w) ∷ []

-- the message schedule of a block of 64 bytes
abbrev pub schedule : List ℕ → List ℕ
schedule bs = extended 48 (words 16 bs)

-- t1 and t2 of one round; the working variables a to h are the list s
abbrev pub t1 : ℕ → ℕ → List ℕ → ℕ
t1 k w s =
    slice_index_or s 7 0 ⊞ bsig1 (slice_index s 4) ⊞ ch (slice_index s 4) (slice_index s 5) (slice_index s 6) ⊞ k ⊞ w

abbrev pub t2 : List ℕ → ℕ
t2 s = bsig0 (slice_index s 0) ⊞ maj (slice_index s 0) (slice_index s 1) (slice_index s 2)

-- one round
abbrev pub round : ℕ → ℕ → List ℕ → List ℕ
round k w s =
    (t1 k w s ⊞ t2 s) ∷ slice_index s 0 ∷ slice_index s 1 ∷ slice_index s 2
    ∷ (slice_index_or s 3 0 ⊞ t1 k w s) ∷ slice_index s 4 ∷ slice_index s 5 ∷ slice_index s 6 ∷ []

-- the first n rounds
unfoldable pub rounds : ℕ → List ℕ → List ℕ → List ℕ
rounds zero w s = s
rounds (suc n) w s = round (slice_index ks n) (slice_index w n) (rounds n w s)

-- each working variable added to its part of the hash value h
abbrev pub added : List ℕ → List ℕ → List ℕ
added s h =
    (slice_index_or s 0 0 ⊞ slice_index_or h 0 0) ∷ (slice_index_or s 1 0 ⊞ slice_index_or h 1 0) ∷ (slice_index_or s 2 0 ⊞ slice_index_or h 2 0) ∷ (slice_index_or s 3 0 ⊞ slice_index_or h 3 0)
    ∷ (slice_index_or s 4 0 ⊞ slice_index_or h 4 0) ∷ (slice_index_or s 5 0 ⊞ slice_index_or h 5 0) ∷ (slice_index_or s 6 0 ⊞ slice_index_or h 6 0) ∷ (slice_index_or s 7 0 ⊞ slice_index_or h 7 0) ∷ []

-- the hash value h after one more block
unfoldable pub compressed : List ℕ → List ℕ → List ℕ
compressed h bs = added (rounds 64 (schedule bs) h) h

-- the hash value h after the first n blocks of a message
unfoldable pub blocks : ℕ → List ℕ → List ℕ → List ℕ
blocks zero m h = h
blocks (suc n) m h = compressed (blocks n m h) (take 64 (drop (64 * n) m))

-- how many zero bytes the padding of n bytes has
abbrev pub zeros : ℕ → ℕ
zeros n = (119 - n % 64) % 64

-- a 64-bit number in eight bytes, high byte first
abbrev pub eight : ℕ → List ℕ
eight n =
    (n / 72057594037927936 % 256) ∷ (n / 281474976710656 % 256) ∷ (n / 1099511627776 % 256)
    ∷ (n / 4294967296 % 256) ∷ (n / 16777216 % 256) ∷ (n / 65536 % 256) ∷ (n / 256 % 256) ∷ (n % 256) ∷ []

-- what is appended to a message of n bytes: a one, zeros, and its length in bits
abbrev pub padding : ℕ → List ℕ
padding n = (0x80 ∷ replicate (zeros n) 0) ++ eight (8 * n % 2 ^ 64)

-- the message with its padding, a whole number of blocks
abbrev pub padded : List ℕ → List ℕ
padded m = m ++ padding (length m)

-- a word in four bytes, high byte first
abbrev pub four : ℕ → List ℕ
four x = (x / 16777216 % 256) ∷ (x / 65536 % 256) ∷ (x / 256 % 256) ∷ (x % 256) ∷ []

-- the bytes of the first n words
unfoldable pub spread : ℕ → List ℕ → List ℕ
spread zero ws = []
spread (suc n) ws = spread n ws ++ four (slice_index ws n)

-- the digest of a message: the bytes of the last hash value
unfoldable pub sha256 : List ℕ → List ℕ
sha256 m = spread 8 (blocks (length (padded m) / 64) (padded m) start)
