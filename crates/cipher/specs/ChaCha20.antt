-- ChaCha20 as RFC 8439 writes it, on lists of bytes and of sixteen 32-bit words.
-- Assumes nothing. Vocabulary:
--   ◌⊞◌, rotl        addition modulo 2^32, and x <<< n (section 2.1)
--   quarter          QUARTERROUND(a, b, c, d) on a state (sections 2.1 and 2.2)
--   inner            one column round and one diagonal round (section 2.3)
--   setup, block     the state of key, counter and nonce, and its 64 bytes (section 2.3)
--   stream, turned   the key stream, and bytes XORed with it (section 2.4)
use Rattle.std.specs.Prelude.{ℕ, zero, suc, ◌+◌, ◌-◌, ◌*◌, ◌/◌, ◌%◌, ◌^◌, List, [], ◌∷◌, ◌++◌, length, bit_or, bit_xor, slice_index, slice_index_or, slice_set}
use Rattle.std.specs.Simd.Lanes.{zip2}

infixl 65 ◌⊞◌
-- addition modulo 2^32
abbrev pub ◌⊞◌ : ℕ → ℕ → ℕ
x ⊞ y = (x + y) % 2 ^ 32

-- x <<< n
unfoldable pub rotl : ℕ → ℕ → ℕ
rotl n x = bit_or ((x * 2 ^ n) % 2 ^ 32) (x / 2 ^ (32 - n))

-- one line of a quarter round, x += y; z ^= x; z <<<= n, at indices of the state s
abbrev pub plus : ℕ → ℕ → List ℕ → List ℕ
plus x y s = slice_set s x (slice_index_or s x 0 ⊞ slice_index_or s y 0)

abbrev pub mix : ℕ → ℕ → ℕ → List ℕ → List ℕ
mix z x n s = slice_set s z (rotl n (bit_xor (slice_index s z) (slice_index s x)))

unfoldable pub line : ℕ → ℕ → ℕ → ℕ → List ℕ → List ℕ
line x y z n s = mix z x n (plus x y s)

-- QUARTERROUND(a, b, c, d)
abbrev pub quarter : ℕ → ℕ → ℕ → ℕ → List ℕ → List ℕ
quarter a b c d s = line c d b 7 (line a b d 8 (line c d b 12 (line a b d 16 s)))

-- inner_block
unfoldable pub inner : List ℕ → List ℕ
inner s =
    quarter 3 4 9 14 (quarter 2 7 8 13 (quarter 1 6 11 12 (quarter 0 5 10 15
    (quarter 3 7 11 15 (quarter 2 6 10 14 (quarter 1 5 9 13 (quarter 0 4 8 12 s)))))))

-- n times inner_block
unfoldable pub rounds : ℕ → List ℕ → List ℕ
rounds zero s = s
rounds (suc n) s = inner (rounds n s)

-- the word of the four bytes from i on, low byte first
abbrev pub word : List ℕ → ℕ → ℕ
word bs i = slice_index bs i + slice_index bs (i + 1) * 256 + slice_index bs (i + 2) * 65536 + slice_index bs (i + 3) * 16777216

-- a word in four bytes, low byte first
abbrev pub four : ℕ → List ℕ
four x = (x % 256) ∷ (x / 256 % 256) ∷ (x / 65536 % 256) ∷ (x / 16777216 % 256) ∷ []

-- "expand 32-byte k", the eight words of the key, the counter, the three words of the nonce
unfoldable pub setup : List ℕ → ℕ → List ℕ → List ℕ
setup key counter nonce =
    0x61707865 ∷ 0x3320646e ∷ 0x79622d32 ∷ 0x6b206574
    ∷ word key 0 ∷ word key 4 ∷ word key 8 ∷ word key 12
    ∷ word key 16 ∷ word key 20 ∷ word key 24 ∷ word key 28
    ∷ counter ∷ word nonce 0 ∷ word nonce 4 ∷ word nonce 8 ∷ []

-- the bytes of the first n words of the state s plus the working state w
unfoldable pub serialized : ℕ → List ℕ → List ℕ → List ℕ
serialized zero s w = []
serialized (suc n) s w = serialized n s w ++ four (slice_index_or w n 0 ⊞ slice_index_or s n 0)

-- the 64 bytes of a state
unfoldable pub block : List ℕ → List ℕ
block s = serialized 16 s (rounds 10 s)

-- the state of the next block: its counter is one more
abbrev pub next : List ℕ → List ℕ
next s = slice_set s 12 (slice_index_or s 12 0 ⊞ 1)

-- the state n blocks later
unfoldable pub later : ℕ → List ℕ → List ℕ
later zero s = s
later (suc n) s = next (later n s)

-- the key stream of n blocks from a state on
unfoldable pub stream : ℕ → List ℕ → List ℕ
stream zero s = []
stream (suc n) s = stream n s ++ block (later n s)

-- how many blocks n bytes take
abbrev pub blocks_of : ℕ → ℕ
blocks_of n = (n + 63) / 64

-- the bytes XORed with the key stream from a state on
unfoldable pub turned : List ℕ → List ℕ → List ℕ
turned s bs = zip2 bit_xor bs (stream (blocks_of (length bs)) s)

-- the bytes XORed with the key stream of key, counter and nonce: to encrypt, and to decrypt
abbrev pub chacha20 : List ℕ → ℕ → List ℕ → List ℕ → List ℕ
chacha20 key counter nonce bs = turned (setup key counter nonce) bs
