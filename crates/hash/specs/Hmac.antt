-- HMAC-SHA-256 as RFC 2104 and RFC 6234 (section 8.2) write it, on lists of bytes.
-- Assumes nothing. Vocabulary:
--   block_key   the key as one block: hashed first if it is longer, and filled with zeros
--   masked      each byte of it XORed with ipad or opad
--   hmac        the code of a message under a key, 32 bytes
use Rattle.std.specs.Prelude.{ℕ, ◌-◌, cond, List, ◌++◌, map, length, replicate, bit_xor, nat_lt}
use Rattle.hash.specs.Sha256.{sha256}

-- zeros appended up to a block
abbrev pub filled : List ℕ → List ℕ
filled k = k ++ replicate (64 - length k) 0

-- a key of more than 64 bytes stands for its digest
abbrev pub block_key : List ℕ → List ℕ
block_key key = filled (cond (nat_lt 64 (length key)) (sha256 key) key)

-- K XOR pad
abbrev pub masked : ℕ → List ℕ → List ℕ
masked pad k = map (λ b. bit_xor b pad) k

-- what stands before the message, and before the inner digest
unfoldable pub inner : List ℕ → List ℕ
inner key = masked 0x36 (block_key key)

unfoldable pub outer : List ℕ → List ℕ
outer key = masked 0x5c (block_key key)

-- H(K XOR opad, H(K XOR ipad, text))
unfoldable pub hmac : List ℕ → List ℕ → List ℕ
hmac key m = sha256 (outer key ++ sha256 (inner key ++ m))
