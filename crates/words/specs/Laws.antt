-- What holds of the decimals, keys and bytes that are read. Assumes nothing.
--   hex_text bytes     the bytes written in hex
--   bytes_text bytes   the same, with a dash for none
use Rattle.std.specs.Prelude.{◌≡◌, ℕ, ◌+◌, ◌-◌, ◌/◌, ◌%◌, ◌^◌, ◌<◌, cond, List, [], ◌∷◌, length, Some, codes, decimal, nat_lt}
use Rattle.parts.specs.declared.word.Key.{Key}
use Rattle.words.specs.Text.{decimal_of, hex_of, key_of}

-- a number that is written in decimal is read back
abbrev pub DecimalsReadBack : Type 0
DecimalsReadBack = (n : ℕ) → n < 2 ^ 64 → decimal_of (decimal n) ≡ Some n

-- and nothing else is read as that number, up to the one that stands for all larger
abbrev pub DecimalsAreExact : Type 0
DecimalsAreExact = (s : List ℕ) (n : ℕ) → decimal_of s ≡ Some n → n < 2 ^ 64 - 1 → s ≡ decimal n

-- the lower-case hex digit of n
abbrev pub digit_of : ℕ → ℕ
digit_of n = cond (nat_lt n 10) (48 + n) (87 + n)

-- bytes written in hex, two digits each
abbrev pub hex_text : List ℕ → List ℕ
hex_text [] = []
hex_text (b ∷ bytes) = digit_of (b / 16) ∷ digit_of (b % 16) ∷ hex_text bytes

-- numbers that are bytes
abbrev pub Octets : List ℕ → Type 0
Octets [] = Unit {0}
Octets (b ∷ bytes) = (b < 256) × Octets bytes

-- a key that is written in hex is read back
abbrev pub KeysReadBack : Type 0
KeysReadBack = (k : Key) → length k.0 ≡ 32 → Octets k.0 → key_of (hex_text k.0) ≡ Some k

-- and nothing else is read as that key
abbrev pub KeysAreExact : Type 0
KeysAreExact = (s : List ℕ) (k : Key) → key_of s ≡ Some k → s ≡ hex_text k.0

-- bytes written in hex, with a dash for none
abbrev pub bytes_text : List ℕ → List ℕ
bytes_text [] = codes "-"
bytes_text (b ∷ bytes) = hex_text (b ∷ bytes)

-- bytes that are written so are read back
abbrev pub BytesReadBack : Type 0
BytesReadBack = (bytes : List ℕ) → Octets bytes → hex_of (bytes_text bytes) ≡ Some bytes

-- and nothing else is read as those bytes
abbrev pub BytesAreExact : Type 0
BytesAreExact = (s bytes : List ℕ) → hex_of s ≡ Some bytes → s ≡ bytes_text bytes
