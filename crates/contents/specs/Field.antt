-- Numbers and parts of a row of bytes. Assumes nothing.
--   bytes_of w n  the w bytes of the number n, high byte first
--   number bs     the number that the bytes bs write, high byte first
--   part at n bs  the n bytes of bs from the place `at`
--   Bytes bs      each of bs is below 256
use Rattle.std.specs.Prelude.{ℕ, zero, suc, ◌+◌, ◌*◌, ◌/◌, ◌%◌, ◌^◌, ◌<◌, List, [], ◌∷◌, length, take, drop}

-- the w bytes of n, high byte first
abbrev pub bytes_of : ℕ → ℕ → List ℕ
bytes_of zero n = []
bytes_of (suc w) n = (n / 256 ^ w % 256) ∷ bytes_of w n

-- the number that bytes write, high byte first
abbrev pub number : List ℕ → ℕ
number [] = 0
number (b ∷ bs) = b * 256 ^ length bs + number bs

-- n bytes from the place `at`
abbrev pub part : ℕ → ℕ → List ℕ → List ℕ
part at n bs = take n (drop at bs)

-- each is a byte
abbrev pub Bytes : List ℕ → Type 0
Bytes [] = Unit {0}
Bytes (b ∷ bs) = (b < 256) × Bytes bs
