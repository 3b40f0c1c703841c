-- A half in bytes: turn (8), payload, sum (16). Assumes nothing. Vocabulary:
--   Measure          how many bytes the payload has that stands at the front of some bytes, if one does
--   Steady m         what follows a payload does not matter
--   sum_of bs        the first 16 bytes of SHA-256 of bs
--   stamp t          a turn in 8 bytes, high byte first
--   summed bs        bytes with their sum behind them
--   half t p         the bytes of a half with turn t and payload p
--   payload_in x     what stands between turn and sum of a half of just this length
--   is_zero bs       nothing but zeros
--   decoded m x      turn and length of payload of the half at the front of a block, none if it is junk
use Rattle.std.specs.Prelude.{◌≡◌, ℕ, ◌+◌, ◌-◌, Bool, cond, ◌&&◌, ◌||◌, List, ◌++◌, length, take, drop, Some, None, Option, ◌==◌, nat_le, nat_lt}
use Rattle.contents.specs.Field.{bytes_of, number}
use Rattle.halves.specs.declared.half.Half.{Half}
use Rattle.hash.specs.Sha256.{sha256}
use Rattle.std.specs.List.{list_all}
use Rattle.std.specs.Str.{bytes_eq}

-- how many bytes the payload has that stands at the front of some bytes, if one does
abbrev pub Measure : Type 0
Measure = List ℕ → Option ℕ

-- what follows a payload does not matter
abbrev pub Steady : Measure → Type 0
Steady m = (p rest : List ℕ) → m p ≡ Some (length p) → m (p ++ rest) ≡ Some (length p)

-- the first 16 bytes of SHA-256
abbrev pub sum_of : List ℕ → List ℕ
sum_of bs = take 16 (sha256 bs)

-- a turn in bytes
unfoldable pub stamp : ℕ → List ℕ
stamp t = bytes_of 8 t

-- bytes with their sum behind them
abbrev pub summed : List ℕ → List ℕ
summed bs = bs ++ sum_of bs

-- a half with a turn and a payload
abbrev pub half : ℕ → List ℕ → List ℕ
half t p = summed (stamp t ++ p)

-- what stands between turn and sum, where nothing follows the sum
abbrev pub payload_in : List ℕ → List ℕ
payload_in x = take (length x - 24) (drop 8 x)

-- nothing but zeros
abbrev pub is_zero : List ℕ → Bool
is_zero bs = list_all (λ b. b == 0) bs

-- too short for a half, or nothing but zeros
abbrev pub blank : List ℕ → Bool
blank x = nat_lt (length x) 24 || is_zero x

-- a payload of n bytes has room here, and the sum behind it fits
abbrev pub fits : ℕ → List ℕ → Bool
fits n x = nat_le n (length x - 24) && bytes_eq (take 16 (drop (8 + n) x)) (sum_of (take (8 + n) x))

-- the half at the front of a block whose payload has as many bytes as its front says
abbrev pub sized : Option ℕ → List ℕ → Option Half
sized None x = None
sized (Some n) x = cond (fits n x) (Some record { turn = number (take 8 x); len = n }) None

-- the half at the front of a block, none if it is junk
abbrev pub decoded : Measure → List ℕ → Option Half
decoded m x = cond (blank x) None (sized (m (drop 8 x)) x)
