-- What a text of bytes says, word by word. Assumes nothing.
--   before b s      how many bytes of s stand before its first b
--   cut_at b s      what stands before and after the first b of s
--   decimal_of s    the number that s writes in decimal
--   principal_of s  the principal's number that s writes
--   hex_of s        the bytes that s gives in hex
--   key_of s        the key that s gives in hex
use Rattle.std.specs.Prelude.{ℕ, ◌+◌, ◌-◌, ◌*◌, ◌/◌, ◌%◌, ◌^◌, min, Bool, cond, not, ◌&&◌, List, [], ◌++◌, map, length, take, drop, is_some, Some, None, codes, Option, ◌==◌, nat_le, nat_lt, slice_index}
use Rattle.std.specs.List.{list_all, position_or_len}
use Rattle.std.specs.Option.{unwrap_or}
use Rattle.std.specs.Str.Parse.{digits_value}
use Rattle.std.specs.Char.{is_ascii_digit}
use Rattle.std.specs.Simd.{first_chunks}
use Rattle.std.specs.Str.{bytes_eq}
use Rattle.parts.specs.declared.word.Key.{Key}

-- how many bytes stand before the first b
unfoldable pub before : ℕ → List ℕ → ℕ
before b s = position_or_len (λ x. x == b) s

-- what stands before and after the first b
unfoldable pub cut_at : ℕ → List ℕ → Option (List ℕ × List ℕ)
cut_at b s = cond (nat_lt (before b s) (length s))
    (Some (take (before b s) s, drop (before b s + 1) s))
    None

-- the number that digits write; the largest of 64 bits stands for all above it
unfoldable pub number_of : List ℕ → Option ℕ
number_of s = cond (list_all is_ascii_digit s) (Some (min (digits_value 10 s) (2 ^ 64 - 1))) None

-- the same, of at least one digit and with no leading zero
unfoldable pub decimal_of : List ℕ → Option ℕ
decimal_of s = cond (length s == 0) None
    (cond (nat_lt 1 (length s) && slice_index s 0 == 48) None (number_of s))

-- the one, and then the other of what it gave
abbrev pub and_then : {A B : Type 0} → Option A → (A → Option B) → Option B
and_then None f = None
and_then (Some x) f = f x

-- a principal's number
abbrev pub principal_of : List ℕ → Option ℕ
principal_of s = and_then (decimal_of s) (λ n. cond (n == 0) None (cond (nat_lt 1023 n) None (Some n)))

-- a number that two bytes hold
abbrev pub short_of : List ℕ → Option ℕ
short_of s = and_then (decimal_of s) (λ n. cond (nat_lt 65535 n) None (Some n))

-- a word that is read, a space, and what comes after
abbrev pub word_then : {A : Type 0} → (List ℕ → Option A) → List ℕ → Option (A × List ℕ)
word_then read s = and_then (cut_at 32 s) (λ p. and_then (read p.0) (λ x. Some (x, p.1)))

abbrev pub decimal_then : List ℕ → Option (ℕ × List ℕ)
decimal_then s = word_then decimal_of s

abbrev pub principal_then : List ℕ → Option (ℕ × List ℕ)
principal_then s = word_then principal_of s

-- the value of a lower-case hex digit
abbrev pub nibble_of : ℕ → Option ℕ
nibble_of b =
    cond (nat_le 48 b && nat_le b 57) (Some (b - 48))
    (cond (nat_le 97 b && nat_le b 102) (Some (b - 97 + 10)) None)

-- every byte is a hex digit
abbrev pub all_hex : List ℕ → Bool
all_hex s = list_all (λ b. is_some (nibble_of b)) s

-- the byte that two digits write
unfoldable pub octet_of : ℕ → ℕ → ℕ
octet_of high low = unwrap_or (nibble_of high) 0 * 16 + unwrap_or (nibble_of low) 0

-- the byte that a pair of digits writes
abbrev pub pair_octet : List ℕ → ℕ
pair_octet p = octet_of (slice_index p 0) (slice_index p 1)

-- the bytes that pairs of digits write
unfoldable pub octets : List ℕ → List ℕ
octets s = map pair_octet (first_chunks 2 (length s / 2) s)

-- one or more pairs of hex digits
abbrev pub paired : List ℕ → Bool
paired s = not (length s == 0) && (length s % 2 == 0 && all_hex s)

-- the bytes that s gives in hex; a dash gives none
unfoldable pub hex_of : List ℕ → Option (List ℕ)
hex_of s = cond (bytes_eq s (codes "-")) (Some []) (cond (paired s) (Some (octets s)) None)

-- the same, and none where s gives none
abbrev pub bytes_of : List ℕ → List ℕ
bytes_of s = unwrap_or (hex_of s) []

-- those that fit into a room of n
unfoldable pub fitting : ℕ → List ℕ → Option (List ℕ)
fitting n s = and_then (hex_of s) (λ bytes. cond (nat_lt n (length bytes)) None (Some bytes))

-- bytes put to the front of a room
abbrev pub put_front : List ℕ → Option (List ℕ) → List ℕ
put_front old None = old
put_front old (Some bytes) = bytes ++ drop (length bytes) old

-- a key is written in 64 hex digits
abbrev pub key_of : List ℕ → Option Key
key_of s = cond (length s == 64 && all_hex s) (Some (record { 0 = octets s })) None
