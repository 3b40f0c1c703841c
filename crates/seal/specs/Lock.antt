-- Locks on lists of bytes: sealing, opening, and the digest of a key and a number.
-- Assumes nothing. Vocabulary:
--   lock        16 drawn bytes, the inside turned, and the sum over both, 16 bytes
--   opens       the inside of a word, if its sum fits under this kind and key
--   inside_of   the bytes of a word between the drawn ones and the sum
--   sealed, unsealed   what sealing and opening leave in the word that they are lent
--   digest      the first 16 bytes of SHA-256 of key and number, as a number
-- That what was locked opens again, and that nothing else opens, is OpensAgain and OpensLocks,
-- proved in proofs/Opening.antt.
use Rattle.std.specs.Prelude.{◌≡◌, ℕ, zero, suc, ◌+◌, ◌-◌, ◌*◌, Bool, true, false, cond, ◌&&◌, List, [], ◌∷◌, ◌++◌, length, take, drop, Some, None, Option, ◌==◌, nat_lt, slice_index}
use Rattle.hash.specs.Sha256.{sha256}
use Rattle.hash.specs.Hmac.{hmac}
use Rattle.cipher.specs.ChaCha20.{chacha20}

abbrev pub Bytes : Type 0
Bytes = List ℕ

-- the inside turned, or turned back: ChaCha20 under the code of 1 and the kind, with the first 12 drawn bytes as
-- nonce and counter 0
unfoldable pub turn : ℕ → Bytes → Bytes → Bytes → Bytes
turn kind key drawn bs = chacha20 (hmac key (1 ∷ kind ∷ [])) 0 (take 12 drawn) bs

-- the sum over the drawn bytes and the turned ones: the front of the code of 2, the kind and those
unfoldable pub sum : ℕ → Bytes → Bytes → Bytes
sum kind key body = take 16 (hmac key (2 ∷ kind ∷ body))

-- a lock of a kind, with a key and 16 drawn bytes, over an inside
unfoldable pub lock : ℕ → Bytes → Bytes → Bytes → Bytes
lock kind key drawn inside =
    let body = drawn ++ turn kind key drawn inside in body ++ sum kind key body

-- the parts of a word: all but the sum, the sum, and what lies between the drawn bytes and the sum
abbrev pub body_of : Bytes → Bytes
body_of w = take (length w - 16) w

abbrev pub sum_of : Bytes → Bytes
sum_of w = drop (length w - 16) w

abbrev pub inside_of : Bytes → Bytes
inside_of w = take (length w - 32) (drop 16 w)

-- a word with its inside turned
abbrev pub turned_in : ℕ → Bytes → Bytes → Bytes
turned_in kind key w = take 16 w ++ (turn kind key (take 16 w) (inside_of w) ++ sum_of w)

-- whether two lists are the same
unfoldable pub same : Bytes → Bytes → Bool
same [] [] = true
same [] (y ∷ ys) = false
same (x ∷ xs) [] = false
same (x ∷ xs) (y ∷ ys) = x == y && same xs ys

-- whether a word has room for drawn bytes and a sum, and the sum fits
abbrev pub fits : ℕ → Bytes → Bytes → Bool
fits kind key w = cond (nat_lt (length w) 32) false (same (sum_of w) (sum kind key (body_of w)))

-- what is inside a word that opens
unfoldable pub opens : ℕ → Bytes → Bytes → Option Bytes
opens kind key w = cond (fits kind key w) (Some (turn kind key (take 16 w) (inside_of w))) None

-- a word of drawn bytes, inside and room for the sum, once it is sealed; a shorter one stays
unfoldable pub sealed : ℕ → Bytes → Bytes → Bytes
sealed kind key w = cond (nat_lt (length w) 32) w (lock kind key (take 16 w) (inside_of w))

-- a word once opening was tried: what was inside stands between the drawn bytes and the sum; one that does not
-- open stays
unfoldable pub unsealed : ℕ → Bytes → Bytes → Bytes
unsealed kind key w = cond (fits kind key w) (turned_in kind key w) w

-- what was locked opens with its key and kind, to what was inside
abbrev pub OpensAgain : Type 0
OpensAgain =
    (kind : ℕ) (key drawn inside : Bytes) → length drawn ≡ 16 → opens kind key (lock kind key drawn inside) ≡ Some inside

-- what opens is the lock of what comes out, with its first 16 bytes as the drawn ones
abbrev pub OpensLocks : Type 0
OpensLocks =
    (kind : ℕ) (key w inside : Bytes) → opens kind key w ≡ Some inside → w ≡ lock kind key (take 16 w) inside

-- the number of the first n bytes, high byte first
unfoldable pub number : ℕ → Bytes → ℕ
number zero bs = 0
number (suc n) bs = number n bs * 256 + slice_index bs n

-- the digest of a key and a number
unfoldable pub digest : Bytes → Bytes → ℕ
digest key n = number 16 (sha256 (key ++ n))
