-- What SHA-256 and HMAC under way stand for. Assumes nothing. Vocabulary:
--   Holds h m       the hasher h has taken in the message m
--   Keyed h key m   the code h, under the key, has taken in the message m
use Rattle.std.specs.Prelude.{◌≡◌, ℕ, ◌*◌, ◌/◌, ◌%◌, ◌^◌, List, ◌++◌, length, take, drop}
use Rattle.hash.specs.Sha256.{blocks, start}
use Rattle.hash.specs.Hmac.{inner, outer}
use Rattle.hash.specs.declared.message.Hasher.{Hasher}
use Rattle.hash.specs.declared.keyed.Hmac.{Hmac}

-- the whole blocks of m are in the hash value, what is left of it in the buffer
pub record Holds (h : Hasher) (m : List ℕ) : Type 0 where
  pub whole : h.state ≡ blocks (length m / 64) m start
  pub rest : take (length m % 64) h.buffer ≡ drop (64 * (length m / 64)) m
  pub long : h.total ≡ length m % 2 ^ 64

-- the code under the key is under way, and has taken in the message m
pub record Keyed (h : Hmac) (key m : List ℕ) : Type 0 where
  pub under : Holds h.inner (inner key ++ m)
  pub over : Holds h.outer (outer key)
