-- Entries in bytes: how many (2), then each as digest (16) and tick (8). Assumes nothing. Vocabulary:
--   packed es        the bytes of entries
--   measured_of bs   how many bytes the entries at the front of bs take, none if they are more than 8,192
--   count_in p       how many entries some bytes hold
--   entry_of bs      the entry in its bytes
--   unpacked p       the entries that they hold
--   Fits e           the numbers of an entry fit their fields
use Rattle.std.specs.Prelude.{ℕ, zero, suc, ◌+◌, ◌*◌, ◌^◌, ◌<◌, Bool, cond, ◌&&◌, List, [], ◌∷◌, ◌++◌, length, take, Some, None, Option, nat_le, nat_lt}
use Rattle.contents.specs.Field.{bytes_of, number, part}
use Rattle.parts.specs.declared.account.Entry.{Entry}
use Rattle.std.specs.List.{flat_map}

-- one entry
unfoldable pub entry_bytes : Entry → List ℕ
entry_bytes e = bytes_of 16 e.digest ++ bytes_of 8 e.tick

-- how many there are
unfoldable pub count_bytes : ℕ → List ℕ
count_bytes n = bytes_of 2 n

-- entries, the oldest first
abbrev pub packed : List Entry → List ℕ
packed es = count_bytes (length es) ++ flat_map entry_bytes es

-- how many bytes the entries at the front take
abbrev pub measured_of : List ℕ → Option ℕ
measured_of bs =
    cond (nat_lt (length bs) 2) None (cond (nat_lt 8192 (number (take 2 bs))) None (Some (2 + 24 * number (take 2 bs))))

-- as many entries as the front says, if there are no more than 8,192 and all are there
abbrev pub is_whole : List ℕ → Bool
is_whole p = nat_le 2 (length p) && (nat_le (number (take 2 p)) 8192 && nat_le (2 + 24 * number (take 2 p)) (length p))

abbrev pub count_in : List ℕ → ℕ
count_in p = cond (is_whole p) (number (take 2 p)) 0

-- the entry in its bytes
abbrev pub entry_of : List ℕ → Entry
entry_of bs = record { digest = number (part 0 16 bs); tick = number (part 16 8 bs) }

-- the entry at a place
abbrev pub entry_at : ℕ → List ℕ → Entry
entry_at i p = record { digest = number (part (2 + 24 * i) 16 p); tick = number (part (2 + 24 * i + 16) 8 p) }

-- the first n entries
unfoldable pub entries_of : ℕ → List ℕ → List Entry
entries_of zero p = []
entries_of (suc n) p = entries_of n p ++ entry_at n p ∷ []

-- all entries
abbrev pub unpacked : List ℕ → List Entry
unpacked p = entries_of (count_in p) p

-- digest and tick fit 16 and 8 bytes
abbrev pub Fits : Entry → Type 0
Fits e = (e.digest < 2 ^ 128) × (e.tick < 2 ^ 64)
