-- One row over bytes that meets every premise, so that what the promises rest on can be met: a reader served by six calls with the words
-- that were sent, the same word again refused, bytes that are no word, a theft, a login that outsiders made with the stolen key and that
-- the house grants, a closing. The lock here hides nothing: the promises hold for every fair way to lock, and what is assumed of locks is seen
-- at once with this one. The proof is in proofs/HappensRow.antt. Assumes nothing.
--
-- plain            a lock that hides nothing: the drawn bytes, the kind, the key and the inside one after the other, and 16 zeros
-- w1 .. w5         the words of the six calls; w6: the outsiders' login
-- happens          the row of calls
-- CanHappen        it meets every premise, and tells just that line, that deed and those keys
use Rattle.std.specs.Prelude.{◌≡◌, ℕ, ◌+◌, ◌-◌, ◌*◌, true, cond, List, [], ◌∷◌, ◌++◌, length, take, replicate, Some, None, Option, slice_index, Err}
use Rattle.byte_rows.specs.Premise.{Fair, Row}
use Rattle.byte_rows.specs.Row.{deeds, keys, lines}
use Rattle.byte_rows.specs.Served.{Opens, Ready}
use Rattle.byte_rows.specs.System.{Basis, Call, answered, brings, closes, hands, opens, run, steals, tells, wants}
use Rattle.contents.specs.Field.{part}
use Rattle.contents.specs.Inside.{write_asking, write_letter, write_login, write_ticket}
use Rattle.house_rules.specs.Account.{closed}
use Rattle.locked.specs.Locked.{Bytes, Locks}
use Rattle.parts.specs.declared.fault.Fault.TheVariants.{DoneBefore}
use Rattle.parts.specs.declared.word.Key.{Key}
use Rattle.parts.specs.declared.word.Number.{Number}
use Rattle.parts.specs.declared.word.What.{What}
use Rattle.rows.specs.Row.{Deed, Given, Wanted}
use Rattle.rows.specs.System.{House, Reader, Service}
use Rattle.std.specs.Str.{bytes_eq}
use Rattle.wire.specs.Word.{asking, login, ticket_and_letter, write_word}

-- what is shown after the drawn bytes
abbrev pub mark : ℕ → Bytes → Bytes
mark kind key = kind ∷ take 32 key

abbrev pub plain_lock : (kind : ℕ) (key drawn inside : Bytes) → Bytes
plain_lock kind key drawn inside = drawn ++ (mark kind key ++ (inside ++ replicate 16 0))

abbrev pub plain_opens : (kind : ℕ) (key word : Bytes) → Option Bytes
plain_opens kind key w =
    cond (bytes_eq (part 16 (length (mark kind key)) w) (mark kind key))
    (Some (part (16 + length (mark kind key)) (length w - (32 + length (mark kind key))) w)) None

abbrev pub plain : Locks
plain = record { lock = plain_lock; opens = plain_opens; digest = λ k m. slice_index k 0 * 256 + slice_index m 0 }

-- a key and a number of equal bytes
abbrev pub key_of : ℕ → Key
key_of b = record { 0 = replicate 32 b }

abbrev pub number_of : ℕ → Number
number_of b = record { 0 = replicate 16 b }

-- the house 0, the readers 1 and 3, and the service 2
abbrev pub basis : Basis
basis = record { life = 100; lag = 5; own = key_of 1 ∷ key_of 2 ∷ key_of 3 ∷ key_of 4 ∷ [] }

abbrev pub words : What
words = record { len = 2; bytes = 7 ∷ 8 ∷ [] }

-- the accounts and the drawn bytes, at tick 10
abbrev pub before : List Call
before =
    hands (Service 2) (replicate 16 31)
    ∷ hands House (replicate 32 21 ++ (replicate 16 22 ++ (replicate 16 23 ++ (replicate 32 24 ++ (replicate 16 25 ++ (replicate 16 26 ++ (replicate 32 27 ++ (replicate 16 28 ++ replicate 16 29))))))))
    ∷ hands (Reader 1) (replicate 16 11 ++ (replicate 16 12 ++ (replicate 16 13 ++ (replicate 16 14 ++ (replicate 16 15 ++ replicate 16 16)))))
    ∷ opens 3 (key_of 4) true
    ∷ opens 2 (key_of 3) true
    ∷ opens 1 (key_of 2) true
    ∷ []

-- the login, which the line sends
abbrev pub w1 : Bytes
w1 = write_word (login 1 (plain_lock 4 (replicate 32 2) (replicate 16 12) (write_login (record { number = number_of 11; tick = 10 }))))

-- the ticket for the house and its letter
abbrev pub house_ticket : Bytes
house_ticket = plain_lock 1 (replicate 32 1) (replicate 16 22) (write_ticket (record { service = 0; reader = 1; key = key_of 21; until = 110 }))

abbrev pub w2 : Bytes
w2 = write_word (ticket_and_letter house_ticket (plain_lock 2 (replicate 32 2) (replicate 16 23) (write_letter (record { number = number_of 11; service = 0; key = key_of 21; until = 110 }))))

-- the asking for the house
abbrev pub w3 : Bytes
w3 = write_word (asking house_ticket (plain_lock 3 (replicate 32 21) (replicate 16 14) (write_asking (record { service = 0; number = number_of 13; what = 0 ∷ 2 ∷ []; tick = 10 }))))

-- the ticket for the service and its letter
abbrev pub service_ticket : Bytes
service_ticket = plain_lock 1 (replicate 32 3) (replicate 16 25) (write_ticket (record { service = 2; reader = 1; key = key_of 24; until = 110 }))

abbrev pub w4 : Bytes
w4 = write_word (ticket_and_letter service_ticket (plain_lock 2 (replicate 32 21) (replicate 16 26) (write_letter (record { number = number_of 13; service = 2; key = key_of 24; until = 110 }))))

-- the asking to the service
abbrev pub w5 : Bytes
w5 = write_word (asking service_ticket (plain_lock 3 (replicate 32 24) (replicate 16 16) (write_asking (record { service = 2; number = number_of 15; what = 7 ∷ 8 ∷ []; tick = 10 }))))

-- a login of the reader 3, with the reader's key, that the box of 3 did not make
abbrev pub w6 : Bytes
w6 = write_word (login 3 (plain_lock 4 (replicate 32 4) (replicate 16 41) (write_login (record { number = number_of 42; tick = 10 }))))

-- the line, and each word as it was sent, up to the asking that is done
abbrev pub asks : List Call
asks = brings (Reader 1) w4 ∷ brings House w3 ∷ brings (Reader 1) w2 ∷ brings House w1 ∷ wants 1 2 None words ∷ before

abbrev pub served : List Call
served = brings (Service 2) w5 ∷ asks

-- the same word again; bytes that are no word; a theft, and a word made with the stolen key; a closing, and time goes on
abbrev pub happens : List Call
happens =
    tells 20
    ∷ closes 1 true
    ∷ brings House w6
    ∷ steals 3
    ∷ brings House (9 ∷ 9 ∷ [])
    ∷ brings (Service 2) w5
    ∷ served

-- the one line, and the one deed
abbrev pub wanted : Wanted
wanted = record { place = 6; reader = 1; service = 2; what = 7 ∷ 8 ∷ []; at = 10 }

abbrev pub done : Deed
done = record {
  place = 11;
  service = 2;
  reader = 1;
  key = replicate 32 24;
  number = replicate 16 15;
  what = 7 ∷ 8 ∷ [];
  at = 10;
  stolen = [];
}

-- what the house gave: two keys to the reader 1, and one upon the outsiders' login
abbrev pub given : List Given
given =
    record { place = 15; reader = 3; service = 0; key = replicate 32 27; number = replicate 16 42; at = 10; until = 110; stolen = 3 ∷ [] }
    ∷ record { place = 9; reader = 1; service = 2; key = replicate 32 24; number = replicate 16 13; at = 10; until = 110; stolen = [] }
    ∷ record { place = 7; reader = 1; service = 0; key = replicate 32 21; number = replicate 16 11; at = 10; until = 110; stolen = [] }
    ∷ []

-- the lock that hides nothing is fair, the row meets every premise, and it tells just that line, that deed and those keys
pub record CanHappen : Type 0 where
  pub fair : Fair plain
  pub row : Row plain basis 10 happens
  pub deed : deeds plain basis 10 happens ≡ done ∷ []
  pub line : lines plain basis 10 happens ≡ wanted ∷ []
  pub gives : keys plain basis 10 happens ≡ given
  pub again : answered plain basis (run plain basis 10 served) 2 w5 ≡ Err DoneBefore
  pub is-closed : closed (run plain basis 10 happens).home.accounts 1 ≡ true
  pub stolen : (run plain basis 10 happens).stolen ≡ 3 ∷ []
  -- and before the line the reader was ready, so that what Served rests on can be met too
  pub before_row : Row plain basis 10 before
  pub opens_again : Opens plain
  pub ready : Ready plain basis (run plain basis 10 before) 1 2 words
