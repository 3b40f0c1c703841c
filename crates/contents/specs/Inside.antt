-- What stands inside the five kinds of locks, in bytes: how it is read, and how it is written. Assumes nothing.
--   is_inside kind n bs  n bytes, of which the first says the kind
--   readX bs             the X that bs are, or the fault
--   writeX x             the bytes of x
--   XFits x              each number fits its field, each row of bytes has its length
use Rattle.std.specs.Prelude.{ℕ, ◌+◌, Bool, false, cond, List, [], ◌∷◌, ◌++◌, length, drop, Some, None, Ok, Err, Option, Result, ◌==◌, nat_le}
use Rattle.parts.specs.declared.fault.Fault.{Fault}
use Rattle.parts.specs.declared.fault.Fault.TheVariants.{BadInside}
use Rattle.parts.specs.declared.word.Key.{Key}
use Rattle.parts.specs.declared.word.Number.{Number}
use Rattle.parts.specs.declared.word.Ticket.{Ticket}
use Rattle.parts.specs.declared.word.Letter.{Letter}
use Rattle.parts.specs.declared.word.Login.{Login}
use Rattle.parts.specs.declared.word.Receipt.{Receipt}
use Rattle.contents.specs.declared.asking.Asking.{Asking}
use Rattle.contents.specs.Field.{bytes_of, number, part}

-- a key of these bytes
abbrev pub key_of : List ℕ → Key
key_of bs = record { 0 = bs }

-- a nonce of these bytes
abbrev pub number_of : List ℕ → Number
number_of bs = record { 0 = bs }

-- the first byte says this kind
abbrev pub begins : ℕ → List ℕ → Bool
begins kind [] = false
begins kind (b ∷ bs) = b == kind

-- n bytes, of which the first says the kind
abbrev pub is_inside : ℕ → ℕ → List ℕ → Bool
is_inside kind n bs = cond (length bs == n) (begins kind bs) false

-- kind 1, a ticket: service (2), reader (2), key (32), until (8)
abbrev pub write_ticket : Ticket → List ℕ
write_ticket t =
    1 ∷ (bytes_of 2 t.service ++ (bytes_of 2 t.reader ++ (t.key.0 ++ bytes_of 8 t.until)))

abbrev pub read_ticket : List ℕ → Result Ticket Fault
read_ticket bs =
    cond (is_inside 1 45 bs)
    (Ok record {
      service = number (part 1 2 bs);
      reader = number (part 3 2 bs);
      key = key_of (part 5 32 bs);
      until = number (part 37 8 bs);
    })
    (Err BadInside)

-- kind 2, a letter: number (16), service (2), key (32), until (8)
abbrev pub write_letter : Letter → List ℕ
write_letter l =
    2 ∷ (l.number.0 ++ (bytes_of 2 l.service ++ (l.key.0 ++ bytes_of 8 l.until)))

abbrev pub read_letter : List ℕ → Result Letter Fault
read_letter bs =
    cond (is_inside 2 59 bs)
    (Ok record {
      number = number_of (part 1 16 bs);
      service = number (part 17 2 bs);
      key = key_of (part 19 32 bs);
      until = number (part 51 8 bs);
    })
    (Err BadInside)

-- an asking with the very bytes that are asked
pub record Asked : Type 0 where
  pub service : ℕ
  pub number : Number
  pub what : List ℕ
  pub tick : ℕ

-- kind 3, an asking: service (2), number (16), length (2), what (0 to 1,024), tick (8)
abbrev pub write_asking : Asked → List ℕ
write_asking a =
    3 ∷ (bytes_of 2 a.service
    ++ (a.number.0 ++ (bytes_of 2 (length a.what) ++ (a.what ++ bytes_of 8 a.tick))))

-- the length of what is asked, as an asking says it
abbrev pub what_length : List ℕ → ℕ
what_length bs = number (part 19 2 bs)

abbrev pub is_asking : List ℕ → Bool
is_asking bs = cond (is_inside 3 (29 + what_length bs) bs) (nat_le (what_length bs) 1024) false

abbrev pub read_asking : List ℕ → Result Asked Fault
read_asking bs =
    cond (is_asking bs)
    (Ok record {
      service = number (part 1 2 bs);
      number = number_of (part 3 16 bs);
      what = part 21 (what_length bs) bs;
      tick = number (part (21 + what_length bs) 8 bs);
    })
    (Err BadInside)

-- kind 4, a login: number (16), tick (8)
abbrev pub write_login : Login → List ℕ
write_login l = 4 ∷ (l.number.0 ++ bytes_of 8 l.tick)

abbrev pub read_login : List ℕ → Result Login Fault
read_login bs =
    cond (is_inside 4 25 bs)
    (Ok record { number = number_of (part 1 16 bs); tick = number (part 17 8 bs) })
    (Err BadInside)

-- kind 5, a receipt: number (16)
abbrev pub write_receipt : Receipt → List ℕ
write_receipt r = 5 ∷ r.number.0

abbrev pub read_receipt : List ℕ → Result Receipt Fault
read_receipt bs = cond (is_inside 5 17 bs) (Ok record { number = number_of (part 1 16 bs) }) (Err BadInside)

-- the asking that the program holds, whose `what` is a part of other bytes
abbrev pub asked : Asking → Asked
asked a =
    record {
      service = a.service;
      number = a.number;
      what = a.what.now;
      tick = a.tick;
    }

-- the answer of the reader of askings
abbrev pub asked_in : Result Asking Fault → Result Asked Fault
asked_in (Ok a) = Ok (asked a)
asked_in (Err e) = Err e

-- how many bytes an asking takes of a memory of n bytes: none if `what` is too long, or the memory too short
abbrev pub asking_room : Asked → ℕ → Option ℕ
asking_room a n =
    cond (nat_le (length a.what) 1024)
    (cond (nat_le (29 + length a.what) n) (Some (29 + length a.what)) None)
    None

-- what the memory then holds
abbrev pub asking_left : Asked → List ℕ → List ℕ
asking_left a out = elim (asking_room a (length out)) [ None ↦ out | Some n ↦ write_asking a ++ drop n out ]
