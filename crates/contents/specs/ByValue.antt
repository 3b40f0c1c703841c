-- An asking by value beside the asking whose words are a part of other bytes. Assumes nothing.
--   asked_of q   an asking by value, with the very bytes that are asked
--   asking_of a  an asking by value for these bytes
--   asking_ok r  the answer of the reader of askings, by value
use Rattle.std.specs.Prelude.{Ok, Err, Result}
use Rattle.contents.specs.Inside.{Asked}
use Rattle.parts.specs.What.{what_in, words_in}
use Rattle.parts.specs.declared.fault.Fault.{Fault}
use Rattle.parts.specs.declared.word.Asking.{Asking}

-- an asking with the very bytes that are asked
abbrev pub asked_of : Asking → Asked
asked_of q = record { service = q.service; number = q.number; what = words_in q.what; tick = q.tick }

-- an asking by value
abbrev pub asking_of : Asked → Asking
asking_of a = record { service = a.service; number = a.number; what = what_in a.what; tick = a.tick }

abbrev pub asking_ok : Result Asked Fault → Result Asking Fault
asking_ok (Ok a) = Ok (asking_of a)
asking_ok (Err f) = Err f
