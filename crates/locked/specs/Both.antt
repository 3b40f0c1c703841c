-- A ticket under a key, and then an asking under the ticket's key. Assumes nothing.
--
-- both_in l k t q   the ticket in t by the key k, and the asking in q by the ticket's key, or what is wrong with the first that does not read
use Rattle.locked.specs.Locked.{Bytes, Locks, asking_in, ticket_in}
use Rattle.parts.specs.declared.fault.Fault.{Fault}
use Rattle.parts.specs.declared.word.Asking.{Asking}
use Rattle.parts.specs.declared.word.Key.{Key}
use Rattle.parts.specs.declared.word.Ticket.{Ticket}
use Rattle.std.specs.Prelude.{Ok, Err, Result}

abbrev pub beside : Ticket → Result Asking Fault → Result (Ticket × Asking) Fault
beside t (Ok q) = Ok (t, q)
beside t (Err f) = Err f

abbrev pub with_asking : Locks → Bytes → Result Ticket Fault → Result (Ticket × Asking) Fault
with_asking l q (Ok t) = beside t (asking_in l t.key q)
with_asking l q (Err f) = Err f

abbrev pub both_in : Locks → Key → (ticket asking : Bytes) → Result (Ticket × Asking) Fault
both_in l k t q = with_asking l q (ticket_in l k t)
