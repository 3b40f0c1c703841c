-- A ticket and an asking opened one after the other are what a word of an asking is. Assumes nothing.
use Rattle.locked.specs.Both.{beside, with_asking}
use Rattle.locked.specs.Locked.{Bytes, Locks, asking_in}
use Rattle.locked.specs.Opened.{Opened}
use Rattle.locked.specs.declared.unopened.Unopened.{Unopened}
use Rattle.locked.specs.declared.unopened.Unopened.TheVariants.{NoMemory, Wrong}
use Rattle.parts.specs.declared.fault.Fault.{Fault}
use Rattle.parts.specs.declared.word.Asking.{Asking}
use Rattle.parts.specs.declared.word.Ticket.{Ticket}
use Rattle.service_side.specs.Hear.{ReadAs}
use Rattle.service_side.specs.Service.{Read, asking_under, asks, wrong}
use Rattle.std.proofs.Common.{◌≡◌, Ok, Err, Result, ap}

-- what was opened of the asking, beside its ticket
beside-read : (t : Ticket) (a : Result Asking Fault) (r : Result (Ticket × Asking) Unopened) → Opened (beside t a) r → ReadAs (elim a [ Ok q ↦ asks t q | Err f ↦ wrong f ]) r
beside-read t (Ok q) (Ok y) e = let k : (t, q) ≡ y = cc in ap (λ (p : Ticket × Asking). asks p.0 p.1) k
beside-read t (Ok q) (Err (Wrong f)) e = cc
beside-read t (Ok q) (Err NoMemory) e = tt
beside-read t (Err f) (Ok y) e = cc
beside-read t (Err f) (Err (Wrong g)) e = let k : f ≡ g = cc in ap (λ (x : Fault). wrong x) k
beside-read t (Err f) (Err NoMemory) e = tt

pub both-read : (l : Locks) (q : Bytes) (x : Result Ticket Fault) (r : Result (Ticket × Asking) Unopened) → Opened (with_asking l q x) r → ReadAs (asking_under l q x) r
both-read l q (Ok t) r e = beside-read t (asking_in l t.key q) r e
both-read l q (Err f) (Ok y) e = cc
both-read l q (Err f) (Err (Wrong g)) e = let k : f ≡ g = cc in ap (λ (x : Fault). wrong x) k
both-read l q (Err f) (Err NoMemory) e = tt
