-- A ticket and a letter with one fresh key. Assumes nothing.
--
-- giving until bs g    what goes out, with the next drawn bytes, good until then
use Rattle.std.specs.Prelude.{ℕ, List, Ok, Result}
use Rattle.house_rules.specs.Fresh.{fresh_of}
use Rattle.house_rules.specs.declared.give.Given.{Given}
use Rattle.house_rules.specs.declared.reply.Grant.{Grant}
use Rattle.house_rules.specs.declared.reply.Granted.{Granted}
use Rattle.parts.specs.declared.fault.Fault.{Fault}
use Rattle.parts.specs.declared.lock.Lock.{Lock}
use Rattle.parts.specs.declared.word.Letter.{Letter}
use Rattle.parts.specs.declared.word.Ticket.{Ticket}

-- what stands in the book
abbrev pub grant_of : ℕ → Given → Grant
grant_of u g = record { reader = g.reader; service = g.service; number = g.number; asked = g.asked; until = u }

-- under the service's own key: for which service, whose it is, the key, until when
abbrev pub ticket_of : ℕ → List ℕ → Given → Lock Ticket
ticket_of u bs g = record {
  key = g.own;
  salt = (fresh_of bs).ticket;
  inside = record { service = g.service; reader = g.reader; key = (fresh_of bs).key; until = u };
}

-- under a key that the reader has: what it answers, for which service, the key, until when
abbrev pub letter_of : ℕ → List ℕ → Given → Lock Letter
letter_of u bs g = record {
  key = g.under;
  salt = (fresh_of bs).letter;
  inside = record { number = g.number; service = g.service; key = (fresh_of bs).key; until = u };
}

-- a ticket and a letter go out, or it is refused
abbrev pub Reply : Type 0
Reply = Result Granted Fault

abbrev pub given_out : ℕ → List ℕ → Given → Granted
given_out u bs g = record { grant = grant_of u g; ticket = ticket_of u bs g; letter = letter_of u bs g }

abbrev pub giving : ℕ → List ℕ → Given → Reply
giving u bs g = Ok (given_out u bs g)
