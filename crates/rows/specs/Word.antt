-- What stands in locks, and what is sent, as the model's terms. Assumes nothing.
--
-- ticket_term, letter_term, asking_term, login_term, receipt_term    a lock with this key and inside
-- what_term q                                                    what an asking asks: a service's number, of the house; words, of a service
use Rattle.std.specs.Prelude.{cond, List, [], ◌∷◌, take, Err, Ok}
use Rattle.parts.specs.declared.word.Key.{Key}
use Rattle.parts.specs.declared.word.Ticket.{Ticket}
use Rattle.parts.specs.declared.word.Letter.{Letter}
use Rattle.parts.specs.declared.word.Asking.{Asking}
use Rattle.parts.specs.declared.word.Login.{Login}
use Rattle.parts.specs.declared.word.Receipt.{Receipt}
use Rattle.parts.specs.declared.word.What.{What}
use Rattle.house_rules.specs.House.{for_house, wanted}
use Rattle.house_rules.specs.Give.{Reply}
use Rattle.service_rules.specs.Service.{Answer}
use Rattle.box_rules.specs.Line.{Told}
use Rattle.box_rules.specs.declared.answer.Answer.TheVariants as told
use Rattle.tickets.specs.Term.{Term, Num, Pair}
use Rattle.tickets.specs.Event.{Body, body_term, letter, asking}
use Rattle.rows.specs.Name.{Bytes, spell}

-- the words of an asking
abbrev pub words_of : What → Bytes
words_of w = take w.len w.bytes

abbrev pub what_term : Asking → Term
what_term q = cond (for_house q) (Num (wanted q)) (spell (words_of q.what))

module _ (name : Bytes → Term) where
  -- a ticket's inside as the model has it
  abbrev pub body_of : Ticket → Body
  body_of t = record { service = t.service; who = t.reader; key = name t.key.0; until = t.until }

  abbrev pub ticket_term : Key → Ticket → Term
  ticket_term k t = Term.Lock 1 (name k.0) (body_term (body_of t))

  abbrev pub letter_term : Key → Letter → Term
  letter_term k l = letter (name k.0) (name l.number.0) l.service (name l.key.0) l.until

  abbrev pub asking_term : Key → Asking → Term
  asking_term k q = asking (name k.0) q.service (name q.number.0) (what_term q) q.tick

  abbrev pub login_term : Key → Login → Term
  login_term k l = Term.Lock 4 (name k.0) (Pair (name l.number.0) (Num l.tick))

  abbrev pub receipt_term : Key → Receipt → Term
  receipt_term k c = Term.Lock 5 (name k.0) (name c.number.0)

  -- what the house sends with an answer
  abbrev pub reply_sent : Reply → List Term
  reply_sent (Ok x) = ticket_term x.ticket.key x.ticket.inside ∷ letter_term x.letter.key x.letter.inside ∷ []
  reply_sent (Err f) = []

  -- what a service sends with an answer
  abbrev pub answer_sent : Answer → List Term
  answer_sent (Ok x) = receipt_term x.receipt.key x.receipt.inside ∷ []
  answer_sent (Err f) = []

  -- what a box sends with an answer
  abbrev pub told_sent : Told → List Term
  told_sent (Ok (told.LogsIn l)) = login_term l.key l.inside ∷ []
  told_sent (Ok (told.Asks i l)) = asking_term l.key l.inside ∷ []
  told_sent (Ok (told.Takes g l)) = asking_term l.key l.inside ∷ []
  told_sent (Ok (told.Receipt i)) = []
  told_sent (Ok (told.Shown k)) = []
  told_sent (Err f) = []

-- the number that a box draws with an answer
abbrev pub told_drawn : Told → List Bytes
told_drawn (Ok (told.LogsIn l)) = l.inside.number.0 ∷ []
told_drawn (Ok (told.Asks i l)) = l.inside.number.0 ∷ []
told_drawn (Ok (told.Takes g l)) = l.inside.number.0 ∷ []
told_drawn (Ok (told.Receipt i)) = []
told_drawn (Ok (told.Shown k)) = []
told_drawn (Err f) = []

-- the session key that the house draws with an answer
abbrev pub reply_drawn : Reply → List Bytes
reply_drawn (Ok x) = x.ticket.inside.key.0 ∷ []
reply_drawn (Err f) = []
