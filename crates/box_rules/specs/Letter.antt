-- What a box does with a letter that opened, and with a receipt. Assumes nothing.
--
-- pending_for b u l        what a letter belongs to, by the key under which it opened
-- letter_conditions b u l  all that can be wrong with it
-- taken b u l              what it answers; taken_after: what it is afterwards
-- confirmed xs k r         what it answers to a receipt: the place of the line that it belongs to
use Rattle.std.specs.Prelude.{◌≡◌, ℕ, ◌+◌, ◌-◌, ◌^◌, cond, not, List, [], ◌∷◌, length, is_some, Some, None, Ok, Err, Option, ◌==◌, nat_le, nat_lt}
use Rattle.box_rules.specs.Chest.{Boxed, asked, asking_of}
use Rattle.box_rules.specs.Line.{Told, wrong}
use Rattle.box_rules.specs.Table.{oldest, put, without}
use Rattle.box_rules.specs.declared.answer.Answer.TheVariants.{Receipt as Confirms, Takes}
use Rattle.box_rules.specs.declared.line.Pending.{Pending}
use Rattle.box_rules.specs.declared.line.Sought.TheVariants.{AtHouse, AtService, Login}
use Rattle.box_rules.specs.declared.line.Under.{Under}
use Rattle.box_rules.specs.declared.line.Under.TheVariants.{Own, Session}
use Rattle.parts.specs.Condition.{Lowest, first_fault, row, unless}
use Rattle.parts.specs.declared.condition.Condition.{Condition}
use Rattle.parts.specs.declared.fault.Fault.TheVariants.{NoDrawnBytes, NotUnderWay, OutOfRange}
use Rattle.parts.specs.declared.word.Key.{Key}
use Rattle.parts.specs.declared.word.Letter.{Letter}
use Rattle.parts.specs.declared.word.Receipt.{Receipt}

-- under the own key a login, if the letter is for the house; under a ticket's key an asking for the house
abbrev pub pending_in : (logins askings : List Pending) → Under → Letter → Option Pending
pending_in xs ys Own l = cond (l.service == 0) (oldest (Login l.number) xs) None
pending_in xs ys (Session k) l = oldest (AtHouse k l.number l.service) ys

abbrev pub pending_for : {T : Type 0} → Boxed T → Under → Letter → Option Pending
pending_for b u l = pending_in b.logins b.askings u l

-- ids are counted, and not used again: where there is none any more, no letter is taken
abbrev pub letter_judged : (taken : ℕ) → List ℕ → Option Pending → List Condition
letter_judged n bs o =
    row NotUnderWay (not (is_some o))
    ∷ row NoDrawnBytes (nat_lt (length bs) 32)
    ∷ row OutOfRange (nat_le (2 ^ 64 - 1) n)
    ∷ []

abbrev pub letter_conditions : {T : Type 0} → Boxed T → Under → Letter → List Condition
letter_conditions b u l = letter_judged b.taken b.left (pending_for b u l)

-- what the letter belongs to leaves its table
abbrev pub logins_without : Under → Letter → List Pending → List Pending
logins_without Own l xs = without l.number xs
logins_without (Session k) l xs = xs

abbrev pub askings_without : Under → Letter → List Pending → List Pending
askings_without Own l xs = xs
askings_without (Session k) l xs = without l.number xs

abbrev pub settled : {T : Type 0} → Boxed T → Under → Letter → Boxed T
settled b u l = record {
  number = b.number;
  key = b.key;
  now = b.now;
  lines = b.lines;
  taken = b.taken;
  logins = logins_without u l b.logins;
  tickets = b.tickets;
  askings = askings_without u l b.askings;
  left = b.left;
}

-- then the ticket is put in, under the next id
abbrev pub stored : {T : Type 0} → Boxed T → Letter → T → Boxed T
stored b l t = record {
  number = b.number;
  key = b.key;
  now = b.now;
  lines = b.lines;
  taken = b.taken + 1;
  logins = b.logins;
  tickets = put (record { pass = record { id = b.taken + 1; service = l.service; key = l.key; until = l.until }; ticket = t }) b.tickets;
  askings = b.askings;
  left = b.left;
}

-- then whom the ticket is for is asked, for the same line
abbrev pub taken_by : {T : Type 0} → Boxed T → Letter → Option Pending → Told
taken_by b l None = Err NotUnderWay
taken_by b l (Some p) =
    Ok (Takes (record { id = b.taken + 1; service = l.service; until = l.until }) (asking_of b l.key l.service p.line))

abbrev pub taken_from : {T : Type 0} → Boxed T → Under → Letter → T → Option Pending → Boxed T
taken_from b u l t None = b
taken_from b u l t (Some p) = asked (stored (settled b u l) l t) l.key l.service p.line

abbrev pub taken : {T : Type 0} → Boxed T → Under → Letter → Told
taken b u l = unless (first_fault (letter_conditions b u l)) (taken_by b l (pending_for b u l)) Err

abbrev pub taken_after : {T : Type 0} → Boxed T → Under → Letter → T → Boxed T
taken_after b u l t = unless (first_fault (letter_conditions b u l)) (taken_from b u l t (pending_for b u l)) (λ _. b)

-- what is promised of a letter: the answer, what is left, and that no lower fault was there
pub record TakesLetter {T : Type 0} (b : Boxed T) (u : Under) (l : Letter) (t : T) (r : Told) (b' : Boxed T) : Type 0 where
  pub answer : r ≡ taken b u l
  pub after : b' ≡ taken_after b u l t
  pub lowest : Lowest (letter_conditions b u l) (wrong r)

-- a receipt belongs to the oldest asking to a service with its key and number
abbrev pub shown_for : Option Pending → Told
shown_for None = Err NotUnderWay
shown_for (Some p) = Ok (Confirms p.line.place)

abbrev pub confirmed : List Pending → Key → Receipt → Told
confirmed xs k r = shown_for (oldest (AtService k r.number) xs)
