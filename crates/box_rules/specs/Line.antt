-- What a box does with a line of its reader. Assumes nothing.
--
-- pass_of i hs           what is known of the ticket with that id
-- line_conditions ..     all that can be wrong with a line that is in range, the lowest number first
-- wanted b v by w        what it answers to a line for service v, by that ticket or by none, with these words
-- wanted_after b v by w  what it is afterwards
-- Told                   an answer, or what is wrong
-- wrong r                what is wrong, if something is
use Rattle.std.specs.Prelude.{◌≡◌, ℕ, ◌+◌, ◌-◌, ◌^◌, Bool, false, cond, not, ◌&&◌, ◌||◌, List, [], ◌∷◌, length, drop, is_some, Some, None, Ok, Err, Option, Result, ◌==◌, nat_lt}
use Rattle.box_rules.specs.Chest.{Boxed, asked, asking_of}
use Rattle.box_rules.specs.Table.{put}
use Rattle.box_rules.specs.declared.answer.Answer.{Answer}
use Rattle.box_rules.specs.declared.answer.Answer.TheVariants.{Asks, LogsIn}
use Rattle.box_rules.specs.declared.line.Held.{Held}
use Rattle.box_rules.specs.declared.line.Line.{Line}
use Rattle.box_rules.specs.declared.line.Pass.{Pass}
use Rattle.parts.specs.Condition.{Lowest, first_fault, row, unless}
use Rattle.parts.specs.Drawn.{number_of, salt_of}
use Rattle.parts.specs.Tick.{over}
use Rattle.parts.specs.declared.condition.Condition.{Condition}
use Rattle.parts.specs.declared.fault.Fault.{Fault}
use Rattle.parts.specs.declared.fault.Fault.TheVariants.{NoDrawnBytes, OutOfRange, TicketOver, Unknown, WrongService}
use Rattle.parts.specs.declared.lock.Lock.{Lock}
use Rattle.parts.specs.declared.word.Login.{Login}
use Rattle.parts.specs.declared.word.What.{What}

abbrev pub pass_of : {T : Type 0} → ℕ → List (Held T) → Option Pass
pass_of i [] = None
pass_of i (h ∷ hs) = cond (h.pass.id == i) (Some h.pass) (pass_of i hs)

-- the ticket that a line names, if it names one that is held
abbrev pub pass_by : {T : Type 0} → Option ℕ → List (Held T) → Option Pass
pass_by None hs = None
pass_by (Some i) hs = pass_of i hs

-- a ticket is named that isn't held
abbrev pub gone : Option ℕ → Option Pass → Bool
gone by o = is_some by && not (is_some o)

abbrev pub pass_over : ℕ → Option Pass → Bool
pass_over now None = false
pass_over now (Some p) = over now p.until

-- a ticket that is neither for the house nor for that service
abbrev pub misfit : ℕ → Option Pass → Bool
misfit v None = false
misfit v (Some p) = not (p.service == 0 || p.service == v)

-- a line that is out of range: its service, its words, or its place, which has no number any more
abbrev pub unread : ℕ → ℕ → What → Bool
unread lines v w = nat_lt 1023 v || (nat_lt 1024 w.len || lines == 2 ^ 64 - 1)

abbrev pub line_judged : (now : ℕ) → List ℕ → (service : ℕ) → Option ℕ → Option Pass → List Condition
line_judged now bs v by o =
    row Unknown (gone by o)
    ∷ row TicketOver (pass_over now o)
    ∷ row WrongService (v == 0 || misfit v o)
    ∷ row NoDrawnBytes (nat_lt (length bs) 32)
    ∷ []

abbrev pub line_conditions : {T : Type 0} → Boxed T → ℕ → Option ℕ → List Condition
line_conditions b v by = line_judged b.now b.left v by (pass_by by b.tickets)

-- the line, at its place among those without a fault
abbrev pub line_of : {T : Type 0} → Boxed T → ℕ → What → Line
line_of b v w = record { place = b.lines + 1; service = v; what = w; tick = b.now }

-- a login under the own key
abbrev pub login_of : {T : Type 0} → Boxed T → Lock Login
login_of b = record {
  key = b.key;
  salt = salt_of (drop 16 b.left);
  inside = record { number = number_of b.left; tick = b.now };
}

-- one more line without a fault
abbrev pub counted : {T : Type 0} → Boxed T → Boxed T
counted b = record {
  number = b.number;
  key = b.key;
  now = b.now;
  lines = b.lines + 1;
  taken = b.taken;
  logins = b.logins;
  tickets = b.tickets;
  askings = b.askings;
  left = b.left;
}

-- the login is under way; 32 drawn bytes are used
abbrev pub logged_in : {T : Type 0} → Boxed T → Line → Boxed T
logged_in b l = record {
  number = b.number;
  key = b.key;
  now = b.now;
  lines = b.lines;
  taken = b.taken;
  logins = put (record { number = number_of b.left; key = b.key; asks = 0; line = l }) b.logins;
  tickets = b.tickets;
  askings = b.askings;
  left = drop 32 b.left;
}

-- what is told: an answer, or what is wrong
abbrev pub Told : Type 0
Told = Result Answer Fault

-- by no ticket it logs in; by one it asks whom the ticket is for
abbrev pub sent_by : {T : Type 0} → Boxed T → Option Pass → Line → Told
sent_by b None l = Ok (LogsIn (login_of b))
sent_by b (Some p) l = Ok (Asks p.id (asking_of b p.key p.service l))

abbrev pub sent_after : {T : Type 0} → Boxed T → Option Pass → Line → Boxed T
sent_after b None l = logged_in (counted b) l
sent_after b (Some p) l = asked (counted b) p.key p.service l

abbrev pub wanted : {T : Type 0} → Boxed T → ℕ → Option ℕ → What → Told
wanted b v by w =
    cond (unread b.lines v w) (Err OutOfRange)
    (unless (first_fault (line_conditions b v by)) (sent_by b (pass_by by b.tickets) (line_of b v w)) Err)

abbrev pub wanted_after : {T : Type 0} → Boxed T → ℕ → Option ℕ → What → Boxed T
wanted_after b v by w =
    cond (unread b.lines v w) b
    (unless (first_fault (line_conditions b v by)) (sent_after b (pass_by by b.tickets) (line_of b v w)) (λ _. b))

abbrev pub wrong : Told → Option Fault
wrong (Ok a) = None
wrong (Err f) = Some f

-- what is promised of a line: the answer, what is left, and that no lower fault was there
pub record Wants {T : Type 0} (b : Boxed T) (v : ℕ) (by : Option ℕ) (w : What) (r : Told) (b' : Boxed T) : Type 0 where
  pub answer : r ≡ wanted b v by w
  pub after : b' ≡ wanted_after b v by w
  pub lowest : unread b.lines v w ≡ false → Lowest (line_conditions b v by) (wrong r)
