-- One row that can happen, so that what the promises rest on can be met: a crash of a service and its wait, an asking refused meanwhile,
-- the reader served at the next tick, the same asking refused, a closing, a theft. Assumes nothing.
use Rattle.std.specs.Prelude.{◌≡◌, ℕ, ◌+◌, ◌*◌, true, List, [], ◌∷◌, ◌++◌, replicate, None, slice_index, Err}
use Rattle.parts.specs.declared.fault.Fault.TheVariants.{DoneBefore, NotNow}
use Rattle.parts.specs.declared.word.Asking.{Asking}
use Rattle.parts.specs.declared.word.Key.{Key}
use Rattle.parts.specs.declared.word.Letter.{Letter}
use Rattle.parts.specs.declared.word.Login.{Login}
use Rattle.parts.specs.declared.word.Number.{Number}
use Rattle.parts.specs.declared.word.Ticket.{Ticket}
use Rattle.parts.specs.declared.word.What.{What}
use Rattle.service_rules.specs.Service.{answered}
use Rattle.service_rules.specs.Service.{Answer}
use Rattle.held.specs.declared.cut.Cut.TheVariants.{Junk}
use Rattle.house_rules.specs.Account.{closed}
use Rattle.box_rules.specs.Chest.{two_bytes}
use Rattle.box_rules.specs.declared.line.Under.TheVariants.{Own as OwnKey, Session}
use Rattle.rows.specs.Name.{Naming}
use Rattle.rows.specs.Setting.{Setting}
use Rattle.rows.specs.System.{Act, House, Service, Reader, tells, hands, steals, opens, closes, wants, logs_in, asks_house, asks, takes, crashes, Possible, run}
use Rattle.rows.specs.Row.{Wanted, Deed, lines, deeds}
use Rattle.rows.specs.Served.{Ready}

-- an own key of one byte
abbrev pub key : ℕ → Key
key b = record { 0 = b ∷ [] }

-- the house 0, the readers 1 and 3, and the service 2; what is remembered is told by the first bytes of key and number
abbrev pub setting : Setting
setting = record {
  life = 100;
  lag = 5;
  own = key 1 ∷ key 2 ∷ key 3 ∷ key 4 ∷ [];
  digest = λ k m. slice_index k.0 0 * 256 + slice_index m.0 0;
}

-- the numbers that the box draws, and the keys that the house draws
abbrev pub number : ℕ → Number
number b = record { 0 = replicate 16 b }

abbrev pub session_key : ℕ → Key
session_key b = record { 0 = replicate 32 b }

abbrev pub words : What
words = record { len = 2; bytes = 7 ∷ 8 ∷ [] }

abbrev pub login : Login
login = record { number = number 11; tick = 15 }

abbrev pub house_ticket : Ticket
house_ticket = record { service = 0; reader = 1; key = session_key 21; until = 115 }

abbrev pub house_letter : Letter
house_letter = record { number = number 11; service = 0; key = session_key 21; until = 115 }

abbrev pub house_asking : Asking
house_asking = record { service = 0; number = number 12; what = two_bytes 2; tick = 15 }

abbrev pub service_ticket : Ticket
service_ticket = record { service = 2; reader = 1; key = session_key 22; until = 115 }

abbrev pub service_letter : Letter
service_letter = record { number = number 12; service = 2; key = session_key 22; until = 115 }

abbrev pub service_asking : Asking
service_asking = record { service = 2; number = number 13; what = words; tick = 15 }

-- the accounts and the drawn bytes, at tick 10
abbrev pub before : List Act
before =
    hands (Service 2) (replicate 32 31)
    ∷ hands House (replicate 64 21 ++ replicate 64 22)
    ∷ hands (Reader 1) (replicate 32 11 ++ (replicate 32 12 ++ replicate 32 13))
    ∷ opens 3 (key 4) true
    ∷ opens 2 (key 3) true
    ∷ opens 1 (key 2) true
    ∷ []

-- the service crashes, and waits from tick 10 to 15; at 15 the reader's line, up to the asking
abbrev pub begun : List Act
begun =
    takes 1 (Session (session_key 21)) service_letter
    ∷ asks_house house_ticket house_asking
    ∷ takes 1 OwnKey house_letter
    ∷ logs_in 1 login
    ∷ wants 1 2 None words
    ∷ tells 15
    ∷ crashes (Service 2) Junk
    ∷ before

-- the asking is refused; at 16 it is done
abbrev pub served : List Act
served =
    asks 2 service_ticket service_asking
    ∷ tells 16
    ∷ asks 2 service_ticket service_asking
    ∷ begun

-- it is refused when it comes again; then a closing, a theft, and the tick goes on
abbrev pub happens : List Act
happens =
    tells 20
    ∷ steals 3
    ∷ closes 1 true
    ∷ asks 2 service_ticket service_asking
    ∷ served

-- the one line, and the one deed
abbrev pub wanted : Wanted
wanted = record { place = 8; reader = 1; service = 2; what = 7 ∷ 8 ∷ []; at = 15 }

abbrev pub done : Deed
done = record {
  place = 15;
  service = 2;
  reader = 1;
  key = replicate 32 22;
  number = replicate 16 13;
  what = 7 ∷ 8 ∷ [];
  at = 16;
  stolen = [];
}

module _ (n : Naming setting.own) where
  -- what the service answers to the asking after these acts
  abbrev pub answer_after : List Act → Answer
  answer_after es = answered ((run setting n 10 es).side 2) service_ticket service_asking (setting.digest service_ticket.key service_asking.number)

-- with a naming of the keys and numbers this row can happen, and it tells just that line and that deed;
-- and before the crash the reader was ready, so that the six acts would have served at once
pub record CanHappen : Type 0 where
  pub naming : Naming setting.own
  pub possible : Possible setting naming 10 happens
  pub deed : deeds setting naming 10 happens ≡ done ∷ []
  pub line : lines setting naming 10 happens ≡ wanted ∷ []
  pub waits : answer_after naming begun ≡ Err NotNow
  pub again : answer_after naming served ≡ Err DoneBefore
  pub is-closed : closed (run setting naming 10 happens).home.accounts 1 ≡ true
  pub stolen : (run setting naming 10 happens).stolen ≡ 3 ∷ []
  pub before_possible : Possible setting naming 10 before
  pub ready : Ready setting naming (run setting naming 10 before) 1 2 words
