-- Starting the house, and going on in time. Assumes nothing.
--
-- Settled              the house without what is lent to it
-- started_house ..     the house that starts at a tick with what is remembered, or 13
use Rattle.std.specs.Prelude.{ℕ, Bool, cond, ◌||◌, List, Ok, Err, Result, ◌==◌, nat_lt}
use Rattle.house_rules.specs.declared.house.House.{House}
use Rattle.parts.specs.declared.account.Entry.{Entry}
use Rattle.parts.specs.declared.fault.Fault.{Fault}
use Rattle.parts.specs.declared.fault.Fault.TheVariants.{OutOfRange}
use Rattle.parts.specs.declared.word.Key.{Key}
use Rattle.service_rules.specs.Side.{begun}
use Rattle.service_rules.specs.declared.side.Side.{Side}

pub record Settled : Type 0 where
  pub side : Side
  pub life : ℕ
  pub key : Key

abbrev pub settled : House → Settled
settled h = record { side = h.side; life = h.life; key = h.key }

abbrev pub settled_of : Result House Fault → Result Settled Fault
settled_of (Ok h) = Ok (settled h)
settled_of (Err f) = Err f

abbrev pub with_side : ℕ → Key → Result Side Fault → Result Settled Fault
with_side life k (Ok s) = Ok (record { side = s; life = life; key = k })
with_side life k (Err f) = Err f

-- a ticket is good for 1 to 86,400 ticks
abbrev pub started_house : (life lag tick : ℕ) → Key → List Entry → Bool → Result Settled Fault
started_house life lag tick k es junk =
    cond (life == 0 || nat_lt 86400 life) (Err OutOfRange) (with_side life k (begun 0 lag tick es junk))
