-- What is fixed over a whole run. Assumes nothing.
use Rattle.std.specs.Prelude.{ℕ, ◌≤◌, List}
use Rattle.parts.specs.declared.word.Key.{Key}
use Rattle.parts.specs.declared.word.Number.{Number}
use Rattle.held.specs.declared.cut.Cut.{Cut}
use Rattle.held.specs.declared.cut.Cut.TheVariants.{Junk, New, Old}
use Rattle.tickets.specs.State.{Rules}
use Rattle.rows.specs.Name.{Naming}

-- life: for how many ticks a ticket is good; lag: for how many an asking is; own: the own keys, by number, the house's first;
-- digest: what is remembered of a key and a number
pub record Setting : Type 0 where
  pub life : ℕ
  pub lag : ℕ
  pub own : List Key
  pub digest : Key → Number → ℕ

-- the model's rules in this setting: the house has the number 0
abbrev pub rules_of : (c : Setting) → Naming c.own → Rules
rules_of c n = record { house = 0; life = c.life; lag = c.lag; key_of = n.key_of }

-- a write can be cut only where one is made: not while the side waits
abbrev pub Writing : Cut ℕ → (now wake : ℕ) → Type 0
Writing Old now wake = Unit {0}
Writing (New d) now wake = wake ≤ now
Writing Junk now wake = wake ≤ now
