-- What holds of every town, whatever its script says. Assumes nothing.
--   Orderly s    room is kept, numbers are in range and belong to one each, time has an end
--   after s ls   the town s after it heard the lines ls
use Rattle.std.specs.Prelude.{◌≡◌, ℕ, ◌+◌, ◌^◌, ◌<◌, ◌≤◌, List, [], ◌∷◌, length, None, count_by, nat_eq}
use Rattle.commands.specs.declared.line.Account.{Account}
use Rattle.commands.specs.Grammar.{read_of}
use Rattle.script.specs.declared.town.Answer.TheVariants.{Fault}
use Rattle.script.specs.Play.{Seen, nobody, heard}

-- how many of them have the number n
abbrev pub with_number : ℕ → List Account → ℕ
with_number n l = count_by (λ a. nat_eq a.number n) l

abbrev pub holders : ℕ → Seen → ℕ
holders n s = with_number n s.readers + with_number n s.services

pub record Orderly (s : Seen) : Type 0 where
  -- up to 16 readers and 8 services
  pub readers_fit : length s.readers ≤ 16
  pub services_fit : length s.services ≤ 8
  -- a number belongs to one reader or service, and is 1 to 1,023
  pub one_each : (n : ℕ) → holders n s ≤ 1
  pub in-range : (n : ℕ) → 0 < holders n s → (1 ≤ n) × (n ≤ 1023)
  -- ticks stay below 2^63
  pub in_time : s.tick < 2 ^ 63
  -- before the first line it is tick 0
  pub from_zero : s.settings ≡ None → s.tick ≡ 0

-- a line leaves a town orderly, refused or not
abbrev pub StaysOrderly : Type 0
StaysOrderly = (s : Seen) (l : List ℕ) → Orderly s → Orderly (heard s (read_of l)).town

-- a line that is answered by a fault changes nothing
abbrev pub FaultsChangeNothing : Type 0
FaultsChangeNothing = (s : Seen) (l : List ℕ) → (heard s (read_of l)).answer ≡ Fault → (heard s (read_of l)).town ≡ s

-- the tick never goes back
abbrev pub TimeGoesOn : Type 0
TimeGoesOn = (s : Seen) (l : List ℕ) → Orderly s → s.tick ≤ (heard s (read_of l)).town.tick

-- a town after the lines of a script
abbrev pub after : Seen → List (List ℕ) → Seen
after s [] = s
after s (l ∷ more) = after (heard s (read_of l)).town more

-- whatever the script says
abbrev pub TownsAreOrderly : Type 0
TownsAreOrderly = (script : List (List ℕ)) → Orderly (after nobody script)
