-- What a town is, and what comes of a line. Assumes nothing.
--   Seen         the town: its settings, none before the first line; the tick; who there is
--   Outcome      what comes of a line: the town after it, and the answer
--   heard s l    what comes of a line that reads as l; None is a line that can't be read
--   played l     the line l is silent, or begins with a verb that the first form plays
use Rattle.std.specs.Prelude.{ℕ, ◌^◌, Bool, cond, ◌&&◌, ◌||◌, List, [], ◌∷◌, ◌++◌, length, Some, None, codes, vec_items, Option, nat_le, nat_lt, nat_eq}
use Rattle.std.specs.List.{starts_with}
use Rattle.commands.specs.declared.line.Account.{Account}
use Rattle.commands.specs.declared.line.Settings.{Settings}
use Rattle.commands.specs.Grammar.{silent}
use Rattle.commands.specs.Said as say
use Rattle.script.specs.There.{there}
use Rattle.script.specs.declared.town.Answer.{Answer}
use Rattle.script.specs.declared.town.Answer.TheVariants as answers
use Rattle.script.specs.declared.town.Town.{Town}

pub record Seen : Type 0 where
  pub settings : Option Settings
  pub tick : ℕ
  pub readers : List Account
  pub services : List Account

abbrev pub seen : Town → Seen
seen t = record {
  settings = t.settings;
  tick = t.tick;
  readers = vec_items t.readers.accounts;
  services = vec_items t.services.accounts;
}

pub record Outcome : Type 0 where
  pub town : Seen
  pub answer : Answer

-- the town before its first line
abbrev pub nobody : Seen
nobody = record { settings = None; tick = 0; readers = []; services = [] }

-- fault 13, and nothing changed
abbrev pub refused : Seen → Outcome
refused s = record { town = s; answer = answers.Fault }

-- nothing said, and nothing changed
abbrev pub passed_over : Seen → Outcome
passed_over s = record { town = s; answer = answers.Silent }

-- a tick below 2^63, a life of 1 to 86,400, a lag of 0 to 600
abbrev pub in_range : Settings → Bool
in_range x = nat_lt x.tick (2 ^ 63) && nat_le 1 x.life && nat_le x.life 86400 && nat_le x.lag 600

-- the town opens with settings in range
abbrev pub opened : Seen → Settings → Outcome
opened s x = cond (in_range x)
    (record {
      town = record { settings = Some x; tick = x.tick; readers = s.readers; services = s.services };
      answer = answers.Town x.tick x.life x.lag;
    })
    (refused s)

-- a reader or a service has that number
abbrev pub known : Seen → ℕ → Bool
known s n = there n s.readers || there n s.services

-- one more reader, up to 16, of a new number
abbrev pub with_reader : Seen → Account → Outcome
with_reader s a = cond (nat_le 16 (length s.readers) || known s a.number)
    (refused s)
    (record {
      town = record { settings = s.settings; tick = s.tick; readers = s.readers ++ a ∷ []; services = s.services };
      answer = answers.Reader a.number;
    })

-- one more service, up to 8, of a new number
abbrev pub with_service : Seen → Account → Outcome
with_service s a = cond (nat_le 8 (length s.services) || known s a.number)
    (refused s)
    (record {
      town = record { settings = s.settings; tick = s.tick; readers = s.readers; services = s.services ++ a ∷ [] };
      answer = answers.Service a.number;
    })

-- a tick does not go back, and stays below 2^63
abbrev pub ticked : Seen → ℕ → Outcome
ticked s t = cond (nat_lt t s.tick || nat_le (2 ^ 63) t)
    (refused s)
    (record {
      town = record { settings = s.settings; tick = t; readers = s.readers; services = s.services };
      answer = answers.Tick t;
    })

-- the first line that says something opens the town
abbrev pub begun : Seen → say.Said → Outcome
begun s say.Blank = passed_over s
begun s (say.Town x) = opened s x
begun s _ = refused s

-- and every later one says what happens; what the first form does not play is refused
abbrev pub acted : Seen → say.Said → Outcome
acted s say.Blank = passed_over s
acted s (say.Reader a) = with_reader s a
acted s (say.Service a) = with_service s a
acted s (say.Tick t) = ticked s t
acted s _ = refused s

abbrev pub obeyed : Seen → say.Said → Outcome
obeyed s l = elim s.settings [ None ↦ begun s l | Some x ↦ acted s l ]

abbrev pub heard : Seen → Option say.Said → Outcome
heard s None = refused s
heard s (Some l) = obeyed s l

-- silent, or of a verb that the first form plays; any other line is refused
abbrev pub played : List ℕ → Bool
played l =
    silent l
    || starts_with nat_eq l (codes "town ")
    || starts_with nat_eq l (codes "reader ")
    || starts_with nat_eq l (codes "service ")
    || starts_with nat_eq l (codes "tick ")
