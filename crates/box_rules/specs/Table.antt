-- Tables of what is under way, the newest first. Assumes nothing.
--
-- put x xs            one more; the oldest of 17 goes
-- without n xs        those with another number
-- matches s p         what is under way is the one sought
-- oldest s xs         the oldest of those that match
use Rattle.std.specs.Prelude.{Bool, cond, not, ◌&&◌, List, [], ◌∷◌, take, Some, None, filter, Option, ◌==◌}
use Rattle.box_rules.specs.declared.line.Pending.{Pending}
use Rattle.box_rules.specs.declared.line.Sought.{Sought}
use Rattle.box_rules.specs.declared.line.Sought.TheVariants.{AtHouse, AtService, Login}
use Rattle.parts.specs.declared.word.Number.{Number}
use Rattle.std.specs.Str.{bytes_eq}

abbrev pub put : {A : Type 0} → A → List A → List A
put x xs = take 16 (x ∷ xs)

abbrev pub without : Number → List Pending → List Pending
without n xs = filter (λ p. not (bytes_eq p.number.0 n.0)) xs

-- a login by its number; an asking for the house by key, number and the service asked for; one to a service by key and number
abbrev pub matches : Sought → Pending → Bool
matches (Login n) p = bytes_eq p.number.0 n.0
matches (AtHouse k n v) p =
    (p.asks == 0) && (bytes_eq p.key.0 k.0 && (bytes_eq p.number.0 n.0 && p.line.service == v))
matches (AtService k n) p =
    not (p.asks == 0) && (bytes_eq p.key.0 k.0 && bytes_eq p.number.0 n.0)

-- an older one, if there is one, else this
abbrev pub older : Option Pending → Option Pending → Option Pending
older None o = o
older (Some x) o = Some x

abbrev pub oldest : Sought → List Pending → Option Pending
oldest s [] = None
oldest s (x ∷ xs) = older (oldest s xs) (cond (matches s x) (Some x) None)
