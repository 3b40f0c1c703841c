-- Tables of conditions, and the first that fails. Assumes nothing.
--
-- row f b            this fault, if b
-- first_fault rows   the fault of the first row that fails
-- ascends rows       the rows stand in the order of their faults' numbers
-- unless o x f       x where nothing is wrong, else f of the fault
-- Lowest rows o      o is the lowest fault of the rows that fail, and nothing where none fails
use Rattle.std.specs.Prelude.{◌≡◌, ℕ, ◌≤◌, Bool, true, false, cond, ◌&&◌, List, [], ◌∷◌, Some, None, Option, nat_le}
use Rattle.parts.specs.Fault.{fault_number}
use Rattle.parts.specs.declared.condition.Condition.{Condition}
use Rattle.parts.specs.declared.fault.Fault.{Fault}
use mathlib.Core.List.{Memᴰ}

abbrev pub row : Fault → Bool → Condition
row f b = record { fault = f; fails = b }

unfoldable pub first_fault : List Condition → Option Fault
first_fault [] = None
first_fault (c ∷ cs) = cond c.fails (Some c.fault) (first_fault cs)

-- no row comes before one with a lower number
abbrev pub at_least : ℕ → List Condition → Bool
at_least n [] = true
at_least n (c ∷ cs) = nat_le n (fault_number c.fault) && at_least (fault_number c.fault) cs

abbrev pub ascends : List Condition → Bool
ascends cs = at_least 0 cs

abbrev pub Lowest : List Condition → Option Fault → Type 0
Lowest cs None = (c : Condition) → Memᴰ c cs → c.fails ≡ false
Lowest cs (Some f) =
    ((c : Condition) × Memᴰ c cs × (c.fails ≡ true) × (c.fault ≡ f))
    × ((c : Condition) → Memᴰ c cs → c.fails ≡ true → fault_number f ≤ fault_number c.fault)

-- this where nothing is wrong, else that
abbrev pub unless : {A : Type 0} → Option Fault → A → (Fault → A) → A
unless None x f = x
unless (Some e) x f = f e
