-- What opening a lock answers, where there is memory to open it in. Assumes nothing.
--
-- Opened x r    r is x, or there was no memory
-- Copied o r    r is a copy of the lock with its inside o in place, or 3 where it does not open, or there was no memory
use Rattle.std.specs.Prelude.{◌≡◌, ℕ, Some, None, Ok, Err, vec_items, Option, Result, Vec}
use Rattle.locked.specs.Locked.{Bytes}
use Rattle.locked.specs.declared.unopened.Unopened.{Unopened}
use Rattle.locked.specs.declared.unopened.Unopened.TheVariants.{NoMemory, Wrong}
use Rattle.parts.specs.declared.fault.Fault.{Fault}
use Rattle.parts.specs.declared.fault.Fault.TheVariants.{LockFails}
use Rattle.seal.specs.Lock.{inside_of}
use Rattle.std.specs.declared.alloc.Global.{Global}

-- what is wrong where something did not open; nothing is said where there was no memory
abbrev pub NotOpened : {X : Type 0} → Result X Fault → Unopened → Type 0
NotOpened x (Wrong f) = x ≡ Err f
NotOpened x NoMemory = Unit {0}

abbrev pub Opened : {X : Type 0} → Result X Fault → Result X Unopened → Type 0
Opened x (Ok y) = x ≡ Ok y
Opened x (Err why) = NotOpened x why

-- a lock that does not open
abbrev pub Shut : Option Bytes → Unopened → Type 0
Shut o (Wrong f) = (o ≡ None) × (f ≡ LockFails)
Shut o NoMemory = Unit {0}

abbrev pub Copied : Option Bytes → Result (Vec ℕ Global) Unopened → Type 0
Copied o (Ok copy) = o ≡ Some (inside_of (vec_items copy))
Copied o (Err why) = Shut o why
