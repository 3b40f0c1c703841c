-- A lock that a box opened with the first key that opens it, and what was inside. Assumes nothing.
--
-- tried f w      the key that was found and its place, and the inside of the word w that stands open
-- found_in o w   that, if a key was found; opened_in o the same, with the word that the code holds
-- read_first     what is read inside, with the key that opened it
-- Opens x r      r is x, or there was no memory
use Rattle.box_side.specs.declared.open.Found.{Found}
use Rattle.box_side.specs.declared.open.Unlocked.{Unlocked}
use Rattle.box_side.specs.declared.open.Opened.{Opened}
use Rattle.box_side.specs.declared.told.NotDone.{NotDone}
use Rattle.box_side.specs.declared.told.NotDone.TheVariants.{NoMemory, Wrong}
use Rattle.locked.specs.Locked.{Bytes, Tried}
use Rattle.parts.specs.declared.fault.Fault.{Fault}
use Rattle.parts.specs.declared.fault.Fault.TheVariants.{LockFails}
use Rattle.seal.specs.Lock.{inside_of}
use Rattle.std.specs.Prelude.{◌≡◌, Some, None, Ok, Err, vec_items, Option, Result}
use Rattle.std.specs.Option.{option_map}

-- the key at its place, and the inside of the word that stands open
abbrev pub tried : Found → Bytes → Tried
tried f w = record { place = f.place; key = f.key; inside = inside_of w }

abbrev pub found_in : Option Found → Bytes → Option Tried
found_in o w = option_map (λ f. tried f w) o

abbrev pub opened_in : Option Opened → Option Tried
opened_in o = option_map (λ x. tried x.found (vec_items x.word)) o

abbrev pub read_by : {X : Type 0} → Tried → Result X Fault → Result (Unlocked X) Fault
read_by t (Ok x) = Ok (record { found = record { place = t.place; key = t.key }; inside = x })
read_by t (Err f) = Err f

abbrev pub read_first : {X : Type 0} → (Bytes → Result X Fault) → Option Tried → Result (Unlocked X) Fault
read_first read None = Err LockFails
read_first read (Some t) = read_by t (read t.inside)

-- what is wrong where something did not open; nothing is said where there was no memory
abbrev pub NotOpened : {X : Type 0} → Result X Fault → NotDone → Type 0
NotOpened x (Wrong f) = x ≡ Err f
NotOpened x NoMemory = Unit {0}

abbrev pub Opens : {X : Type 0} → Result X Fault → Result X NotDone → Type 0
Opens x (Ok y) = x ≡ Ok y
Opens x (Err why) = NotOpened x why
