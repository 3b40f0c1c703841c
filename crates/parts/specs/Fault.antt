-- The numbers of faults and of the classes that a refusal tells. Assumes nothing.
use Rattle.std.specs.Prelude.{ℕ, cond, ◌==◌, Some, None, Ok, Err, Option, Result}
use Rattle.parts.specs.declared.fault.Fault.{Fault}
use Rattle.parts.specs.declared.fault.Fault.TheVariants.{Malformed, Unknown, LockFails, BadInside, AccountClosed, NotLately, TicketOver, DoneBefore, NoRoom, WrongService, NotUnderWay, NoDrawnBytes, OutOfRange, NotNow}
use Rattle.parts.specs.declared.fault.Class.{Class}
use Rattle.parts.specs.declared.fault.Class.TheVariants.{NotReadable, NotNow as Later, NotYou}

-- the number of a fault, as it stands in the book
abbrev pub fault_number : Fault → ℕ
fault_number Malformed = 1
fault_number Unknown = 2
fault_number LockFails = 3
fault_number BadInside = 4
fault_number AccountClosed = 5
fault_number NotLately = 6
fault_number TicketOver = 7
fault_number DoneBefore = 8
fault_number NoRoom = 9
fault_number WrongService = 10
fault_number NotUnderWay = 11
fault_number NoDrawnBytes = 12
fault_number OutOfRange = 13
fault_number NotNow = 14

-- the class of a fault: what the other side is told, or nothing
abbrev pub class_of : Fault → Option Class
class_of Malformed = Some NotReadable
class_of Unknown = Some NotYou
class_of LockFails = Some NotYou
class_of BadInside = Some NotYou
class_of AccountClosed = Some NotYou
class_of NotLately = Some Later
class_of TicketOver = Some Later
class_of DoneBefore = Some Later
class_of NoRoom = Some Later
class_of WrongService = Some NotYou
class_of NotUnderWay = None
class_of NoDrawnBytes = Some Later
class_of OutOfRange = None
class_of NotNow = Some Later

-- the byte of a class in a refusal
abbrev pub class_number : Class → ℕ
class_number NotReadable = 1
class_number Later = 2
class_number NotYou = 3

-- the class of a byte in a refusal; any other byte is malformed
abbrev pub class_from : ℕ → Result Class Fault
class_from b = cond (b == 1) (Ok NotReadable) (cond (b == 2) (Ok Later) (cond (b == 3) (Ok NotYou) (Err Malformed)))
