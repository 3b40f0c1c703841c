-- The kinds of words and their numbers. Assumes nothing.
--   kind_number k  the first byte of a word of this kind
--   kind_from n    the kind of a word that begins with n, or the fault
use Rattle.std.specs.Prelude.{ℕ, cond, Ok, Err, Result, ◌==◌}
use Rattle.parts.specs.declared.fault.Fault.{Fault}
use Rattle.parts.specs.declared.fault.Fault.TheVariants.{Malformed}
use Rattle.wire.specs.declared.kind.WordKind.{WordKind}
use Rattle.wire.specs.declared.kind.WordKind.TheVariants.{Login, TicketAndLetter, Asking, Receipt, Refusal}

abbrev pub kind_number : WordKind → ℕ
kind_number Login = 1
kind_number TicketAndLetter = 2
kind_number Asking = 3
kind_number Receipt = 4
kind_number Refusal = 5

abbrev pub kind_from : ℕ → Result WordKind Fault
kind_from n =
    cond (n == 1) (Ok Login)
    (cond (n == 2) (Ok TicketAndLetter)
    (cond (n == 3) (Ok Asking) (cond (n == 4) (Ok Receipt) (cond (n == 5) (Ok Refusal) (Err Malformed)))))
