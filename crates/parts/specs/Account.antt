-- What an account says. Assumes nothing.
--
-- is_absent a   nobody has the number
-- is_closed a   it is closed
-- key_in a      its own key
use Rattle.std.specs.Prelude.{Bool, true, false, replicate}
use Rattle.parts.specs.declared.account.Account.{Account}
use Rattle.parts.specs.declared.account.Account.TheVariants.{Absent, Closed, Open}
use Rattle.parts.specs.declared.word.Key.{Key}

abbrev pub is_absent : Account → Bool
is_absent Absent = true
is_absent (Open k) = false
is_absent (Closed k) = false

abbrev pub is_closed : Account → Bool
is_closed Absent = false
is_closed (Open k) = false
is_closed (Closed k) = true

-- an absent one has no key; zeros stand in for it
abbrev pub key_in : Account → Key
key_in Absent = record { 0 = replicate 32 0 }
key_in (Open k) = k
key_in (Closed k) = k
