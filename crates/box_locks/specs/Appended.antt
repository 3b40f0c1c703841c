-- A lock put behind what a word has so far, its length before it. Assumes nothing.
--
-- appended lock r out      what out then is: one lock longer, or as it was where there was no memory
-- login_most, asking_most  the most bytes that are appended for a login and for an asking
use Rattle.std.specs.Prelude.{ℕ, cond, ◌++◌, is_ok, Result}
use Rattle.locked.specs.Locked.{Bytes}
use Rattle.wire.specs.Word.{lock_bytes}

abbrev pub appended : {X Y : Type 0} → Bytes → Result X Y → Bytes → Bytes
appended lock r out = cond (is_ok r) (out ++ lock_bytes lock) out

-- a lock of 57 bytes
abbrev pub login_most : ℕ
login_most = 59

-- a lock of at most 1,085 bytes
abbrev pub asking_most : ℕ
asking_most = 1087
