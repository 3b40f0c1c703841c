-- A word that a box makes in two parts: what is known before the decision, and the lock that comes of it. Assumes nothing.
--
-- front_of o            the part before: of an asking its kind and its ticket, of any other nothing
-- login_bytes n x       a login's word
-- sent_with n front a   the word that goes out with an answer, where the part before is that
-- ticket_by by hs       the ticket that a line names, if it names one that is held
use Rattle.std.specs.Prelude.{ℕ, List, [], ◌∷◌, ◌++◌, Some, None, Option}
use Rattle.box_rules.specs.Chest.{ticket_of}
use Rattle.box_rules.specs.declared.answer.Answer.{Answer}
use Rattle.box_rules.specs.declared.answer.Answer.TheVariants.{Asks, LogsIn, Receipt, Shown, Takes}
use Rattle.box_rules.specs.declared.line.Held.{Held}
use Rattle.box_side.specs.Box.{Sent}
use Rattle.locked.specs.Locked.{Bytes, asking_lock, login_lock, ours}
use Rattle.parts.specs.declared.lock.Lock.{Lock}
use Rattle.parts.specs.declared.word.Asking.{Asking}
use Rattle.parts.specs.declared.word.Login.{Login}
use Rattle.wire.specs.Word.{lock_bytes, login, write_word}

abbrev pub front_of : Option Bytes → Bytes
front_of None = []
front_of (Some ticket) = 3 ∷ lock_bytes ticket

abbrev pub login_bytes : ℕ → Lock Login → Bytes
login_bytes n x = write_word (login n (login_lock ours x))

-- the lock of an asking behind its ticket
abbrev pub asks_with : Bytes → Lock Asking → Option Sent
asks_with front q = Some (record { to = q.inside.service; word = front ++ lock_bytes (asking_lock ours q) })

abbrev pub sent_with : ℕ → Bytes → Answer → Option Sent
sent_with n front (LogsIn x) = Some (record { to = 0; word = front ++ login_bytes n x })
sent_with n front (Asks i q) = asks_with front q
sent_with n front (Takes g q) = asks_with front q
sent_with n front (Receipt p) = None
sent_with n front (Shown c) = None

abbrev pub ticket_by : {T : Type 0} → Option ℕ → List (Held T) → Option T
ticket_by None hs = None
ticket_by (Some i) hs = ticket_of i hs
