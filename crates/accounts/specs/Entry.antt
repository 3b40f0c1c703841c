-- One account in 33 bytes. Assumes nothing. Vocabulary:
--   state_of a     the state in a byte: 0 absent, 1 open, 2 closed
--   entry a        the bytes of an account: state, then own key
--   above a b      b is what a may become
--   account_in bs  the account that stands in 33 bytes; the key of an absent one is not looked at
use Rattle.std.specs.Prelude.{◌≡◌, ℕ, Bool, false, cond, List, ◌∷◌, length, take, drop, ◌==◌, slice_index}
use Rattle.parts.specs.Account.{is_absent, key_in}
use Rattle.parts.specs.declared.account.Account.{Account}
use Rattle.parts.specs.declared.account.Account.TheVariants.{Absent, Closed, Open}
use Rattle.parts.specs.declared.word.Key.{Key}
use Rattle.std.specs.Str.{bytes_eq}

-- the state in a byte
abbrev pub state_of : Account → ℕ
state_of Absent = 0
state_of (Open k) = 1
state_of (Closed k) = 2

-- state and own key; zeros where there is none
abbrev pub entry : Account → List ℕ
entry a = state_of a ∷ (key_in a).0

-- the account with this state and this key; a state above 1 is closed
abbrev pub stated : ℕ → Key → Account
stated s k = cond (s == 0) Absent (cond (s == 1) (Open k) (Closed k))

-- the key behind the state
abbrev pub key_bytes : List ℕ → Key
key_bytes bs = record { 0 = take 32 (drop 1 bs) }

-- the account that stands in 33 bytes
abbrev pub account_in : List ℕ → Account
account_in bs = stated (slice_index bs 0) (key_bytes bs)

-- an own key has 32 bytes
abbrev pub Sized : Account → Type 0
Sized a = length (key_in a).0 ≡ 32

-- an open account with this key
abbrev pub opens_with : Account → Key → Bool
opens_with Absent k = false
opens_with (Open l) k = bytes_eq l.0 k.0
opens_with (Closed l) k = false

-- an absent account may become open, and an open one closed, with its key
abbrev pub above : Account → Account → Bool
above a Absent = false
above a (Open k) = is_absent a
above a (Closed k) = opens_with a k
