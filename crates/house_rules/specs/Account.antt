-- Accounts by their numbers. Assumes nothing.
--
-- account_of xs n   the account of a number; absent where there is none
-- unknown xs n      nobody has this number
-- closed xs n       its account is closed
-- own_key xs n      its own key
use Rattle.std.specs.Prelude.{ℕ, Bool, ◌||◌, List, slice_index_or}
use Rattle.parts.specs.Account.{is_absent, is_closed, key_in}
use Rattle.parts.specs.declared.account.Account.{Account}
use Rattle.parts.specs.declared.account.Account.TheVariants.{Absent}
use Rattle.parts.specs.declared.word.Key.{Key}
use Rattle.service_rules.specs.Service.{nobody}

abbrev pub account_of : List Account → ℕ → Account
account_of xs n = slice_index_or xs n Absent

abbrev pub unknown : List Account → ℕ → Bool
unknown xs n = nobody n || is_absent (account_of xs n)

abbrev pub closed : List Account → ℕ → Bool
closed xs n = is_closed (account_of xs n)

abbrev pub own_key : List Account → ℕ → Key
own_key xs n = key_in (account_of xs n)
