-- All accounts in 33,792 bytes. Assumes nothing. Vocabulary:
--   payload xs         the bytes of accounts, by their numbers
--   account_at bs n    the account of number n in these bytes; the entry of number 0 is not looked at
--   accounts_in bs     the 1,024 accounts in these bytes
--   low bs n           the states of the numbers from 1 to n are at most 2
--   are_low es         no state of entries but the first is above 2
--   measure bs         as many bytes as the payload at the front of these has, if one stands there
use Rattle.std.specs.Prelude.{ℕ, zero, suc, ◌+◌, ◌*◌, Bool, true, cond, ◌&&◌, List, map, length, take, drop, Some, None, ◌==◌, nat_le, slice_index}
use Rattle.accounts.specs.Entry.{account_in, entry}
use Rattle.halves.specs.Half.{Measure}
use Rattle.parts.specs.declared.account.Account.{Account}
use Rattle.parts.specs.declared.account.Account.TheVariants.{Absent}
use Rattle.std.specs.List.{flat_map, list_all, range_with_len}

-- the entries one after the other
unfoldable pub payload : List Account → List ℕ
payload xs = flat_map entry xs

-- entry n stands at 33 n; nobody has number 0
abbrev pub account_at : List ℕ → ℕ → Account
account_at bs n = cond (n == 0) Absent (account_in (take 33 (drop (33 * n) bs)))

-- the accounts of the numbers 0 to 1,023
unfoldable pub accounts_in : List ℕ → List Account
accounts_in bs = map (account_at bs) (range_with_len 0 1024)

-- no state of the numbers from 1 to n is above 2
unfoldable pub low : List ℕ → ℕ → Bool
low bs zero = true
low bs (suc n) = low bs n && nat_le (slice_index bs (33 * (n + 1))) 2

-- no state of entries but the first is above 2
abbrev pub are_low : List (List ℕ) → Bool
are_low es = list_all (λ e. nat_le (slice_index e 0) 2) (drop 1 es)

-- a payload stands at the front of these bytes
abbrev pub readable : List ℕ → Bool
readable bs = nat_le 33792 (length bs) && low bs 1023

-- it has 33,792 bytes
abbrev pub measure : Measure
measure bs = cond (readable bs) (Some 33792) None
