-- Accounts in bytes: what is written is read back. Assumes nothing. Vocabulary:
--   Full xs      1,024 accounts, none with number 0, each key with 32 bytes
--   Back         what is written is a payload, and is read back
--   ByValue      anything of full length with states of at most 2 is a payload, and is read entry by entry
-- The proofs stand in proofs/Codec.antt.
use Rattle.std.specs.Prelude.{◌≡◌, ℕ, ◌*◌, ◌<◌, ◌≤◌, List, length, take, drop, Some, slice_index}
use Rattle.accounts.specs.Entry.{Sized, account_in}
use Rattle.accounts.specs.Payload.{accounts_in, measure, payload}
use Rattle.house_rules.specs.Account.{account_of}
use Rattle.parts.specs.declared.account.Account.{Account}
use Rattle.parts.specs.declared.account.Account.TheVariants.{Absent}

-- accounts of all numbers
pub record Full (xs : List Account) : Type 0 where
  pub count : length xs ≡ 1024
  pub nobody : account_of xs 0 ≡ Absent
  pub keyed : (n : ℕ) → Sized (account_of xs n)

-- what is written is a payload, and is read back
abbrev pub Back : Type 0
Back = (xs : List Account) → Full xs
    → (length (payload xs) ≡ 33792) × (measure (payload xs) ≡ Some 33792) × (accounts_in (payload xs) ≡ xs)

-- anything of full length with states of at most 2 is a payload; what is read of it is the accounts of all numbers, each by its own entry
abbrev pub ByValue : Type 0
ByValue = (p : List ℕ) → length p ≡ 33792 → ((n : ℕ) → 0 < n → n < 1024 → slice_index p (33 * n) ≤ 2)
    → (measure p ≡ Some 33792) × Full (accounts_in p)
    × ((n : ℕ) → 0 < n → n < 1024 → account_of (accounts_in p) n ≡ account_in (take 33 (drop (33 * n) p)))
