-- Opening and closing accounts: states only rise, from absent to open to closed. Assumes nothing.
--
-- opened xs n w        what an opening answers, where the device writes or not; opened_after: the accounts then
-- shut xs n w          what a closing answers; shut_after: the accounts then
use Rattle.std.specs.Prelude.{ℕ, Bool, cond, List, Ok, Err, Result, slice_set}
use Rattle.house_rules.specs.Account.{account_of}
use Rattle.house_rules.specs.declared.change.Changed.{Changed}
use Rattle.house_rules.specs.declared.change.Changed.TheVariants.{Done, Same}
use Rattle.parts.specs.declared.account.Account.{Account}
use Rattle.parts.specs.declared.account.Account.TheVariants.{Absent, Closed, Open}
use Rattle.parts.specs.declared.fault.Fault.{Fault}
use Rattle.parts.specs.declared.fault.Fault.TheVariants.{NotNow, Unknown}
use Rattle.parts.specs.declared.word.Key.{Key}
use Rattle.service_rules.specs.Service.{nobody}

-- it is done, nothing had to change, or it is refused
abbrev pub Answer : Type 0
Answer = Result Changed Fault

-- a change is answered when it is written
abbrev pub written : Bool → Answer
written w = cond w (Ok Done) (Err NotNow)

-- a number that is there stays as it is, whatever key is named
abbrev pub opened_from : Account → Bool → Answer
opened_from Absent w = written w
opened_from (Open k) w = Ok Same
opened_from (Closed k) w = Ok Same

abbrev pub opened : List Account → ℕ → Bool → Answer
opened xs n w = cond (nobody n) (Err Unknown) (opened_from (account_of xs n) w)

-- one that is absent can't be closed
abbrev pub shut_from : Account → Bool → Answer
shut_from Absent w = Err Unknown
shut_from (Open k) w = written w
shut_from (Closed k) w = Ok Same

abbrev pub shut : List Account → ℕ → Bool → Answer
shut xs n w = cond (nobody n) (Err Unknown) (shut_from (account_of xs n) w)

-- the accounts with this one, if that was done
abbrev pub changed : List Account → ℕ → Account → Answer → List Account
changed xs n a (Ok Done) = slice_set xs n a
changed xs n a (Ok Same) = xs
changed xs n a (Err f) = xs

abbrev pub opened_after : List Account → ℕ → Key → Bool → List Account
opened_after xs n k w = changed xs n (Open k) (opened xs n w)

-- the key stays
abbrev pub closed_of : Account → Account
closed_of Absent = Absent
closed_of (Open k) = Closed k
closed_of (Closed k) = Closed k

abbrev pub shut_after : List Account → ℕ → Bool → List Account
shut_after xs n w = changed xs n (closed_of (account_of xs n)) (shut xs n w)
