-- The locks of this code are fair, and the promises over bytes. Assumes nothing.
use Rattle.std.proofs.Common.{arith}
use Rattle.byte_rows.proofs.Fits.{fits, fronts}
use Rattle.byte_rows.proofs.Promises as promises
use Rattle.byte_rows.proofs.ServedRow as served-row
use Rattle.byte_rows.specs.Premise.{Fair}
use Rattle.byte_rows.specs.Row.{AskedOnce, Fresh, InEvery, InOurs, IsRow, Kept, LoggedIn, Over}
use Rattle.byte_rows.specs.Served.{Opens, ServedByAll, ServedByOurs}
use Rattle.byte_rows.specs.System.{Basis}
use Rattle.locked.specs.Locked.{Locks, ours}
use Rattle.seal.proofs.Opening.{length-lock, opens_again, take-lock}

pub ours-fair : Fair ours
ours-fair =
    record {
      front = λ kind key drawn inside n. take-lock kind key drawn inside n;
      long = λ kind key drawn inside n. let s = length-lock kind key drawn inside in omega arith;
      short = λ kind key drawn inside n k. let s = length-lock kind key drawn inside in omega arith;
    }

pub asked-once : InEvery AskedOnce
asked-once l fair c = promises.asked-once l c (fits l c fair) (fronts l c fair)

pub kept : InEvery Kept
kept l fair c = promises.kept l c (fits l c fair) (fronts l c fair)

pub over : InEvery Over
over l fair c = promises.over l c (fits l c fair) (fronts l c fair)

pub logged-in : InEvery LoggedIn
logged-in l fair c = promises.logged-in l c (fits l c fair) (fronts l c fair)

pub fresh : InEvery Fresh
fresh l fair c = promises.fresh l c (fits l c fair) (fronts l c fair)

pub is_row : InEvery IsRow
is_row l fair c = promises.is_row l c (fits l c fair) (fronts l c fair)

-- what holds of every fair way to lock holds of this code's own
pub of-ours : {P : (l : Locks) → Basis → Type 0} → InEvery P → InOurs P
of-ours h c = h ours ours-fair c

pub ours-opens : Opens ours
ours-opens = opens_again

pub served : ServedByAll
served l fair op c = served-row.served l fair op c

pub served-ours : ServedByOurs
served-ours c = served-row.served ours ours-fair ours-opens c
