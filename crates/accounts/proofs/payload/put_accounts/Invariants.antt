use Rattle.std.proofs.Common.{◌≡◌, ◌*◌, take}
use Rattle.accounts.proofs.payload.put_accounts.Given as goal
use Rattle.accounts.specs.Payload.{payload}

abbrev pub invariant-loop-number : goal.invariant-loop-number
invariant-loop-number l = take (33 * l.number) l.bytes ≡ payload (take l.number l.accounts)
