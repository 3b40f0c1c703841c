-- Who is there. Assumes nothing.
use Rattle.std.specs.Prelude.{ℕ, Bool, List, ◌==◌}
use Rattle.std.specs.List.{list_any}
use Rattle.commands.specs.declared.line.Account.{Account}

-- one of them has that number
abbrev pub there : ℕ → List Account → Bool
there n accounts = list_any (λ (a : Account). a.number == n) accounts
