-- How the lines of a text come, one after the other. Assumes nothing.
use Rattle.std.specs.Prelude.{◌≡◌, ℕ, ◌<◌, List, length, Some, None, Option}
use Rattle.std.specs.Borrow.{Bor}
use Rattle.commands.specs.Grammar.{line_of, rest_of}

-- of what is left the first line comes, until nothing is left
abbrev pub LineComes : List ℕ → Option (Bor (List ℕ)) → List ℕ → Type 0
LineComes s None rest = (length s ≡ 0) × (rest ≡ s)
LineComes s (Some line) rest = (0 < length s) × (line.now ≡ line_of s) × (rest ≡ rest_of s)
