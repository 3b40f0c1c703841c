-- The drawn bytes of a grant: a key of 32, then 16 for the ticket's lock, then 16 for the letter's. Assumes nothing.
use Rattle.std.specs.Prelude.{ℕ, List, drop}
use Rattle.house_rules.specs.declared.fresh.Fresh.{Fresh}
use Rattle.parts.specs.Drawn.{key_of, salt_of}

abbrev pub fresh_of : List ℕ → Fresh
fresh_of bs = record { key = key_of bs; ticket = salt_of (drop 32 bs); letter = salt_of (drop 48 bs) }
