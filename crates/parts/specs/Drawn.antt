-- Drawn bytes as what they are taken for. Assumes nothing.
--
-- number_of bs, salt_of bs   the first 16 of the bytes
-- key_of bs                  the first 32
use Rattle.std.specs.Prelude.{ℕ, List, take}
use Rattle.parts.specs.declared.word.Key.{Key}
use Rattle.parts.specs.declared.word.Number.{Number}
use Rattle.parts.specs.declared.word.Salt.{Salt}

abbrev pub number_of : List ℕ → Number
number_of bs = record { 0 = take 16 bs }

abbrev pub salt_of : List ℕ → Salt
salt_of bs = record { 0 = take 16 bs }

abbrev pub key_of : List ℕ → Key
key_of bs = record { 0 = take 32 bs }
