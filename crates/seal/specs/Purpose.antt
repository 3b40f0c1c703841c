-- What a code is for, as a number. Assumes nothing. Vocabulary:
--   purpose_number   the number of a purpose, which goes into the code before the kind
use Rattle.std.specs.Prelude.{ℕ}
use Rattle.seal.specs.declared.locks.Purpose.{Purpose}
use Rattle.seal.specs.declared.locks.Purpose.TheVariants.{Key, Sum}

abbrev pub purpose_number : Purpose → ℕ
purpose_number Key = 1
purpose_number Sum = 2
