-- What is asked, as words and as a value of fixed size. Assumes nothing.
--
-- words_in w    the words of an asking
-- what_in bs    the words as a value of fixed size
use Rattle.std.specs.Prelude.{ℕ, ◌-◌, List, ◌++◌, length, take, replicate}
use Rattle.parts.specs.declared.word.What.{What}

-- the words of an asking: the first bytes of what it holds
abbrev pub words_in : What → List ℕ
words_in w = take w.len w.bytes

-- words as a value of fixed size, with zeros behind them
abbrev pub what_in : List ℕ → What
what_in bs = record { len = length bs; bytes = bs ++ replicate (1024 - length bs) 0 }
