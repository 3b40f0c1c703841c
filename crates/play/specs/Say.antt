-- The lines that a town prints, each as what stands behind a text then. Assumes nothing.
--
-- then_number t n, then_hex t bs, then_side t s  a space, and a number, bytes in hex, or a side's name
-- then_numbers t ns                              numbers, each after a space
-- word_line, done_line, ..                       whole lines
use Rattle.std.specs.Prelude.{ℕ, Bool, cond, List, [], ◌∷◌, ◌++◌, Some, None, codes, decimal, Option}
use Rattle.commands.specs.declared.line.Side.{Side}
use Rattle.commands.specs.declared.line.Side.TheVariants.{House, Reader, Service}
use Rattle.judge_rules.specs.declared.record.Done.{Done}
use Rattle.judge_rules.specs.declared.record.Verdict.{Verdict}
use Rattle.judge_rules.specs.declared.record.Verdict.TheVariants.{Asked, NotAsked, Stolen}
use Rattle.judge_rules.specs.declared.total.Total.{Total}
use Rattle.parts.specs.What.{words_in}
use Rattle.parts.specs.Fault.{fault_number}
use Rattle.parts.specs.declared.fault.Fault.{Fault}
use Rattle.parts.specs.declared.word.Key.{Key}
use Rattle.words.specs.Laws.{bytes_text}

abbrev pub then_number : List ℕ → ℕ → List ℕ
then_number t n = t ++ codes " " ++ decimal n

abbrev pub then_hex : List ℕ → List ℕ → List ℕ
then_hex t bs = t ++ codes " " ++ bytes_text bs

-- - stands for the outsiders
abbrev pub then_side : List ℕ → Option Side → List ℕ
then_side t None = t ++ codes " -"
then_side t (Some House) = t ++ codes " house"
then_side t (Some (Service n)) = t ++ codes " s" ++ decimal n
then_side t (Some (Reader n)) = t ++ codes " r" ++ decimal n

unfoldable pub then_numbers : List ℕ → List ℕ → List ℕ
then_numbers t [] = t
then_numbers t (n ∷ ns) = then_numbers (then_number t n) ns

-- a line of one word and numbers
abbrev pub numbers_line : List ℕ → (word ns : List ℕ) → List ℕ
numbers_line t word ns = then_numbers (t ++ word) ns ++ 10 ∷ []

-- a line of a side and numbers
abbrev pub side_line : List ℕ → List ℕ → Side → List ℕ → List ℕ
side_line t word s ns = then_numbers (then_side (t ++ word) (Some s)) ns ++ 10 ∷ []

abbrev pub fault_line : List ℕ → Side → Fault → List ℕ
fault_line t s f = side_line t (codes "fault") s (fault_number f ∷ [])

-- a fault of the script's own line
abbrev pub line_fault : List ℕ → List ℕ
line_fault t = t ++ codes "fault 13\n"

-- the last line: how many deeds, and how many of each verdict
abbrev pub total_line : List ℕ → Total → List ℕ
total_line t x = numbers_line t (codes "total") (x.deeds ∷ x.asked ∷ x.stolen ∷ x.unasked ∷ [])

-- a side that started again
abbrev pub start_line : List ℕ → Side → Bool → List ℕ
start_line t s waits = then_side (t ++ codes "start") (Some s) ++ cond waits (codes " waits\n") (codes " ready\n")

-- a word, by its number, its two ends and its bytes
abbrev pub word_line : List ℕ → ℕ → (from to : Option Side) → List ℕ → List ℕ
word_line t n from to bs = then_hex (then_side (then_side (t ++ codes "w" ++ decimal n) from) to) bs ++ 10 ∷ []

-- a key that was stolen
abbrev pub key_line : List ℕ → ℕ → Key → List ℕ
key_line t n k = then_hex (then_number (t ++ codes "key") n) k.0 ++ 10 ∷ []

-- what stands in a lock
abbrev pub inside_line : List ℕ → List ℕ → List ℕ
inside_line t bs = then_hex (t ++ codes "inside") bs ++ 10 ∷ []

-- a number, if it is to be told
abbrev pub then_if : Bool → List ℕ → ℕ → List ℕ
then_if b t n = cond b (then_number t n) t

-- whose keys had been stolen
abbrev pub then_stolen : List ℕ → Done → (reader service house : Bool) → List ℕ
then_stolen t d reader service house =
    then_if house (then_if service (then_if reader (t ++ codes " stolen") d.reader) d.service) 0

abbrev pub then_verdict : List ℕ → Done → Verdict → List ℕ
then_verdict t d (Asked line at) = then_number (then_number (t ++ codes " asked") line) at
then_verdict t d (Stolen r s h) = then_stolen t d r s h
then_verdict t d NotAsked = t ++ codes " NOT ASKED"

-- a deed: service, reader, words, tick, and what the judge said
abbrev pub done_line : List ℕ → Done → Verdict → List ℕ
done_line t d v =
    then_verdict (then_number (then_hex (then_number (then_number (t ++ codes "done") d.service) d.reader) (words_in d.what)) d.at) d v ++ 10 ∷ []
