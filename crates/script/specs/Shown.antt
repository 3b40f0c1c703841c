-- What is printed of an answer. Assumes nothing.
use Rattle.std.specs.Prelude.{ℕ, List, [], ◌++◌, codes, decimal}
use Rattle.script.specs.declared.town.Answer.{Answer}
use Rattle.script.specs.declared.town.Answer.TheVariants.{Silent, Town, Reader, Service, Tick, Fault}

abbrev pub text_of : Answer → List ℕ
text_of Silent = []
text_of (Town tick life lag) = codes "town " ++ (decimal tick ++ (codes " " ++ (decimal life ++ (codes " " ++ decimal lag))))
text_of (Reader number) = codes "reader " ++ decimal number
text_of (Service number) = codes "service " ++ decimal number
text_of (Tick tick) = codes "tick " ++ decimal tick
text_of Fault = codes "fault 13"
