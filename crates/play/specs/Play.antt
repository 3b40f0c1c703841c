-- How a town begins, and what the plainest of its lines do. Assumes nothing.
--
-- Begun x t o t'        by settings x a town o begins, or none does; t and t' are what is printed before and after
-- Found w t o t'        by the first line w of a script a town o begins, or none does
-- Obeyed s t l s' t'    what is promised of a line: empty lines and settings lines change nothing, a hold holds
-- Hears s t w s' t'     what is promised of a line as it stands in a script
use Rattle.std.specs.Prelude.{◌≡◌, ℕ, List, [], ◌∷◌, Some, None, vec_items, codes, Option}
use Rattle.commands.specs.Grammar.{read_of}
use Rattle.commands.specs.Said.{Said, said}
use Rattle.commands.specs.declared.line.Line.{Line}
use Rattle.commands.specs.declared.line.Line.TheVariants as line
use Rattle.commands.specs.declared.line.Settings.{Settings}
use Rattle.judge_rules.specs.Total.{none}
use Rattle.play.specs.Say.{line_fault, numbers_line}
use Rattle.play.specs.declared.town.Town.{Town}
use Rattle.std.specs.BTreeMap.{IsEmpty}

-- it is the tick of the settings, nobody is there, nothing was sent, and nothing is held back
abbrev pub Begun : Settings → List ℕ → Option Town → List ℕ → Type 0
Begun x t None t' = t' ≡ t
Begun x t (Some s) t' =
    (t' ≡ numbers_line t (codes "town") (x.tick ∷ x.life ∷ x.lag ∷ []))
    × ((s.tick ≡ x.tick) × (s.rules.lag ≡ x.lag) × (s.rules.life ≡ x.life) × (s.held ≡ 0) × (s.total ≡ none))
    × (IsEmpty s.shops × IsEmpty s.posts × (vec_items s.words ≡ []))

-- it begins by settings that the line says, and where none begins nothing is printed
abbrev pub Found : List ℕ → List ℕ → Option Town → List ℕ → Type 0
Found w t None t' = t' ≡ t
Found w t (Some s) t' = (x : Settings) × (l : Line) × (read_of w ≡ Some (said l)) × (l ≡ line.Town x) × Begun x t (Some s) t'

abbrev pub Obeyed : Town → List ℕ → Line → Town → List ℕ → Type 0
Obeyed s t line.Blank s' t' = (s' ≡ s) × (t' ≡ t)
Obeyed s t (line.Town x) s' t' = (s' ≡ s) × (t' ≡ line_fault t)
Obeyed s t (line.Hold k) s' t' = (s'.held ≡ k) × (t' ≡ t)
Obeyed s t (line.Reader x) s' t' = Unit {0}
Obeyed s t (line.Service x) s' t' = Unit {0}
Obeyed s t (line.Tick x) s' t' = Unit {0}
Obeyed s t (line.Want x) s' t' = Unit {0}
Obeyed s t (line.Close x) s' t' = Unit {0}
Obeyed s t (line.Repeat x y) s' t' = Unit {0}
Obeyed s t (line.Join x) s' t' = Unit {0}
Obeyed s t (line.Steal x) s' t' = Unit {0}
Obeyed s t (line.Lock x) s' t' = Unit {0}
Obeyed s t (line.Unlock x) s' t' = Unit {0}
Obeyed s t (line.Bytes x) s' t' = Unit {0}
Obeyed s t (line.Fall x) s' t' = Unit {0}
Obeyed s t (line.Cut x y) s' t' = Unit {0}
Obeyed s t (line.Device x y) s' t' = Unit {0}

-- what is obeyed is what the line says; one that can't be read changes nothing, and is fault 13
abbrev pub HeardAs : Town → List ℕ → Option Said → Town → List ℕ → Type 0
HeardAs s t None s' t' = (s' ≡ s) × (t' ≡ line_fault t)
HeardAs s t (Some y) s' t' = (l : Line) × (said l ≡ y) × Obeyed s t l s' t'

abbrev pub Hears : Town → List ℕ → List ℕ → Town → List ℕ → Type 0
Hears s t w s' t' = HeardAs s t (read_of w) s' t'
