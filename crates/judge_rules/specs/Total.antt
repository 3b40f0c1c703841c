-- The deeds counted by their verdicts. Assumes nothing.
--
-- more k          one more, as far as 64 bits go
-- counted r t     the counts with one deed more, of which the judge said r
-- total_of rs     the counts of these verdicts, the newest first
use Rattle.std.specs.Prelude.{ℕ, ◌+◌, min, List, [], ◌∷◌}
use Rattle.judge_rules.specs.declared.record.Verdict.{Verdict}
use Rattle.judge_rules.specs.declared.record.Verdict.TheVariants.{Asked, NotAsked, Stolen}
use Rattle.judge_rules.specs.declared.total.Total.{Total}

abbrev pub more : ℕ → ℕ
more k = min (k + 1) 18446744073709551615

abbrev pub none : Total
none = record { deeds = 0; asked = 0; stolen = 0; unasked = 0 }

abbrev pub counted : Verdict → Total → Total
counted (Asked k t) n = record { deeds = more n.deeds; asked = more n.asked; stolen = n.stolen; unasked = n.unasked }
counted (Stolen r s h) n = record { deeds = more n.deeds; asked = n.asked; stolen = more n.stolen; unasked = n.unasked }
counted NotAsked n = record { deeds = more n.deeds; asked = n.asked; stolen = n.stolen; unasked = more n.unasked }

abbrev pub total_of : List Verdict → Total
total_of [] = none
total_of (r ∷ rs) = counted r (total_of rs)
