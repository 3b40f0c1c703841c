-- What the promises of the judge rest on can be met, and each verdict can be said. Assumes nothing.
--
-- Met        a row that can happen, with a judge who knows the house alone at first: a line, its deed, the asking again, a theft
-- Worked     cases by hand: what the judge says of a deed for reader 1 of service 2, with lag 5
use Rattle.std.specs.Prelude.{◌≡◌, ℕ, true, false, List, [], ◌∷◌, replicate}
use Rattle.judge_rules.specs.Judge.{View, fresh}
use Rattle.judge_rules.specs.declared.record.Verdict.{Verdict}
use Rattle.judge_rules.specs.declared.record.Verdict.TheVariants.{Asked, NotAsked, Stolen}
use Rattle.parts.specs.declared.word.Key.{Key}
use Rattle.rows.specs.Happens.{happens, setting}
use Rattle.rows.specs.Name.{Naming, own_of}
use Rattle.rows.specs.System.{Possible}
use Rattle.judge.specs.Hearing.{Begins, FirstNamed, Hearing, Introduced, deed, hearings, joins, line, theft, verdicts}

-- the judge as he is made
abbrev pub judge_there : View
judge_there = fresh setting.lag (own_of setting.own 0)

pub record Met : Type 0 where
  pub naming : Naming setting.own
  pub named : FirstNamed setting naming
  pub possible : Possible setting naming 10 happens
  pub begins : Begins setting naming judge_there
  pub introduced : Introduced setting naming judge_there 10 happens
  pub says : verdicts judge_there (hearings setting naming 10 happens) ≡ Asked 1 15 ∷ []

abbrev pub key_with : ℕ → Key
key_with b = record { 0 = replicate 32 b }

-- the house has the key of ones, reader 1 that of twos, services 2 and 3 that of threes
abbrev pub small : View
small = fresh 5 (key_with 1)

abbrev pub known : List Hearing
known =
    joins (record { number = 3; key = key_with 3 })
    ∷ joins (record { number = 2; key = key_with 3 })
    ∷ joins (record { number = 1; key = key_with 2 })
    ∷ []

-- a line of reader 1 for service 2 at a tick, and a deed
abbrev pub wants : ℕ → Hearing
wants t = line (record { place = 0; reader = 1; service = 2; what = 7 ∷ []; at = t })

abbrev pub does : ℕ → Hearing
does t = deed (record { place = 0; service = 2; reader = 1; key = []; number = []; what = 7 ∷ []; at = t; stolen = [] })

-- what the judge says, the newest first
abbrev pub says : List Hearing → List Verdict
says xs = verdicts small xs

pub record Worked : Type 0 where
  -- no line; a line after the deed's tick; one older than the lag; one just of lately
  pub none : says (does 20 ∷ known) ≡ NotAsked ∷ []
  pub ahead : says (does 20 ∷ wants 21 ∷ known) ≡ NotAsked ∷ []
  pub old : says (does 20 ∷ wants 14 ∷ known) ≡ NotAsked ∷ []
  pub lately : says (does 20 ∷ wants 15 ∷ known) ≡ Asked 1 15 ∷ []
  -- a line is spent by a deed
  pub twice : says (does 20 ∷ does 20 ∷ wants 20 ∷ known) ≡ NotAsked ∷ Asked 1 20 ∷ []
  -- the oldest that fits is taken, and is counted with those that do not fit
  pub oldest : says (does 20 ∷ does 20 ∷ wants 18 ∷ wants 17 ∷ wants 14 ∷ known) ≡ Asked 3 18 ∷ Asked 2 17 ∷ []
  -- thefts before the deed count and thefts after it do not; service 3 has service 2's key; a line comes before a theft
  pub robbed : says (does 20 ∷ theft 1 ∷ known) ≡ Stolen true false false ∷ []
  pub after : says (theft 1 ∷ does 20 ∷ known) ≡ NotAsked ∷ []
  pub shared : says (does 20 ∷ theft 3 ∷ theft 0 ∷ known) ≡ Stolen false true true ∷ []
  pub asked : says (does 20 ∷ theft 2 ∷ wants 20 ∷ known) ≡ Asked 1 20 ∷ []
