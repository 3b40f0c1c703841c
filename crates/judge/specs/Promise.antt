-- What is promised of one answer of the judge, wherever he came to it. Assumes nothing.
--
-- w: the judge as he is asked; a: the deed as he is told it; r: what he answers
use Rattle.std.specs.Prelude.{◌≡◌, ℕ, List, ◌∷◌, length, ◌≢◌}
use Rattle.judge_rules.specs.Judge.{Act as Claim, View}
use Rattle.judge_rules.specs.declared.record.Verdict.{Verdict}
use Rattle.judge_rules.specs.declared.record.Verdict.TheVariants.{NotAsked}
use Rattle.rows.specs.Name.{Naming}
use Rattle.rows.specs.Setting.{Setting}
use Rattle.rows.specs.System.{Act, Possible, run}
use Rattle.rows.specs.Row.{Deed}
use Rattle.judge.specs.Hearing.{Begins, FirstNamed, Hearing, Introduced, Orderly, claim, deed, heard_by, hearings, sat}
use Rattle.judge.specs.Meaning.{Means}

-- If what he heard came in order, and this deed comes next, his answer means what it says.
abbrev pub Meant : View → Claim → Verdict → Type 0
Meant w a r =
    (c : Setting) (n : Naming c.own) (v : View) → Begins c n v → (xs : List Hearing) (d : Deed) → Orderly c n v (deed d ∷ xs)
    → w ≡ sat v xs → a ≡ claim d → Means c n v xs d r

-- If what he heard is a row that can happen, and this deed is the next of it, he does not answer that it was not asked.
abbrev pub WasAsked : View → Claim → Verdict → Type 0
WasAsked w a r =
    (c : Setting) (n : Naming c.own) → FirstNamed c n → (v : View) → Begins c n v
    → (t : ℕ) (e : Act) (es : List Act) → Possible c n t (e ∷ es) → Introduced c n v t (e ∷ es)
    → (d : Deed) → heard_by c n e (run c n t es) (length es) ≡ deed d → w ≡ sat v (hearings c n t es) → a ≡ claim d
    → r ≢ NotAsked
