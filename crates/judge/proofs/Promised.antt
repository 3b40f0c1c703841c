-- What is promised of one answer. Assumes nothing.
use Rattle.std.proofs.Common.{◌≡◌, ◌∷◌, ◌++◌, sym, ap, ◌∙◌, subst}
use Rattle.judge_rules.specs.Judge.{Act as Claim, View, verdict}
use Rattle.judge_rules.specs.declared.record.Verdict.{Verdict}
use Rattle.judge_rules.specs.declared.record.Verdict.TheVariants.{NotAsked}
use Rattle.judge.specs.Hearing.{Hearing, claim, hearings, sat, verdict_in, verdicts}
use Rattle.judge.specs.Meaning.{Means}
use Rattle.judge.specs.Promise.{Meant, WasAsked}
use Rattle.judge.proofs.Meant.{meaning}
use Rattle.judge.proofs.Rows.{never-unasked}
use mathlib.Core.List.{Memᴰ}

pub meant : (w : View) (a : Claim) (r : Verdict) → r ≡ verdict w a → Meant w a r
meant w a r e c n v b xs d o i j =
    let same : verdict (sat v xs) (claim d) ≡ r = sym (e ∙ ap (λ (z : View). verdict z a) i ∙ ap (λ (z : Claim). verdict (sat v xs) z) j) in
    subst (λ (z : Verdict). Means c n v xs d z) same (meaning c n v b xs d o)

pub was-asked : (w : View) (a : Claim) (r : Verdict) → r ≡ verdict w a → WasAsked w a r
was-asked w a r e c n f v b t x es p k d h i j z =
    let same : verdict (sat v (hearings c n t es)) (claim d) ≡ NotAsked = sym (e ∙ ap (λ (y : View). verdict y a) i ∙ ap (λ (y : Claim). verdict (sat v (hearings c n t es)) y) j) ∙ z in
    never-unasked c n f v b t (x ∷ es) p k
    (subst (λ (y : Hearing). Memᴰ NotAsked (verdict_in y (sat v (hearings c n t es)) ++ verdicts v (hearings c n t es))) (sym h) (Memᴰ.head (sym same)))
