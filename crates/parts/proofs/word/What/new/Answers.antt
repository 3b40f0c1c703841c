use Rattle.std.proofs.Common.{◌≡◌, ℕ, List, length, take, replicate, ◌++◌, ◌-◌, ◌≤◌, ap, ◌∙◌}
use Rattle.std.proofs.lemmas.List.{append-nil, length-take-le}
use Rattle.std.proofs.Math.Nat.{le_of_lt, min-eq_right}
use Rattle.parts.proofs.word.What.new.Goals as goal

abbrev front : ℕ → List ℕ → List ℕ
front n words = take n words ++ replicate (1024 - length (take n words)) 0

-- a whole front has nothing behind it
whole : (words : List ℕ) → 1024 ≤ length words → front 1024 words ≡ take 1024 words
whole words h = ap (λ n. take 1024 words ++ replicate (1024 - n) 0) (length-take-le 1024 words h) ∙ append-nil (take 1024 words)

pub returns-clause-bytes : goal.returns-clause-bytes
returns-clause-bytes c h = c.padded.ensures ∙ ap (λ n. front n c.args.words.now) (c.min-fit.ensures ∙ min-eq_right (le_of_lt h)) ∙ whole c.args.words.now (le_of_lt h)
