use Rattle.std.proofs.Common.{◌∷◌, replicate, refl, ◌∙◌, rules}
use Rattle.sending.proofs.Laid.{two-laid}
use Rattle.sending.proofs.word.grant_word.Goals as goal

pub returns : goal.returns
returns c =
    let ticket = c.frame_into.new.out in
    let letter = c.frame_into-2.new.out in
    two-laid 1 79 93 (c.number.result ∷ replicate 172 0) ticket letter refl c.frame_into.auto.out ∙ search rules
