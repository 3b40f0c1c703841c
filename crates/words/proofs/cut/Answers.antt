use Rattle.std.proofs.Common.{rules}
use Rattle.std.proofs.lemmas.List.{take_rest}
use Rattle.words.specs.Text.{before, cut_at}
use Rattle.words.proofs.cut.Goals as goal

pub returns-in_err-n : goal.returns-in_err-n
unfolding cut_at before
returns-in_err-n c = search rules

pub returns : goal.returns
unfolding cut_at before
returns c = search (rules, take_rest)
