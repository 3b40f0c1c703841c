use Rattle.std.proofs.Common.{take, ap, ◌∙◌}
use Rattle.seal.specs.Lock.{sum}
use Rattle.seal.proofs.locks.sum_of.Goals as goal

pub returns : goal.returns
unfolding sum
returns c key h = c.front.ensures ∙ ap (take 16) (c.code_of.ensures key h)
