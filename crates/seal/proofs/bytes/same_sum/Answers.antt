use Rattle.std.proofs.Common.{eqb, ap, ◌∙◌, arith}
use Rattle.seal.proofs.Same.{differ-all}
use Rattle.seal.proofs.bytes.same_sum.Goals as goal

pub returns : goal.returns
returns c = ap (λ d. eqb d 0) c.difference.ensures ∙ differ-all 0 c.args.a.now c.args.b.now (omega arith)
