use Rattle.std.proofs.Common.{refl, ◌∙◌, arith}
use Rattle.hash.specs.Sha256.{spread}
use Rattle.hash.proofs.Rounds.{spread-more, spread-all}
use Rattle.hash.proofs.message.bytes_of.Goals as goal

pub loop-i-init : goal.loop-i-init
unfolding spread
loop-i-init c = (refl, refl)

pub loop-i-preserved : goal.loop-i-preserved
loop-i-preserved c =
    spread-more c.loop-i.i _ c.loop-i.bytes _ c.args.words.now (omega arith) c.loop-i.invariant.0 (omega arith)
    (c.copy_from_slice.ensures.after ∙ c.to_be_bytes.ensures) c.loop-i.invariant.1

pub returns : goal.returns
returns c = spread-all c.loop-i.i c.loop-i.bytes c.args.words.now (omega arith) c.loop-i.invariant.0 c.loop-i.invariant.1
