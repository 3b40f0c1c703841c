use Rattle.std.proofs.Common.{refl, ◌∙◌, arith}
use Rattle.cipher.specs.ChaCha20.{serialized}
use Rattle.cipher.proofs.Rounds.{serialized-more, serialized-all}
use Rattle.cipher.proofs.core_block.bytes_of.Goals as goal

pub loop-i-init : goal.loop-i-init
unfolding serialized
loop-i-init c = (refl, refl)

pub loop-i-preserved : goal.loop-i-preserved
loop-i-preserved c =
    serialized-more c.loop-i.i _ c.loop-i.bytes _ c.args.s.now c.args.w.now
    (omega arith) c.loop-i.invariant.0 (omega arith)
    (c.copy_from_slice.ensures.after ∙ c.to_le_bytes.ensures) c.loop-i.invariant.1

pub returns : goal.returns
returns c =
    serialized-all c.loop-i.i c.loop-i.bytes c.args.s.now c.args.w.now
    (omega arith) c.loop-i.invariant.0 c.loop-i.invariant.1
