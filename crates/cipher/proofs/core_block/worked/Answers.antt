use Rattle.std.proofs.Common.{◌≡◌, sym, ap, ◌∙◌, arith}
use Rattle.cipher.specs.ChaCha20.{rounds}
use Rattle.cipher.proofs.Rounds.{rounds-none, rounds-more}
use Rattle.cipher.proofs.core_block.worked.Goals as goal

pub loop-round-init : goal.loop-round-init
loop-round-init c = sym (rounds-none c.args.s.now)

pub loop-round-preserved : goal.loop-round-preserved
loop-round-preserved c =
    rounds-more c.loop-round._round c.args.s.now c.loop-round.w c.inner_block-next.result
    c.loop-round.invariant c.inner_block-next.ensures

pub returns : goal.returns
returns c =
    let e : c.loop-round._round ≡ 10 = omega arith in
    c.loop-round.invariant ∙ ap (λ n. rounds n c.args.s.now) e
