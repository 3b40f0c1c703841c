use Rattle.std.proofs.Common.{sym, arith}
use Rattle.cipher.specs.ChaCha20.{inner}
use Rattle.cipher.proofs.Rounds.{rows-are, column0, column1, column2, column3, diagonal0, diagonal1, diagonal2, diagonal3}
use Rattle.cipher.proofs.core_block.inner_block.Goals as goal

pub returns : goal.returns
unfolding inner
returns c =
    let e1 = column0 (rows-are c.args.s (omega arith)) c.quarter_round.ensures in
    let e2 = column1 e1 c.quarter_round-2.ensures in
    let e3 = column2 e2 c.quarter_round-3.ensures in
    let e4 = column3 e3 c.quarter_round-4.ensures in
    let e5 = diagonal0 e4 c.quarter_round-5.ensures in
    let e6 = diagonal1 e5 c.quarter_round-6.ensures in
    let e7 = diagonal2 e6 c.quarter_round-7.ensures in
    sym (diagonal3 e7 c.quarter_round-8.ensures)
