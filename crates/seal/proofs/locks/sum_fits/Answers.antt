use Rattle.std.proofs.Common.{sym}
use Rattle.seal.specs.Kind.{number_of}
use Rattle.seal.proofs.Opening.{fits-short, fits-compared}
use Rattle.seal.proofs.locks.sum_fits.Goals as goal

pub returns-then-word-lt-AROUND : goal.returns-then-word-lt-AROUND
returns-then-word-lt-AROUND c key h =
    sym (fits-short (number_of c.args.kind) key c.args.word.now c.if-word-lt-AROUND.true)

pub returns : goal.returns
returns c key h =
    let parts = rw c.unwrap.ensures at c.split_last_chunk.ensures.cases in
    fits-compared (number_of c.args.kind) key c.args.word.now _ _ _ _ c.if-word-lt-AROUND.false parts.0 parts.1
    (c.sum_of.ensures key h) c.same_sum.ensures
