use Rattle.std.proofs.Common.{◌≡◌, ◌/◌, length, arith}
use Rattle.std.proofs.lemmas.List.{take_all}
use Rattle.words.specs.Text.{octets}
use Rattle.words.proofs.Scan.{octets-more}
use Rattle.words.proofs.put_octets.Goals as goal

pub loop-i-preserved : goal.loop-i-preserved
unfolding octets
loop-i-preserved c =
    let more = octets-more c.as_chunks.result.0.now c.args.out.now c.loop-i.i (omega arith) c.loop-i-test.true in
    let was = c.loop-i.invariant in
    cc

pub returns : goal.returns
unfolding octets
returns c =
    let whole = take_all c.loop-i.i c.as_chunks.result.0.now c.loop-i-test.false in
    let end : c.loop-i.i ≡ length c.args.word.now / 2 = omega (arith, c.as_chunks.ensures.front_len) in
    let front = c.as_chunks.ensures.front in
    let was = c.loop-i.invariant in
    cc
