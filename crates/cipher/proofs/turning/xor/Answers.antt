use Rattle.std.proofs.Common.{sym, ◌∙◌, arith}
use lib.Bits.{bit_xor}
use Rattle.std.proofs.lemmas.Grind.{same_number_lists}
use Rattle.std.proofs.lemmas.Simd.{get_or-zip2}
use Rattle.cipher.proofs.Stream.{length-zip2-le}
use Rattle.cipher.proofs.turning.xor.Goals as goal

pub returns : goal.returns
returns c =
    let xs = c.args.bytes.now in
    let ks = c.args.key.now in
    let long = length-zip2-le xs ks (omega arith) in
    same_number_lists c.loop-i.bytes _ (omega arith)
    (λ k lt. c.loop-i.invariant.done k (omega arith) ∙ sym (get_or-zip2 bit_xor xs ks k 0 0 0 (omega arith) (omega arith)))
