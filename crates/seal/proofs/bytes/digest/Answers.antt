use Rattle.std.proofs.Common.{◌≡◌, [], ap, ◌∙◌, arith}
use Rattle.seal.specs.Lock.{digest, number}
use Rattle.seal.proofs.Same.{number-take}
use Rattle.seal.proofs.bytes.digest.Goals as goal

pub returns : goal.returns
unfolding digest number
returns c =
    let all = c.finish.ensures _ (c.update-2.ensures _ (c.update.ensures [] c.new-hasher.ensures)) in
    let is : c.from_be_bytes.result ≡ number 16 c.front.result = omega (arith, c.from_be_bytes.ensures) in
    is ∙ ap (number 16) c.front.ensures ∙ number-take 16 16 c.finish.result (omega arith) ∙ ap (number 16) all
