use Rattle.std.proofs.Common.{ap, ◌∙◌}
use Rattle.cipher.specs.ChaCha20.{turned, setup, chacha20}
use Rattle.cipher.proofs.Stream.{turned-back}
use Rattle.cipher.proofs.turning.chacha20.Goals as goal

pub returns : goal.returns
returns c =
    let key = c.args.key.now in
    let nonce = c.args.nonce.now in
    let is = c.turn.ensures.bytes ∙ ap (λ s. turned s c.args.bytes.now) c.new-state.ensures in
    record {
      bytes = is;
      back = ap (chacha20 key c.args.counter nonce) is ∙ turned-back (setup key c.args.counter nonce) c.args.bytes.now;
    }
