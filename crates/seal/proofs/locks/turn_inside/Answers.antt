use Rattle.seal.specs.Kind.{number_of}
use Rattle.seal.proofs.Opening.{turned-put}
use Rattle.seal.proofs.locks.turn_inside.Goals as goal

pub returns : goal.returns
returns c key h =
    let nonce = rw c.unwrap.ensures at c.first_chunk.ensures.cases in
    turned-put (number_of c.args.kind) key c.args.word.now c.code_of-code.result c.unwrap.result.now
    c.chacha20.new.bytes c.requires (c.code_of-code.ensures key h) nonce.same c.chacha20.ensures.bytes
