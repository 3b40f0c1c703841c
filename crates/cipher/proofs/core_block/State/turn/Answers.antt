use Rattle.std.proofs.Common.{◌≡◌, length, sym, refl, ap, ◌∙◌, arith}
use Rattle.cipher.specs.ChaCha20.{later, block, blocks_of}
use Rattle.cipher.proofs.Stream.{turned_more, turned-all, later-none, later_more}
use Rattle.cipher.proofs.core_block.State.turn.Goals as goal

pub loop-n-init : goal.loop-n-init
loop-n-init c = (sym (later-none c.args.self.now.words), refl)

pub loop-n-preserved : goal.loop-n-preserved
loop-n-preserved c = (
  c.turn_block.ensures.state ∙ later_more c.loop-n.n c.args.self.now.words c.loop-n.self.words c.loop-n.invariant.0,
  turned_more c.loop-n.n _ c.args.self.now.words c.args.bytes.now c.loop-n.bytes c.turn_block.new.bytes
      (block c.loop-n.self.words) c.loop-n.invariant.1 (omega arith) (omega arith)
      (ap block c.loop-n.invariant.0) c.turn_block.ensures.bytes,
)

pub returns : goal.returns
returns c =
    let e : c.loop-n.n ≡ blocks_of (length c.args.bytes.now) = omega arith in
    record {
      bytes = turned-all c.loop-n.n c.args.self.now.words c.args.bytes.now c.loop-n.bytes e c.loop-n.invariant.1;
      state = c.loop-n.invariant.0 ∙ ap (λ k. later k c.args.self.now.words) e;
    }
