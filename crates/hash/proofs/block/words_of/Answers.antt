use Rattle.std.proofs.Common.{◌*◌, ◌/◌, length, refl, ◌∙◌, arith}
use Rattle.std.proofs.lemmas.List.{length-set}
use Rattle.hash.specs.Sha256.{words}
use Rattle.hash.proofs.Rounds.{words_more, part-is, word-of_four}
use Rattle.hash.proofs.block.words_of.Goals as goal

pub loop-i-init : goal.loop-i-init
unfolding words
loop-i-init c = (refl, refl)

pub loop-i-preserved : goal.loop-i-preserved
loop-i-preserved c =
    let i = c.loop-i.i in
    let bytes = c.args.block.now in
    let at = part-is 4 (length bytes / 4) i (4 * i) bytes _ c.as_chunks.ensures.front (omega arith) (omega arith) in (
      simp length-set c.loop-i.invariant.0,
      words_more i c.loop-i.w bytes c.from_be_bytes.result (omega arith) c.loop-i.invariant.1
          (c.from_be_bytes.ensures ∙ word-of_four (4 * i) _ bytes at),
    )
