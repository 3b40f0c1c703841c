use Rattle.std.proofs.Common.{[], refl, subst, arith, rules}
use Rattle.std.proofs.lemmas.List.{length-set}
use Rattle.hash.specs.Hasher.{Holds}
use Rattle.hash.proofs.Keys.{masked-more, masked-all}
use Rattle.hash.proofs.keyed.hasher_of.Goals as goal

pub loop-byte-init : goal.loop-byte-init
loop-byte-init c = (search rules, refl)

pub loop-byte-preserved : goal.loop-byte-preserved
loop-byte-preserved c = (
  simp length-set c.loop-byte.invariant.0,
  masked-more c.args.pad c.loop-byte.byte-index c.args.block.now c.loop-byte.byte-items
      (omega arith) (omega arith) c.loop-byte.invariant.1,
)

pub returns : goal.returns
returns c =
    subst (Holds c.update.new.self)
    (masked-all c.args.pad c.loop-byte.byte-index c.args.block.now c.loop-byte.byte-items (omega arith) c.loop-byte.invariant.1)
    (c.update.ensures [] c.new-hasher.ensures)
