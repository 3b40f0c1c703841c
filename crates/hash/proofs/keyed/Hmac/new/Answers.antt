use Rattle.std.proofs.Common.{sym, ap, ◌∙◌, subst, append-nil}
use Rattle.hash.specs.Hmac.{inner, outer, masked}
use Rattle.hash.specs.Hasher.{Holds}
use Rattle.hash.proofs.keyed.Hmac.new.Goals as goal

pub returns : goal.returns
unfolding inner outer
returns c =
    let b = c.block_key-block.ensures in
    record {
      under = subst (Holds c.hasher_of.result) (ap (masked 0x36) b ∙ sym (append-nil _)) c.hasher_of.ensures;
      over = subst (Holds c.hasher_of-2.result) (ap (masked 0x5c) b) c.hasher_of-2.ensures;
    }
