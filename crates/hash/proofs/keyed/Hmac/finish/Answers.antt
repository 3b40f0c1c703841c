use Rattle.std.proofs.Common.{◌++◌, ap, ◌∙◌}
use Rattle.hash.specs.Sha256.{sha256}
use Rattle.hash.specs.Hmac.{inner, outer, hmac}
use Rattle.hash.proofs.keyed.Hmac.finish.Goals as goal

pub returns : goal.returns
unfolding hmac
returns c key m h =
    c.finish-2.ensures _ (c.update.ensures (outer key) h.over)
    ∙ ap (λ d. sha256 (outer key ++ d)) (c.finish.ensures (inner key ++ m) h.under)
