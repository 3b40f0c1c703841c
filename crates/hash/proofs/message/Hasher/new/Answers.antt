use Rattle.std.proofs.Common.{refl}
use Rattle.hash.specs.Sha256.{start, blocks}
use Rattle.hash.proofs.message.Hasher.new.Goals as goal

pub returns : goal.returns
unfolding start blocks
returns c = record { whole = refl; rest = refl; long = refl }
