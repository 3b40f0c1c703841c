use Rattle.std.proofs.Common.{rules}
use Rattle.words.specs.Text.{octet_of}
use Rattle.words.proofs.octet.Goals as goal

pub returns : goal.returns
unfolding octet_of
returns c = search rules
