use Rattle.account_laws.proofs.Codec.{back, by_value}
use Rattle.account_laws.proofs.codec_laws.Goals as goal

pub returns : goal.returns
returns c = record { back = back; value = by_value }
