use Rattle.words.proofs.Bytes.{bytes_back, bytes-exact}
use Rattle.words.proofs.laws.bytes_are_exact.Goals as goal

pub returns : goal.returns
returns c = record { back = bytes_back; exact = bytes-exact }
