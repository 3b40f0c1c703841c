use Rattle.byte_rows.proofs.HappensRow.{can-happen}
use Rattle.byte_rows.proofs.can_happen.Goals as goal

pub returns : goal.returns
returns c = can-happen
