use Rattle.byte_rows.proofs.Ours.{is_row, of-ours}
use Rattle.byte_rows.proofs.is_row.Goals as goal

pub returns : goal.returns
returns c = record { every = is_row; code = of-ours is_row }
