use Rattle.judge.proofs.Examples.{met, worked}
use Rattle.judge.proofs.Rows.{knowing-all, named-first}
use Rattle.judge.proofs.shows.Goals as goal

pub returns : goal.returns
returns c = record { knowing_all = knowing-all; named_first = named-first; met = met; worked = worked }
