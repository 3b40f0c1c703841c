use Rattle.locked.specs.Locked.{ours, ticket_in}
use Rattle.service_side.proofs.Both.{both-read}
use Rattle.service_side.proofs.service.read.Goals as goal
use Rattle.service_side.specs.Hear.{ReadAs}
use Rattle.service_side.specs.Service.{asking_under}
use Rattle.std.proofs.Common.{rules}

pub returns-in-Asking : goal.returns-in-Asking
returns-in-Asking c =
    let k : ReadAs (asking_under ours c.in-Asking.asking.now (ticket_in ours c.args.key.now c.in-Asking.ticket.now)) c.open_both.result =
    both-read ours c.in-Asking.asking.now (ticket_in ours c.args.key.now c.in-Asking.ticket.now) c.open_both.result c.open_both.ensures in
    search rules
