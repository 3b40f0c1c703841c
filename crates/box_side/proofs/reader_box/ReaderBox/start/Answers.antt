use Rattle.box_rules.specs.Chest.{Boxed}
use Rattle.box_side.proofs.reader_box.ReaderBox.start.Goals as goal
use Rattle.box_side.specs.Step.{bytes_of}
use Rattle.box_side.specs.Tickets.{boxed_by}
use Rattle.box_side.specs.declared.ticket.TicketBytes.{TicketBytes}
use Rattle.std.proofs.Common.{refl, ap}

pub returns-in-Ok : goal.returns-in-Ok
returns-in-Ok g c =
    let e = c.in-Ok.ensures in
    (e.0, refl, ap (λ (b : Boxed TicketBytes). boxed_by bytes_of b) (e.1 (g.D.Drawn.left c.args.drawn)))
