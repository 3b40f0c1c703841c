use Rattle.box_rules.specs.Chest.{Boxed}
use Rattle.box_side.proofs.reader_box.ReaderBox.tick.Goals as goal
use Rattle.box_side.specs.Step.{bytes_of}
use Rattle.box_side.specs.Tickets.{boxed_by}
use Rattle.box_side.specs.declared.ticket.TicketBytes.{TicketBytes}
use Rattle.std.proofs.Common.{ap}

pub returns-clause-after : goal.returns-clause-after
returns-clause-after g c =
    ap (λ (b : Boxed TicketBytes). boxed_by bytes_of b) (c.tick.ensures.after (g.D.Drawn.left c.args.self.now.drawn))
