use Rattle.box_rules.specs.Chest.{boxed}
use Rattle.box_side.proofs.Words.{at_exit, unwanted, wants}
use Rattle.box_side.proofs.reader_box.ReaderBox.want.Goals as goal
use Rattle.box_side.specs.Sent.{front_of}
use Rattle.box_side.specs.Step.{Wanted, bytes_of}
use Rattle.box_side.specs.declared.told.NotDone.{NotDone}
use Rattle.box_side.specs.declared.told.NotDone.TheVariants.{Wrong}
use Rattle.box_side.specs.declared.told.Told.{Told}
use Rattle.box_side.specs.declared.ticket.TicketBytes.{TicketBytes}
use Rattle.box_side.specs.Tickets.{boxed_by}
use Rattle.std.proofs.Common.{Option, Result, ap, ◌∙◌}
use Rattle.std.specs.Option.{option_map}

pub returns-in_err-answer : goal.returns-in_err-answer
returns-in_err-answer g c =
    let b = boxed c.args.self.now.chest (g.D.Drawn.left c.args.self.now.drawn) in
    let b' = boxed c.want.new.self (g.D.Drawn.left c.want.new.drawn) in
    let f = c.in_err-answer.field-0.0 in
    at_exit
    (λ (r : Result Told NotDone). Wanted (boxed_by bytes_of b) c.args.service c.args.by c.args.what (boxed_by bytes_of b') r)
    c.from_residual-in_err-answer.result (Wrong f) c.from_residual-in_err-answer.ensures
    (unwanted b b' c.args.service c.args.by c.args.what f c.in_err-answer.ensures)

pub returns : goal.returns
returns g c =
    wants (boxed c.args.self.now.chest (g.D.Drawn.left c.args.self.now.drawn))
    (boxed c.want.new.self (g.D.Drawn.left c.want.new.drawn)) c.args.service c.args.by c.args.what
    c.in_ok-answer.answer c.tell.result c.in_ok-word.word c.in_ok-answer.ensures
    (c.in_ok-word.ensures ∙ ap (λ (o : Option TicketBytes). front_of (option_map bytes_of o)) c.ticket_by.ensures)
    c.tell.ensures.shown c.tell.ensures.sent
