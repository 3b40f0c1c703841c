use Rattle.box_rules.specs.Chest.{boxed}
use Rattle.box_side.proofs.Words.{takes}
use Rattle.box_side.proofs.reader_box.ReaderBox.take_ticket.Goals as goal

pub returns : goal.returns
returns g c =
    takes (boxed c.args.self.now.chest (g.D.Drawn.left c.args.self.now.drawn))
    (boxed c.take_letter.new.self (g.D.Drawn.left c.take_letter.new.drawn)) c.args.under c.args.letter
    c.in_ok-held.held c.args.ticket.bytes.now c.in_ok-word.word c.in_ok-answer.answer c.tell.result
    c.in_ok-answer.ensures c.in_ok-held.ensures c.in_ok-word.ensures c.tell.ensures.shown c.tell.ensures.sent
