use Rattle.box_side.proofs.Words.{ticket-fits}
use Rattle.box_side.proofs.reader_box.ReaderBox.hear.Goals as goal
use Rattle.std.proofs.Common.{◌≡◌, Ok}
use Rattle.wire.specs.Word.{framed, ticket_and_letter}

pub invariant_of-hear_letter : goal.invariant_of-hear_letter
invariant_of-hear_letter g c =
    let t = c.in-TicketAndLetter.ticket.now in
    let l = c.in-TicketAndLetter.letter.now in
    let k = c.in_ok-ticket.ensures in
    let is = c.in-TicketAndLetter.is in
    let e : framed c.args.word.now ≡ Ok (ticket_and_letter t l) = cc in
    let fits = ticket-fits c.args.word.now t l (λ i. (c.type_inv.word i).fits) e in
    record { least = fits.0; most = fits.1 }
