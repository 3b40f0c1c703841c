use Rattle.box_rules.specs.Chest.{boxed}
use Rattle.box_rules.specs.Keys.{letter_keys}
use Rattle.box_rules.specs.declared.line.Under.{Under}
use Rattle.box_side.proofs.Tickets.{letter_keys-by}
use Rattle.box_side.proofs.Words.{at_exit, deals-brings, deals-shut, letter-read, letter_of}
use Rattle.box_side.proofs.reader_box.ReaderBox.hear_letter.Goals as goal
use Rattle.box_side.specs.Box.{brings, letter_read, opens_first}
use Rattle.box_side.specs.Opened.{NotOpened, read_first}
use Rattle.box_side.specs.Step.{Deals, bytes_of, seen}
use Rattle.box_side.specs.declared.told.NotDone.{NotDone}
use Rattle.box_side.specs.declared.told.Told.{Told}
use Rattle.contents.specs.Inside.{read_letter}
use Rattle.locked.specs.Locked.{ours}
use Rattle.parts.specs.declared.word.Key.{Key}
use Rattle.std.proofs.Common.{◌≡◌, List, Ok, Result, sym, refl, ap, ◌∙◌, subst}

pub returns-in_err-opened : goal.returns-in_err-opened
returns-in_err-opened g c =
    let bs = g.D.Drawn.left c.args.self.now.drawn in
    let b = seen c.args.self.now.chest bs in
    let t = c.args.ticket.bytes.now in
    let o = opens_first ours 2 0 (letter_keys b) c.args.lock.now in
    let why = c.in_err-opened.field-0.0 in
    let keys = c.as_slice.ensures.value ∙ c.in_ok-keys.ensures bs ∙ sym (letter_keys-by bytes_of (boxed c.args.self.now.chest bs)) in
    let shut = subst (λ (ks : List Key). NotOpened (read_first read_letter (opens_first ours 2 0 ks c.args.lock.now)) why) keys c.in_err-opened.ensures in
    at_exit (λ (r : Result Told NotDone). Deals b (letter_read t o) b r) c.from_residual-in_err-opened.result why c.from_residual-in_err-opened.ensures
    (deals-shut b (letter_read t o) why (read_first read_letter o) (letter_of t) (λ f. refl) (letter-read t o) shut)

pub returns : goal.returns
returns g c =
    let bs = g.D.Drawn.left c.args.self.now.drawn in
    let b = seen c.args.self.now.chest bs in
    let b' = seen c.take_ticket.new.self.chest (g.D.Drawn.left c.take_ticket.new.self.drawn) in
    let t = c.args.ticket.bytes.now in
    let o = opens_first ours 2 0 (letter_keys b) c.args.lock.now in
    let x = c.in_ok-opened.opened in
    let keys = c.as_slice.ensures.value ∙ c.in_ok-keys.ensures bs ∙ sym (letter_keys-by bytes_of (boxed c.args.self.now.chest bs)) in
    let read : read_first read_letter o ≡ Ok x = sym (ap (λ (ks : List Key). read_first read_letter (opens_first ours 2 0 ks c.args.lock.now)) keys) ∙ c.in_ok-opened.ensures in
    deals-brings b (letter_read t o) b' t c.under.result x.inside c.take_ticket.result
    (letter-read t o ∙ ap (letter_of t) read ∙ ap (λ (u : Under). brings t u x.inside) (sym c.under.ensures))
    c.take_ticket.ensures
