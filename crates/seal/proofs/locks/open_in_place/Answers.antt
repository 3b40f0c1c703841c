use Rattle.std.proofs.Common.{sym, ◌∙◌}
use Rattle.seal.specs.Kind.{number_of}
use Rattle.seal.proofs.Opening.{tried-shut, tried_open, fits-long, opens_again, opens-only}
use Rattle.seal.proofs.locks.open_in_place.Goals as goal

pub returns-then-not-sum_fits : goal.returns-then-not-sum_fits
returns-then-not-sum_fits c =
    let shut = sym (c.sum_fits.ensures c.args.key.now c.new-mac.ensures) ∙ c.if-not-sum_fits.true in
    let t = tried-shut (number_of c.args.kind) c.args.key.now c.args.word.now shut in
    record { word = t.0; test = t.1; inside = t.2; again = opens_again; locks = opens-only }

pub turn_inside-requires : goal.turn_inside-requires
turn_inside-requires c =
    fits-long (number_of c.args.kind) c.args.key.now c.args.word.now
    (sym (c.sum_fits.ensures c.args.key.now c.new-mac.ensures) ∙ c.if-not-sum_fits.false)

pub returns : goal.returns
returns c =
    let fit = sym (c.sum_fits.ensures c.args.key.now c.new-mac.ensures) ∙ c.if-not-sum_fits.false in
    let t = tried_open (number_of c.args.kind) c.args.key.now c.args.word.now c.turn_inside.new.word fit
    (c.turn_inside.ensures c.args.key.now c.new-mac.ensures) in
    record { word = t.0; test = t.1; inside = t.2; again = opens_again; locks = opens-only }
