use Rattle.std.proofs.Common.{◌≡◌, ◌-◌, length, take, ap, ◌∙◌, arith}
use Rattle.seal.specs.Kind.{number_of}
use Rattle.seal.specs.Lock.{sum}
use Rattle.seal.proofs.Opening.{sealed-put, sealed-short, length-turned_in}
use Rattle.seal.proofs.locks.seal_in_place.Goals as goal

pub returns-then-word-lt-AROUND-clause-word : goal.returns-then-word-lt-AROUND-clause-word
returns-then-word-lt-AROUND-clause-word c =
    sealed-short (number_of c.args.kind) c.args.key.now c.args.word.now c.if-word-lt-AROUND.true

pub returns-clause-word : goal.returns-clause-word
returns-clause-word c =
    let w = c.args.word.now in
    let k = number_of c.args.kind in
    let key = c.args.key.now in
    let v = c.turn_inside.new.word in
    let le = c.if-word-lt-AROUND.false in
    let turned = c.turn_inside.ensures key c.new-mac.ensures in
    let n : length v ≡ length w = ap length turned ∙ length-turned_in k key w le in
    let none : length v - 16 - 0 ≡ length v - 16 = omega arith in
    sealed-put k key w le v c.copy_from_slice.new.self (length v - 16) (length v - (length v - 16))
    turned (omega arith) (omega arith)
    (c.copy_from_slice.ensures.after ∙ c.sum_of-sum.ensures key c.new-mac.ensures ∙ ap (λ j. sum k key (take j v)) none)
