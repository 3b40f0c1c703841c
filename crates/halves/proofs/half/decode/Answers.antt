use Rattle.halves.proofs.Parts.{number-eight, reads}
use Rattle.halves.proofs.half.decode.Goals as goal
use Rattle.std.proofs.lemmas.List.{length-take-le, take_rest}
use Rattle.std.proofs.Common.{ap, length, sym, ◌∙◌, rules, arith, ◌≡◌, false}
use Rattle.contents.specs.Field.{number}
use Rattle.halves.specs.Half.{blank}

pub returns : goal.returns
returns g c =
    let rest = c.in_ok-turn.rest.now in
    let n = c.in_ok-len.len in
    let e : blank c.args.block.now ≡ false = sym c.is_blank.ensures ∙ c.if-is_blank.false in
    c.then_some.ensures
    ∙ reads (g.F.Format.measured c.args.format.now) c.args.block.now rest c.in_ok-get.field-0.now c.in_ok-sum.sum.now c.sum_of.result n c.from_be_bytes.result c.eq.result
    e c.in_ok-turn.ensures.cases.1 (search rules) c.in_ok-get.ensures.lookup.0.0
    (c.in_ok-get.ensures.lookup.0.2 ∙ take_rest rest n) c.in_ok-sum.ensures.cases.enough c.in_ok-sum.ensures.cases.same (search rules)
    c.eq.ensures (c.from_be_bytes.ensures ∙ number-eight c.in_ok-turn.turn.now (ap length c.in_ok-turn.ensures.cases.0 ∙ length-take-le 8 c.args.block.now (omega (arith, c.in_ok-turn.ensures.cases.2))) ∙ ap number c.in_ok-turn.ensures.cases.0)
