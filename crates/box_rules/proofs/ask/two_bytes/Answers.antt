use Rattle.std.proofs.Common.{ℕ, [], ◌∷◌, ◌≡◌, ◌/◌, ◌%◌, length, ap, ◌∙◌, arith}
use Rattle.box_rules.proofs.ask.two_bytes.Goals as goal
use Rattle.parts.specs.What.{what_in}

pub returns : goal.returns
returns c =
    let words = c.to_be_bytes.ensures in
    let few : length c.to_be_bytes.result ≡ 2 = ap length words in
    let high : (c.args.service / 256) % 256 ≡ c.args.service / 256 = omega (arith, c.ranges.service) in
    c.new.ensures.fit (omega (arith, few)) ∙ ap what_in words ∙ ap (λ (h : ℕ). what_in (h ∷ c.args.service % 256 ∷ [])) high
