use Rattle.std.proofs.Common.{ℕ, List, take, ap, ◌∙◌, arith}
use Rattle.house_rules.proofs.Drawn.{enough, further}
use Rattle.house_rules.proofs.fresh.draw.Goals as goal

pub take-requires-2 : goal.take-requires-2
take-requires-2 g c =
    (omega arith, enough 16 32 (g.D.Drawn.left c.args.drawn.now) _ (omega (arith, c.requires)) c.take.ensures.rest)

pub take-requires-3 : goal.take-requires-3
take-requires-3 g c =
    let bs = g.D.Drawn.left c.args.drawn.now in
    (omega arith, enough 16 48 bs _ (omega (arith, c.requires)) (further 16 32 bs _ _ c.take.ensures.rest c.take-2.ensures.rest))

pub returns : goal.returns
returns g c =
    let bs = g.D.Drawn.left c.args.drawn.now in
    let e32 = c.take.ensures.rest in
    let e48 = further 16 32 bs _ _ e32 c.take-2.ensures.rest in
    let e64 = further 16 48 bs _ _ e48 c.take-3.ensures.rest in
    let v16 = c.take-2.ensures.value ∙ ap (λ (l : List ℕ). take 16 l) e32 in
    let v16' = c.take-3.ensures.value ∙ ap (λ (l : List ℕ). take 16 l) e48 in
    let v32 = c.take.ensures.value in
    record { value = cc; rest = e64 }
