use Rattle.std.proofs.Common.{rules, ◌≡◌, ◌∙◌, Some, ap, eqb}
use Rattle.std.specs.List.{find}
use Rattle.std.specs.Option.{option_map}
use Rattle.box_rules.proofs.Tables.{pass-found}
use Rattle.box_rules.proofs.want.Table+Held+T.pass_by.Goals as goal
use Rattle.box_rules.specs.Line.{pass_by}

pub returns : goal.returns
returns g c =
    let found : c.map.result ≡ option_map (λ h. h.pass) (find (λ h. eqb h.pass.id c.in_ok-by.field-0) c.args.self.now) = search rules in
    let named : Some c.in_ok-by.field-0 ≡ c.args.by = search rules in
    found ∙ pass-found c.in_ok-by.field-0 c.args.self.now ∙ ap (λ o. pass_by o c.args.self.now) named
