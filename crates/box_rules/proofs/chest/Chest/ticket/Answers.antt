use Rattle.std.proofs.Common.{rules, ◌≡◌, ◌∙◌, eqb}
use Rattle.std.specs.List.{find}
use Rattle.std.specs.Option.{option_map}
use Rattle.box_rules.proofs.Tables.{ticket-found}
use Rattle.box_rules.proofs.chest.Chest.ticket.Goals as goal

pub returns : goal.returns
returns g c =
    let found : option_map (λ r. r.now) c.map.result ≡ option_map (λ h. h.ticket) (find (λ h. eqb h.pass.id c.args.id) c.args.self.now.tickets) = search rules in
    found ∙ ticket-found c.args.id c.args.self.now.tickets
