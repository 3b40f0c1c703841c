use Rattle.std.proofs.Common.{rules, ap, ◌∙◌}
use Rattle.std.proofs.lemmas.Fn.{filter_same}
use Rattle.box_rules.proofs.table.Table+Pending.remove.Goals as goal
use Rattle.box_rules.specs.Table.{without}

pub returns : goal.returns
returns c = filter_same _ _ _ (λ x b f' k. search rules) _ _ c.retain.ensures.filtered ∙ ap (without c.args.number) c.self.view_is
