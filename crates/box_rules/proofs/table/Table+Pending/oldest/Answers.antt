use Rattle.std.proofs.Common.{ap, ◌∙◌}
use Rattle.box_rules.proofs.Tables.{oldest-found}
use Rattle.box_rules.proofs.table.Table+Pending.oldest.Goals as goal
use Rattle.box_rules.specs.Table.{oldest}

pub returns : goal.returns
returns c = c.last_match.ensures ∙ oldest-found c.args.sought c.rows.result.now ∙ ap (oldest c.args.sought) c.rows.ensures
