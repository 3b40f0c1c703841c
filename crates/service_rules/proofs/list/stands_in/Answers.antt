use Rattle.service_rules.proofs.Standing.{is, stands_any}
use Rattle.service_rules.proofs.list.stands_in.Goals as goal
use Rattle.std.proofs.Common.{rules, tests, ◌∙◌}
use Rattle.std.proofs.lemmas.Iterator.Search.{any_from_yields_List}
use Rattle.std.proofs.lemmas.Iterator.{YieldsList-from_slice}

pub returns : goal.returns
returns c =
    let clock = c.args.clock in
    let es = c.args.entries.now in
    any_from_yields_List (is c.args.digest clock.tick clock.lag) _ _ _ c.any.ensures.ran (YieldsList-from_slice es cc) (λ x b q k. search (rules, tests)) ∙ stands_any c.args.digest clock.tick clock.lag es
