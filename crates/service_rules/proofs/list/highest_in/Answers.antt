use Rattle.service_rules.proofs.list.highest_in.Goals as goal
use Rattle.parts.specs.declared.account.Entry.{Entry}
use Rattle.service_rules.specs.Memory.{highest}
use Rattle.std.proofs.Common.{refl, arith, rules}
use Rattle.std.proofs.lemmas.Grind.{common_steps}
use Rattle.std.proofs.lemmas.List.Recursion.{max_bounds, max_least}

pub returns : goal.returns
returns c =
    let bounds = max_bounds highest (λ (e : Entry). e.tick) refl (λ _ _. refl) c.args.entries.now in
    let least = max_least highest (λ (e : Entry). e.tick) refl (λ _ _. refl) c.args.entries.now record { digest = 0; tick = 0 } c.unwrap_or.result (search rules) in
    grind (arith, common_steps, bounds, least)
