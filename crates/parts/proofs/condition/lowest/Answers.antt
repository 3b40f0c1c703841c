use Rattle.std.proofs.Common.{rules, ◌≡◌, ◌∙◌}
use Rattle.std.specs.List.{find}
use Rattle.std.specs.Option.{option_map}
use Rattle.parts.specs.Condition.{first_fault}
use Rattle.parts.specs.declared.condition.Condition.{Condition}
use Rattle.parts.proofs.Conditions.{first_by_find, lowest-first}
use Rattle.parts.proofs.condition.lowest.Goals as goal

first : (c : goal.After-map) → c.map.result ≡ first_fault c.args.table.now
first c =
    let found : c.map.result ≡ option_map (λ (c : Condition). c.fault) (find (λ (c : Condition). c.fails) c.args.table.now) = search rules in
    found ∙ first_by_find c.args.table.now

pub returns-clause-first : goal.returns-clause-first
returns-clause-first c = first c

pub returns-clause-lowest : goal.returns-clause-lowest
returns-clause-lowest c = lowest-first _ _ (first c)
